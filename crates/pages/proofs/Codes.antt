-- A search among a page's codes: it ends at the byte of the character, if there is one.
use Rattle.std.specs.Prelude.{◌≡◌, ℕ, ◌+◌, ◌-◌, ◌<◌, ◌≤◌, true, false, List, length, map, Some, None, Option, refl, ◌==◌, slice_range}
use Rattle.std.specs.List.{position_or_len}
use Rattle.std.specs.Option.{option_map}
use Rattle.std.proofs.Common.{sym, ap, subst, ◌∙◌, ⊎_elim, arith, get_or}
use Rattle.std.proofs.Math.Utf8.{scalar}
use Rattle.std.proofs.lemmas.Bool.{ne_eqb, both_ways, cases_lt, lt-ltb, cond-true}
use Rattle.std.proofs.lemmas.List.{get_or-map, length-map}
use Rattle.std.proofs.lemmas.List.Edits.{get_or-between, length-between}
use Rattle.std.proofs.lemmas.List.Quantifiers.{position-Some}
use Rattle.std.proofs.lemmas.List.Sums.{fails_before_first}
use Rattle.pages.specs.Page.{char_of, is, byte_of}
use Rattle.pages.specs.Codes.{code_of, upper_place}
use Rattle.pages.specs.Computed.{Computed, ascii}
use Rattle.pages.specs.Distinct.{Stands, there, none_is_some}

-- an entry's code is c where its character is c, since no character is a surrogate
coded : (o : Option ℕ) (c : ℕ) → scalar c ≡ true → (code_of o == c) ≡ is o c
coded None c s = ne_eqb 0xD800 c (λ e. both_ways (scalar c) (ap scalar (sym e)) s)
coded (Some d) c s = refl

module _ (cs : List (Option ℕ)) (computed : Computed cs) (c : ℕ) where
  -- ASCII stands at its own place
  pub low : c < 128 → Some c ≡ byte_of cs c
  low h = sym (there cs computed.once c c (ascii cs computed c h))

  not_low : 128 ≤ c → (k : ℕ) → k < 128 → is (char_of cs k) c ≡ false
  not_low h k l = ap (λ o. is o c) (ascii cs computed k l) ∙ ne_eqb k c (λ e. omega arith)

  abbrev upper : List ℕ
  upper = slice_range (map code_of cs) 128 256

  many : length upper ≡ 128
  many = length-between (map code_of cs) 128 256 (omega (arith, length-map cs code_of, computed.long))

  code_at : (k : ℕ) → k < 128 → scalar c ≡ true → (get_or upper k 0 == c) ≡ is (char_of cs (128 + k)) c
  code_at k h s =
      let here : get_or upper k 0 ≡ code_of (char_of cs (128 + k)) =
      get_or-between (map code_of cs) 128 256 k 0 (omega arith) ∙ get_or-map code_of cs (128 + k) None 0 (omega (arith, computed.long)) in
      ap (λ n. n == c) here ∙ coded (char_of cs (128 + k)) c s

  pub below : (k : ℕ) → upper_place (map code_of cs) c ≡ Some k → k < 128
  below k e = omega (arith, (position-Some (λ n. n == c) upper k 0 e).0, many)

  absent : None ≡ upper_place (map code_of cs) c → (k : ℕ) → k < 128 → (get_or upper k 0 == c) ≡ false
  absent e k h =
      let past : length upper ≤ position_or_len (λ n. n == c) upper =
      ⊎_elim (λ l. absurd (none_is_some _ (e ∙ cond-true _ _ _ (lt-ltb _ _ l)))) (λ l. l) (cases_lt (position_or_len (λ n. n == c) upper) (length upper)) in
      fails_before_first (λ n. n == c) upper k 0 (omega (arith, many))

  -- where the search ends is a place of c among all entries, or c stands at none
  pub high : scalar c ≡ true → 128 ≤ c → (r : Option ℕ) → r ≡ upper_place (map code_of cs) c → Stands cs c (option_map (λ k. 128 + k) r)
  high s h None e =
      let beyond = λ (k : ℕ) (l : k < 128). sym (code_at k l s) ∙ absent e k l in
      λ k l. ⊎_elim (not_low h k) (λ m. let same : 128 + (k - 128) ≡ k = omega arith in subst (λ j. is (char_of cs j) c ≡ false) same (beyond (k - 128) (omega (arith, computed.long)))) (cases_lt k 128)
  high s h (Some k) e =
      let l : k < 128 = below k (sym e) in
      (omega (arith, computed.long), sym (code_at k l s) ∙ (position-Some (λ n. n == c) upper k 0 (sym e)).1)
