-- What is computed of a page's whole list of characters, and the laws of a code page that follow of each byte.
use Rattle.std.specs.Prelude.{◌≡◌, ℕ, ◌+◌, ◌<◌, Bool, true, List, length, take, Some, None, Option, refl}
use Rattle.std.specs.List.{list_all}
use Rattle.std.proofs.Common.{sym, ap, subst, ◌∙◌, zero-add, arith}
use Rattle.std.proofs.Math.Utf8.{scalar}
use Rattle.std.proofs.lemmas.List.{get_or-take}
use Rattle.std.proofs.lemmas.List.FromFn.{get_or-map-range_with_len}
use Rattle.std.proofs.lemmas.List.Sums.{AllPass-from_list_all}
use Rattle.pages.specs.Page.{char_of, row}
use Rattle.pages.specs.Windows.{chars1251, chars1252}
use Rattle.pages.specs.Distinct.{distinct, within}

-- the character, if there is one, is a Unicode scalar value
abbrev pub valid : Option ℕ → Bool
valid None = true
valid (Some c) = scalar c

-- 256 entries, no character twice, scalar values alone, and ASCII below 128
pub record Computed (cs : List (Option ℕ)) : Type 0 where
  pub long : length cs ≡ 256
  pub once : distinct cs ≡ true
  pub fits : list_all valid cs ≡ true
  pub low : take 128 cs ≡ row 0 128

pub computed1252 : Computed chars1252
unfolding chars1252
computed1252 = record { long = refl; once = refl; fits = refl; low = refl }

pub computed1251 : Computed chars1251
unfolding chars1251
computed1251 = record { long = refl; once = refl; fits = refl; low = refl }

row_at : (c n k : ℕ) → k < n → char_of (row c n) k ≡ Some (c + k)
row_at c n k h = get_or-map-range_with_len Some c n k (c + k) None h refl

valid_at : (cs : List (Option ℕ)) → list_all valid cs ≡ true → (b c : ℕ) → char_of cs b ≡ Some c → scalar c ≡ true
valid_at cs v b c e = subst (λ o. valid o ≡ true) e (AllPass-from_list_all valid cs v b None (within cs b c e))

module _ (cs : List (Option ℕ)) (computed : Computed cs) where
  pub ascii : (b : ℕ) → b < 128 → char_of cs b ≡ Some b
  ascii b h = sym (get_or-take 128 cs b None h) ∙ (ap (λ xs. char_of xs b) computed.low ∙ (row_at 0 128 b h ∙ ap Some (zero-add b)))

  pub bytes : (b c : ℕ) → char_of cs b ≡ Some c → b < 256
  bytes b c e = omega (arith, within cs b c e, computed.long)

  pub scalars : (b c : ℕ) → char_of cs b ≡ Some c → scalar c ≡ true
  scalars b c e = valid_at cs computed.fits b c e
