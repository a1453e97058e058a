-- A record stands alone: what follows its closing brace changes neither the record nor its end.
use Rattle.std.proofs.Common.{◌≡◌, ℕ, ◌+◌, ◌<◌, ◌≤◌, true, false, ◌&&◌, eqb, List, [], ◌∷◌, ◌++◌, length, take, drop, Ok, Err, codes, Result, sym, refl, ap, ◌∙◌, append_assoc, arith, length-append}
use Rattle.std.specs.List.{AllByRecursion}
use Rattle.std.specs.Str.{bytes_eq}
use Rattle.std.proofs.lemmas.List.{take-append-le, drop-append-le, take_all, take_at}
use Rattle.std.proofs.lemmas.Bool.{cond-true, cond_both, and_parts, both_ways}
use Rattle.groups.specs.declared.faults.GroupFault.{GroupFault}
use Rattle.groups.specs.Groups.{group_end}
use Rattle.groups.proofs.Ends.{closing_ends}
use Rattle.records.specs.Apart.{no_digit, is_rtf, passed_up, first_end}
use Rattle.records.specs.Laws.{IsRecord}

-- two constructors are never equal: cc then finds that 0 is 1
pub never : {A : Type 0} → ◌≡◌ {A = ℕ} 0 1 → A
never z = absurd (omega arith)

-- The first record ends at a closing brace, whatever follows it.
pub record Whole (bs : List ℕ) (n : ℕ) : Type 0 where
  pub before : List ℕ
  pub after : List ℕ
  pub split : bs ≡ before ++ 125 ∷ after
  pub long : n ≡ length before + 1
  pub again : (vs : List ℕ) → first_end (before ++ 125 ∷ vs) ≡ Ok n

-- bytes that begin with a signature without the byte 125 have it before their first 125
signed_long : (sig w us : List ℕ) → AllByRecursion (λ s. eqb 125 s ≡ false) sig → bytes_eq (take (length sig) (w ++ 125 ∷ us)) sig ≡ true → length sig ≤ length w
signed_long [] w us a e = omega arith
signed_long (s ∷ sig) [] us a e = absurd (both_ways _ a.0 (and_parts (eqb 125 s) _ e).0)
signed_long (s ∷ sig) (x ∷ w) us a e = omega (arith, signed_long sig w us a.1 (and_parts (eqb x s) _ e).1)

no_digit_same : (w us vs : List ℕ) → no_digit (w ++ 125 ∷ us) ≡ no_digit (w ++ 125 ∷ vs)
no_digit_same [] us vs = refl
no_digit_same (x ∷ w) us vs = refl

rtf_long : (w us : List ℕ) → is_rtf (w ++ 125 ∷ us) ≡ true → 6 ≤ length w
rtf_long w us e = signed_long (codes "{\\rtf1") w us (refl, (refl, (refl, (refl, (refl, (refl, tt)))))) (and_parts (bytes_eq (take 6 (w ++ 125 ∷ us)) (codes "{\\rtf1")) _ e).0

rtf_same : (w us vs : List ℕ) → 6 ≤ length w → is_rtf (w ++ 125 ∷ us) ≡ is_rtf (w ++ 125 ∷ vs)
rtf_same w us vs h =
    rw (take-append-le 6 w (125 ∷ us) h, take-append-le 6 w (125 ∷ vs) h, drop-append-le 6 w (125 ∷ us) h, drop-append-le 6 w (125 ∷ vs) h)
    (ap (λ d. bytes_eq (take 6 w) (codes "{\\rtf1") && d) (no_digit_same (drop 6 w) us vs))

passed_up_lem : (r : Result ℕ GroupFault) (n : ℕ) → passed_up r ≡ Ok n → r ≡ Ok n
passed_up_lem (Ok m) n e = let same : m ≡ n = cc in ap Ok same
passed_up_lem (Err f) n e = never (cc)

-- a record that is told apart is rtf, and its first group ends there
first_parts : (bs : List ℕ) (n : ℕ) → first_end bs ≡ Ok n → (is_rtf bs ≡ true) × (group_end 0 bs ≡ Ok n)
first_parts bs n =
    cond_both (is_rtf bs) _ _ (λ r. r ≡ Ok n → (is_rtf bs ≡ true) × (group_end 0 bs ≡ Ok n))
    (λ q e. (q, passed_up_lem (group_end 0 bs) n e))
    (λ _ e. never (cc))

pub first_whole : (bs : List ℕ) (n : ℕ) → first_end bs ≡ Ok n → Whole bs n
first_whole [] n e = never (cc)
first_whole (b ∷ bs) n e =
    let parts = first_parts (b ∷ bs) n e in
    let ends = closing_ends 0 1 (0 ∷ []) bs n parts.1 in
    let w = b ∷ ends.before in
    let split : b ∷ bs ≡ w ++ 125 ∷ ends.after = ap (λ l. b ∷ l) ends.split in
    let rtf : is_rtf (w ++ 125 ∷ ends.after) ≡ true = ap is_rtf (sym split) ∙ parts.0 in
    let six = rtf_long w ends.after rtf in
    record {
      before = w;
      after = ends.after;
      split = split;
      long = omega (arith, ends.long);
      again = λ vs. cond-true _ _ _ (sym (rtf_same w ends.after vs six) ∙ rtf) ∙ ap passed_up (ends.again vs);
    }

module _ (bs : List ℕ) (n : ℕ) (e : first_end bs ≡ Ok n) where
  pub first_fits : (6 < n) × (n ≤ length bs)
  first_fits =
      let whole = first_whole bs n e in
      let six = rtf_long whole.before whole.after (ap is_rtf (sym whole.split) ∙ (first_parts bs n e).0) in
      (omega (arith, whole.long), omega (arith, whole.long, ap length whole.split ∙ length-append whole.before (125 ∷ whole.after)))

  -- the record's own bytes, with anything after them
  pub first_alone : (more : List ℕ) → first_end (take n bs ++ more) ≡ Ok (length (take n bs))
  first_alone more =
      let whole = first_whole bs n e in
      let w = whole.before in
      let upto : bs ≡ (w ++ 125 ∷ []) ++ whole.after = whole.split ∙ sym (append_assoc w (125 ∷ []) whole.after) in
      let long : length (w ++ 125 ∷ []) ≡ n = length-append w (125 ∷ []) ∙ sym whole.long in
      let record_is : take n bs ≡ w ++ 125 ∷ [] = ap (take n) upto ∙ take_at (w ++ 125 ∷ []) whole.after n long in
      ap (λ r. first_end (r ++ more)) record_is ∙ ap first_end (append_assoc w (125 ∷ []) more) ∙ whole.again more ∙ ap Ok (sym long ∙ ap length (sym record_is))

-- One record and no more, with anything after it.
pub record_alone : (r more : List ℕ) → IsRecord r → first_end (r ++ more) ≡ Ok (length r)
record_alone r more e =
    let whole : take (length r) r ≡ r = take_all (length r) r (omega arith) in
    ap (λ l. first_end (l ++ more)) (sym whole) ∙ first_alone r (length r) e more ∙ ap (λ l. Ok (length l)) whole
