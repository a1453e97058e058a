-- The checks before a record is read.
use Rattle.std.proofs.Common.{◌≡◌, ℕ, suc, ◌+◌, ◌<◌, ◌≤◌, cond, not, ltb, List, [], ◌∷◌, length, take, drop, position, Some, None, Ok, Err, Option, Result, sym, refl, ap, ◌∙◌, ⊎_elim, arith}
use Rattle.std.specs.List.{prefix_len}
use Rattle.std.proofs.lemmas.Bool.{cond-true, cond-false, le-ltb, lt-ltb, cases_lt, cases_Bool}
use Rattle.reader.specs.declared.faults.ReadFault.{ReadFault}
use Rattle.reader.specs.declared.faults.ReadFault.TheVariants.{Record, TooLong, Trailing}
use Rattle.records.specs.declared.faults.RecordFault.{RecordFault}
use Rattle.records.specs.Apart.{first_end}
use Rattle.reader.specs.Reading.{passed_on, and_then, may_trail, trailing, sound_record}

-- the first byte that may not trail, told with its place
abbrev pub told_trailing : ℕ → Option ℕ → Result (Unit {0}) ReadFault
told_trailing p None = Ok tt
told_trailing p (Some n) = Err (Trailing (p + n))

shift : (p n l : ℕ) → told_trailing (p + 1) (cond (ltb n l) (Some n) None) ≡ told_trailing p (cond (ltb (1 + n) (suc l)) (Some (1 + n)) None)
shift p n l =
    ⊎_elim
    (λ h. let same : p + 1 + n ≡ p + (1 + n) = omega arith in
    ap (told_trailing (p + 1)) (cond-true _ _ _ (lt-ltb n l h)) ∙ ap (λ k. Err (Trailing k)) same ∙ sym (ap (told_trailing p) (cond-true _ _ _ (lt-ltb (1 + n) (suc l) (omega arith)))))
    (λ h. ap (told_trailing (p + 1)) (cond-false _ _ _ (le-ltb n l h)) ∙ sym (ap (told_trailing p) (cond-false _ _ _ (le-ltb (1 + n) (suc l) (omega arith)))))
    (cases_lt n l)

pub trailing_is : (p : ℕ) (bs : List ℕ) → trailing p bs ≡ told_trailing p (position (λ b. not (may_trail b)) bs)
trailing_is p [] = refl
trailing_is p (b ∷ bs) =
    let n = prefix_len (λ b. not (not (may_trail b))) bs in
    let l = length bs in
    ⊎_elim
    (λ e. let run = cond-true (not (not (may_trail b))) (1 + n) 0 (ap (λ t. not (not t)) e) in
    cond-true _ _ _ e ∙ trailing_is (p + 1) bs ∙ shift p n l ∙ ap (λ k. told_trailing p (cond (ltb k (suc l)) (Some k) None)) (sym run))
    (λ e. let run = cond-false (not (not (may_trail b))) (1 + n) 0 (ap (λ t. not (not t)) e) in
    let here : p ≡ p + 0 = omega arith in
    cond-false _ _ _ e ∙ ap (λ k. Err (Trailing k)) here ∙ sym (ap (told_trailing p) (cond-true _ _ _ (lt-ltb 0 (suc l) (omega arith)))) ∙ ap (λ k. told_trailing p (cond (ltb k (suc l)) (Some k) None)) (sym run))
    (cases_Bool (may_trail b))

module _ (bytes : List ℕ) where
  pub sound_long : 32768 < length bytes → sound_record bytes ≡ Err TooLong
  sound_long h = cond-true _ _ _ (lt-ltb _ _ h)

  module _ (h : length bytes ≤ 32768) where
    pub sound_refused : (f : RecordFault) → first_end bytes ≡ Err f → sound_record bytes ≡ Err (Record f)
    sound_refused f e = cond-false _ _ _ (le-ltb _ _ h) ∙ ap (λ r. and_then (passed_on r) (λ n. and_then (trailing n (drop n bytes)) (λ _. Ok (take n bytes)))) e

    pub sound_first : (n : ℕ) (r : Result (Unit {0}) ReadFault) → first_end bytes ≡ Ok n → r ≡ trailing n (drop n bytes) → sound_record bytes ≡ and_then r (λ _. Ok (take n bytes))
    sound_first n r e t = cond-false _ _ _ (le-ltb _ _ h) ∙ ap (λ r. and_then (passed_on r) (λ n. and_then (trailing n (drop n bytes)) (λ _. Ok (take n bytes)))) e ∙ ap (λ x. and_then x (λ _. Ok (take n bytes))) (sym t)
