-- Runs of digits, their values, and a byte at the front.
use Rattle.std.proofs.Common.{◌≡◌, ℕ, zero, suc, ◌-◌, ◌^◌, ◌<◌, ◌≤◌, true, List, [], ◌∷◌, length, get_or, take, sym, ◌∙◌, subst, ⊎_elim, one-add, arith}
use native.Mathlib.Nat.{pow-le-pow_right}
use Rattle.std.specs.Str.Parse.{digits_value, AllDigits}
use Rattle.std.specs.Char.{is_ascii_digit, digit_value}
use Rattle.std.specs.List.{prefix_len}
use Rattle.std.proofs.lemmas.Int.Digits.{digits_value-lt}
use Rattle.std.proofs.lemmas.Bool.{cond-true, cond-false, cases_Bool}
use Rattle.std.proofs.lemmas.Bool.Decides.{nat_tests}

-- a digit's value
pub digit_value_lem : (c : ℕ) → is_ascii_digit c ≡ true → (digit_value c < 10) × (digit_value c ≡ c - 48)
digit_value_lem c e = (grind (arith, nat_tests), grind (arith, nat_tests))

pub digit_from_value : (c : ℕ) → digit_value c < 10 → (48 ≤ c) × (c ≤ 57) × (digit_value c ≡ c - 48)
digit_from_value c h = (grind (arith, nat_tests), grind (arith, nat_tests), grind (arith, nat_tests))

pub digits_at : (cs : List ℕ) (i : ℕ) → AllDigits 10 cs → i < length cs → digit_value (get_or cs i 0) < 10
digits_at [] i d h = absurd (omega arith)
digits_at (c ∷ cs) zero d h = d.0
digits_at (c ∷ cs) (suc i) d h = digits_at cs i d.1 (omega arith)

pub digits_take : (cs : List ℕ) (i : ℕ) → AllDigits 10 cs → AllDigits 10 (take i cs)
digits_take cs zero d = tt
digits_take [] (suc i) d = tt
digits_take (c ∷ cs) (suc i) d = (d.0, digits_take cs i d.1)

-- a run of digits is digits
pub digits_run : (bs : List ℕ) → AllDigits 10 (take (prefix_len is_ascii_digit bs) bs)
digits_run [] = tt
digits_run (b ∷ bs) =
    ⊎_elim
    (λ e. subst (λ n. AllDigits 10 (take n (b ∷ bs))) (sym (cond-true _ _ _ e ∙ one-add _)) ((digit_value_lem b e).0, digits_run bs))
    (λ e. subst (λ n. AllDigits 10 (take n (b ∷ bs))) (sym (cond-false _ _ _ e)) tt)
    (cases_Bool (is_ascii_digit b))

-- at most ten digits have a value below 10 ^ 10
pub value_few : (cs : List ℕ) → AllDigits 10 cs → length cs ≤ 10 → digits_value 10 cs < 10 ^ 10
value_few cs d h = let p : 10 ^ length cs ≤ 10 ^ 10 = pow-le-pow_right (omega arith) h in omega (arith, digits_value-lt 10 cs d)
