-- The checks of decoration, one byte, one word and one token after the other.
use Rattle.std.proofs.Common.{◌≡◌, ℕ, suc, ◌+◌, ◌<◌, ◌≤◌, Bool, true, false, not, cond, ltb, ◌||◌, List, [], ◌∷◌, map, length, get_or, drop, Some, None, Ok, Err, Option, Result, sym, refl, ap, ◌∙◌, add-zero, zero-add, arith, Bor}
use Rattle.std.specs.List.{position}
use Rattle.std.specs.Str.{bytes_eq}
use Rattle.std.proofs.lemmas.List.{at_drop_more}
use Rattle.std.proofs.lemmas.Bool.{cond-true, cond-false, cond_both, lt-ltb, le-ltb, ltb-true, ltb-false}
use Rattle.tokens.specs.Tokens.{items}
use Rattle.writer.specs.declared.faults.WriterFault.{WriterFault}
use Rattle.writer.specs.declared.faults.WriterFault.TheVariants.{NotPrintable}
use Rattle.writer.specs.Decoration.{is_printable, printable, among, sound, decoration_by, decoration}

-- The first byte that is not printable refuses.
abbrev unless_found : ℕ → Option ℕ → Result (Unit {0}) WriterFault
unless_found p None = Ok tt
unless_found p (Some at) = Err (NotPrintable (p + at))

-- What is found one place later, where the first byte passes.
later : (p k n : ℕ) → unless_found (p + 1) (cond (ltb k n) (Some k) None) ≡ unless_found p (cond (ltb (1 + k) (suc n)) (Some (1 + k)) None)
later p k n =
    cond_both (ltb k n) (Some k) None (λ x. unless_found (p + 1) x ≡ unless_found p (cond (ltb (1 + k) (suc n)) (Some (1 + k)) None))
    (λ e. let place : p + 1 + k ≡ p + (1 + k) = omega arith in let more : 1 + k < suc n = omega (arith, ltb-true k n e) in ap (λ m. Err (NotPrintable m)) place ∙ sym (ap (unless_found p) (cond-true (ltb (1 + k) (suc n)) (Some (1 + k)) None (lt-ltb (1 + k) (suc n) more))))
    (λ e. let most : suc n ≤ 1 + k = omega (arith, ltb-false k n e) in sym (ap (unless_found p) (cond-false (ltb (1 + k) (suc n)) (Some (1 + k)) None (le-ltb (1 + k) (suc n) most))))

printable_from : (p : ℕ) (bs : List ℕ) → printable p bs ≡ unless_found p (position (λ b. not (is_printable b)) bs)
printable_from p [] = refl
printable_from p (b ∷ bs) = by (is_printable b) refl (printable_from (p + 1) bs)
  where
    by : (t : Bool) → is_printable b ≡ t → printable (p + 1) bs ≡ unless_found (p + 1) (position (λ x. not (is_printable x)) bs) → printable p (b ∷ bs) ≡ unless_found p (position (λ x. not (is_printable x)) (b ∷ bs))
    by true e more = rw e (more ∙ later p _ (length bs))
    by false e more = rw e (ap (λ n. Err (NotPrintable n)) (sym (add-zero p)) ∙ sym (ap (unless_found p) (cond-true (ltb 0 (suc (length bs))) (Some 0) None (lt-ltb 0 (suc (length bs)) (omega arith)))))

module _ (bs : List ℕ) where
  pub unprintable_some : (at : ℕ) → Some at ≡ position (λ b. not (is_printable b)) bs → decoration bs ≡ Err (NotPrintable at)
  unprintable_some at e = ap (decoration_by bs) (printable_from 0 bs ∙ ap (unless_found 0) (sym e)) ∙ ap (λ n. Err (NotPrintable n)) (zero-add at)

  pub unprintable_none : None ≡ position (λ b. not (is_printable b)) bs → decoration bs ≡ sound bs [] (items 0 0 bs)
  unprintable_none e = ap (decoration_by bs) (printable_from 0 bs ∙ ap (unless_found 0) (sym e))

-- A name among words, one word after the other.
module _ (name : List ℕ) (words : List (Bor (List ℕ))) (i : ℕ) (d : Bor (List ℕ)) (h : i < length words) where
  pub among_here : bytes_eq name (get_or words i d).now ≡ true → among name (map (λ w. w.now) (drop i words)) ≡ true
  among_here e = at_drop_more (λ ws. among name (map (λ w. w.now) ws)) words i d h ∙ ap (λ b. b || among name (map (λ w. w.now) (drop (i + 1) words))) e

  pub among_on : bytes_eq name (get_or words i d).now ≡ false → among name (map (λ w. w.now) (drop i words)) ≡ among name (map (λ w. w.now) (drop (i + 1) words))
  among_on e = at_drop_more (λ ws. among name (map (λ w. w.now) ws)) words i d h ∙ ap (λ b. b || among name (map (λ w. w.now) (drop (i + 1) words))) e
