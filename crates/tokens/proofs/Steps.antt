-- What stands at a place, by the steps in which the lexer looks.
use Rattle.std.proofs.Common.{◌≡◌, ℕ, ◌+◌, ◌<◌, Bool, false, List, [], ◌∷◌, length, get_or, drop, None, Option, sym, refl, ap, ◌∙◌, subst, ⊎_elim, add-zero, one-add, arith, length-drop}
use Rattle.std.specs.List.{prefix_len}
use Rattle.std.proofs.lemmas.List.{get_or-drop}
use Rattle.std.proofs.lemmas.Bool.{cond-true, cond-false, cases_Bool}
use Rattle.tokens.proofs.Fronts.{front_solid, front_blank}
use Rattle.tokens.specs.Tokens.{Front, layout, fault, token, is_layout, front, Item, next_by, next}

-- where a run stops short of the end, its next byte is not of the class
pub leading_stops : (f : ℕ → Bool) (xs : List ℕ) → prefix_len f xs < length xs → f (get_or xs (prefix_len f xs) 0) ≡ false
leading_stops f [] h = absurd (omega arith)
leading_stops f (x ∷ xs) h =
    ⊎_elim
    (λ e. let n = cond-true _ (1 + prefix_len f xs) 0 e in rw (n, one-add) (leading_stops f xs (omega (arith, n))))
    (λ e. rw (cond-false _ (1 + prefix_len f xs) 0 e) e)
    (cases_Bool (f x))

-- what follows layout is not asked of any other front
next_by_solid : (at : ℕ) (f : Front) (x y : Option Item) → (f ≡ layout → ⊥) → next_by at f x ≡ next_by at f y
next_by_solid at layout x y s = absurd (s refl)
next_by_solid at (fault f) x y s = refl
next_by_solid at (token t n) x y s = refl

-- layout before the next token changes nothing but its place
next_after : (at : ℕ) (bs : List ℕ) → next at bs ≡ next (at + prefix_len is_layout bs) (drop (prefix_len is_layout bs) bs)
next_after at [] = refl
next_after at (b ∷ bs) =
    ⊎_elim
    (λ e. let n = cond-true _ (1 + prefix_len is_layout bs) 0 e in
    let s : at + 1 + prefix_len is_layout bs ≡ at + (1 + prefix_len is_layout bs) = omega arith in
    ap (λ f. next_by at f (next (at + 1) bs)) (front_blank b bs e) ∙ next_after (at + 1) bs ∙ rw (n, s, one-add))
    (λ e. rw (cond-false _ (1 + prefix_len is_layout bs) 0 e, add-zero))
    (cases_Bool (is_layout b))

at_empty : {A : Type 0} (f : List ℕ → A) (bs : List ℕ) → length bs ≡ 0 → f bs ≡ f []
at_empty f [] e = refl
at_empty f (b ∷ bs) e = absurd (omega arith)

-- The bytes given from a place on, of which n are layout, and what stands after those.
module _ (at n : ℕ) (given : List ℕ) (run : n ≡ prefix_len is_layout given) where
  next_from : next at given ≡ next (at + n) (drop n given)
  next_from = next_after at given ∙ ap (λ k. next (at + k) (drop k given)) (sym run)

  pub next_end : length (drop n given) ≡ 0 → next at given ≡ None
  next_end e = next_from ∙ at_empty (next (at + n)) (drop n given) e

  module _ (b : ℕ) (rest : List ℕ) (here : drop n given ≡ b ∷ rest) where
    more : n < length given
    more = omega (arith, length-drop n given, ap length here)

    at_run : get_or given (prefix_len is_layout given) 0 ≡ get_or given n 0
    at_run = ap (λ k. get_or given k 0) (sym run)

    pub byte_here : is_layout b ≡ false
    byte_here =
        let front_is : get_or given n 0 ≡ b = ap (λ k. get_or given k 0) (sym (add-zero n)) ∙ sym (get_or-drop n given 0 0) ∙ ap (λ l. get_or l 0 0) here in
        subst (λ x. is_layout x ≡ false) (at_run ∙ front_is) (leading_stops is_layout given (omega (arith, more)))

    pub next_here : next at given ≡ next_by (at + n) (front b rest) None
    next_here = next_from ∙ ap (next (at + n)) here ∙ next_by_solid (at + n) (front b rest) _ _ (front_solid b rest byte_here)
