-- What a stack holds, by the depth and the entries that it is over.
use Rattle.std.proofs.Common.{◌≡◌, ℕ, zero, suc, ◌+◌, ◌-◌, ◌<◌, ◌≤◌, min, true, List, [], ◌∷◌, reverse, length, get_or, take, set, is_err, Ok, Err, Result, sym, refl, ap, ◌∙◌, ⊎_elim, arith, length-take}
use mathlib.Core.List.{reverse-append}
use Rattle.std.proofs.lemmas.Bool.{cases_lt, false≢true}
use Rattle.std.proofs.lemmas.List.{take_all, take_more, take_more_set, length-reverse, length-set, nil_from_length, get_or-set_same, take-set}
use Rattle.groups.specs.declared.faults.GroupFault.{GroupFault}
use Rattle.groups.specs.Stack.{held, below, room, Pushed}

module _ {E : Type 0} (xs : List E) (depth : ℕ) where
  pub held_length : length (held depth xs) ≡ min depth (length xs)
  held_length = length-reverse (take depth xs) ∙ length-take depth xs

  pub full : room (length xs) ≤ depth → room (length xs) ≤ length (held depth xs)
  full h = rw held_length (omega arith)

  pub not_full : depth < room (length xs) → length (held depth xs) < room (length xs)
  not_full h = rw held_length (omega arith)

  pub held_pushed : (x : E) → depth < room (length xs) → held (depth + 1) (set xs depth x) ≡ x ∷ held depth xs
  held_pushed x h = ap reverse (take_more_set xs depth x (omega arith)) ∙ reverse-append (take depth xs) (x ∷ [])

  -- d is how many are held
  module _ (d : ℕ) (is : d ≡ length (held depth xs)) where
    pub held_none : d ≡ 0 → held depth xs ≡ []
    held_none e = nil_from_length (held depth xs) (sym is ∙ e)

    same_held : held depth xs ≡ held d xs
    same_held =
        let m = held_length in
        ap reverse
        (⊎_elim
        (λ h. let e : depth ≡ d = omega arith in ap (λ n. take n xs) e)
        (λ h. take_all depth xs h ∙ sym (take_all d xs (omega arith)))
        (cases_lt depth (length xs)))

    pub held_some : (x : E) → (d ≡ 0 → ⊥) → held depth xs ≡ get_or xs (d - 1) x ∷ held (d - 1) xs
    held_some x ne =
        let m = held_length in
        let e : d ≡ d - 1 + 1 = omega (arith, ne) in
        same_held ∙ ap (λ n. held n xs) e ∙ ap reverse (take_more xs (d - 1) x (omega (arith, ne)))
        ∙ reverse-append (take (d - 1) xs) (get_or xs (d - 1) x ∷ [])

-- what is left when the top is taken off
pub held_below : {E : Type 0} (xs : List E) (depth d : ℕ) → d ≡ length (held depth xs) → E → held (d - 1) xs ≡ below (held depth xs)
held_below xs depth zero is x = sym (ap below (held_none xs depth zero is refl))
held_below xs depth (suc d) is x = sym (ap below (held_some xs depth (suc d) is x (λ e. omega arith)))

-- another entry on top
pub held_topped : {E : Type 0} (xs : List E) (depth d : ℕ) → d ≡ length (held depth xs) → (x : E) → (d ≡ 0 → ⊥) → held depth (set xs (d - 1) x) ≡ x ∷ held (d - 1) xs
held_topped xs depth d is x ne =
    let ys = set xs (d - 1) x in
    let same : length ys ≡ length xs = length-set xs (d - 1) x in
    let m = held_length xs depth in
    let l : d - 1 < length xs = omega (arith, ne) in
    let is_too : d ≡ length (held depth ys) = omega (arith, held_length ys depth) in
    held_some ys depth d is_too x ne ∙ (λ i. get_or-set_same xs (d - 1) x x l i ∷ reverse (take-set xs (d - 1) x i))

-- a push that was refused found the stack full
pub pushed_full : {E : Type 0} (opens : E → ℕ) (e : E) (n : ℕ) (before after : List E) (r : Result (Unit {0}) GroupFault) → is_err r ≡ true → Pushed opens e n before r after → room n ≤ length before
pushed_full opens e n before after (Ok u) q h = absurd (false≢true q)
pushed_full opens e n before after (Err f) q h = h.0
