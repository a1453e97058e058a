-- A run of plain text: each of its bytes is a token.
use Rattle.std.proofs.Common.{◌≡◌, ℕ, ◌+◌, ◌<◌, true, List, [], ◌∷◌, ◌++◌, take, drop, sym, refl, ap, ◌∙◌, subst, ⊎_elim, add-zero, one-add, arith}
use Rattle.std.specs.List.{prefix_len, AllByRecursion}
use Rattle.std.proofs.lemmas.List.{drop-drop}
use Rattle.std.proofs.lemmas.Bool.{cond-true, cond-false, cases_Bool}
use Rattle.std.proofs.lemmas.Bool.Decides.{nat_tests}
use Rattle.tokens.specs.Tokens.{text, token, front, Item, good, items_by, items, is_plain}

-- Text bytes that stand at a place, one after the other, each a token.
abbrev pub texts : ℕ → List ℕ → List Item
texts at [] = []
texts at (b ∷ bs) = good (text b) at (at + 1) ∷ texts (at + 1) bs

front_plain : (b : ℕ) (bs : List ℕ) → is_plain b ≡ true → front b bs ≡ token (text b) 1
front_plain b bs e = grind (arith, nat_tests)

run_items : (at : ℕ) (bs : List ℕ) → items 0 at bs ≡ texts at (take (prefix_len is_plain bs) bs) ++ items 0 (at + prefix_len is_plain bs) (drop (prefix_len is_plain bs) bs)
run_items at [] = refl
run_items at (b ∷ bs) =
    ⊎_elim
    (λ e. let n = cond-true _ (1 + prefix_len is_plain bs) 0 e in
    let s : at + 1 + prefix_len is_plain bs ≡ at + (1 + prefix_len is_plain bs) = omega arith in
    ap (λ f. items_by at f (λ k. items k (at + 1) bs)) (front_plain b bs e) ∙ ap (λ l. texts at (b ∷ []) ++ l) (run_items (at + 1) bs) ∙ rw (n, s, one-add))
    (λ e. rw (cond-false _ (1 + prefix_len is_plain bs) 0 e, add-zero))
    (cases_Bool (is_plain b))

-- The items from a place on are the bytes of the run there, and then those from its end on.
pub items_run : (bytes : List ℕ) (at end : ℕ) → end ≡ at + prefix_len is_plain (drop at bytes) → items 0 at (drop at bytes) ≡ texts at (take (prefix_len is_plain (drop at bytes)) (drop at bytes)) ++ items 0 end (drop end bytes)
items_run bytes at end e =
    let n = prefix_len is_plain (drop at bytes) in
    run_items at (drop at bytes) ∙ ap (λ l. texts at (take n (drop at bytes)) ++ items 0 (at + n) l) (drop-drop n at bytes) ∙ ap (λ p. texts at (take n (drop at bytes)) ++ items 0 p (drop p bytes)) (sym e)

plain_low : (b : ℕ) → is_plain b ≡ true → b < 128
plain_low b e = grind (arith, nat_tests)

-- Every byte of a run is below 128.
pub run_low : (bs : List ℕ) → AllByRecursion (λ b. b < 128) (take (prefix_len is_plain bs) bs)
run_low [] = tt
run_low (b ∷ bs) =
    ⊎_elim
    (λ e. subst (λ n. AllByRecursion (λ b. b < 128) (take n (b ∷ bs))) (sym (cond-true _ (1 + prefix_len is_plain bs) 0 e ∙ one-add _)) (plain_low b e, run_low bs))
    (λ e. subst (λ n. AllByRecursion (λ b. b < 128) (take n (b ∷ bs))) (sym (cond-false _ (1 + prefix_len is_plain bs) 0 e)) tt)
    (cases_Bool (is_plain b))
