-- How the items of some bytes follow each other.
use Rattle.std.proofs.Common.{◌≡◌, ℕ, zero, suc, ◌+◌, ◌-◌, ◌<◌, ◌≤◌, List, [], ◌∷◌, drop, Some, None, Option, sym, refl, ap, ◌∙◌, add-zero, arith}
use Rattle.std.proofs.lemmas.List.{drop-drop}
use Rattle.tokens.specs.declared.faults.TokenFault.{TokenFault}
use Rattle.tokens.specs.Tokens.{Tok, Front, fault, layout, token, Item, bad, good, front, items, items_by, next, next_by}
use Rattle.tokens.proofs.Fronts.{front_positive}

-- The items after k bytes are those of the bytes that are left.
pub items_skip : (k at : ℕ) (bs : List ℕ) → items k at bs ≡ items 0 (at + k) (drop k bs)
items_skip zero at bs = rw add-zero
items_skip (suc k) at [] = refl
items_skip (suc k) at (b ∷ bs) =
    let e : at + 1 + k ≡ at + suc k = omega arith in
    items_skip k (at + 1) bs ∙ ap (λ p. items 0 p (drop k bs)) e

-- The items by the first of them: the others are those of the bytes after it.
abbrev pub items_after : ℕ → List ℕ → Option Item → List Item
items_after at bs None = []
items_after at bs (Some (bad f)) = bad f ∷ []
items_after at bs (Some (good t p e)) = good t p e ∷ items 0 e (drop (e - at) bs)

-- A first item, if it is a token, ends past the place k.
abbrev Past : ℕ → Option Item → Type 0
Past k None = Unit
Past k (Some (bad f)) = Unit
Past k (Some (good t p e)) = k < e

next_by_past : (k at : ℕ) (x : Front) (o : Option Item) → k ≤ at → ((t : Tok) (n : ℕ) → x ≡ token t n → 1 ≤ n) →
    Past k o → Past k (next_by at x o)
next_by_past k at layout o g h p = p
next_by_past k at (fault f) o g h p = tt
next_by_past k at (token t n) o g h p = omega (arith, h t n refl)

next_past : (k at : ℕ) (bs : List ℕ) → k ≤ at → Past k (next at bs)
next_past k at [] g = tt
next_past k at (b ∷ bs) g =
    next_by_past k at (front b bs) (next (at + 1) bs) g (λ t n e. (front_positive b bs t n e).0) (next_past k (at + 1) bs (omega arith))

module _ (at b : ℕ) (bs : List ℕ) where
  after_layout : (o : Option Item) → Past at o → items_after (at + 1) bs o ≡ items_after at (b ∷ bs) o
  after_layout None p = refl
  after_layout (Some (bad f)) p = refl
  after_layout (Some (good t q e)) p =
      let k : suc (e - (at + 1)) ≡ e - at = omega arith in
      ap (λ i. good t q e ∷ items 0 e (drop i (b ∷ bs))) k

  items_by_next : (x : Front) (o : Option Item) → ((t : Tok) (n : ℕ) → x ≡ token t n → 1 ≤ n) →
      items 0 (at + 1) bs ≡ items_after at (b ∷ bs) o →
      items_by at x (λ k. items k (at + 1) bs) ≡ items_after at (b ∷ bs) (next_by at x o)
  items_by_next layout o h i = i
  items_by_next (fault f) o h i = refl
  items_by_next (token t n) o h i =
      let l : 1 ≤ n = h t n refl in
      let p : at + 1 + (n - 1) ≡ at + n = omega arith in
      let k : suc (n - 1) ≡ at + n - at = omega arith in
      rw (items_skip (n - 1) (at + 1) bs, p, ← k)

-- The items are the first one, then those after its end.
pub items_next : (at : ℕ) (bs : List ℕ) → items 0 at bs ≡ items_after at bs (next at bs)
items_next at [] = refl
items_next at (b ∷ bs) =
    items_by_next at b bs (front b bs) (next (at + 1) bs) (λ t n e. (front_positive b bs t n e).0)
    (items_next (at + 1) bs ∙ after_layout at b bs (next (at + 1) bs) (next_past at (at + 1) bs (omega arith)))

-- The items from a place on, by the next token there.
module _ (bytes : List ℕ) (at : ℕ) where
  from_next : (o : Option Item) → o ≡ next at (drop at bytes) → items 0 at (drop at bytes) ≡ items_after at (drop at bytes) o
  from_next o h = items_next at (drop at bytes) ∙ ap (items_after at (drop at bytes)) (sym h)

  pub items_none : None ≡ next at (drop at bytes) → items 0 at (drop at bytes) ≡ []
  items_none h = from_next None h

  pub items_bad : (f : TokenFault) → Some (bad f) ≡ next at (drop at bytes) → items 0 at (drop at bytes) ≡ bad f ∷ []
  items_bad f h = from_next (Some (bad f)) h

  pub items_good : (t : Tok) (p e : ℕ) → at ≤ e → Some (good t p e) ≡ next at (drop at bytes) → items 0 at (drop at bytes) ≡ good t p e ∷ items 0 e (drop e bytes)
  items_good t p e l h =
      let back : at + (e - at) ≡ e = omega arith in
      from_next (Some (good t p e)) h ∙ ap (λ bs. good t p e ∷ items 0 e bs) (drop-drop (e - at) at bytes ∙ ap (λ k. drop k bytes) back)
