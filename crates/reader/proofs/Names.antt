-- A name that is known by its length and its bytes.
use Rattle.std.proofs.Common.{◌≡◌, ℕ, ◌+◌, List, [], ◌∷◌, length, get_or, refl, ap, ◌∙◌, add-one, arith}

-- The bytes from a place on are these.
abbrev pub Has : List ℕ → ℕ → List ℕ → Type 0
Has name i [] = Unit {0}
Has name i (b ∷ bs) = (get_or name i 0 ≡ b) × Has name (i + 1) bs

later : (x : ℕ) (name : List ℕ) (i : ℕ) (bs : List ℕ) → Has (x ∷ name) (i + 1) bs → Has name i bs
later x name i [] h = tt
later x name i (b ∷ bs) h = ((rw add-one at h.0), later x name (i + 1) bs h.1)

pub spelled_as : (name bs : List ℕ) → length name ≡ length bs → Has name 0 bs → name ≡ bs
spelled_as [] [] e h = refl
spelled_as [] (b ∷ bs) e h = absurd (omega arith)
spelled_as (x ∷ name) [] e h = absurd (omega arith)
spelled_as (x ∷ name) (b ∷ bs) e h = ap (λ y. y ∷ name) h.0 ∙ ap (λ l. b ∷ l) (spelled_as name bs (omega arith) (later x name 0 bs h.1))
