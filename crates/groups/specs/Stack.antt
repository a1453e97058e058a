-- What a stack of open groups holds, as a list with its top first, and what a push does.
use Rattle.std.specs.Prelude.{◌≡◌, ℕ, ◌<◌, ◌≤◌, min, List, [], ◌∷◌, reverse, length, take, Some, None, Ok, Err, Option, Result}
use Rattle.groups.specs.declared.faults.GroupFault.{GroupFault}
use Rattle.groups.specs.declared.faults.GroupFault.TheVariants.{TooDeep}

-- The first entries, up to the depth, the last of them first.
abbrev pub held : {E : Type 0} → ℕ → List E → List E
held depth entries = reverse (take depth entries)

-- The entry on top, if there is one.
abbrev pub top_of : {E : Type 0} → List E → Option E
top_of [] = None
top_of (x ∷ xs) = Some x

-- What is held without the top.
abbrev pub below : {E : Type 0} → List E → List E
below [] = []
below (x ∷ xs) = xs

-- What is held with another entry on top.
abbrev pub topped : {E : Type 0} → E → List E → List E
topped e [] = []
topped e (x ∷ xs) = e ∷ xs

-- How many groups may be open on a stack over n entries.
abbrev pub room : ℕ → ℕ
room n = min 64 n

-- An entry was pushed onto a stack over n entries: it is on top, or the stack was full and is unchanged.
abbrev pub Pushed : {E : Type 0} → (E → ℕ) → E → ℕ → List E → Result (Unit {0}) GroupFault → List E → Type 0
Pushed opens e n before (Ok u) after = (length before < room n) × (after ≡ e ∷ before)
Pushed opens e n before (Err f) after = (room n ≤ length before) × (f ≡ TooDeep (opens e)) × (after ≡ before)
