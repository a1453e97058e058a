-- What putting means: the bytes held and the space left, before and after, at each result.
use Rattle.std.specs.Prelude.{◌≡◌, ℕ, ◌+◌, ◌<◌, ◌≤◌, List, [], ◌∷◌, ◌++◌, length, Ok, Err, Result}
use Rattle.sinks.specs.declared.interface.Full.{Full}

-- The byte is appended and takes one byte of space, or there is no space and nothing changes.
abbrev pub Put : List ℕ → ℕ → ℕ → Result (Unit {0}) Full → List ℕ → ℕ → Type 0
Put held space byte (Ok u) after left = (0 < space) × (after ≡ held ++ byte ∷ []) × (left + 1 ≡ space)
Put held space byte (Err e) after left = (space ≡ 0) × (after ≡ held) × (left ≡ space)

-- All the bytes are appended and take as much space, or they do not fit and nothing changes.
abbrev pub PutAll : List ℕ → ℕ → List ℕ → Result (Unit {0}) Full → List ℕ → ℕ → Type 0
PutAll held space bytes (Ok u) after left = (length bytes ≤ space) × (after ≡ held ++ bytes) × (left + length bytes ≡ space)
PutAll held space bytes (Err e) after left = (space < length bytes) × (after ≡ held) × (left ≡ space)
