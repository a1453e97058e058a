-- What becomes of the bytes of a draft.
use Rattle.std.specs.Prelude.{◌≡◌, ℕ, List, ◌++◌, Result, OnOk, OnErr}

-- The bytes before grow by more, or stay as they were where that is refused.
abbrev pub Grows : {E : Type 0} → List ℕ → List ℕ → Result (Unit {0}) E → List ℕ → Type 0
Grows before more result after = OnOk result (after ≡ before ++ more) × OnErr result (after ≡ before)
