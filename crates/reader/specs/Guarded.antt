-- What a guard over result bytes holds, and what it leaves.
use Rattle.std.specs.Prelude.{◌≡◌, ℕ, ◌-◌, ◌<◌, ◌≤◌, Bool, cond, List, ◌++◌, length, replicate, Some, None, Ok, Err, Option, Result}
use Rattle.std.proofs.Math.Utf8.{encodes}
use Rattle.reader.specs.declared.faults.ReadFault.{ReadFault}
use Rattle.records.specs.declared.kinds.Kind.{Kind}
use Rattle.reader.specs.declared.reading.Reading.{Reading}
use Rattle.reader.specs.declared.guard.Guard.{Guard}

abbrev pub zeros : ℕ → List ℕ
zeros n = replicate n 0

-- The bytes when the guard is gone: as they are where it was accepted, and else all zeros.
abbrev pub left_by : Bool → List ℕ → List ℕ
left_by accepted bytes = cond accepted bytes (zeros (length bytes))

-- A content of a length, or one too long, in given bytes: it stands at their start with zeros after it, or is longer than they are.
abbrev pub HoldsBy : List ℕ → Option ℕ → List ℕ → Type 0
HoldsBy content None bytes = length bytes < length content
HoldsBy content (Some n) bytes = (n ≡ length content) × (length content ≤ length bytes) × (bytes ≡ content ++ zeros (length bytes - length content))

-- The guard was given this content.
abbrev pub Holds : List ℕ → Guard → Type 0
Holds content g = HoldsBy content g.length g.bytes.now

-- The guard keeps its bytes' loan and their count, and is accepted or not as before.
pub record Keeps (before after : Guard) : Type 0 where
  pub same : after.bytes.ghost_name ≡ before.bytes.ghost_name
  pub len : length after.bytes.now ≡ length before.bytes.now
  pub accepted : after.accepted ≡ before.accepted

-- A filling told this of the characters that were to come, and the guard holds them.
abbrev pub Filled : Result (List ℕ) ReadFault → Result (Unit {0}) ReadFault → Guard → Type 0
Filled told (Ok _) g = (cs : List ℕ) × (told ≡ Ok cs) × Holds (encodes cs) g
Filled told (Err f) g = told ≡ Err f

-- A reading told this, and the guard holds the content.
abbrev pub ToldInto : Result (Kind × List ℕ) ReadFault → Result Reading ReadFault → Guard → Type 0
ToldInto told (Ok r) g = (content : List ℕ) × (told ≡ Ok (r.kind, content)) × (r.length ≡ length content) × (g.bytes.now ≡ content ++ zeros (length g.bytes.now - length content))
ToldInto told (Err f) g = told ≡ Err f
