-- What taking apart answers: the two parts of the bytes, or the fault.
use Rattle.std.specs.Prelude.{◌≡◌, ℕ, List, take, drop, Ok, Err, Result}
use Rattle.records.specs.declared.faults.RecordFault.{RecordFault}
use Rattle.records.specs.declared.parts.Part.{Part}
use Rattle.records.specs.Apart.{first_end}

-- The first record of the bytes and the rest, each with its place.
pub record Split (bs : List ℕ) (first rest : Part) : Type 0 where
  pub end : first_end bs ≡ Ok rest.place
  pub start : first.place ≡ 0
  pub front : first.bytes.now ≡ take rest.place bs
  pub back : rest.bytes.now ≡ drop rest.place bs

abbrev pub Halves : List ℕ → Result (Part × Part) RecordFault → Type 0
Halves bs (Ok p) = Split bs p.0 p.1
Halves bs (Err f) = first_end bs ≡ Err f
