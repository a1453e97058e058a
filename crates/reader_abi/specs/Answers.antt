-- What an answer says of a reading.
use Rattle.std.specs.Prelude.{◌≡◌, ℕ, false, List, Ok, Err, Result}
use Rattle.reader.specs.declared.faults.ReadFault.{ReadFault}
use Rattle.reader.specs.Faults.{number_of, place_of}
use Rattle.records.specs.declared.kinds.Kind.{Kind}
use Rattle.reader.specs.declared.reading.Reading.{Reading}
use Rattle.records.specs.Kinds.{is_html}
use Rattle.reader.specs.Reading.{Told}
use Rattle.reader_abi.specs.declared.Answer.{Answer}

abbrev pub answer_of : Result Reading ReadFault → Answer
answer_of (Ok r) = record { refusal = 0; html = is_html r.kind; place = 0; length = r.length }
answer_of (Err f) = record { refusal = number_of f; html = false; place = place_of f; length = 0 }

-- The answer says what the reading told, and the reading left the buffer so.
abbrev pub Answered : Result (Kind × List ℕ) ReadFault → ℕ → Answer → List ℕ → Type 0
Answered told room a after = (r : Result Reading ReadFault) × (a ≡ answer_of r) × Told told room r after
