-- Sittings: any writing calls, one after the other, each meeting writer and sink as the one before left them.
use Rattle.std.specs.Prelude.{ℕ, Bool, true, false, List, [], ◌∷◌, ◌++◌, map, Some, None, Ok, Err, Option, Result}
use Rattle.std.specs.Option.{option_map}
use Rattle.records.specs.declared.kinds.Kind.{Kind}
use Rattle.writer.specs.declared.faults.WriterFault.{WriterFault}
use Rattle.writer.specs.Calls.{Ask, begin, markup, text, dress, finish, Moment, answer, after}
use Rattle.writer.specs.Writers.{begun}

-- A record that was opened: its kind, the bytes that the sink has gained for it, and the accepted pieces of markup and text joined.
pub record Script : Type 0 where
  pub kind : Kind
  pub bytes : List ℕ
  pub content : List ℕ

-- What a sitting has come to: the writer and its sink, the finished records in order, and the open one, if one is open.
pub record Sitting : Type 0 where
  pub moment : Moment
  pub finished : List Script
  pub current : Option Script

-- A record with more bytes, and with more bytes and a piece.
abbrev pub grown : List ℕ → Script → Script
grown bs r = record { kind = r.kind; bytes = r.bytes ++ bs; content = r.content }

abbrev pub pieced : List ℕ → List ℕ → Script → Script
pieced bs piece r = record { kind = r.kind; bytes = r.bytes ++ bs; content = r.content ++ piece }

-- The finished records, and the open one as the last of them.
abbrev pub ended : List Script → Option Script → List Script
ended rs None = rs
ended rs (Some r) = rs ++ r ∷ []

-- An accepted call that put these bytes. Each accepted open begins a record, which is finished with the next accepted finish;
-- markup and text add their piece to it, and dress adds none.
abbrev pub accepted : Sitting → Ask → List ℕ → Sitting
accepted s (begin k) bs = record { moment = after s.moment (begin k) bs; finished = s.finished; current = Some (record { kind = k; bytes = bs; content = [] }) }
accepted s (markup piece) bs = record { moment = after s.moment (markup piece) bs; finished = s.finished; current = option_map (pieced bs piece) s.current }
accepted s (text piece) bs = record { moment = after s.moment (text piece) bs; finished = s.finished; current = option_map (pieced bs piece) s.current }
accepted s (dress piece) bs = record { moment = after s.moment (dress piece) bs; finished = s.finished; current = option_map (grown bs) s.current }
accepted s finish bs = record { moment = after s.moment finish bs; finished = ended s.finished (option_map (grown bs) s.current); current = None }

-- A call by its answer: a refused one changes nothing.
abbrev pub next_by : Sitting → Ask → Result (List ℕ) WriterFault → Sitting
next_by s a (Ok bs) = accepted s a bs
next_by s a (Err f) = s

-- A code page is given by its number and the bytes of its characters.
abbrev pub next : ℕ → (ℕ → Option ℕ) → Sitting → Ask → Sitting
next page encoded s a = next_by s a (answer page encoded s.moment a)

-- The calls one after the other, from some point of a sitting on.
abbrev pub goes : ℕ → (ℕ → Option ℕ) → Sitting → List Ask → Sitting
goes page encoded s [] = s
goes page encoded s (a ∷ asks) = goes page encoded (next page encoded s a) asks

-- The start of a sitting: a new writer on an empty sink that has this space.
abbrev pub start : ℕ → Sitting
start space = record { moment = begun [] space; finished = []; current = None }

abbrev pub sitting : ℕ → (ℕ → Option ℕ) → ℕ → List Ask → Sitting
sitting page encoded space asks = goes page encoded (start space) asks

-- The brace that closes a record if it is open.
abbrev pub brace_of : Option Script → List ℕ
brace_of None = []
brace_of (Some r) = 125 ∷ []

-- The sink's bytes, closed by one brace if a record is open.
abbrev pub closed : Sitting → List ℕ
closed s = s.moment.held ++ brace_of s.current

-- All records that were opened, in order, an open one closed by one brace.
abbrev pub opened : Sitting → List Script
opened s = ended s.finished (option_map (grown (125 ∷ [])) s.current)

-- What the list of a sitting tells of a record: its kind, its pieces joined, and whether it is finished.
pub record Entry : Type 0 where
  pub kind : Kind
  pub content : List ℕ
  pub finished : Bool

abbrev pub entry_of : Bool → Script → Entry
entry_of done r = record { kind = r.kind; content = r.content; finished = done }

abbrev pub open_entry : Option Script → List Entry
open_entry None = []
open_entry (Some r) = entry_of false r ∷ []

-- The list of all records opened, in order.
abbrev pub list_of : Sitting → List Entry
list_of s = map (entry_of true) s.finished ++ open_entry s.current
