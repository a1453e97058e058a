-- What a writer and its sink are to a call, and what a call does to them.
use Rattle.std.specs.Prelude.{◌≡◌, ℕ, List, ◌++◌, None, Ok, Option, Result, OnErr}
use Rattle.writer.specs.declared.faults.WriterFault.{WriterFault}
use Rattle.records.specs.declared.kinds.Kind.{Kind}
use Rattle.writer.specs.declared.piece.Frame.{Frame}
use Rattle.writer.specs.declared.writer.Writer.{Writer}
use Rattle.writer.specs.Calls.{Ask, Moment, and_then, room, answer, left_by, told}

-- A moment by its parts.
abbrev pub moment : Option Kind → ℕ → List ℕ → ℕ → Moment
moment state size held space = record { state = state; size = size; held = held; space = space }

-- The moment of a writer, by the meaning of its sink: the bytes held and the space left.
abbrev pub moment_of : {P S : Type 0} → (S → List ℕ) → (S → ℕ) → Writer P S → Moment
moment_of held space w = moment w.state w.size (held w.sink) (space w.sink)

-- The moment of a new writer.
abbrev pub begun : List ℕ → ℕ → Moment
begun held space = moment None 0 held space

-- A call, in a code page by its number and the bytes of its characters, told and left what it has to.
pub record Served (page : ℕ) (encoded : ℕ → Option ℕ) (ask : Ask) (before : Moment) (r : Result ℕ WriterFault) (after : Moment) : Type 0 where
  pub tells : r ≡ told (answer page encoded before ask)
  pub leaves : after ≡ left_by before ask (answer page encoded before ask)

-- A call on a writer, in the meaning of its code page and of its sink. It keeps the page, and one that is refused changes nothing at all.
pub record Serves {P S : Type 0} (number : P → ℕ) (encoded : P → ℕ → Option ℕ) (held : S → List ℕ) (space : S → ℕ) (ask : Ask) (before : Writer P S) (r : Result ℕ WriterFault) (after : Writer P S) : Type 0 where
  pub served : Served (number before.page) (encoded before.page) ask (moment_of held space before) r (moment_of held space after)
  pub page : after.page ≡ before.page
  pub untouched : OnErr r (after ≡ before)

-- So many bytes, if there is room for them.
abbrev pub measured : ℕ → ℕ → ℕ → Result ℕ WriterFault
measured size space n = and_then (room size space n) (λ _. Ok n)

-- Bytes in a frame.
abbrev pub framed : Frame → List ℕ → List ℕ
framed f bs = f.front.now ++ (bs ++ f.back.now)
