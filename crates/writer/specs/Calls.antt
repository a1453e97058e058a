-- What each writing call answers and leaves, by what it meets: the writer's state, and the bytes and the space of its sink.
use Rattle.std.specs.Prelude.{ℕ, ◌+◌, ◌-◌, cond, List, [], ◌∷◌, ◌++◌, length, Some, None, Ok, Err, Option, Result, nat_lt}
use Rattle.records.specs.declared.kinds.Kind.{Kind}
use Rattle.writer.specs.declared.faults.WriterFault.{WriterFault}
use Rattle.writer.specs.declared.faults.WriterFault.TheVariants as fault
use Rattle.writer.specs.declared.state.CallKind.{CallKind}
use Rattle.writer.specs.declared.state.CallKind.TheVariants as call
use Rattle.writer.specs.States.{allowed}
use Rattle.writer.specs.Pieces.{typed}
use Rattle.writer.specs.Spelling.{spelled_all}
use Rattle.writer.specs.Header.{header, tagged, dressed}
use Rattle.writer.specs.Decoration.{decoration}

-- What is asked of a writer.
pub data Ask : Type 0 where
  begin : Kind → Ask
  markup : List ℕ → Ask
  text : List ℕ → Ask
  dress : List ℕ → Ask
  finish : Ask

-- What a call meets, and what it leaves: the kind of the open record, if one is open, how many bytes the open record has, and the sink's bytes and space.
pub record Moment : Type 0 where
  pub state : Option Kind
  pub size : ℕ
  pub held : List ℕ
  pub space : ℕ

-- What a check that may refuse lets through.
abbrev pub and_then : {A B : Type 0} → Result A WriterFault → (A → Result B WriterFault) → Result B WriterFault
and_then (Ok x) f = f x
and_then (Err e) f = Err e

-- Which of the five calls is asked for.
abbrev pub call_of : Ask → CallKind
call_of (begin k) = call.Open
call_of (markup bs) = call.Markup
call_of (text bs) = call.Text
call_of (dress bs) = call.Dress
call_of finish = call.Finish

-- The bytes to put, in a code page by its number and the bytes of its characters, or why the piece is refused.
abbrev pub to_put : ℕ → (ℕ → Option ℕ) → Ask → Result (List ℕ) WriterFault
to_put page encoded (begin k) = Ok (header page k)
to_put page encoded (markup bs) = and_then (typed bs) (λ cs. Ok (tagged (spelled_all encoded cs)))
to_put page encoded (text bs) = and_then (typed bs) (λ cs. Ok (spelled_all encoded cs))
to_put page encoded (dress bs) = and_then (decoration bs) (λ _. Ok (dressed bs))
to_put page encoded finish = Ok (125 ∷ [])

-- With n bytes more and the closing brace a record has at most 32,768 bytes, and the sink has space for them.
abbrev pub room : ℕ → ℕ → ℕ → Result (Unit {0}) WriterFault
room size space n = cond (nat_lt 32768 (size + n + 1)) (Err fault.TooLong) (cond (nat_lt space (n + 1)) (Err fault.NoSpace) (Ok tt))

-- A record that begins has no bytes yet. The closing brace needs only its own byte, which is kept while a record is open,
-- so a sitting never lacks it.
abbrev pub fits : Moment → Ask → ℕ → Result (Unit {0}) WriterFault
fits m (begin k) n = room 0 m.space n
fits m (markup bs) n = room m.size m.space n
fits m (text bs) n = room m.size m.space n
fits m (dress bs) n = room m.size m.space n
fits m finish n = cond (nat_lt m.space n) (Err fault.NoSpace) (Ok tt)

-- What a call puts, or why it is refused: first by the state, then by the piece, then by the room.
abbrev pub answer : ℕ → (ℕ → Option ℕ) → Moment → Ask → Result (List ℕ) WriterFault
answer page encoded m a =
    and_then (allowed m.state (call_of a)) (λ _.
    and_then (to_put page encoded a) (λ bs.
    and_then (fits m a (length bs)) (λ _. Ok bs)))

-- The open record and the sink have these bytes more.
abbrev pub added : Moment → List ℕ → Moment
added m bs = record { state = m.state; size = m.size + length bs; held = m.held ++ bs; space = m.space - length bs }

-- What an accepted call leaves, by the bytes that it put.
abbrev pub after : Moment → Ask → List ℕ → Moment
after m (begin k) bs = record { state = Some k; size = length bs; held = m.held ++ bs; space = m.space - length bs }
after m (markup ps) bs = added m bs
after m (text ps) bs = added m bs
after m (dress ps) bs = added m bs
after m finish bs = record { state = None; size = 0; held = m.held ++ bs; space = m.space - length bs }

-- What a call leaves: a refused one leaves everything as it was.
abbrev pub left_by : Moment → Ask → Result (List ℕ) WriterFault → Moment
left_by m a (Ok bs) = after m a bs
left_by m a (Err f) = m

abbrev pub step : ℕ → (ℕ → Option ℕ) → Moment → Ask → Moment
step page encoded m a = left_by m a (answer page encoded m a)

-- What a call tells: how many bytes more the sink holds, or the refusal.
abbrev pub told : Result (List ℕ) WriterFault → Result ℕ WriterFault
told (Ok bs) = Ok (length bs)
told (Err f) = Err f
