-- How the code's calls show in the definitions, and what calls one after the other answer and leave.
use Rattle.std.specs.Prelude.{ℕ, List, [], ◌∷◌, Option, Result}
use Rattle.writer.specs.declared.faults.WriterFault.{WriterFault}
use Rattle.writer.specs.Calls.{Ask, begin, markup, text, dress, finish, Moment, answer, step, told}
use Rattle.sittings.specs.declared.calls.Call.{Call}
use Rattle.sittings.specs.declared.calls.Call.TheVariants as call

abbrev pub asked : Call → Ask
asked (call.Open k) = begin k
asked (call.Markup bs) = markup bs.now
asked (call.Text bs) = text bs.now
asked (call.Dress bs) = dress bs.now
asked call.Finish = finish

-- What calls one after the other answer, and what they leave.
abbrev pub answers : ℕ → (ℕ → Option ℕ) → Moment → List Ask → List (Result ℕ WriterFault)
answers page encoded m [] = []
answers page encoded m (a ∷ asks) = told (answer page encoded m a) ∷ answers page encoded (step page encoded m a) asks

abbrev pub left : ℕ → (ℕ → Option ℕ) → Moment → List Ask → Moment
left page encoded m [] = m
left page encoded m (a ∷ asks) = left page encoded (step page encoded m a) asks
