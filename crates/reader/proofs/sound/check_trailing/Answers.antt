use Rattle.std.proofs.Common.{◌≡◌, not, drop, position, sym, ap, ◌∙◌}
use Rattle.std.proofs.lemmas.List.{take_rest}
use Rattle.reader.specs.Reading.{may_trail, trailing}
use Rattle.reader.proofs.Checks.{told_trailing, trailing_is}
use Rattle.reader.proofs.sound.check_trailing.Goals as goal
use Rattle.reader.proofs.sound.check_trailing.Goals.{After-first_trailing}

by : (c : After-first_trailing) → told_trailing c.args.from c.first_trailing.result ≡ trailing c.args.from (drop c.args.from c.args.bytes.now)
by c =
    ap (told_trailing c.args.from) (c.first_trailing.ensures.value ∙ ap (position (λ b. not (may_trail b))) (take_rest c.args.bytes.now c.args.from))
    ∙ sym (trailing_is c.args.from (drop c.args.from c.args.bytes.now))

pub returns-in-Some : goal.returns-in-Some
returns-in-Some c = ap (told_trailing c.args.from) (sym c.in-Some.is) ∙ by (goal.at.returns-in-Some c).After-first_trailing

pub returns-in-None : goal.returns-in-None
returns-in-None c = ap (told_trailing c.args.from) (sym c.in-None.is) ∙ by (goal.at.returns-in-None c).After-first_trailing
