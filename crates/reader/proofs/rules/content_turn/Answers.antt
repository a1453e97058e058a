use Rattle.std.proofs.Common.{sym, ap, ◌∙◌}
use Rattle.std.specs.Str.{chars}
use Rattle.reader.specs.Rules.{content_turn}
use Rattle.reader.proofs.rules.content_turn.Goals as goal

pub returns-in-Break : goal.returns-in-Break
unfolding chars
returns-in-Break c = c.adds.ensures c.args.state ∙ ap (λ x. content_turn c.args.kind c.args.state x c.args.number) (sym c.in-Break.is)

pub returns-in-Tab : goal.returns-in-Tab
unfolding chars
returns-in-Tab c = c.adds-in-Tab.ensures c.args.state ∙ ap (λ x. content_turn c.args.kind c.args.state x c.args.number) (sym c.in-Tab.is)
