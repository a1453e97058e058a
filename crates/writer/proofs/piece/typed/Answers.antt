use Rattle.std.proofs.Common.{rules}
use Rattle.std.specs.Str.{valid_up_to}
use Rattle.writer.proofs.Sound.{typed_by}
use Rattle.writer.proofs.piece.typed.Goals as goal

pub returns : goal.returns
returns c = typed_by c.args.piece.now c.from_utf8.result c.map_err.result valid_up_to _ c.from_utf8.ensures.cases c.map_err.ensures.cases (λ e f h. search rules)
