use Rattle.std.proofs.Common.{sym, ◌∙◌}
use Rattle.writer.proofs.Decorations.{unprintable_some, unprintable_none}
use Rattle.writer.proofs.decoration.check_decoration.Goals as goal

pub returns-in-Some : goal.returns-in-Some
returns-in-Some c = sym (unprintable_some c.args.bytes.now c.in-Some.at c.in-Some.ensures)

pub returns-in-None : goal.returns-in-None
returns-in-None c = c.check_sound.ensures ∙ sym (unprintable_none c.args.bytes.now c.in-None.ensures)
