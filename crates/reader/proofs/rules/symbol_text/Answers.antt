use Rattle.std.proofs.Common.{sym, ap, ⊎_elim}
use Rattle.std.specs.Str.{chars}
use Rattle.reader.specs.Rules.{symbol_text}
use Rattle.reader.proofs.rules.symbol_text.Goals as goal

pub returns-in-13 : goal.returns-in-13
unfolding chars
returns-in-13 c = ⊎_elim (λ e. ap (symbol_text c.args.kind) (sym e)) (λ e. ap (symbol_text c.args.kind) (sym e)) c.in-13.is

pub returns-in-123 : goal.returns-in-123
unfolding chars
returns-in-123 c = ap (symbol_text c.args.kind) (sym c.in-123.is)

pub returns-in-125 : goal.returns-in-125
unfolding chars
returns-in-125 c = ap (symbol_text c.args.kind) (sym c.in-125.is)

pub returns-in-92 : goal.returns-in-92
unfolding chars
returns-in-92 c = ap (symbol_text c.args.kind) (sym c.in-92.is)
