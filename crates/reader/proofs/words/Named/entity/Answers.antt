use Rattle.std.proofs.Common.{sym, ap}
use Rattle.std.specs.Str.{chars}
use Rattle.records.specs.declared.kinds.Kind.TheVariants.{Html}
use Rattle.reader.specs.Words.{spelled}
use Rattle.reader.proofs.words.Named.entity.Goals as goal

pub returns-in-Lsquo : goal.returns-in-Lsquo
unfolding chars
returns-in-Lsquo c = ap (spelled Html) (sym c.in-Lsquo.is)

pub returns-in-Rsquo : goal.returns-in-Rsquo
unfolding chars
returns-in-Rsquo c = ap (spelled Html) (sym c.in-Rsquo.is)

pub returns-in-Ldquo : goal.returns-in-Ldquo
unfolding chars
returns-in-Ldquo c = ap (spelled Html) (sym c.in-Ldquo.is)

pub returns-in-Rdquo : goal.returns-in-Rdquo
unfolding chars
returns-in-Rdquo c = ap (spelled Html) (sym c.in-Rdquo.is)

pub returns-in-Bull : goal.returns-in-Bull
unfolding chars
returns-in-Bull c = ap (spelled Html) (sym c.in-Bull.is)

pub returns-in-Ndash : goal.returns-in-Ndash
unfolding chars
returns-in-Ndash c = ap (spelled Html) (sym c.in-Ndash.is)

pub returns-in-Mdash : goal.returns-in-Mdash
unfolding chars
returns-in-Mdash c = ap (spelled Html) (sym c.in-Mdash.is)

pub returns-in-Nbsp : goal.returns-in-Nbsp
unfolding chars
returns-in-Nbsp c = ap (spelled Html) (sym c.in-Nbsp.is)

pub returns-in-Shy : goal.returns-in-Shy
unfolding chars
returns-in-Shy c = ap (spelled Html) (sym c.in-Shy.is)
