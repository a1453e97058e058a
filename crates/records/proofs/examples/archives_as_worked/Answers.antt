use Rattle.std.proofs.Common.{refl}
use Rattle.records.proofs.examples.archives_as_worked.Goals as goal

pub returns : goal.returns
returns c = record {
  twelve = refl;
  short = refl;
  none = refl;
  after = refl;
  deep = refl;
  too_deep = refl;
  unclosed = refl;
  flawed = refl;
  archive = refl;
  nothing = refl;
}
