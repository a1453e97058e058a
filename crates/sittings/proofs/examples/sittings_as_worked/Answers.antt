use Rattle.std.proofs.Common.{refl}
use lib.Utf8.{encode}
use Rattle.std.specs.Fmt.{digits}
use Rattle.std.specs.Str.{chars}
use Rattle.pages.specs.Windows.{chars1252}
use Rattle.sittings.specs.Examples.{WorkedSittings}
use Rattle.sittings.proofs.examples.sittings_as_worked.Goals as goal

worked : WorkedSittings
unfolding digits chars encode chars1252
worked = record {
  paragraph_bytes = refl;
  paragraph_told = refl;
  paragraph_list = refl;
  mixed_bytes = refl;
  mixed_list = refl;
  space_short = refl;
  space_enough = refl;
}

pub returns : goal.returns
returns c = worked
