use Rattle.std.proofs.Common.{refl}
use lib.Utf8.{encode}
use Rattle.pages.specs.Windows.{chars1252}
use Rattle.reader.proofs.promises.readings_as_worked.Goals as goal

pub returns : goal.returns
unfolding chars1252 encode
returns c = record { tag = refl; no_tag = refl; switch = refl; pair = refl; lone = refl; hole = refl; unmarked = refl; fallback = refl }
