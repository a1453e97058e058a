use Rattle.reader.proofs.Laws.{always_utf8, trailing_changes_nothing, places_do_not_matter, silent_adds_nothing}
use Rattle.reader.proofs.promises.laws_of_reading.Goals as goal

pub returns : goal.returns
returns c = record { utf8 = always_utf8; trailing = trailing_changes_nothing; layout = places_do_not_matter; silent = silent_adds_nothing }
