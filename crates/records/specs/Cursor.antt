-- What is still to come from a cursor over an archive, and what one step gives of it.
use Rattle.std.specs.Prelude.{◌≡◌, ℕ, ◌+◌, List, drop, Some, None, Ok, Err, Option, Result}
use Rattle.records.specs.declared.archive_fault.ArchiveFault.{ArchiveFault}
use Rattle.records.specs.declared.archive.Records.{Records}
use Rattle.records.specs.declared.parts.Part.{Part}
use Rattle.records.specs.Faults.{place_from}
use Rattle.records.specs.Apart.{Series, record', refused, ended, series}

-- The records from a place of an archive on; none from nowhere.
abbrev pub series_at : List ℕ → Option ℕ → Series
series_at archive None = ended
series_at archive (Some at) = series 0 at (drop at archive)

-- The records that are still to come.
abbrev pub to_come : Records → Series
to_come s = series_at s.archive.now s.at

-- A step gives the first of what was to come, and leaves the others.
abbrev pub Gives : Series → Option (Result Part ArchiveFault) → Series → Type 0
Gives before None after = (before ≡ ended) × (after ≡ ended)
Gives before (Some (Ok p)) after = before ≡ record' p.place p.bytes.now after
Gives before (Some (Err f)) after = (before ≡ refused f.rest f.fault) × (f.place ≡ place_from f.rest f.fault) × (after ≡ ended)

-- How many steps are still to come.
abbrev pub steps : Series → ℕ
steps (record' p r s) = 1 + steps s
steps (refused p f) = 1
steps ended = 0
