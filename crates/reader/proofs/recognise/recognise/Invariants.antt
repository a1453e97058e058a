use Rattle.std.proofs.Common.{◌≡◌, ◌-◌, ◌<◌}
use Rattle.std.specs.Iterator.Adapters.{zip_first, zip_second, map_while_source}
use Rattle.tokens.specs.Shown.{items_left}
use Rattle.tokens.specs.Tokens.{items}
use Rattle.reader.specs.Recognition.{recognised}
use Rattle.reader.proofs.recognise.recognise.Given as goal

-- the search from here ends as it does from the start
abbrev pub invariant-loop-found : goal.invariant-loop-found
invariant-loop-found l =
    ((zip_second l.found-iterator).start < 10) × ((zip_second l.found-iterator).end ≡ 10) ×
    (recognised (10 - (zip_second l.found-iterator).start) (items_left (map_while_source (zip_first l.found-iterator))) ≡ recognised 10 (items 0 0 l.bytes))
