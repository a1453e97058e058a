use Rattle.std.proofs.Common.{◌≡◌}
use Rattle.std.specs.Iterator.Adapters.{take_source, take_count, map_while_source}
use Rattle.tokens.specs.Shown.{items_left}
use Rattle.tokens.specs.Tokens.{items}
use Rattle.reader.specs.Recognition.{declared}
use Rattle.reader.proofs.recognise.check_page.Given as goal

-- the search from here ends as it does from the start
abbrev pub invariant-loop-found : goal.invariant-loop-found
invariant-loop-found l = declared l.page (take_count l.found-iterator) (items_left (map_while_source (take_source l.found-iterator))) ≡ declared l.page 10 (items 0 0 l.bytes)
