use Rattle.std.proofs.Common.{◌≡◌, [], length}
use Rattle.tokens.specs.Tokens.{items}
use Rattle.tokens.specs.Shown.{items_left}
use Rattle.groups.specs.Stack.{held}
use Rattle.writer.specs.Decoration.{sound}
use Rattle.writer.proofs.decoration.check_sound.Given as goal

-- From here the walk ends as it does from its start.
abbrev pub invariant-loop-step : goal.invariant-loop-step
invariant-loop-step l = (length l.stack.entries.now ≡ 63) × (sound l.bytes (held l.stack.depth l.stack.entries.now) (items_left l.step-iterator) ≡ sound l.bytes [] (items 0 0 l.bytes))
