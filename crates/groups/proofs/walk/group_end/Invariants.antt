use Rattle.std.proofs.Common.{◌≡◌, ◌-◌, ◌<◌, ◌≤◌, length, drop}
use Rattle.tokens.specs.Tokens.{items}
use Rattle.groups.specs.Stack.{held}
use Rattle.groups.specs.Groups.{closing, group_end}
use Rattle.groups.proofs.walk.group_end.Given as goal

-- from here the walk ends as it does from its start
abbrev pub invariant-loop-brace : goal.invariant-loop-brace
invariant-loop-brace l = (l.at ≤ length l.bytes) × (l.place < l.at) × (length l.stack.entries.now ≡ 64) × (closing (held l.stack.depth l.stack.entries.now) (items 0 l.at (drop l.at l.bytes)) ≡ group_end l.place l.bytes)

abbrev pub decreases-loop-brace : goal.decreases-loop-brace
decreases-loop-brace l = length l.bytes - l.at
