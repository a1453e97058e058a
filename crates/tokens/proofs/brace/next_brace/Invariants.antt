use Rattle.std.proofs.Common.{◌≡◌, ◌-◌, ◌≤◌, length, drop}
use Rattle.tokens.specs.Tokens.{items, from_brace}
use Rattle.tokens.proofs.brace.next_brace.Given as goal

-- the first brace from here on is the first from the start on
abbrev pub invariant-loop-at : goal.invariant-loop-at
invariant-loop-at l = (l.from ≤ l.at) × (from_brace (items 0 l.at (drop l.at l.bytes)) ≡ from_brace (items 0 l.from (drop l.from l.bytes)))

abbrev pub decreases-loop-at : goal.decreases-loop-at
decreases-loop-at l = length l.bytes - l.at
