use Rattle.std.proofs.Common.{◌≡◌, ◌-◌, length}
use Rattle.reader.specs.Walk.{to_come}
use Rattle.reader.proofs.walk.Effects.next_effect.Given as goal

-- nothing that was to come has been given
abbrev pub invariant-loop-found : goal.invariant-loop-found
invariant-loop-found l = to_come l.self ≡ to_come l.initial.self

abbrev pub decreases-loop-found : goal.decreases-loop-found
decreases-loop-found l = length l.self.bytes.now - l.self.at
