use Rattle.std.proofs.Common.{sym, ◌∙◌}
use Rattle.reader.specs.Walk.{states, most}
use Rattle.reader.proofs.Walks.{ended_effects}
use Rattle.reader.proofs.walk.Effects.next_effect.Goals as goal

pub returns : goal.returns
returns c =
    let s = c.loop-found.self in
    sym c.loop-found.invariant ∙ ended_effects s.bytes.now s.at (most s) s.kind (states s) s.skip c.in_default.ensures.value
