use Rattle.groups.proofs.Held.{held_below}
use Rattle.groups.proofs.stack.Stack.pop.Goals as goal

pub returns-clause-after : goal.returns-clause-after
returns-clause-after g c = held_below c.args.self.now.entries.now c.args.self.now.depth _ c.depth.ensures.value c.in_ok-entry.entry
