-- Where there is room the write puts the entry on top; elsewhere nothing changes.
use Rattle.std.proofs.Common.{◌<◌, ◌≤◌, length, refl, ap, arith, length-set}
use Rattle.groups.specs.declared.faults.GroupFault.TheVariants.{TooDeep}
use Rattle.groups.specs.Stack as stack
use Rattle.groups.proofs.Held.{full, not_full, held_pushed}
use Rattle.groups.proofs.stack.Stack.push.Goals as goal

pub returns-then-self-room : goal.returns-then-self-room
returns-then-self-room g c =
    let xs = c.args.self.now.entries.now in
    let n = c.args.self.now.depth in
    let h : stack.room (length xs) ≤ n = omega arith in
    record { same = refl; room = refl; cases = (full xs n h, ap TooDeep c.opens.ensures, refl) }

pub returns : goal.returns
returns g c =
    let xs = c.args.self.now.entries.now in
    let n = c.args.self.now.depth in
    let x = c.args.entry in
    let h : n < stack.room (length xs) = omega arith in
    record { same = refl; room = length-set xs n x; cases = (not_full xs n h, held_pushed xs n x h) }
