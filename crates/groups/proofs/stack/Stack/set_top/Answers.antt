use Rattle.std.proofs.Common.{◌≡◌, ◌-◌, sym, refl, ap, ◌∙◌, arith, length-set}
use Rattle.groups.specs.Stack.{topped}
use Rattle.groups.proofs.Held.{held_some, held_topped}
use Rattle.groups.proofs.stack.Stack.set_top.Goals as goal

pub returns-then-depth-gt0 : goal.returns-then-depth-gt0
returns-then-depth-gt0 g c =
    let xs = c.args.self.now.entries.now in
    let n = c.args.self.now.depth in
    let d = c.depth-depth.result in
    let e = c.args.entry in
    let some : d ≡ 0 → ⊥ = λ z. omega (arith, c.if-depth-gt0.true) in
    record {
      same = refl;
      room = length-set xs (d - 1) e;
      after = held_topped xs n d c.depth-depth.ensures.value e some ∙ sym (ap (topped e) (held_some xs n d c.depth-depth.ensures.value e some));
    }
