use Rattle.std.proofs.Common.{arith, rules, ap, length}
use Rattle.sinks.proofs.Piles.{filled_advance, dealt_advance, room_advance, full_here}
use Rattle.sinks.proofs.cards.CardSink.advance.Goals as goal

pub invariant_of-self : goal.invariant_of-self
invariant_of-self c =
    let s = c.args.self.now in
    let full = full_here s.at s.cards.now c.if-self.true s.filled (λ h. search rules) in
    record {
      filled = filled_advance s.at s.cards.now c.if-self.true full s.filled;
      whole = omega (arith, ap length (dealt_advance s.at s.cards.now c.if-self.true s.filled), room_advance s.at s.cards.now c.if-self.true full s.filled, s.whole);
    }
