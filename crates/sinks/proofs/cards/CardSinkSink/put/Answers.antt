use Rattle.std.proofs.Common.{rules}
use Rattle.sinks.proofs.Piles.{none, filled_add, whole_add}
use Rattle.sinks.proofs.cards.CardSinkSink.put.Goals as goal

pub invariant_of-self : goal.invariant_of-self
invariant_of-self c =
    let s = c.advance.new.self in
    let card = c.add.new.self in
    let place = c.has_place.ensures.0 (search rules) in
    let told = c.add.ensures in
    record {
      filled = filled_add s.at s.cards.now card place.0 (place.1 none) told.count told.beyond s.filled;
      whole = whole_add s.at s.cards.now card c.args.byte place.0 (place.1 none) told.count told.bytes s.whole;
    }
