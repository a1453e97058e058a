use Rattle.std.proofs.Common.{length, arith, rules}
use Rattle.sinks.proofs.Piles.{card_fits, all_copied}
use Rattle.sinks.proofs.cards.CardSink.unload.Goals as goal

pub slice_bounds-copy_from_slice-end : goal.slice_bounds-copy_from_slice-end
slice_bounds-copy_from_slice-end c =
    let s = c.args.self.now in
    omega (arith, card_fits s.at s.cards.now c.begun-card-items.result.now c.loop-place.place c.count-count.result (length c.loop-place.out) c.bytes-bytes.result.now c.begun-card-items.ensures c.loop-place-test.true c.bytes-bytes.ensures.value (c.loop-place.invariant.0 c.loop-place-test.true) c.count-count.ensures (omega arith))

pub returns : goal.returns
returns c =
    let s = c.args.self.now in
    record { cases = (c.count-count.ensures, all_copied s.at s.cards.now c.begun-card-items.result.now c.loop-place.place c.count-count.result _ c.loop-place.out _ c.begun-card-items.ensures c.loop-place-test.false (search rules) c.count-count.ensures c.loop-place.invariant.1) }
