use Rattle.std.proofs.Common.{◌≡◌, ◌*◌, ◌<◌, ◌++◌, length, take, drop}
use Rattle.std.specs.List.{flat_map}
use Rattle.sinks.specs.Cards.{front}
use Rattle.sinks.proofs.cards.CardSink.unload.Given as goal

-- The bytes of the cards so far are copied, each card's at its place, and what lies after them is as it was.
abbrev pub invariant-loop-place : goal.invariant-loop-place
invariant-loop-place l =
    let done = flat_map front (take l.place l.card-items) in
    (l.place < length l.card-items → length done ≡ 127 * l.place) × (l.out ≡ done ++ drop (length done) l.initial.out)
