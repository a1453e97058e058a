-- What a pile of cards holds, has space for, and gives back.
use Rattle.std.specs.Prelude.{◌≡◌, ℕ, ◌-◌, ◌<◌, List, ◌++◌, length, drop, Ok, Err, Result}
use Rattle.sinks.specs.declared.cards.CardSink.{CardSink}
use Rattle.sinks.specs.declared.faults.SinkFault.{SinkFault}
use Rattle.sinks.specs.Cards.{zeros, dealt, room_in}

-- What a card sink holds.
abbrev pub loaded : CardSink → List ℕ
loaded s = dealt s.at s.cards.now

-- What a card sink has space for.
abbrev pub room : CardSink → ℕ
room s = room_in (drop s.at s.cards.now)

-- The held bytes stand at the start of a buffer of `size` bytes, with zeros after them, or do not fit and leave zeros.
abbrev pub Unloaded : List ℕ → ℕ → Result ℕ SinkFault → List ℕ → Type 0
Unloaded held size (Ok n) after = (n ≡ length held) × (after ≡ held ++ zeros (size - n))
Unloaded held size (Err e) after = (size < length held) × (after ≡ zeros size)
