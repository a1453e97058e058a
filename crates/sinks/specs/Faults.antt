-- What each fault of a sink says of itself.
use Rattle.std.specs.Prelude.{ℕ}
use Rattle.layers.specs.declared.Layer.{Layer}
use Rattle.layers.specs.declared.Layer.TheVariants.{Sink}
use Rattle.sinks.specs.declared.faults.SinkFault.{SinkFault}
use Rattle.sinks.specs.declared.faults.SinkFault.TheVariants.{ShortBuffer}

-- The number of the refusal.
abbrev pub number_of : SinkFault → ℕ
number_of ShortBuffer = 26

-- The place in the input: there is none.
abbrev pub place_of : SinkFault → ℕ
place_of ShortBuffer = 0

-- The layer that refuses.
abbrev pub layer_of : SinkFault → Layer
layer_of ShortBuffer = Sink
