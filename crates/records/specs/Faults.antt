-- The number, the place and the layer of a record's fault; a fault from below keeps its own.
use Rattle.std.specs.Prelude.{ℕ, ◌+◌}
use Rattle.layers.specs.declared.Layer.{Layer}
use Rattle.layers.specs.declared.Layer.TheVariants as layer
use Rattle.groups.specs.Faults as groups
use Rattle.records.specs.declared.faults.RecordFault.{RecordFault}
use Rattle.records.specs.declared.faults.RecordFault.TheVariants.{NotRtf, Group}

abbrev pub number_of : RecordFault → ℕ
number_of NotRtf = 1
number_of (Group f) = groups.number_of f

abbrev pub place_of : RecordFault → ℕ
place_of NotRtf = 0
place_of (Group f) = groups.place_of f

abbrev pub layer_of : RecordFault → Layer
layer_of NotRtf = layer.Record
layer_of (Group f) = groups.layer_of f

-- The place of a fault in an archive, by the place of the rest that it was met in.
abbrev pub place_from : ℕ → RecordFault → ℕ
place_from rest f = rest + place_of f
