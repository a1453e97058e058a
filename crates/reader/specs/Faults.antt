-- The number, the place and the layer of a reading's fault; a fault of the record, its groups or its tokens keeps its own.
use Rattle.std.specs.Prelude.{ℕ}
use Rattle.layers.specs.declared.Layer.{Layer}
use Rattle.layers.specs.declared.Layer.TheVariants as layer
use Rattle.records.specs.Faults as records
use Rattle.reader.specs.declared.faults.ReadFault.{ReadFault}
use Rattle.reader.specs.declared.faults.ReadFault.TheVariants.{Record, Trailing, NoEncapsulation, WrongPage, NoCharacter, NoUnit, LoneHalf, TooLong, ShortBuffer}

abbrev pub number_of : ReadFault → ℕ
number_of (Record f) = records.number_of f
number_of (Trailing at) = 5
number_of (NoEncapsulation at) = 6
number_of (WrongPage at) = 7
number_of (NoCharacter at) = 8
number_of (NoUnit at) = 9
number_of (LoneHalf at) = 10
number_of TooLong = 12
number_of ShortBuffer = 26

abbrev pub place_of : ReadFault → ℕ
place_of (Record f) = records.place_of f
place_of (Trailing at) = at
place_of (NoEncapsulation at) = at
place_of (WrongPage at) = at
place_of (NoCharacter at) = at
place_of (NoUnit at) = at
place_of (LoneHalf at) = at
place_of TooLong = 0
place_of ShortBuffer = 0

abbrev pub layer_of : ReadFault → Layer
layer_of (Record f) = records.layer_of f
layer_of (Trailing at) = layer.Record
layer_of (NoEncapsulation at) = layer.Record
layer_of (WrongPage at) = layer.Record
layer_of (NoCharacter at) = layer.Record
layer_of (NoUnit at) = layer.Record
layer_of (LoneHalf at) = layer.Record
layer_of TooLong = layer.Record
layer_of ShortBuffer = layer.Record
