-- The number, the place and the layer of a writer's fault; a fault of the groups or of a token keeps its own, and that
-- of groups that do not balance is of their layer too.
use Rattle.std.specs.Prelude.{ℕ}
use Rattle.groups.specs.Faults as groups
use Rattle.layers.specs.declared.Layer.{Layer}
use Rattle.layers.specs.declared.Layer.TheVariants as layer
use Rattle.writer.specs.declared.faults.WriterFault.{WriterFault}
use Rattle.writer.specs.declared.faults.WriterFault.TheVariants.{Group, Unbalanced, NotUtf8, MarkerWord, NotPrintable, NoneOpen, AlreadyOpen, TextOpen, NoSpace, TooLong}

abbrev pub number_of : WriterFault → ℕ
number_of (Group f) = groups.number_of f
number_of (Unbalanced at) = 14
number_of (NotUtf8 at) = 13
number_of (MarkerWord at) = 15
number_of (NotPrintable at) = 16
number_of NoneOpen = 21
number_of AlreadyOpen = 22
number_of TextOpen = 23
number_of NoSpace = 24
number_of TooLong = 25

-- A place counts the bytes of the piece; what the state or the space forbids has none.
abbrev pub place_of : WriterFault → ℕ
place_of (Group f) = groups.place_of f
place_of (Unbalanced at) = at
place_of (NotUtf8 at) = at
place_of (MarkerWord at) = at
place_of (NotPrintable at) = at
place_of NoneOpen = 0
place_of AlreadyOpen = 0
place_of TextOpen = 0
place_of NoSpace = 0
place_of TooLong = 0

abbrev pub layer_of : WriterFault → Layer
layer_of (Group f) = groups.layer_of f
layer_of (Unbalanced at) = layer.Groups
layer_of (NotUtf8 at) = layer.Writer
layer_of (MarkerWord at) = layer.Writer
layer_of (NotPrintable at) = layer.Writer
layer_of NoneOpen = layer.Writer
layer_of AlreadyOpen = layer.Writer
layer_of TextOpen = layer.Writer
layer_of NoSpace = layer.Writer
layer_of TooLong = layer.Writer
