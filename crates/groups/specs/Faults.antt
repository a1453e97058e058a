-- The number, the place and the layer of a fault of groups; a token's fault keeps its own.
use Rattle.std.specs.Prelude.{ℕ}
use Rattle.tokens.specs.Faults as tokens
use Rattle.layers.specs.declared.Layer.{Layer}
use Rattle.layers.specs.declared.Layer.TheVariants as layer
use Rattle.groups.specs.declared.faults.GroupFault.{GroupFault}
use Rattle.groups.specs.declared.faults.GroupFault.TheVariants.{Token, TooDeep, Unclosed}

abbrev pub number_of : GroupFault → ℕ
number_of (Token f) = tokens.number_of f
number_of (TooDeep at) = 3
number_of (Unclosed at) = 4

-- The place of the brace that opens the group.
abbrev pub place_of : GroupFault → ℕ
place_of (Token f) = tokens.place_of f
place_of (TooDeep at) = at
place_of (Unclosed at) = at

abbrev pub layer_of : GroupFault → Layer
layer_of (Token f) = tokens.layer_of f
layer_of (TooDeep at) = layer.Groups
layer_of (Unclosed at) = layer.Groups
