-- The number, the place and the layer of a token's fault.
use Rattle.std.specs.Prelude.{ℕ}
use Rattle.layers.specs.declared.Layer.{Layer}
use Rattle.layers.specs.declared.Layer.TheVariants as layer
use Rattle.tokens.specs.declared.faults.TokenFault.{TokenFault}

-- Every fault of a token has the number 2.
abbrev pub number_of : TokenFault → ℕ
number_of f = 2

-- The place of a token's fault is that of its backslash.
abbrev pub place_of : TokenFault → ℕ
place_of f = f.place

abbrev pub layer_of : TokenFault → Layer
layer_of f = layer.Tokens
