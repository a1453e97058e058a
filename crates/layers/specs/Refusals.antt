-- A refusal by its parts, and in print.
use Rattle.std.specs.Prelude.{ℕ, List, ◌++◌, codes, decimal}
use Rattle.layers.specs.declared.Layer.{Layer}
use Rattle.layers.specs.declared.refusal.Refusal.{Refusal}
use Rattle.layers.specs.Layers.{name_of}

abbrev pub refusal_of : ℕ → ℕ → Layer → Refusal
refusal_of number place layer = record { number = number; place = place; layer = layer }

abbrev pub told : Refusal → List ℕ
told r = codes "refused " ++ decimal r.number ++ codes " at " ++ decimal r.place ++ codes " in " ++ name_of r.layer
