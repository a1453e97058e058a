-- The layers' names in print.
use Rattle.std.specs.Prelude.{ℕ, List, codes}
use Rattle.layers.specs.declared.Layer.{Layer}
use Rattle.layers.specs.declared.Layer.TheVariants.{Tokens, Groups, Record, Writer, Sink}

abbrev pub name_of : Layer → List ℕ
name_of Tokens = codes "tokens"
name_of Groups = codes "groups"
name_of Record = codes "record"
name_of Writer = codes "writer"
name_of Sink = codes "sink"
