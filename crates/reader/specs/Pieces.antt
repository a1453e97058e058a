-- How what the code makes of an effect shows as characters.
use Rattle.std.specs.Prelude.{ℕ, List, [], ◌∷◌, Some, None, Ok, Err, Result}
use Rattle.std.specs.Str.{chars}
use Rattle.reader.specs.declared.faults.ReadFault.{ReadFault}
use Rattle.reader.specs.declared.assemble.Piece.{Piece}
use Rattle.reader.specs.declared.assemble.Piece.TheVariants as piece
use Rattle.reader.specs.declared.assemble.Joined.{Joined}
use Rattle.reader.specs.declared.assemble.Joined.TheVariants as joined
use Rattle.reader.specs.Content.{Made}

abbrev pub characters_of : Piece → List ℕ
characters_of (piece.Character c) = c ∷ []
characters_of (piece.Text s) = chars s.now

-- A piece with no half that waits, or a half with no characters.
abbrev pub shown : Joined → Made
shown (joined.Made p) = record { characters = characters_of p; waiting = None }
shown (joined.Waits h) = record { characters = []; waiting = Some h }

abbrev pub shown_joined : Result Joined ReadFault → Result Made ReadFault
shown_joined (Ok j) = Ok (shown j)
shown_joined (Err f) = Err f
