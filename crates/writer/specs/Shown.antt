-- How the code's keys, texts and pieces show in the definitions.
use Rattle.std.specs.Prelude.{ℕ, List, Ok, Err, Option, Result}
use Rattle.std.specs.Borrow.{Bor}
use Rattle.std.specs.Str.{chars}
use Rattle.writer.specs.declared.faults.WriterFault.{WriterFault}
use Rattle.writer.specs.declared.keys.Key.{Key as TypedKey}
use Rattle.writer.specs.declared.keys.Key.TheVariants.{Break, Character}
use Rattle.writer.specs.declared.keys.Keys.{Keys}
use Rattle.writer.specs.declared.piece.Piece.{Piece}
use Rattle.writer.specs.declared.piece.Piece.TheVariants.{Typed, Decoration}
use Rattle.writer.specs.Spelling.{Key, break, key, keys, spelled_all}

abbrev pub shown_key : TypedKey → Key
shown_key Break = break
shown_key (Character c) = key c

-- The keys that are still to come.
abbrev pub keys_left : Keys → List Key
keys_left ks = keys (chars ks.rest.now)

-- A text by its characters.
abbrev pub shown_text : Result (Bor (List ℕ)) WriterFault → Result (List ℕ) WriterFault
shown_text (Ok s) = Ok (chars s.now)
shown_text (Err f) = Err f

-- The bytes of a piece in a record.
abbrev pub shown_piece : (ℕ → Option ℕ) → Piece → List ℕ
shown_piece encoded (Typed text) = spelled_all encoded (chars text.now)
shown_piece encoded (Decoration bytes) = bytes.now
