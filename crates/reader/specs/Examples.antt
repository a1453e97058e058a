-- Worked readings in page 1252, computed from the definitions.
use Rattle.std.specs.Prelude.{◌≡◌, ℕ, List, [], ◌∷◌, ◌++◌, Ok, Err, codes, Result}
use Rattle.reader.specs.declared.faults.ReadFault.{ReadFault}
use Rattle.reader.specs.declared.faults.ReadFault.TheVariants.{NoEncapsulation, NoCharacter, LoneHalf}
use Rattle.pages.specs.Page.{char_of}
use Rattle.pages.specs.Windows.{chars1252}
use Rattle.records.specs.declared.kinds.Kind.{Kind}
use Rattle.records.specs.declared.kinds.Kind.TheVariants.{Html, Text}
use Rattle.reader.specs.Reading.{read_of}

-- What is read in page 1252, with much room.
abbrev pub read_in1252 : List ℕ → Result (Kind × List ℕ) ReadFault
read_in1252 bytes = read_of 1252 (char_of chars1252) 98304 bytes

-- A record of HTML, and one of text, by what follows the mark.
abbrev pub html : List ℕ → List ℕ
html body = codes "{\\rtf1\\ansi\\ansicpg1252\\fromhtml1 " ++ body

abbrev pub plain : List ℕ → List ℕ
plain body = codes "{\\rtf1\\ansi\\ansicpg1252\\fromtext " ++ body

pub record WorkedReadings : Type 0 where
  -- a tag group gives what it holds, and to a text it is silent
  pub tag : read_in1252 (html (codes "{\\*\\htmltag <b>}ok}")) ≡ Ok (Html, codes "<b>ok")
  pub no_tag : read_in1252 (plain (codes "{\\*\\htmltag <b>}c}")) ≡ Ok (Text, codes "c")
  -- each group has its own switch
  pub switch : read_in1252 (html (codes "{\\htmlrtf a{\\htmlrtf0 b}c}d}")) ≡ Ok (Html, codes "bd")
  -- two halves directly one after the other are U+1F600; one without its second
  pub pair : read_in1252 (html (codes "\\u-10179?\\u-8704?}")) ≡ Ok (Html, 0xF0 ∷ 0x9F ∷ 0x98 ∷ 0x80 ∷ [])
  pub lone : read_in1252 (html (codes "\\u-10179?z}")) ≡ Err (LoneHalf 34)
  -- a byte that has no character
  pub hole : read_in1252 (html (codes "\\'81}")) ≡ Err (NoCharacter 34)
  -- a mark without its number
  pub unmarked : read_in1252 (codes "{\\rtf1\\ansi\\fromhtml x}") ≡ Err (NoEncapsulation 21)
  -- a fallback is skipped whatever it is: the euro sign U+20AC, and y
  pub fallback : read_in1252 (html (codes "\\u8364\\htmlrtf y}")) ≡ Ok (Html, 0xE2 ∷ 0x82 ∷ 0xAC ∷ codes "y")
