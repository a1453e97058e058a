-- Sittings worked out in page 1252, computed from the definitions.
use Rattle.std.specs.Prelude.{◌≡◌, ℕ, true, false, List, [], ◌∷◌, ◌++◌, Ok, Err, codes, Result}
use Rattle.records.specs.declared.kinds.Kind.TheVariants.{Html, Text}
use Rattle.pages.specs.Page.{byte_of}
use Rattle.pages.specs.Windows.{chars1252}
use Rattle.writer.specs.declared.faults.WriterFault.{WriterFault}
use Rattle.writer.specs.declared.faults.WriterFault.TheVariants as fault
use Rattle.writer.specs.Calls.{Ask, begin, markup, text, dress, finish}
use Rattle.writer.specs.Writers.{begun}
use Rattle.sittings.specs.Calls.{answers}
use Rattle.sittings.specs.Sittings.{Sitting, sitting, list_of}

abbrev pub in1252 : ℕ → List Ask → Sitting
in1252 space asks = sitting 1252 (byte_of chars1252) space asks

abbrev pub answers1252 : ℕ → List Ask → List (Result ℕ WriterFault)
answers1252 space asks = answers 1252 (byte_of chars1252) (begun [] space) asks

-- The headers of the two kinds.
abbrev pub html_header : List ℕ
html_header = codes "{\\rtf1\\ansi\\ansicpg1252\\fromhtml1\\deff0{\\fonttbl{\\f0\\fswiss Arial;}}\\uc1\\pard\\plain\\f0{\\*\\htmltag64}"

abbrev pub text_header : List ℕ
text_header = codes "{\\rtf1\\ansi\\ansicpg1252\\fromtext\\deff0{\\fonttbl{\\f0\\fswiss Arial;}}\\uc1\\pard\\plain\\f0 "

-- A paragraph with a euro sign and braces in it.
abbrev pub paragraph : List Ask
paragraph = begin Html ∷ markup (codes "<p>") ∷ text (0xE2 ∷ 0x82 ∷ 0xAC ∷ codes "5 {a}") ∷ markup (codes "</p>") ∷ finish ∷ []

-- Two texts with decoration between them in one record, refused calls among them, and a record that is left open.
abbrev pub mixed : List Ask
mixed = finish ∷ begin Html ∷ text (codes "a") ∷ dress (codes "{\\b ") ∷ dress (codes "\\b ") ∷ text (13 ∷ 10 ∷ 13 ∷ []) ∷ finish ∷ begin Text ∷ markup (codes "<i>") ∷ text (codes "c") ∷ []

pub record WorkedSittings : Type 0 where
  pub paragraph_bytes : (in1252 200 paragraph).moment.held ≡ html_header ++ codes "{\\*\\htmltag <p>}\\'805 \\{a\\}{\\*\\htmltag </p>}}"
  pub paragraph_told : answers1252 200 paragraph ≡ Ok 100 ∷ Ok 16 ∷ Ok 11 ∷ Ok 17 ∷ Ok 1 ∷ []
  pub paragraph_list : list_of (in1252 200 paragraph) ≡ record { kind = Html; content = codes "<p>" ++ (0xE2 ∷ 0x82 ∷ 0xAC ∷ codes "5 {a}</p>"); finished = true } ∷ []
  pub mixed_bytes : (in1252 400 mixed).moment.held ≡ html_header ++ (codes "a\\htmlrtf \\b \\htmlrtf0 \\par \\'0d}" ++ (text_header ++ codes "c"))
  pub mixed_list : list_of (in1252 400 mixed) ≡ record { kind = Html; content = 97 ∷ 13 ∷ 10 ∷ 13 ∷ []; finished = true } ∷ record { kind = Text; content = codes "c"; finished = false } ∷ []
  -- open needs space for its header and for the closing brace
  pub space_short : answers1252 100 (begin Html ∷ []) ≡ Err fault.NoSpace ∷ []
  pub space_enough : answers1252 101 (begin Html ∷ []) ≡ Ok 100 ∷ []
