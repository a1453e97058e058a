-- The bytes around what is typed: the header of a record, and the frames of markup and of decoration.
use Rattle.std.specs.Prelude.{ℕ, List, ◌++◌, codes, decimal}
use Rattle.records.specs.declared.kinds.Kind.{Kind}
use Rattle.records.specs.declared.kinds.Kind.TheVariants.{Html, Text}

-- The word that says which kind the record encapsulates.
abbrev pub mark_of : Kind → List ℕ
mark_of Html = codes "\\fromhtml1"
mark_of Text = codes "\\fromtext"

-- What ends the header: an empty tag group, or the space of the last word.
abbrev pub start_of : Kind → List ℕ
start_of Html = codes "{\\*\\htmltag64}"
start_of Text = codes " "

-- The header of a record of a kind, in the code page of a number.
abbrev pub header : ℕ → Kind → List ℕ
header page k = codes "{\\rtf1\\ansi\\ansicpg" ++ (decimal page ++ (mark_of k ++ (codes "\\deff0{\\fonttbl{\\f0\\fswiss Arial;}}\\uc1\\pard\\plain\\f0" ++ start_of k)))

-- Markup stands in a tag group.
abbrev pub tagged : List ℕ → List ℕ
tagged bs = codes "{\\*\\htmltag " ++ (bs ++ codes "}")

-- Decoration is kept from the content.
abbrev pub dressed : List ℕ → List ℕ
dressed bs = codes "\\htmlrtf " ++ (bs ++ codes "\\htmlrtf0 ")
