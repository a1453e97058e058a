-- The words and symbols that reading knows by name.
use Rattle.std.specs.Prelude.{ℕ, Bool, true, false, cond, List, [], ◌∷◌, ◌++◌, Some, None, codes, Option}
use Rattle.std.specs.Str.{bytes_eq}
use Rattle.records.specs.declared.kinds.Kind.{Kind}
use Rattle.records.specs.declared.kinds.Kind.TheVariants.{Html, Text}
use Rattle.reader.specs.declared.words.Named.{Named}
use Rattle.reader.specs.declared.words.Named.TheVariants.{Lsquo, Rsquo, Ldquo, Rdquo, Bull, Ndash, Mdash, Nbsp, Shy}
use Rattle.reader.specs.declared.words.Content.TheVariants.{Break, Tab, Mark, Fallback, Unicode}
use Rattle.reader.specs.declared.words.Word.{Word}
use Rattle.reader.specs.declared.words.Word.TheVariants as word

-- What each name means; any other name means nothing here.
abbrev pub words : List (List ℕ × Word)
words =
    (codes "htmlrtf", word.Htmlrtf) ∷ (codes "htmltag", word.Htmltag) ∷
    (codes "par", word.Content Break) ∷ (codes "line", word.Content Break) ∷ (codes "tab", word.Content Tab) ∷
    (codes "u", word.Content Unicode) ∷ (codes "uc", word.Content Fallback) ∷
    (codes "lquote", word.Content (Mark Lsquo)) ∷ (codes "rquote", word.Content (Mark Rsquo)) ∷
    (codes "ldblquote", word.Content (Mark Ldquo)) ∷ (codes "rdblquote", word.Content (Mark Rdquo)) ∷
    (codes "bullet", word.Content (Mark Bull)) ∷ (codes "endash", word.Content (Mark Ndash)) ∷ (codes "emdash", word.Content (Mark Mdash)) ∷
    (codes "fonttbl", word.Silent) ∷ (codes "colortbl", word.Silent) ∷ (codes "stylesheet", word.Silent) ∷
    (codes "info", word.Silent) ∷ (codes "pict", word.Silent) ∷ (codes "object", word.Silent) ∷
    (codes "header", word.Silent) ∷ (codes "headerl", word.Silent) ∷ (codes "headerr", word.Silent) ∷ (codes "headerf", word.Silent) ∷
    (codes "footer", word.Silent) ∷ (codes "footerl", word.Silent) ∷ (codes "footerr", word.Silent) ∷ (codes "footerf", word.Silent) ∷
    (codes "footnote", word.Silent) ∷ (codes "pntext", word.Silent) ∷ []

-- The meaning of a name in a list of meanings, if it has one.
abbrev pub meaning : List ℕ → List (List ℕ × Word) → Option Word
meaning name [] = None
meaning name (w ∷ ws) = cond (bytes_eq name w.0) (Some w.1) (meaning name ws)

abbrev pub word_of : List ℕ → Option Word
word_of name = meaning name words

-- The character that HTML 4 names so.
abbrev pub character : Named → ℕ
character Lsquo = 0x2018
character Rsquo = 0x2019
character Ldquo = 0x201C
character Rdquo = 0x201D
character Bull = 0x2022
character Ndash = 0x2013
character Mdash = 0x2014
character Nbsp = 0x00A0
character Shy = 0x00AD

-- The name that HTML 4 gives it.
abbrev pub entity : Named → List ℕ
entity Lsquo = codes "lsquo"
entity Rsquo = codes "rsquo"
entity Ldquo = codes "ldquo"
entity Rdquo = codes "rdquo"
entity Bull = codes "bull"
entity Ndash = codes "ndash"
entity Mdash = codes "mdash"
entity Nbsp = codes "nbsp"
entity Shy = codes "shy"

-- A named character in content: itself in text, an ampersand, its name and a semicolon in HTML.
abbrev pub spelled : Kind → Named → List ℕ
spelled Text n = character n ∷ []
spelled Html n = codes "&" ++ (entity n ++ codes ";")

abbrev pub is_htmlrtf : Option Word → Bool
is_htmlrtf None = false
is_htmlrtf (Some word.Htmlrtf) = true
is_htmlrtf (Some word.Htmltag) = false
is_htmlrtf (Some word.Silent) = false
is_htmlrtf (Some (word.Content c)) = false

abbrev pub is_htmltag : Option Word → Bool
is_htmltag None = false
is_htmltag (Some word.Htmlrtf) = false
is_htmltag (Some word.Htmltag) = true
is_htmltag (Some word.Silent) = false
is_htmltag (Some (word.Content c)) = false

abbrev pub is_silent : Option Word → Bool
is_silent None = false
is_silent (Some word.Htmlrtf) = false
is_silent (Some word.Htmltag) = false
is_silent (Some word.Silent) = true
is_silent (Some (word.Content c)) = false
