-- What decoration may be: printable ASCII, sound and balanced groups, and no word of the encapsulation itself.
use Rattle.std.specs.Prelude.{◌≡◌, ℕ, ◌+◌, Bool, false, cond, ◌&&◌, ◌||◌, List, [], ◌∷◌, length, Ok, Err, codes, Result, MatchResult, nat_le, nat_lt}
use Rattle.std.specs.Str.{bytes_eq}
use Rattle.tokens.specs.declared.faults.TokenFault.{TokenFault}
use Rattle.tokens.specs.Names.{name_at}
use Rattle.tokens.specs.Tokens.{Tok, opens, closes, word, hex, symbol, text, Item, good, bad, items}
use Rattle.groups.specs.declared.faults.GroupFault.TheVariants.{Token, TooDeep}
use Rattle.writer.specs.declared.faults.WriterFault.{WriterFault}
use Rattle.writer.specs.declared.faults.WriterFault.TheVariants.{Group, Unbalanced, MarkerWord, NotPrintable}

abbrev pub is_printable : ℕ → Bool
is_printable b = nat_le 32 b && nat_le b 126

-- Each byte is from 0x20 to 0x7E; the bytes stand at a place.
abbrev pub printable : ℕ → List ℕ → Result (Unit {0}) WriterFault
printable p [] = Ok tt
printable p (b ∷ bs) = cond (is_printable b) (printable (p + 1) bs) (Err (NotPrintable p))

-- The words that only the encapsulation itself may have, and \bin.
abbrev pub markers : List (List ℕ)
markers = codes "htmlrtf" ∷ codes "htmltag" ∷ codes "mhtmltag" ∷ codes "htmlbase" ∷ codes "fromhtml" ∷ codes "fromtext" ∷ codes "bin" ∷ []

abbrev pub among : List ℕ → List (List ℕ) → Bool
among name [] = false
among name (w ∷ ws) = bytes_eq name w || among name ws

abbrev pub unless_marker : List ℕ → ℕ → Result (Unit {0}) WriterFault → Result (Unit {0}) WriterFault
unless_marker name p later = cond (among name markers) (Err (MarkerWord p)) later

-- A group opens: 63 at most, as the record's own is open around them.
abbrev pub deeper : ℕ → List ℕ → (List ℕ → Result (Unit {0}) WriterFault) → Result (Unit {0}) WriterFault
deeper p ps later = cond (nat_lt (length ps) 63) (later (p ∷ ps)) (Err (Group (TooDeep p)))

-- A group closes, which has to be one that is open.
abbrev pub shallower : ℕ → List ℕ → (List ℕ → Result (Unit {0}) WriterFault) → Result (Unit {0}) WriterFault
shallower p [] later = Err (Unbalanced p)
shallower p (q ∷ ps) later = later ps

-- One token at a place, where groups are open.
abbrev pub passed : Tok → ℕ → List ℕ → (List ℕ → Result (Unit {0}) WriterFault) → Result (Unit {0}) WriterFault
passed opens p ps later = deeper p ps later
passed closes p ps later = shallower p ps later
passed (word name v) p ps later = unless_marker name p (later ps)
passed (hex b) p ps later = later ps
passed (symbol b) p ps later = later ps
passed (text b) p ps later = later ps

-- What a token leaves open, or why it is refused, whatever comes after it.
abbrev pub Passes : Tok → ℕ → List ℕ → Result (Unit {0}) WriterFault → List ℕ → Type 0
Passes t p ps r qs = (later : List ℕ → Result (Unit {0}) WriterFault) → MatchResult r (λ _. passed t p ps later ≡ later qs) (λ f. passed t p ps later ≡ Err f)

-- A faulty token; a word that is both faulty and a marker counts as a marker.
abbrev pub faulty : List ℕ → TokenFault → Result (Unit {0}) WriterFault
faulty bs f = unless_marker (name_at f.place bs) f.place (Err (Group (Token f)))

-- The first that is wrong of the tokens of some bytes, by the groups that are open, the last opened first. A group
-- that is left open is met at the end.
abbrev pub sound : List ℕ → List ℕ → List Item → Result (Unit {0}) WriterFault
sound bs [] [] = Ok tt
sound bs (p ∷ ps) [] = Err (Unbalanced p)
sound bs ps (bad f ∷ is) = faulty bs f
sound bs ps (good t p e ∷ is) = passed t p ps (λ qs. sound bs qs is)

-- The bytes are printable, and then sound.
abbrev pub decoration_by : List ℕ → Result (Unit {0}) WriterFault → Result (Unit {0}) WriterFault
decoration_by bs (Ok u) = sound bs [] (items 0 0 bs)
decoration_by bs (Err f) = Err f

abbrev pub decoration : List ℕ → Result (Unit {0}) WriterFault
decoration bs = decoration_by bs (printable 0 bs)
