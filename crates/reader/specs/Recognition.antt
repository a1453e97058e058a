-- Which kind a record encapsulates, and which code page it declares, by its first ten tokens.
use Rattle.std.specs.Prelude.{ℕ, zero, suc, ◌-◌, Bool, true, false, cond, ◌&&◌, List, [], ◌∷◌, ℤ, pos, negsuc, Some, None, Ok, Err, codes, Option, Result, ◌==◌, nat_le}
use Rattle.std.specs.Str.{bytes_eq}
use Rattle.tokens.specs.Tokens.{Tok, opens, closes, word, hex, symbol, text, Item, good, bad}
use Rattle.reader.specs.declared.faults.ReadFault.{ReadFault}
use Rattle.reader.specs.declared.faults.ReadFault.TheVariants.{NoEncapsulation, WrongPage}
use Rattle.records.specs.declared.kinds.Kind.{Kind}
use Rattle.records.specs.declared.kinds.Kind.TheVariants.{Html, Text}
use Rattle.reader.specs.declared.recognise.Sign.{Sign}
use Rattle.reader.specs.declared.recognise.Sign.TheVariants.{Mark, Pass, Stop}

abbrev pub is_one : Option ℤ → Bool
is_one None = false
is_one (Some (pos n)) = n == 1
is_one (Some (negsuc n)) = false

abbrev pub is_none : Option ℤ → Bool
is_none None = true
is_none (Some z) = false

-- The mark of a kind: \fromhtml with the number 1, or \fromtext with no number.
abbrev pub mark_of : List ℕ → Option ℤ → Option Kind
mark_of name v = cond (bytes_eq name (codes "fromhtml") && is_one v) (Some Html) (cond (bytes_eq name (codes "fromtext") && is_none v) (Some Text) None)

-- What a token is where a mark is looked for: the mark of a kind, a token to pass over, or one behind which no mark counts.
abbrev pub word_sign : Option Kind → Sign
word_sign None = Pass
word_sign (Some k) = Mark k

abbrev pub sign_of : Tok → Sign
sign_of opens = Pass
sign_of closes = Stop
sign_of (word name v) = word_sign (mark_of name v)
sign_of (hex b) = Stop
sign_of (symbol b) = Stop
sign_of (text b) = Stop

-- One token, of at most n that are looked at.
abbrev pub found : Sign → ℕ → ℕ → Result Kind ReadFault → Result Kind ReadFault
found (Mark k) n p later = Ok k
found Pass n p later = cond (nat_le n 1) (Err (NoEncapsulation p)) later
found Stop n p later = Err (NoEncapsulation p)

-- The kind by the first mark among n tokens. (A record's closing brace ends it, so it does not come to the tokens' end.)
abbrev pub recognised : ℕ → List Item → Result Kind ReadFault
recognised n [] = Err (NoEncapsulation 0)
recognised n (bad f ∷ is) = Err (NoEncapsulation 0)
recognised n (good t p e ∷ is) = found (sign_of t) n p (recognised (n - 1) is)

-- Whether a number is that of a page.
abbrev pub is_page : ℕ → Option ℤ → Bool
is_page page None = false
is_page page (Some (pos n)) = n == page
is_page page (Some (negsuc n)) = false

-- Whether a token declares a page, and then whether it is the given one.
abbrev pub declares : ℕ → Tok → Option Bool
declares page opens = None
declares page closes = None
declares page (word name v) = cond (bytes_eq name (codes "ansicpg")) (Some (is_page page v)) None
declares page (hex b) = None
declares page (symbol b) = None
declares page (text b) = None

abbrev pub declared_by : Option Bool → ℕ → Result (Unit {0}) ReadFault → Result (Unit {0}) ReadFault
declared_by None p later = later
declared_by (Some true) p later = Ok tt
declared_by (Some false) p later = Err (WrongPage p)

-- The first \ansicpg among n tokens declares the page, and it is the given one.
abbrev pub declared : ℕ → ℕ → List Item → Result (Unit {0}) ReadFault
declared page zero is = Err (WrongPage 0)
declared page (suc n) [] = Err (WrongPage 0)
declared page (suc n) (bad f ∷ is) = Err (WrongPage 0)
declared page (suc n) (good t p e ∷ is) = declared_by (declares page t) p (declared page n is)
