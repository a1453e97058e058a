-- The rules from tokens to effects, in their order: what each token of a record does to its group, and what it adds.
use Rattle.std.specs.Prelude.{ℕ, ◌-◌, Bool, true, false, cond, not, ◌&&◌, ◌||◌, List, [], ◌∷◌, length, ℤ, pos, negsuc, Some, None, Option, ◌==◌, nat_le, nat_lt}
use Rattle.tokens.specs.Tokens.{Tok, opens, closes, word, hex, symbol, text, Item, good, bad}
use Rattle.records.specs.declared.kinds.Kind.{Kind}
use Rattle.records.specs.Kinds.{is_html}
use Rattle.reader.specs.declared.state.ReadingState.{ReadingState}
use Rattle.reader.specs.declared.words.Named.TheVariants.{Nbsp, Shy}
use Rattle.reader.specs.declared.words.Content.{Content}
use Rattle.reader.specs.declared.words.Content.TheVariants.{Break, Tab, Mark, Fallback, Unicode}
use Rattle.reader.specs.declared.words.Word.{Word}
use Rattle.reader.specs.declared.words.Word.TheVariants as w
use Rattle.reader.specs.Words.{word_of, spelled, is_htmlrtf, is_htmltag, is_silent}

-- What a token adds: a 16-bit unit, a byte of the code page, characters outright, or a number that is no unit.
pub data Effect : Type 0 where
  unit : ℕ → Effect
  byte : ℕ → Effect
  given : List ℕ → Effect
  beyond : Effect

-- What a token does: the state of its group after it, how many tokens are then skipped, and what it adds, if anything.
pub record Turn : Type 0 where
  pub state : ReadingState
  pub skip : ℕ
  pub effect : Option Effect

-- The state of the first group: no mark, and one fallback token for each unit.
abbrev pub outermost : ReadingState
outermost = record { opens = 0; silent = false; tag = false; suppressed = false; fallback = 1 }

-- A group that opens at a place copies the state around it.
abbrev pub inside : ℕ → ReadingState → ReadingState
inside p s = record { opens = p; silent = s.silent; tag = s.tag; suppressed = s.suppressed; fallback = s.fallback }

abbrev pub still : ReadingState → Turn
still s = record { state = s; skip = 0; effect = None }

abbrev pub adds : ReadingState → Effect → Turn
adds s e = record { state = s; skip = 0; effect = Some e }

-- The unit that a number stands for: itself up to 65,535, and 65,536 more from -32,768 to -1.
abbrev pub unit_of : ℤ → Effect
unit_of (pos n) = cond (nat_le n 65535) (unit n) beyond
unit_of (negsuc n) = cond (nat_lt n 32768) (unit (65535 - n)) beyond

-- \uc with a number that is not negative sets the fallback number.
abbrev pub fallback_turn : ReadingState → Option ℤ → Turn
fallback_turn s None = still s
fallback_turn s (Some (pos n)) = still (record { opens = s.opens; silent = s.silent; tag = s.tag; suppressed = s.suppressed; fallback = n })
fallback_turn s (Some (negsuc n)) = still s

-- \u with a number adds its unit, and as many tokens as the fallback number are skipped.
abbrev pub unicode_turn : ReadingState → Option ℤ → Turn
unicode_turn s None = still s
unicode_turn s (Some z) = record { state = s; skip = s.fallback; effect = Some (unit_of z) }

-- A word that means something to content.
abbrev pub content_turn : Kind → ReadingState → Content → Option ℤ → Turn
content_turn k s Break v = adds s (given (13 ∷ 10 ∷ []))
content_turn k s Tab v = adds s (given (9 ∷ []))
content_turn k s (Mark n) v = adds s (given (spelled k n))
content_turn k s Fallback v = fallback_turn s v
content_turn k s Unicode v = unicode_turn s v

abbrev pub word_turn : Kind → ReadingState → Option Word → Option ℤ → Turn
word_turn k s None v = still s
word_turn k s (Some w.Htmlrtf) v = still s
word_turn k s (Some w.Htmltag) v = still s
word_turn k s (Some w.Silent) v = still s
word_turn k s (Some (w.Content c)) v = content_turn k s c v

-- The characters of a control symbol: a backslash before CR or LF breaks the line, before a brace or a backslash gives that byte.
abbrev pub symbol_text : Kind → ℕ → Option (List ℕ)
symbol_text k b =
    cond (b == 13 || b == 10) (Some (13 ∷ 10 ∷ []))
    (cond (b == 123 || (b == 125 || b == 92)) (Some (b ∷ []))
    (cond (b == 126) (Some (spelled k Nbsp))
    (cond (b == 95) (Some (spelled k Shy)) None)))

abbrev pub text_turn : ReadingState → Option (List ℕ) → Turn
text_turn s None = still s
text_turn s (Some cs) = adds s (given cs)

abbrev pub symbol_turn : Kind → ReadingState → ℕ → Turn
symbol_turn k s b = text_turn s (symbol_text k b)

-- What a token does where nothing keeps it from having effect.
abbrev pub plain_turn : Kind → ReadingState → Tok → Turn
plain_turn k s opens = still s
plain_turn k s closes = still s
plain_turn k s (word name v) = word_turn k s (word_of name) v
plain_turn k s (hex b) = adds s (byte b)
plain_turn k s (symbol b) = symbol_turn k s b
plain_turn k s (text b) = adds s (byte b)

-- What a token means as a word, if it means anything.
abbrev pub means : Tok → Option Word
means opens = None
means closes = None
means (word name v) = word_of name
means (hex b) = None
means (symbol b) = None
means (text b) = None

abbrev pub is_star : Tok → Bool
is_star opens = false
is_star closes = false
is_star (word name v) = false
is_star (hex b) = false
is_star (symbol b) = b == 42
is_star (text b) = false

-- \htmlrtf with 0 is off, and in any other form on.
abbrev pub is_zero : Option ℤ → Bool
is_zero None = false
is_zero (Some (pos n)) = n == 0
is_zero (Some (negsuc n)) = false

abbrev pub turns_off : Tok → Bool
turns_off opens = false
turns_off closes = false
turns_off (word name v) = is_zero v
turns_off (hex b) = false
turns_off (symbol b) = false
turns_off (text b) = false

abbrev pub suppress : Bool → ReadingState → ReadingState
suppress b s = record { opens = s.opens; silent = s.silent; tag = s.tag; suppressed = b; fallback = s.fallback }

abbrev pub silence : ReadingState → ReadingState
silence s = record { opens = s.opens; silent = true; tag = s.tag; suppressed = s.suppressed; fallback = s.fallback }

abbrev pub make_tag : ReadingState → ReadingState
make_tag s = record { opens = s.opens; silent = s.silent; tag = true; suppressed = s.suppressed; fallback = s.fallback }

-- What a token other than a brace does where none is skipped; the last argument says whether \htmltag comes next.
abbrev pub turn_of : Kind → ReadingState → Tok → Bool → Turn
turn_of k s t next =
    -- in a silent group nothing has effect
    cond s.silent (still s)
    -- in HTML, while suppressed, only \htmlrtf has effect
    (cond (is_html k && (s.suppressed && not (is_htmlrtf (means t)))) (still s)
    -- in HTML outside tag groups, \htmlrtf suppresses or ceases to
    (cond (is_html k && (not s.tag && is_htmlrtf (means t))) (still (suppress (not (turns_off t)) s))
    -- outside tag groups, \* makes a tag group of HTML before \htmltag, and else silences its group
    (cond (not s.tag && is_star t) (still (cond (is_html k && next) (make_tag s) (silence s)))
    -- outside tag groups, the words of silent destinations silence their group
    (cond (not s.tag && is_silent (means t)) (still (silence s))
    (plain_turn k s t)))))

-- Whether a text byte adds itself by these rules: nothing is silent or suppressed.
abbrev pub takes_text : Kind → ReadingState → Bool
takes_text k s = not s.silent && not (is_html k && s.suppressed)

-- Whether the next token is the word \htmltag.
abbrev pub tag_next : List Item → Bool
tag_next [] = false
tag_next (bad f ∷ is) = false
tag_next (good t p e ∷ is) = is_htmltag (means t)

-- What a turn adds, with the place of its token, before what comes later.
abbrev pub added : Option Effect → ℕ → List (Effect × ℕ) → List (Effect × ℕ)
added None p later = later
added (Some x) p later = (x, p) ∷ later

-- What comes later, by the groups that are then open, the innermost first, and the tokens that are then to be skipped.
abbrev pub Later : Type 0
Later = List ReadingState → ℕ → List (Effect × ℕ)

-- A group opens, if fewer than the most are open. A brace ends any skipping.
abbrev pub opened : ℕ → ℕ → List ReadingState → Later → List (Effect × ℕ)
opened most p [] later = []
opened most p (s ∷ ss) later = cond (nat_lt (length (s ∷ ss)) most) (later (inside p s ∷ (s ∷ ss)) 0) []

-- A group closes, and the state around it is back.
abbrev pub closed : List ReadingState → Later → List (Effect × ℕ)
closed [] later = []
closed (s ∷ ss) later = later ss 0

-- A token that is no brace, at a place: skipped, or by the rules.
abbrev pub other : Kind → Tok → ℕ → Bool → List ReadingState → ℕ → Later → List (Effect × ℕ)
other k t p next [] skip later = []
other k t p next (s ∷ ss) skip later =
    cond (nat_lt 0 skip) (later (s ∷ ss) (skip - 1))
    (added (turn_of k s t next).effect p (later ((turn_of k s t next).state ∷ ss) (turn_of k s t next).skip))

-- One token in the groups that are open. Where none is left the record is at its end.
abbrev pub step : ℕ → Kind → Tok → ℕ → Bool → List ReadingState → ℕ → Later → List (Effect × ℕ)
step most k opens p next ss skip later = opened most p ss later
step most k closes p next ss skip later = closed ss later
step most k (word name v) p next ss skip later = other k (word name v) p next ss skip later
step most k (hex b) p next ss skip later = other k (hex b) p next ss skip later
step most k (symbol b) p next ss skip later = other k (symbol b) p next ss skip later
step most k (text b) p next ss skip later = other k (text b) p next ss skip later

-- The effects of the tokens to come, each with the place of its token, where at most so many groups are open.
abbrev pub effects : ℕ → Kind → List ReadingState → ℕ → List Item → List (Effect × ℕ)
effects most k ss skip [] = []
effects most k ss skip (bad f ∷ is) = []
effects most k ss skip (good t p e ∷ is) = step most k t p (tag_next is) ss skip (λ rs n. effects most k rs n is)
