-- The header of a record: its tokens, and that they add nothing.
use Rattle.std.proofs.Common.{◌≡◌, ℕ, ◌+◌, ◌^◌, ◌<◌, true, List, [], ◌∷◌, ◌++◌, length, ℤ, pos, Some, None, Ok, codes, decimal, Option, refl, ap, arith}
use Rattle.std.proofs.lemmas.Bool.{eq-eqb}
use Rattle.tokens.specs.Tokens.{Tok, opens, closes, word, symbol, text, Item, good}
use Rattle.tokens.proofs.Fronts.{stops_backslash, stops_close}
use Rattle.tokens.proofs.Lexed.{placed, Lexed, LexedBefore, lexed_then, lexed_before, lexed_close, lexed_spaced, lexed_number}
use Rattle.groups.proofs.Passes.{Level}
use Rattle.records.specs.declared.kinds.Kind.{Kind}
use Rattle.records.specs.declared.kinds.Kind.TheVariants.{Html, Text}
use Rattle.reader.specs.declared.words.Word.TheVariants as w
use Rattle.reader.specs.Words.{word_of}
use Rattle.records.specs.Apart.{is_rtf}
use Rattle.reader.specs.Recognition.{recognised, declared_by, declared}
use Rattle.reader.specs.Rules.{outermost, inside, make_tag}
use Rattle.reader.proofs.Says.{plain_outermost, Says, says_nil, says_append, says_other, says_single, says_silent_group, says_tag}
use Rattle.writer.specs.Header.{mark_of, start_of, header}

-- The tokens up to the number of the page, and that number's.
abbrev first_tokens : List (Tok × ℕ)
first_tokens = (word (codes "rtf") (Some (pos 1)), 5) ∷ (word (codes "ansi") None, 5) ∷ []

abbrev page_tokens : ℕ → List (Tok × ℕ)
page_tokens page = (word (codes "ansicpg") (Some (pos page)), 8 + length (decimal page)) ∷ []

-- The mark of the kind.
abbrev mark_tokens : Kind → List (Tok × ℕ)
mark_tokens Html = (word (codes "fromhtml") (Some (pos 1)), 10) ∷ []
mark_tokens Text = (word (codes "fromtext") None, 9) ∷ []

-- The fonts: a group that is silent.
abbrev font_tokens : List (Tok × ℕ)
font_tokens = (opens, 1) ∷ (word (codes "f") (Some (pos 0)), 3) ∷ (word (codes "fswiss") None, 8) ∷ (text 65, 1) ∷ (text 114, 1) ∷ (text 105, 1) ∷ (text 97, 1) ∷ (text 108, 1) ∷ (text 59, 1) ∷ (closes, 1) ∷ []

abbrev font_group : List (Tok × ℕ)
font_group = (opens, 1) ∷ (word (codes "fonttbl") None, 8) ∷ (font_tokens ++ (closes, 1) ∷ [])

abbrev last_tokens : List (Tok × ℕ)
last_tokens = (word (codes "uc") (Some (pos 1)), 4) ∷ (word (codes "pard") None, 5) ∷ (word (codes "plain") None, 6) ∷ []

abbrev middle_tokens : List (Tok × ℕ)
middle_tokens = (word (codes "deff") (Some (pos 0)), 6) ∷ (font_group ++ last_tokens)

-- What ends the header.
abbrev start_tokens : Kind → List (Tok × ℕ)
start_tokens Html = (word (codes "f") (Some (pos 0)), 3) ∷ (opens, 1) ∷ (symbol 42, 2) ∷ (word (codes "htmltag") (Some (pos 64)), 10) ∷ (closes, 1) ∷ []
start_tokens Text = (word (codes "f") (Some (pos 0)), 4) ∷ []

-- All tokens of a header after its brace.
unfoldable pub head_tokens : ℕ → Kind → List (Tok × ℕ)
head_tokens page k = first_tokens ++ (page_tokens page ++ (mark_tokens k ++ (middle_tokens ++ start_tokens k)))

-- The bytes of a header after its brace.
unfoldable pub head_bytes : ℕ → Kind → List ℕ
head_bytes page k = codes "\\rtf1\\ansi\\ansicpg" ++ (decimal page ++ (mark_of k ++ (codes "\\deff0{\\fonttbl{\\f0\\fswiss Arial;}}\\uc1\\pard\\plain\\f0" ++ start_of k)))

pub header_is : (page : ℕ) (k : Kind) → header page k ≡ 123 ∷ head_bytes page k
unfolding head_bytes
header_is page k = refl

-- A record begins with them.
pub head_rtf : (page : ℕ) (k : Kind) (body vs : List ℕ) → is_rtf (123 ∷ ((head_bytes page k ++ body) ++ vs)) ≡ true
unfolding head_bytes
head_rtf page k body vs = refl

-- The mark of the kind and the declared page stand among the first ten tokens.
pub head_recognised : (page : ℕ) (k : Kind) (ts : List (Tok × ℕ)) (rest : List Item) → recognised 10 (good opens 0 1 ∷ (placed 1 (head_tokens page k ++ ts) ++ rest)) ≡ Ok k
unfolding head_tokens
head_recognised page Html ts rest = refl
head_recognised page Text ts rest = refl

pub head_declared : (page : ℕ) (k : Kind) (ts : List (Tok × ℕ)) (rest : List Item) → declared page 10 (good opens 0 1 ∷ (placed 1 (head_tokens page k ++ ts) ++ rest)) ≡ Ok tt
unfolding head_tokens
head_declared page k ts rest = ap (λ b. declared_by (Some b) 11 (declared page 6 (placed (11 + (8 + length (decimal page))) ((mark_tokens k ++ (middle_tokens ++ start_tokens k)) ++ ts) ++ rest))) (eq-eqb page page refl)

first_lexed : LexedBefore 92 (codes "\\rtf1\\ansi") first_tokens
first_lexed = lexed_before 92 stops_backslash (codes "\\rtf1\\ansi") first_tokens refl refl

page_lexed : (page : ℕ) → page < 2 ^ 31 → LexedBefore 92 (codes "\\ansicpg" ++ decimal page) (page_tokens page)
page_lexed page h = lexed_number (codes "ansicpg") (omega arith) (omega arith) refl refl (pos page) h 92 stops_backslash

mark_lexed : (k : Kind) → LexedBefore 92 (mark_of k) (mark_tokens k)
mark_lexed Html = lexed_before 92 stops_backslash (codes "\\fromhtml1") (mark_tokens Html) refl refl
mark_lexed Text = lexed_before 92 stops_backslash (codes "\\fromtext") (mark_tokens Text) refl refl

middle_lexed : LexedBefore 92 (codes "\\deff0{\\fonttbl{\\f0\\fswiss Arial;}}\\uc1\\pard\\plain") middle_tokens
middle_lexed = lexed_before 92 stops_backslash (codes "\\deff0{\\fonttbl{\\f0\\fswiss Arial;}}\\uc1\\pard\\plain") middle_tokens refl refl

start_lexed : (k : Kind) → Lexed (codes "\\f0" ++ start_of k) (start_tokens k)
start_lexed Html = lexed_then 125 (codes "\\f0{\\*\\htmltag64") [] ((word (codes "f") (Some (pos 0)), 3) ∷ (opens, 1) ∷ (symbol 42, 2) ∷ (word (codes "htmltag") (Some (pos 64)), 10) ∷ []) ((closes, 1) ∷ []) (lexed_before 125 stops_close _ _ refl refl) lexed_close
start_lexed Text = lexed_spaced (codes "f0") (word (codes "f") (Some (pos 0))) refl

-- A header's bytes are these tokens, whatever follows.
pub head_lexed : (page : ℕ) → page < 2 ^ 31 → (k : Kind) → Lexed (head_bytes page k) (head_tokens page k)
unfolding head_bytes head_tokens
head_lexed page h Html =
    lexed_then 92 (codes "\\rtf1\\ansi") _ first_tokens _ first_lexed
    (lexed_then 92 (codes "\\ansicpg" ++ decimal page) _ (page_tokens page) _ (page_lexed page h)
    (lexed_then 92 (mark_of Html) _ (mark_tokens Html) _ (mark_lexed Html)
    (lexed_then 92 (codes "\\deff0{\\fonttbl{\\f0\\fswiss Arial;}}\\uc1\\pard\\plain") _ middle_tokens _ middle_lexed (start_lexed Html))))
head_lexed page h Text =
    lexed_then 92 (codes "\\rtf1\\ansi") _ first_tokens _ first_lexed
    (lexed_then 92 (codes "\\ansicpg" ++ decimal page) _ (page_tokens page) _ (page_lexed page h)
    (lexed_then 92 (mark_of Text) _ (mark_tokens Text) _ (mark_lexed Text)
    (lexed_then 92 (codes "\\deff0{\\fonttbl{\\f0\\fswiss Arial;}}\\uc1\\pard\\plain") _ middle_tokens _ middle_lexed (start_lexed Text))))

-- In a record no token of its header adds anything.
module _ (decoded : ℕ → Option ℕ) where
  nothing : (k : Kind) (name : List ℕ) (v : Option ℤ) (n : ℕ) → word_of name ≡ None → Says decoded k outermost [] ((word name v, n) ∷ []) []
  nothing k name v n e = says_other decoded k [] outermost plain_outermost n name v e

  both : (k : Kind) (ts us : List (Tok × ℕ)) → Says decoded k outermost [] ts [] → Says decoded k outermost [] us [] → Says decoded k outermost [] (ts ++ us) []
  both k ts us a b = says_append decoded k [] outermost ts us [] [] a b

  first_says : (k : Kind) → Says decoded k outermost [] first_tokens []
  first_says k = both k ((word (codes "rtf") (Some (pos 1)), 5) ∷ []) ((word (codes "ansi") None, 5) ∷ []) (nothing k (codes "rtf") (Some (pos 1)) 5 refl) (nothing k (codes "ansi") None 5 refl)

  mark_says : (k : Kind) → Says decoded k outermost [] (mark_tokens k) []
  mark_says Html = nothing Html (codes "fromhtml") (Some (pos 1)) 10 refl
  mark_says Text = nothing Text (codes "fromtext") None 9 refl

  fonts_says : (k : Kind) → Says decoded k outermost [] font_group []
  fonts_says k = says_silent_group decoded k [] outermost plain_outermost refl (codes "fonttbl") refl None 1 8 1 1 font_tokens (omega arith, refl) (omega arith)

  last_says : (k : Kind) → Says decoded k outermost [] last_tokens []
  last_says k =
      both k ((word (codes "uc") (Some (pos 1)), 4) ∷ []) ((word (codes "pard") None, 5) ∷ (word (codes "plain") None, 6) ∷ []) (says_single decoded k [] outermost plain_outermost 4)
      (both k ((word (codes "pard") None, 5) ∷ []) ((word (codes "plain") None, 6) ∷ []) (nothing k (codes "pard") None 5 refl) (nothing k (codes "plain") None 6 refl))

  middle_says : (k : Kind) → Says decoded k outermost [] middle_tokens []
  middle_says k =
      both k ((word (codes "deff") (Some (pos 0)), 6) ∷ []) (font_group ++ last_tokens) (nothing k (codes "deff") (Some (pos 0)) 6 refl)
      (both k font_group last_tokens (fonts_says k) (last_says k))

  start_says : (k : Kind) → Says decoded k outermost [] (start_tokens k) []
  start_says Html =
      both Html ((word (codes "f") (Some (pos 0)), 3) ∷ []) ((opens, 1) ∷ (symbol 42, 2) ∷ (word (codes "htmltag") (Some (pos 64)), 10) ∷ (closes, 1) ∷ []) (nothing Html (codes "f") (Some (pos 0)) 3 refl)
      (says_tag decoded [] outermost plain_outermost refl (Some (pos 64)) 1 2 10 1 [] [] (omega arith) (λ p. says_nil decoded Html (outermost ∷ []) (make_tag (inside p outermost))))
  start_says Text = nothing Text (codes "f") (Some (pos 0)) 4 refl

  pub head_says : (page : ℕ) (k : Kind) → Says decoded k outermost [] (head_tokens page k) []
  unfolding head_tokens
  head_says page k =
      both k first_tokens (page_tokens page ++ (mark_tokens k ++ (middle_tokens ++ start_tokens k))) (first_says k)
      (both k (page_tokens page) (mark_tokens k ++ (middle_tokens ++ start_tokens k)) (nothing k (codes "ansicpg") (Some (pos page)) (8 + length (decimal page)) refl)
      (both k (mark_tokens k) (middle_tokens ++ start_tokens k) (mark_says k)
      (both k middle_tokens (start_tokens k) (middle_says k) (start_says k))))

-- Its groups are closed.
pub head_level : (page : ℕ) (k : Kind) → Level 63 0 (head_tokens page k)
unfolding head_tokens
head_level page Html = (omega arith, (omega arith, (omega arith, refl)))
head_level page Text = (omega arith, (omega arith, refl))
