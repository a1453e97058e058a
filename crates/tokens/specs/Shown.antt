-- How the code's tokens show as those of Tokens: a borrowed name as its bytes.
use Rattle.std.specs.Prelude.{ℕ, ◌+◌, ◌<◌, ◌≤◌, List, [], ◌∷◌, drop, Some, None, Ok, Err, Option, Result}
use Rattle.tokens.specs.declared.brace.Brace.{Brace}
use Rattle.tokens.specs.declared.brace.Brace.TheVariants as brace
use Rattle.tokens.specs.declared.faults.Flaw.{Flaw}
use Rattle.tokens.specs.declared.faults.TokenFault.{TokenFault}
use Rattle.tokens.specs.declared.lexer.Token.{Token}
use Rattle.tokens.specs.declared.lexer.Token.TheVariants as token
use Rattle.tokens.specs.declared.lexer.Found.{Found}
use Rattle.tokens.specs.declared.lexer.Lexeme.{Lexeme}
use Rattle.tokens.specs.declared.tokens.Tokens.{Tokens}
use Rattle.tokens.specs.Tokens.{Tok, opens, closes, word, hex, symbol, text, Front, fault, token as token_of, Item, good, bad, items}

abbrev pub shown : Token → Tok
shown token.Open = opens
shown token.Close = closes
shown (token.Word name number) = word name.now number
shown (token.Hex b) = hex b
shown (token.Symbol b) = symbol b
shown (token.Text b) = text b

-- What stands at the front of some bytes: a token with the count of bytes that it takes, or a fault.
abbrev pub shown_front : Result Lexeme Flaw → Front
shown_front (Ok l) = token_of (shown l.token) l.length
shown_front (Err f) = fault f

-- What the next token shows as: none, a token with its place, or a fault.
abbrev pub shown_next : Result (Option Found) TokenFault → Option Item
shown_next (Ok None) = None
shown_next (Ok (Some f)) = Some (good (shown f.token) f.place f.end)
shown_next (Err f) = Some (bad f)

-- What a walk gives: a token with its place, or the fault that ends it.
abbrev pub shown_item : Result Found TokenFault → Item
shown_item (Ok f) = good (shown f.token) f.place f.end
shown_item (Err f) = bad f

-- The items from a place of some bytes on; none from nowhere.
abbrev pub items_at : List ℕ → Option ℕ → List Item
items_at bytes None = []
items_at bytes (Some at) = items 0 at (drop at bytes)

-- The items that are still to come.
abbrev pub items_left : Tokens → List Item
items_left ts = items_at ts.bytes.now ts.at

-- A token lies within n bytes, at a place from `at` on, and a fault's place does too.
abbrev pub FoundFits : ℕ → ℕ → Result (Option Found) TokenFault → Type 0
FoundFits at n (Ok None) = Unit {0}
FoundFits at n (Ok (Some f)) = (at ≤ f.place) × (f.place < f.end) × (f.end ≤ n)
FoundFits at n (Err f) = (at ≤ f.place) × (f.place < n)

-- The items from a brace that was found on: it, and those of the bytes after it. Or none, or the fault.
abbrev pub brace_items : List ℕ → Result (Option Brace) TokenFault → List Item
brace_items bytes (Ok None) = []
brace_items bytes (Ok (Some (brace.Open p))) = good opens p (p + 1) ∷ items 0 (p + 1) (drop (p + 1) bytes)
brace_items bytes (Ok (Some (brace.Close p))) = good closes p (p + 1) ∷ items 0 (p + 1) (drop (p + 1) bytes)
brace_items bytes (Err f) = bad f ∷ []

-- A brace stands within n bytes, from `at` on.
abbrev pub BraceFits : ℕ → ℕ → Result (Option Brace) TokenFault → Type 0
BraceFits at n (Ok None) = Unit {0}
BraceFits at n (Ok (Some (brace.Open p))) = (at ≤ p) × (p < n)
BraceFits at n (Ok (Some (brace.Close p))) = (at ≤ p) × (p < n)
BraceFits at n (Err f) = Unit {0}
