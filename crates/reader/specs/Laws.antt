-- What holds of every reading, in terms of bytes and tokens.
use Rattle.std.specs.Prelude.{◌≡◌, ℕ, zero, suc, ◌+◌, ◌<◌, ◌≤◌, true, List, [], ◌∷◌, ◌++◌, map, length, Some, None, Ok, IsUtf8, Option}
use Rattle.std.proofs.Math.Utf8.{scalar}
use Rattle.std.specs.List.{AllByRecursion}
use Rattle.tokens.specs.Tokens.{Tok, opens, closes, word, hex, symbol, text, Item, good, bad, items}
use Rattle.records.specs.Laws.{IsRecord}
use Rattle.records.specs.declared.kinds.Kind.{Kind}
use Rattle.reader.specs.declared.state.ReadingState.{ReadingState}
use Rattle.reader.specs.Rules.{effects}
use Rattle.reader.specs.Reading.{may_trail, record_of, read_of}

-- Every character of a code page is a scalar value.
abbrev pub ScalarPage : (ℕ → Option ℕ) → Type 0
ScalarPage decoded = (b c : ℕ) → decoded b ≡ Some c → scalar c ≡ true

-- In such a page, all content that reading gives is UTF-8.
abbrev pub AlwaysUtf8 : Type 0
AlwaysUtf8 = (decoded : ℕ → Option ℕ) → ScalarPage decoded → (page room : ℕ) (bytes : List ℕ) (k : Kind) (content : List ℕ) → read_of page decoded room bytes ≡ Ok (k, content) → IsUtf8 content

-- CR, LF and NUL after a record do not change its reading, as long as they are not too many.
abbrev pub TrailingChangesNothing : Type 0
TrailingChangesNothing = (page : ℕ) (decoded : ℕ → Option ℕ) (room : ℕ) (r tail : List ℕ) → IsRecord r → AllByRecursion (λ b. may_trail b ≡ true) tail → length (r ++ tail) ≤ 32768 → read_of page decoded room (r ++ tail) ≡ read_of page decoded room r

-- The token of an item, without its places; a fault has none.
abbrev pub token_of : Item → Option Tok
token_of (good t p e) = Some t
token_of (bad f) = None

-- Two lists of items have the same tokens in the same order, wherever these stand.
abbrev pub SameTokens : List Item → List Item → Type 0
SameTokens is js = map token_of is ≡ map token_of js

-- Two records with the same tokens have the same kind and content: where the tokens stand, and so the layout between them, does not matter.
abbrev pub PlacesDoNotMatter : Type 0
PlacesDoNotMatter = (page : ℕ) (decoded : ℕ → Option ℕ) (r s : List ℕ) → IsRecord r → IsRecord s → SameTokens (items 0 0 r) (items 0 0 s) → (k : Kind) (content : List ℕ) → record_of page decoded r ≡ Ok (k, content) → record_of page decoded s ≡ Ok (k, content)

-- The items have no fault, and their groups, of which d are open at first, all close and no other; never more than room of them are open.
abbrev pub Balanced : ℕ → ℕ → List Item → Type 0
Balanced room d [] = d ≡ 0
Balanced room d (bad f ∷ is) = ⊥
Balanced room d (good opens p e ∷ is) = (d < room) × Balanced room (suc d) is
Balanced room zero (good closes p e ∷ is) = ⊥
Balanced room (suc d) (good closes p e ∷ is) = Balanced room d is
Balanced room d (good (word name v) p e ∷ is) = Balanced room d is
Balanced room d (good (hex b) p e ∷ is) = Balanced room d is
Balanced room d (good (symbol b) p e ∷ is) = Balanced room d is
Balanced room d (good (text b) p e ∷ is) = Balanced room d is

-- Once a group is silent, nothing in it has effect, groups within it and all, until it closes.
abbrev pub SilentAddsNothing : Type 0
SilentAddsNothing = (most room : ℕ) (k : Kind) (s : ReadingState) (ss : List ReadingState) (skip : ℕ) (is : List Item) (p e : ℕ) (rest : List Item) → s.silent ≡ true → length (s ∷ ss) + room ≤ most → Balanced room 0 is → effects most k (s ∷ ss) skip (is ++ good closes p e ∷ rest) ≡ effects most k ss 0 rest
