-- A walk through tokens whose groups all close leaves the open groups as they were.
use Rattle.std.proofs.Common.{◌≡◌, ℕ, zero, suc, ◌+◌, ◌<◌, ◌≤◌, List, [], ◌∷◌, ◌++◌, length, refl, ◌∙◌, arith}
use Rattle.std.proofs.lemmas.List.{length-append}
use Rattle.tokens.specs.Tokens.{Tok, opens, closes, word, hex, symbol, text, Item}
use Rattle.tokens.proofs.Lexed.{placed}
use Rattle.groups.specs.Groups.{closing}
use Rattle.groups.proofs.Turns.{turn_deeper, turn_closed}

-- The groups of the tokens, of which d are open at first, all close and no other; never more than room of them are open.
abbrev pub Level : ℕ → ℕ → List (Tok × ℕ) → Type 0
Level room d [] = d ≡ 0
Level room d ((opens, n) ∷ ts) = (d < room) × Level room (suc d) ts
Level room zero ((closes, n) ∷ ts) = ⊥
Level room (suc d) ((closes, n) ∷ ts) = Level room d ts
Level room d ((word name v, n) ∷ ts) = Level room d ts
Level room d ((hex b, n) ∷ ts) = Level room d ts
Level room d ((symbol b, n) ∷ ts) = Level room d ts
Level room d ((text b, n) ∷ ts) = Level room d ts

-- Level tokens are level with more room.
pub level_more : (room more : ℕ) → room ≤ more → (d : ℕ) (ts : List (Tok × ℕ)) → Level room d ts → Level more d ts
level_more room more h d [] l = l
level_more room more h d ((opens, n) ∷ ts) l = (omega (arith, l.0), level_more room more h (suc d) ts l.1)
level_more room more h zero ((closes, n) ∷ ts) l = l
level_more room more h (suc d) ((closes, n) ∷ ts) l = level_more room more h d ts l
level_more room more h d ((word name v, n) ∷ ts) l = level_more room more h d ts l
level_more room more h d ((hex b, n) ∷ ts) l = level_more room more h d ts l
level_more room more h d ((symbol b, n) ∷ ts) l = level_more room more h d ts l
level_more room more h d ((text b, n) ∷ ts) l = level_more room more h d ts l

module _ (room : ℕ) (us : List (Tok × ℕ)) (level : Level room 0 us) where
  append_from : (d : ℕ) (ts : List (Tok × ℕ)) → Level room d ts → Level room d (ts ++ us)
  append_from zero [] l = level
  append_from (suc d) [] l = absurd (omega arith)
  append_from d ((opens, n) ∷ ts) l = (l.0, append_from (suc d) ts l.1)
  append_from zero ((closes, n) ∷ ts) l = l
  append_from (suc d) ((closes, n) ∷ ts) l = append_from d ts l
  append_from d ((word name v, n) ∷ ts) l = append_from d ts l
  append_from d ((hex b, n) ∷ ts) l = append_from d ts l
  append_from d ((symbol b, n) ∷ ts) l = append_from d ts l
  append_from d ((text b, n) ∷ ts) l = append_from d ts l

-- Level tokens after level tokens are level.
pub level_append : (room : ℕ) (ts us : List (Tok × ℕ)) → Level room 0 ts → Level room 0 us → Level room 0 (ts ++ us)
level_append room ts us l k = append_from room us k 0 ts l

module _ (room n : ℕ) where
  -- one group more around them
  group_from : (d : ℕ) (ts : List (Tok × ℕ)) → Level room d ts → Level (suc room) (suc d) (ts ++ (closes, n) ∷ [])
  group_from d [] l = l
  group_from d ((opens, m) ∷ ts) l = (omega (arith, l.0), group_from (suc d) ts l.1)
  group_from zero ((closes, m) ∷ ts) l = absurd l
  group_from (suc d) ((closes, m) ∷ ts) l = group_from d ts l
  group_from d ((word name v, m) ∷ ts) l = group_from d ts l
  group_from d ((hex b, m) ∷ ts) l = group_from d ts l
  group_from d ((symbol b, m) ∷ ts) l = group_from d ts l
  group_from d ((text b, m) ∷ ts) l = group_from d ts l

-- A group around level tokens is level, with room for one more.
pub level_group : (room m n : ℕ) (ts : List (Tok × ℕ)) → Level room 0 ts → Level (suc room) 0 ((opens, m) ∷ (ts ++ (closes, n) ∷ []))
level_group room m n ts l = (omega arith, group_from room n 0 ts l)

module _ (room : ℕ) (gs : List ℕ) (enough : length gs + room ≤ 64) (some : 1 ≤ length gs) (rest : List Item) where
  -- the same where the groups hs were opened by tokens before
  passes_from : (hs : List ℕ) (at : ℕ) (ts : List (Tok × ℕ)) → Level room (length hs) ts → closing (hs ++ gs) (placed at ts ++ rest) ≡ closing gs rest
  passes_from [] at [] l = refl
  passes_from (h ∷ hs) at [] l = absurd (omega arith)
  passes_from hs at ((opens, n) ∷ ts) l =
      turn_deeper at (at + n) (hs ++ gs) (λ ks. closing ks (placed (at + n) ts ++ rest)) (omega (arith, length-append hs gs, l.0)) ∙ passes_from (at ∷ hs) (at + n) ts l.1
  passes_from [] at ((closes, n) ∷ ts) l = absurd l
  passes_from (h ∷ hs) at ((closes, n) ∷ ts) l =
      turn_closed at (at + n) (h ∷ (hs ++ gs)) (λ ks. closing ks (placed (at + n) ts ++ rest)) (λ e. omega (arith, length-append hs gs)) ∙ passes_from hs (at + n) ts l
  passes_from hs at ((word name v, n) ∷ ts) l = passes_from hs (at + n) ts l
  passes_from hs at ((hex b, n) ∷ ts) l = passes_from hs (at + n) ts l
  passes_from hs at ((symbol b, n) ∷ ts) l = passes_from hs (at + n) ts l
  passes_from hs at ((text b, n) ∷ ts) l = passes_from hs (at + n) ts l

  -- The walk goes on behind level tokens as if they were not there.
  pub level_passes : (at : ℕ) (ts : List (Tok × ℕ)) → Level room 0 ts → closing gs (placed at ts ++ rest) ≡ closing gs rest
  level_passes at ts l = passes_from [] at ts l
