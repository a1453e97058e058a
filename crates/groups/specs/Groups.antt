-- The walk through the tokens of a group to the brace that closes it.
use Rattle.std.specs.Prelude.{ℕ, ◌+◌, cond, List, [], ◌∷◌, length, drop, Ok, Err, Result, ◌==◌, nat_lt}
use Rattle.tokens.specs.Tokens.{Tok, opens, closes, word, hex, symbol, text, Item, good, bad, items}
use Rattle.groups.specs.declared.faults.GroupFault.{GroupFault}
use Rattle.groups.specs.declared.faults.GroupFault.TheVariants.{Token, TooDeep, Unclosed}
use Rattle.groups.specs.Stack.{below}

-- The place of the last group opened, of the places of the open groups, the last opened first.
abbrev pub innermost : List ℕ → ℕ
innermost [] = 0
innermost (p ∷ ps) = p

-- One token with its place and end, where groups are open: at most 64 are, and the walk ends where none is left.
abbrev pub turn : Tok → ℕ → ℕ → List ℕ → (List ℕ → Result ℕ GroupFault) → Result ℕ GroupFault
turn opens p e gs on = cond (nat_lt (length gs) 64) (on (p ∷ gs)) (Err (TooDeep p))
turn closes p e gs on = cond (length (below gs) == 0) (Ok e) (on (below gs))
turn (word name v) p e gs on = on gs
turn (hex b) p e gs on = on gs
turn (symbol b) p e gs on = on gs
turn (text b) p e gs on = on gs

-- The end of the brace that leaves no group open, where the tokens to come are known.
abbrev pub closing : List ℕ → List Item → Result ℕ GroupFault
closing gs [] = Err (Unclosed (innermost gs))
closing gs (bad f ∷ is) = Err (Token f)
closing gs (good t p e ∷ is) = turn t p e gs (λ hs. closing hs is)

-- The end of the group that opens at a place: its brace stands there, and its tokens follow.
abbrev pub group_end : ℕ → List ℕ → Result ℕ GroupFault
group_end at bytes = closing (at ∷ []) (items 0 (at + 1) (drop (at + 1) bytes))
