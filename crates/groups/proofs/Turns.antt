-- One turn of the walk to a group's end, at the bytes that are left.
use Rattle.std.proofs.Common.{◌≡◌, ℕ, ◌<◌, ◌≤◌, List, [], ◌∷◌, length, drop, Ok, Err, Option, Result, unwrap_or, refl, ap, ◌∙◌}
use Rattle.std.proofs.lemmas.Bool.{cond-true, cond-false, eq-eqb, ne_eqb, lt-ltb, le-ltb}
use Rattle.tokens.specs.declared.faults.TokenFault.{TokenFault}
use Rattle.tokens.specs.declared.brace.Brace.{Brace}
use Rattle.tokens.specs.Tokens.{opens, closes, word, hex, symbol, text, Item, good, bad, items, from_brace}
use Rattle.tokens.specs.Shown.{brace_items}
use Rattle.groups.specs.declared.faults.GroupFault.{GroupFault}
use Rattle.groups.specs.declared.faults.GroupFault.TheVariants as fault
use Rattle.groups.specs.Stack.{below, top_of}
use Rattle.groups.specs.Groups.{innermost, turn, closing}

-- the items before the next brace or fault do not matter to the walk
brace_alone : (gs : List ℕ) (is : List Item) → closing gs (from_brace is) ≡ closing gs is
brace_alone gs [] = refl
brace_alone gs (bad f ∷ is) = refl
brace_alone gs (good opens p e ∷ is) = refl
brace_alone gs (good closes p e ∷ is) = refl
brace_alone gs (good (word name v) p e ∷ is) = brace_alone gs is
brace_alone gs (good (hex b) p e ∷ is) = brace_alone gs is
brace_alone gs (good (symbol b) p e ∷ is) = brace_alone gs is
brace_alone gs (good (text b) p e ∷ is) = brace_alone gs is

-- the walk from a place on, by the next brace there
pub walk_on : (bytes : List ℕ) (at : ℕ) (gs : List ℕ) (r : Result ℕ GroupFault) → closing gs (items 0 at (drop at bytes)) ≡ r → (o : Result (Option Brace) TokenFault) → brace_items bytes o ≡ from_brace (items 0 at (drop at bytes)) → closing gs (brace_items bytes o) ≡ r
walk_on bytes at gs r walk o e = ap (closing gs) e ∙ brace_alone gs (items 0 at (drop at bytes)) ∙ walk

-- what a brace does to the open groups
module _ (p e : ℕ) (gs : List ℕ) (on : List ℕ → Result ℕ GroupFault) where
  pub turn_deeper : length gs < 64 → turn opens p e gs on ≡ on (p ∷ gs)
  turn_deeper h = cond-true _ _ _ (lt-ltb _ _ h)

  pub turn_too_deep : 64 ≤ length gs → turn opens p e gs on ≡ Err (fault.TooDeep p)
  turn_too_deep h = cond-false _ _ _ (le-ltb _ _ h)

  pub turn_last : length (below gs) ≡ 0 → turn closes p e gs on ≡ Ok e
  turn_last h = cond-true _ _ _ (eq-eqb _ _ h)

  pub turn_closed : (length (below gs) ≡ 0 → ⊥) → turn closes p e gs on ≡ on (below gs)
  turn_closed h = cond-false _ _ _ (ne_eqb _ _ h)

-- the place of the last group opened is the one on top
pub innermost_top : (gs : List ℕ) → unwrap_or (top_of gs) 0 ≡ innermost gs
innermost_top [] = refl
innermost_top (p ∷ gs) = refl
