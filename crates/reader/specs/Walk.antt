-- What is still to come from a walk through a record.
use Rattle.std.specs.Prelude.{◌≡◌, ℕ, ◌+◌, Bool, false, cond, ◌&&◌, List, [], ◌∷◌, length, take, drop, Some, None, Option, ◌==◌}
use Rattle.std.specs.List.{prefix_len}
use Rattle.tokens.specs.Tokens.{Item, items, is_plain}
use Rattle.groups.specs.Stack.{held, room}
use Rattle.reader.specs.declared.walk.Effects.{Effects}
use Rattle.reader.specs.declared.walk.Placed.{Placed}
use Rattle.records.specs.declared.kinds.Kind.{Kind}
use Rattle.reader.specs.declared.state.ReadingState.{ReadingState}
use Rattle.reader.specs.Rules.{Effect, byte, Later, takes_text, effects}
use Rattle.reader.specs.Shown.{shown_effect}

-- The states of the open groups, the innermost first, and the tokens from the walk's place on.
abbrev pub states : Effects → List ReadingState
states s = held s.states.depth s.states.entries.now

abbrev pub rest : Effects → List Item
rest s = items 0 s.at (drop s.at s.bytes.now)

-- How many groups may be open.
abbrev pub most : Effects → ℕ
most s = room (length s.states.entries.now)

-- What comes from the walk's place on, by the states and the tokens to skip.
abbrev pub from : Effects → Later
from s = λ ss n. effects (most s) s.kind ss n (rest s)

abbrev pub to_come : Effects → List (Effect × ℕ)
to_come s = from s (states s) s.skip

-- A step gives the first of what was to come, and leaves the others.
abbrev pub Gives : List (Effect × ℕ) → Option Placed → List (Effect × ℕ) → Type 0
Gives before None after = before ≡ []
Gives before (Some x) after = before ≡ (shown_effect x.effect, x.place) ∷ after

-- Whether a text byte adds itself, by the states of the open groups and the tokens to skip.
abbrev pub in_text : Kind → List ReadingState → ℕ → Bool
in_text k [] skip = false
in_text k (s ∷ ss) skip = skip == 0 && takes_text k s

-- The plain text that comes next, where text has effect.
abbrev pub text_run : Effects → List ℕ
text_run s = cond (in_text s.kind (states s) s.skip) (take (prefix_len is_plain (drop s.at s.bytes.now)) (drop s.at s.bytes.now)) []

-- The bytes that stand at a place, one after the other, each an effect.
abbrev pub as_bytes : ℕ → List ℕ → List (Effect × ℕ)
as_bytes p [] = []
as_bytes p (b ∷ bs) = (byte b, p) ∷ as_bytes (p + 1) bs
