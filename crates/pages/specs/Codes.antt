-- A page's entries as numbers, among which a character is sought.
use Rattle.std.specs.Prelude.{ℕ, List, Some, None, Option, ◌==◌, position, slice_range}

-- The code of an entry: the character, or for none a surrogate, which no character is.
abbrev pub code_of : Option ℕ → ℕ
code_of None = 0xD800
code_of (Some c) = c

-- The place of c among the codes of the bytes from 128 on, counted from there: the first at which it stands.
abbrev pub upper_place : List ℕ → ℕ → Option ℕ
upper_place ns c = position (λ n. n == c) (slice_range ns 128 256)
