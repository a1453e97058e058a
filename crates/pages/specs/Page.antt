-- A code page written down: a list of characters, where the one at place b is the character of byte b, and None where byte b has none.
use Rattle.std.specs.Prelude.{ℕ, Bool, List, Some, None, Option, ◌==◌, slice_index_or, map, position}
use Rattle.std.specs.List.{range_with_len}
use Rattle.std.specs.Option.{option_eq}

-- The character of byte b.
abbrev pub char_of : List (Option ℕ) → ℕ → Option ℕ
char_of cs b = slice_index_or cs b None

-- Whether there is a character and it is c.
abbrev pub is : Option ℕ → ℕ → Bool
is x c = option_eq ◌==◌ x (Some c)

-- The byte of character c: the first that has it.
abbrev pub byte_of : List (Option ℕ) → ℕ → Option ℕ
byte_of cs c = position (λ x. is x c) cs

-- A number of characters in a row, from c on.
abbrev pub row : ℕ → ℕ → List (Option ℕ)
row c n = map Some (range_with_len c n)
