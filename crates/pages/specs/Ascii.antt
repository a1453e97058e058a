-- Code page 20127.
use Rattle.std.specs.Prelude.{ℕ, cond, Some, None, Option, nat_lt}

-- A byte below 128 has the character of the same number and such a character that byte; no other byte or character has one.
abbrev pub below128 : ℕ → Option ℕ
below128 n = cond (nat_lt n 128) (Some n) None
