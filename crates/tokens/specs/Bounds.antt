-- What callers need of lengths and places besides the values.
use Rattle.std.specs.Prelude.{ℕ, ◌<◌, ◌≤◌, Some, None, Ok, Err, Option, Result}
use Rattle.tokens.specs.declared.faults.Flaw.{Flaw}
use Rattle.tokens.specs.declared.lexer.Lexeme.{Lexeme}
use Rattle.tokens.specs.declared.scan.Numeral.{Numeral}

-- A number lies within n bytes.
abbrev pub NumberFits : ℕ → Result (Option Numeral) Flaw → Type 0
NumberFits n (Ok None) = Unit {0}
NumberFits n (Ok (Some v)) = v.length ≤ n
NumberFits n (Err f) = Unit {0}

-- A token takes a byte at least, and lies within n bytes.
abbrev pub LexemeFits : ℕ → Result Lexeme Flaw → Type 0
LexemeFits n (Ok l) = (0 < l.length) × (l.length ≤ n)
LexemeFits n (Err f) = Unit {0}
