-- Worked examples of tokens, computed from the definitions.
use Rattle.std.specs.Prelude.{◌≡◌, ℕ, List, [], ◌∷◌, pos, negsuc, Some, None, codes}
use Rattle.tokens.specs.declared.faults.Flaw.{Flaw}
use Rattle.tokens.specs.declared.faults.Flaw.TheVariants.{LoneBackslash, NoHexDigits, LongName, LongNumber, BinPastEnd}
use Rattle.tokens.specs.Tokens.{opens, closes, word, hex, symbol, text, Item, good, bad, items}

-- The items of some bytes, from their start.
abbrev pub lexed : List ℕ → List Item
lexed bs = items 0 0 bs

abbrev pub flawed : Flaw → ℕ → Item
flawed f at = bad (record { flaw = f; place = at })

pub record WorkedExamples : Type 0 where
  -- braces, and a word whose number and one space belong to it
  pub words : lexed (codes "{\\par-12  x}") ≡ good opens 0 1 ∷ good (word (codes "par") (Some (negsuc 11))) 1 9 ∷ good (text 32) 9 10 ∷ good (text 120) 10 11 ∷ good closes 11 12 ∷ []
  -- case counts, and a minus without a digit is text
  pub minus : lexed (codes "\\Par-x") ≡ good (word (codes "Par") None) 0 4 ∷ good (text 45) 4 5 ∷ good (text 120) 5 6 ∷ []
  -- the bytes of \bin come after its space
  pub binary : lexed (codes "\\bin3 }}}x") ≡ good (word (codes "bin") (Some (pos 3))) 0 9 ∷ good (text 120) 9 10 ∷ []
  pub binary_none : lexed (codes "\\bin0}") ≡ good (word (codes "bin") (Some (pos 0))) 0 5 ∷ good closes 5 6 ∷ []
  pub binary_past : lexed (codes "\\bin3 }}") ≡ flawed BinPastEnd 0 ∷ []
  -- two hexadecimal digits of either case; a space after them is text
  pub digits : lexed (codes "\\'e9\\'4F ") ≡ good (hex 233) 0 4 ∷ good (hex 79) 4 8 ∷ good (text 32) 8 9 ∷ []
  pub digits_one : lexed (codes "a\\'4") ≡ good (text 97) 0 1 ∷ flawed NoHexDigits 1 ∷ []
  -- a backslash and any other byte, CR among them; raw CR and LF are no tokens
  pub symbols : lexed (codes "\\~\\\\") ≡ good (symbol 126) 0 2 ∷ good (symbol 92) 2 4 ∷ []
  pub layouts : lexed (97 ∷ 13 ∷ 10 ∷ 92 ∷ 13 ∷ 10 ∷ 98 ∷ []) ≡ good (text 97) 0 1 ∷ good (symbol 13) 3 5 ∷ good (text 98) 6 7 ∷ []
  pub lone : lexed (codes "a\\") ≡ good (text 97) 0 1 ∷ flawed LoneBackslash 1 ∷ []
  -- 32 letters, and one more
  pub names : lexed (codes "\\abcdefghijklmnopqrstuvwxyzABCDEF") ≡ good (word (codes "abcdefghijklmnopqrstuvwxyzABCDEF") None) 0 33 ∷ []
  pub names_long : lexed (codes "\\abcdefghijklmnopqrstuvwxyzABCDEFG") ≡ flawed LongName 0 ∷ []
  -- ten digits, and one more; the numbers of 32 signed bits, and one beyond them either way
  pub tens : lexed (codes "\\x0000000001") ≡ good (word (codes "x") (Some (pos 1))) 0 12 ∷ []
  pub tens_long : lexed (codes "\\x00000000001") ≡ flawed LongNumber 0 ∷ []
  pub largest : lexed (codes "\\x2147483647") ≡ good (word (codes "x") (Some (pos 2147483647))) 0 12 ∷ []
  pub larger : lexed (codes "\\x2147483648") ≡ flawed LongNumber 0 ∷ []
  pub smallest : lexed (codes "\\x-2147483648") ≡ good (word (codes "x") (Some (negsuc 2147483647))) 0 13 ∷ []
  pub smaller : lexed (codes "\\x-2147483649") ≡ flawed LongNumber 0 ∷ []
