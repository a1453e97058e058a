-- Worked examples of taking apart, computed from the definitions.
use Rattle.std.specs.Prelude.{◌≡◌, ℕ, List, [], ◌++◌, replicate, Ok, Err, codes}
use Rattle.tokens.specs.declared.faults.Flaw.TheVariants.{NoHexDigits}
use Rattle.groups.specs.declared.faults.GroupFault.TheVariants.{Token, TooDeep, Unclosed}
use Rattle.records.specs.declared.faults.RecordFault.TheVariants.{NotRtf, Group}
use Rattle.records.specs.Apart.{first_end, record', refused, ended, series}

-- A record whose groups go n deep inside its first.
abbrev pub nested : ℕ → List ℕ
nested n = codes "{\\rtf1 " ++ replicate n 123 ++ replicate n 125 ++ codes "}"

pub record WorkedExamples : Type 0 where
  -- a digit after the six bytes, too few of them, and none at all
  pub twelve : first_end (codes "{\\rtf12}") ≡ Err NotRtf
  pub short : first_end (codes "{\\rtf") ≡ Err NotRtf
  pub none : first_end [] ≡ Err NotRtf
  -- what follows a record is not looked at, whatever it is
  pub after : first_end (codes "{\\rtf1}\\") ≡ Ok 7
  -- 64 groups, and one more
  pub deep : first_end (nested 63) ≡ Ok 134
  pub too_deep : first_end (nested 64) ≡ Err (Group (TooDeep 70))
  -- the last group opened and not closed, and not the last opened
  pub unclosed : first_end (codes "{\\rtf1{a{}") ≡ Err (Group (Unclosed 6))
  -- a fault of a token before that
  pub flawed : first_end (codes "{\\rtf1{\\'4}") ≡ Err (Group (Token (record { flaw = NoHexDigits; place = 7 })))
  -- two records and a rest that is refused, each with its place; an archive of nothing has no records
  pub archive : series 0 0 (codes "{\\rtf1{a}}{\\rtf1\\bin1 }}x") ≡ record' 0 (codes "{\\rtf1{a}}") (record' 10 (codes "{\\rtf1\\bin1 }}") (refused 24 NotRtf))
  pub nothing : series 0 0 [] ≡ ended
