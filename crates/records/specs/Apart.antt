-- Taking apart: the first record of some bytes, and the records of an archive.
use Rattle.std.specs.Prelude.{ℕ, zero, suc, ◌+◌, ◌-◌, Bool, true, cond, not, ◌&&◌, List, [], ◌∷◌, take, drop, Ok, Err, codes, Result}
use Rattle.std.specs.Char.{is_ascii_digit}
use Rattle.std.specs.Str.{bytes_eq}
use Rattle.groups.specs.declared.faults.GroupFault.{GroupFault}
use Rattle.groups.specs.Groups.{group_end}
use Rattle.records.specs.declared.faults.RecordFault.{RecordFault}
use Rattle.records.specs.declared.faults.RecordFault.TheVariants.{NotRtf, Group}

-- The bytes do not begin with a digit.
abbrev pub no_digit : List ℕ → Bool
no_digit [] = true
no_digit (b ∷ bs) = not (is_ascii_digit b)

-- A record begins with these six bytes, and no digit follows them.
abbrev pub is_rtf : List ℕ → Bool
is_rtf bs = bytes_eq (take 6 bs) (codes "{\\rtf1") && no_digit (drop 6 bs)

-- A fault of the groups is passed up whole.
abbrev pub passed_up : Result ℕ GroupFault → Result ℕ RecordFault
passed_up (Ok n) = Ok n
passed_up (Err f) = Err (Group f)

-- How many bytes the first record takes: up to the brace that closes its first group.
abbrev pub first_end : List ℕ → Result ℕ RecordFault
first_end bs = cond (is_rtf bs) (passed_up (group_end 0 bs)) (Err NotRtf)

-- An archive taken apart: a record with its place, and what follows it; a rest that is refused, with its place; or the end.
pub data Series : Type 0 where
  record' : ℕ → List ℕ → Series → Series
  refused : ℕ → RecordFault → Series
  ended : Series

-- The records from a place on, by the end of the first; rest gives those after a count of further bytes.
abbrev pub series_by : ℕ → List ℕ → Result ℕ RecordFault → (ℕ → Series) → Series
series_by at bs (Ok n) rest = record' at (take n bs) (rest (n - 1))
series_by at bs (Err f) rest = refused at f

-- The records of the bytes that stand at a place, after the first k bytes: the first record of each rest, until it is empty.
abbrev pub series : ℕ → ℕ → List ℕ → Series
series k at [] = ended
series (suc k) at (b ∷ bs) = series k (at + 1) bs
series zero at (b ∷ bs) = series_by at (b ∷ bs) (first_end (b ∷ bs)) (λ k. series k (at + 1) bs)
