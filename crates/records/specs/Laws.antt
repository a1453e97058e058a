-- What it means that an archive comes apart, in terms of the bytes alone.
use Rattle.std.specs.Prelude.{◌≡◌, ℕ, ◌+◌, List, [], ◌∷◌, ◌++◌, length, Ok, Err}
use Rattle.std.specs.List.{flat_map, AllByRecursion}
use Rattle.records.specs.Apart.{first_end, Series, record', refused, ended, series}

-- The bytes at a place come apart so: each record is what taking apart gives of the bytes from its place on,
-- joined the records are the bytes up to where it stops, and it stops at the end or at a rest that taking apart refuses.
abbrev pub ComesApart : ℕ → List ℕ → Series → Type 0
ComesApart at bs (record' p r s) = (p ≡ at) × (first_end bs ≡ Ok (length r)) × ((rest : List ℕ) × (bs ≡ r ++ rest) × ComesApart (at + length r) rest s)
ComesApart at bs (refused p f) = (p ≡ at) × (first_end bs ≡ Err f)
ComesApart at bs ended = bs ≡ []

-- Some bytes are one record and no more.
abbrev pub IsRecord : List ℕ → Type 0
IsRecord r = first_end r ≡ Ok (length r)

-- Records, the first at a place and each right after the one before.
abbrev pub chain : ℕ → List (List ℕ) → Series
chain at [] = ended
chain at (r ∷ rs) = record' at r (chain (at + length r) rs)

-- Records put one after another come apart into themselves.
abbrev pub ComeBack : List ℕ → Type 0
ComeBack archive = (rs : List (List ℕ)) → AllByRecursion IsRecord rs → archive ≡ flat_map (λ r. r) rs → series 0 0 archive ≡ chain 0 rs
