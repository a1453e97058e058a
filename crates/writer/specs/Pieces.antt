-- What a piece is that a candidate typed: UTF-8, or refused at the first byte that starts no sequence.
use Rattle.std.specs.Prelude.{ℕ, zero, suc, Bool, cond, ◌&&◌, List, length, take, Some, None, Ok, Err, Option, Result, nat_lt}
use Rattle.std.proofs.Math.Utf8.{scalars, encodes}
use Rattle.std.specs.Str.{chars, bytes_eq}
use Rattle.writer.specs.declared.faults.WriterFault.{WriterFault}
use Rattle.writer.specs.declared.faults.WriterFault.TheVariants.{NotUtf8}

-- Whether bytes are UTF-8: the encoding of the scalar values that they decode to.
abbrev pub is_utf8 : List ℕ → Bool
is_utf8 bs = scalars (chars bs) && bytes_eq (encodes (chars bs)) bs

-- How long the longest front of at most n bytes is that is UTF-8.
abbrev pub sound_front : ℕ → List ℕ → ℕ
sound_front zero bs = 0
sound_front (suc n) bs = cond (is_utf8 (take (suc n) bs)) (suc n) (sound_front n bs)

-- The characters of a piece, or the place of the first byte that starts no sequence: the longest sound front ends there.
abbrev pub typed : List ℕ → Result (List ℕ) WriterFault
typed bs = cond (is_utf8 bs) (Ok (chars bs)) (Err (NotUtf8 (sound_front (length bs) bs)))

-- A number that is at most another, or none.
abbrev pub at_most : ℕ → ℕ → Option ℕ
at_most most n = cond (nat_lt most n) None (Some n)
