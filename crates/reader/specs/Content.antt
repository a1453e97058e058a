-- From effects to characters: pairs of halves, and bytes in the code page.
use Rattle.std.specs.Prelude.{ℕ, ◌+◌, ◌*◌, ◌%◌, Bool, cond, ◌&&◌, List, [], ◌∷◌, ◌++◌, Some, None, Ok, Err, Option, Result, nat_le}
use Rattle.reader.specs.declared.faults.ReadFault.{ReadFault}
use Rattle.reader.specs.declared.faults.ReadFault.TheVariants.{NoCharacter, NoUnit, LoneHalf}
use Rattle.reader.specs.declared.assemble.Half.{Half}
use Rattle.reader.specs.Rules.{Effect, unit, byte, given, beyond}

-- The first and the second half of a character beyond 65,535.
abbrev pub is_high : ℕ → Bool
is_high u = nat_le 0xD800 u && nat_le u 0xDBFF

abbrev pub is_low : ℕ → Bool
is_low u = nat_le 0xDC00 u && nat_le u 0xDFFF

-- The character of two halves: the ten low bits of each, in their order.
abbrev pub pair_of : ℕ → ℕ → ℕ
pair_of h l = 0x10000 + ((h % 0x400) * 0x400 + l % 0x400)

-- What one effect makes: characters, and a half that waits for its second.
pub record Made : Type 0 where
  pub characters : List ℕ
  pub waiting : Option Half

abbrev pub making : List ℕ → Result Made ReadFault
making cs = Ok (record { characters = cs; waiting = None })

-- A unit where no half waits.
abbrev pub alone : ℕ → ℕ → Result Made ReadFault
alone u p = cond (is_high u) (Ok (record { characters = []; waiting = Some (record { unit = u; place = p }) })) (cond (is_low u) (Err (LoneHalf p)) (making (u ∷ [])))

-- A byte by its character in the code page.
abbrev pub read : Option ℕ → ℕ → Result Made ReadFault
read None p = Err (NoCharacter p)
read (Some c) p = making (c ∷ [])

-- An effect directly after a half: only the second half completes it.
abbrev pub second : Half → Effect → Result Made ReadFault
second h (unit u) = cond (is_low u) (making (pair_of h.unit u ∷ [])) (Err (LoneHalf h.place))
second h (byte b) = Err (LoneHalf h.place)
second h (given cs) = Err (LoneHalf h.place)
second h beyond = Err (LoneHalf h.place)

-- An effect at a place, in a code page, where no half waits.
abbrev pub first : (ℕ → Option ℕ) → Effect → ℕ → Result Made ReadFault
first decoded (unit u) p = alone u p
first decoded (byte b) p = read (decoded b) p
first decoded (given cs) p = making cs
first decoded beyond p = Err (NoUnit p)

abbrev pub make : (ℕ → Option ℕ) → Option Half → Effect → ℕ → Result Made ReadFault
make decoded (Some h) e p = second h e
make decoded None e p = first decoded e p

-- Characters before what comes later.
abbrev pub before : List ℕ → Result (List ℕ) ReadFault → Result (List ℕ) ReadFault
before cs (Ok ds) = Ok (cs ++ ds)
before cs (Err f) = Err f

abbrev pub onward : Result Made ReadFault → (Option Half → Result (List ℕ) ReadFault) → Result (List ℕ) ReadFault
onward (Ok m) later = before m.characters (later m.waiting)
onward (Err f) later = Err f

-- The characters of the effects to come, or the leftmost fault. A half that waits at the end is a lone half.
abbrev pub characters : (ℕ → Option ℕ) → Option Half → List (Effect × ℕ) → Result (List ℕ) ReadFault
characters decoded None [] = Ok []
characters decoded (Some h) [] = Err (LoneHalf h.place)
characters decoded waiting (x ∷ xs) = onward (make decoded waiting x.0 x.1) (λ w. characters decoded w xs)
