-- How characters are spelled in a record: a piece of text as bytes of RTF.
use Rattle.std.specs.Prelude.{ℕ, ◌+◌, ◌-◌, ◌/◌, ◌%◌, Bool, cond, ◌&&◌, ◌||◌, List, [], ◌∷◌, ◌++◌, ℤ, pos, negsuc, Some, None, codes, Option, ◌==◌, nat_le, nat_lt}
use Rattle.std.specs.List.{flat_map}
use Rattle.std.specs.Char.{digit_char}
use Rattle.std.specs.Fmt.{signed_decimal}

-- A byte by \' and two lower-case hexadecimal digits.
abbrev pub hexed : ℕ → List ℕ
hexed b = 92 ∷ 39 ∷ digit_char (b / 16) ∷ digit_char (b % 16) ∷ []

-- A 16-bit unit as a number from -32,768 to 32,767.
abbrev pub unit_number : ℕ → ℤ
unit_number u = cond (nat_lt u 32768) (pos u) (negsuc (65535 - u))

-- A unit by \u and its number, with ? for readers that know no \u.
abbrev pub spelled_unit : ℕ → List ℕ
spelled_unit u = codes "\\u" ++ (signed_decimal (unit_number u) ++ codes "?")

-- The 16-bit units of a character: itself, or the two halves that carry its upper and lower ten bits.
abbrev pub units : ℕ → List ℕ
units c = cond (nat_lt c 0x10000) (c ∷ []) ((0xD800 + (c - 0x10000) / 0x400) ∷ (0xDC00 + (c - 0x10000) % 0x400) ∷ [])

-- A character by its byte in the code page, or by its units where it has none.
abbrev pub coded : Option ℕ → ℕ → List ℕ
coded (Some b) c = hexed b
coded None c = flat_map spelled_unit (units c)

-- The characters that RTF itself uses: braces and the backslash.
abbrev pub is_escaped : ℕ → Bool
is_escaped c = c == 123 || (c == 125 || c == 92)

-- One character in a code page: a tab by its word, an escaped one after a backslash, other printable ASCII as it is.
abbrev pub spelled : (ℕ → Option ℕ) → ℕ → List ℕ
spelled encoded c =
    cond (c == 9) (codes "\\tab ")
    (cond (is_escaped c) (92 ∷ c ∷ [])
    (cond (nat_le 32 c && nat_le c 126) (c ∷ []) (coded (encoded c) c)))

-- What was typed: a line break, which is CR LF, or any other character.
pub data Key : Type 0 where
  break : Key
  key : ℕ → Key

-- A character before keys: a CR right before an LF is one break with it.
abbrev pub press : ℕ → List Key → List Key
press c [] = key c ∷ []
press c (break ∷ ks) = key c ∷ (break ∷ ks)
press c (key d ∷ ks) = cond (c == 13 && d == 10) (break ∷ ks) (key c ∷ (key d ∷ ks))

abbrev pub keys : List ℕ → List Key
keys [] = []
keys (c ∷ cs) = press c (keys cs)

abbrev pub spelled_key : (ℕ → Option ℕ) → Key → List ℕ
spelled_key encoded break = codes "\\par "
spelled_key encoded (key c) = spelled encoded c

-- The characters of a piece, one after the other.
abbrev pub spelled_all : (ℕ → Option ℕ) → List ℕ → List ℕ
spelled_all encoded cs = flat_map (spelled_key encoded) (keys cs)
