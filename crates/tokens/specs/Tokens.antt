-- What stands at the front of some bytes, and the tokens of given bytes, in the format's order.
-- Bytes are numbers; a place counts the given bytes from 0.
use Rattle.std.specs.Prelude.{ℕ, zero, suc, ◌+◌, ◌-◌, Bool, cond, not, ◌&&◌, ◌||◌, List, [], ◌∷◌, length, take, drop, ℤ, pos, negsuc, neg_ℤ, Some, None, Ok, Err, codes, Option, Result, ◌==◌, nat_le, nat_lt}
use Rattle.std.specs.Str.Parse.{digits_value}
use Rattle.std.specs.Char.{is_ascii_digit, is_ascii_hexdigit, is_ascii_alphabetic}
use Rattle.std.specs.List.{prefix_len}
use Rattle.std.specs.Str.{bytes_eq}
use Rattle.tokens.specs.declared.faults.Flaw.{Flaw}
use Rattle.tokens.specs.declared.faults.Flaw.TheVariants.{LoneBackslash, NoHexDigits, LongName, LongNumber, BinPastEnd}
use Rattle.tokens.specs.declared.faults.TokenFault.{TokenFault}
use Rattle.tokens.specs.declared.scan.Class.{Class}
use Rattle.tokens.specs.declared.scan.Class.TheVariants.{Letter, Digit, Layout, Plain, Passive}
use Rattle.tokens.specs.declared.scan.Numeral.{Numeral}

-- A token: a brace, a control word with its name and number, a byte by two hexadecimal digits, a control symbol, a text byte.
pub data Tok : Type 0 where
  opens : Tok
  closes : Tok
  word : List ℕ → Option ℤ → Tok
  hex : ℕ → Tok
  symbol : ℕ → Tok
  text : ℕ → Tok

-- What stands at the front: layout, a fault, or a token with the count of bytes that it takes.
pub data Front : Type 0 where
  layout : Front
  fault : Flaw → Front
  token : Tok → ℕ → Front

-- CR and LF are layout.
abbrev pub is_layout : ℕ → Bool
is_layout b = b == 13 || b == 10

-- Plain text: below 128, and neither a brace nor a backslash nor layout.
abbrev pub is_plain : ℕ → Bool
is_plain b = nat_lt b 128 && (not (b == 123) && (not (b == 125) && (not (b == 92) && not (is_layout b))))

-- Neither a brace nor a backslash.
abbrev pub is_passive : ℕ → Bool
is_passive b = not (b == 123) && (not (b == 125) && not (b == 92))

-- The bytes of a class.
abbrev pub within : Class → ℕ → Bool
within Letter b = is_ascii_alphabetic b
within Digit b = is_ascii_digit b
within Layout b = is_layout b
within Plain b = is_plain b
within Passive b = is_passive b

-- 1 where the bytes begin with b, else 0.
abbrev pub begins : ℕ → List ℕ → ℕ
begins b [] = 0
begins b (x ∷ xs) = cond (x == b) 1 0

-- A value's sign: m is 1 after a minus, else 0.
abbrev pub signed : ℕ → ℕ → ℤ
signed m v = cond (m == 0) (pos v) (neg_ℤ (pos v))

-- A number by its value and the count of bytes that it takes.
abbrev pub numeral : ℤ → ℕ → Numeral
numeral v n = record { value = v; length = n }

-- A number lies within 32 signed bits; it takes the minus and n digits.
abbrev pub limited : ℕ → ℕ → ℕ → Result (Option Numeral) Flaw
limited m v n = cond (nat_le v (2147483647 + m)) (Ok (Some (numeral (signed m v) (m + n)))) (Err LongNumber)

-- n digits stand at the front, after m minus signs: one to ten of them are a number.
abbrev pub digits : ℕ → ℕ → List ℕ → Result (Option Numeral) Flaw
digits m n bs = cond (n == 0) (Ok None) (cond (nat_lt 10 n) (Err LongNumber) (limited m (digits_value 10 (take n bs)) n))

-- An optional minus and the longest run of digits.
abbrev pub number_after : ℕ → List ℕ → Result (Option Numeral) Flaw
number_after m bs = digits m (prefix_len is_ascii_digit bs) bs

abbrev pub number : List ℕ → Result (Option Numeral) Flaw
number bs = number_after (begins 45 bs) (drop (begins 45 bs) bs)

-- A number above 0, else 0.
abbrev pub above : Option ℤ → ℕ
above None = 0
above (Some (pos n)) = n
above (Some (negsuc n)) = 0

-- How many bytes of data belong to a word: \bin with a number above 0 has that many, any other word none.
abbrev pub data_count : List ℕ → Option ℤ → ℕ
data_count name v = cond (bytes_eq name (codes "bin")) (above v) 0

-- A word that takes n bytes without its data, of which k are wanted and left stand there.
abbrev pub with_data : Tok → ℕ → ℕ → ℕ → Front
with_data t n k left = cond (nat_le k left) (token t (n + k)) (fault BinPastEnd)

-- A word whose number takes n of the bytes after its name: one space directly after belongs to it, then its data.
abbrev pub spaced : List ℕ → Option ℤ → ℕ → List ℕ → Front
spaced name v n bs = with_data (word name v) (1 + length name + (n + begins 32 (drop n bs))) (data_count name v) (length bs - (n + begins 32 (drop n bs)))

-- A word by its name, the bytes after the name, and the number that these begin with.
abbrev pub numbered : List ℕ → List ℕ → Result (Option Numeral) Flaw → Front
numbered name bs (Ok None) = spaced name None 0 bs
numbered name bs (Ok (Some v)) = spaced name (Some v.value) v.length bs
numbered name bs (Err f) = fault f

-- A word after its backslash, n letters long: at most 32.
abbrev pub named : ℕ → List ℕ → Front
named n bs = cond (nat_lt 32 n) (fault LongName) (numbered (take n bs) (drop n bs) (number (drop n bs)))

-- The byte that two hexadecimal digits of either case stand for.
abbrev pub byte_of : ℕ → ℕ → Option ℕ
byte_of h l = cond (is_ascii_hexdigit h && is_ascii_hexdigit l) (Some (digits_value 16 (h ∷ l ∷ []))) None

abbrev pub hex_byte : Option ℕ → Front
hex_byte None = fault NoHexDigits
hex_byte (Some b) = token (hex b) 4

-- What \' begins: the byte by two digits.
abbrev pub hex_pair : List ℕ → Front
hex_pair [] = fault NoHexDigits
hex_pair (h ∷ []) = fault NoHexDigits
hex_pair (h ∷ l ∷ bs) = hex_byte (byte_of h l)

-- What a backslash begins: a word by the longest run of letters, \' with its digits, or a control symbol.
abbrev pub control : List ℕ → Front
control [] = fault LoneBackslash
control (b ∷ bs) = cond (is_ascii_alphabetic b) (named (prefix_len is_ascii_alphabetic (b ∷ bs)) (b ∷ bs)) (cond (b == 39) (hex_pair bs) (token (symbol b) 2))

-- What stands at the front of the bytes b ∷ bs.
abbrev pub front : ℕ → List ℕ → Front
front b bs = cond (b == 123) (token opens 1) (cond (b == 125) (token closes 1) (cond (b == 92) (control bs) (cond (is_layout b) layout (token (text b) 1))))

-- A token with its place and the place after it, or a fault.
pub data Item : Type 0 where
  good : Tok → ℕ → ℕ → Item
  bad : TokenFault → Item

-- The first item of the bytes that stand at a place, of which the front is known; later is the first item after layout.
abbrev pub next_by : ℕ → Front → Option Item → Option Item
next_by at layout later = later
next_by at (fault f) later = Some (bad (record { flaw = f; place = at }))
next_by at (token t n) later = Some (good t at (at + n))

-- The first item of the bytes that stand at a place, or none.
abbrev pub next : ℕ → List ℕ → Option Item
next at [] = None
next at (b ∷ bs) = next_by at (front b bs) (next (at + 1) bs)

-- The items by the front of some bytes; rest gives those after a count of further bytes. A fault is the last item.
abbrev pub items_by : ℕ → Front → (ℕ → List Item) → List Item
items_by at layout rest = rest 0
items_by at (fault f) rest = bad (record { flaw = f; place = at }) ∷ []
items_by at (token t n) rest = good t at (at + n) ∷ rest (n - 1)

-- The items of the bytes that stand at a place, after the first k bytes.
abbrev pub items : ℕ → ℕ → List ℕ → List Item
items k at [] = []
items (suc k) at (b ∷ bs) = items k (at + 1) bs
items zero at (b ∷ bs) = items_by at (front b bs) (λ k. items k (at + 1) bs)

-- The items from the first brace or fault on: those before it open and close no group.
abbrev pub from_brace : List Item → List Item
from_brace [] = []
from_brace (bad f ∷ is) = bad f ∷ is
from_brace (good opens p e ∷ is) = good opens p e ∷ is
from_brace (good closes p e ∷ is) = good closes p e ∷ is
from_brace (good (word name v) p e ∷ is) = from_brace is
from_brace (good (hex b) p e ∷ is) = from_brace is
from_brace (good (symbol b) p e ∷ is) = from_brace is
from_brace (good (text b) p e ∷ is) = from_brace is
