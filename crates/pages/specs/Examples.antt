-- Worked examples of each page, to be read against the Unicode Consortium's files.
use Rattle.std.specs.Prelude.{◌≡◌, Some, None}
use Rattle.pages.specs.Page.{char_of, byte_of}
use Rattle.pages.specs.Ascii.{below128}
use Rattle.pages.specs.Windows.{chars1252, chars1251}

-- In 1252 byte 0x80 is the euro sign U+20AC and back, the last byte is U+00FF, byte 0x81 has no character, and U+0080 and U+0430 have no byte.
pub record Examples1252 : Type 0 where
  pub euro : char_of chars1252 0x80 ≡ Some 0x20AC
  pub euro_back : byte_of chars1252 0x20AC ≡ Some 0x80
  pub last : char_of chars1252 0xFF ≡ Some 0x00FF
  pub hole : char_of chars1252 0x81 ≡ None
  pub control : byte_of chars1252 0x0080 ≡ None
  pub cyrillic : byte_of chars1252 0x0430 ≡ None

-- In 1251 byte 0xE0 is the letter U+0430 and back, byte 0x88 is the euro sign, the last byte is U+044F, byte 0x98 has no character, and U+00E9 has no byte.
pub record Examples1251 : Type 0 where
  pub letter : char_of chars1251 0xE0 ≡ Some 0x0430
  pub letter_back : byte_of chars1251 0x0430 ≡ Some 0xE0
  pub euro : char_of chars1251 0x88 ≡ Some 0x20AC
  pub last : char_of chars1251 0xFF ≡ Some 0x044F
  pub hole : char_of chars1251 0x98 ≡ None
  pub accented : byte_of chars1251 0x00E9 ≡ None

-- In 20127 the last byte with a character is 0x7F, and the character is U+007F.
pub record Examples20127 : Type 0 where
  pub last : below128 0x7F ≡ Some 0x007F
  pub past : below128 0x80 ≡ None

-- The examples of the three pages.
pub record ExamplesOfEachPage : Type 0 where
  pub in1252 : Examples1252
  pub in1251 : Examples1251
  pub in20127 : Examples20127
