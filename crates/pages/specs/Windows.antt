-- The Windows code pages as the Unicode Consortium maps them: the entries by hand where its files follow no rule, eight to a line, and rows elsewhere.
use Rattle.std.specs.Prelude.{ℕ, List, [], ◌∷◌, ◌++◌, Some, None, Option}
use Rattle.pages.specs.Page.{row}

-- The characters of the bytes 0x80 to 0x9F in Windows-1252.
abbrev pub from80to9f : List (Option ℕ)
from80to9f =
    Some 0x20AC ∷ None ∷ Some 0x201A ∷ Some 0x0192 ∷ Some 0x201E ∷ Some 0x2026 ∷ Some 0x2020 ∷ Some 0x2021 ∷
    Some 0x02C6 ∷ Some 0x2030 ∷ Some 0x0160 ∷ Some 0x2039 ∷ Some 0x0152 ∷ None ∷ Some 0x017D ∷ None ∷
    None ∷ Some 0x2018 ∷ Some 0x2019 ∷ Some 0x201C ∷ Some 0x201D ∷ Some 0x2022 ∷ Some 0x2013 ∷ Some 0x2014 ∷
    Some 0x02DC ∷ Some 0x2122 ∷ Some 0x0161 ∷ Some 0x203A ∷ Some 0x0153 ∷ None ∷ Some 0x017E ∷ Some 0x0178 ∷ []

-- Windows-1252: a byte below 0x80 or from 0xA0 on has the character of the same number.
unfoldable pub chars1252 : List (Option ℕ)
chars1252 = row 0x00 0x80 ++ (from80to9f ++ row 0xA0 0x60)

-- The characters of the bytes 0x80 to 0xBF in Windows-1251.
abbrev pub from80tobf : List (Option ℕ)
from80tobf =
    Some 0x0402 ∷ Some 0x0403 ∷ Some 0x201A ∷ Some 0x0453 ∷ Some 0x201E ∷ Some 0x2026 ∷ Some 0x2020 ∷ Some 0x2021 ∷
    Some 0x20AC ∷ Some 0x2030 ∷ Some 0x0409 ∷ Some 0x2039 ∷ Some 0x040A ∷ Some 0x040C ∷ Some 0x040B ∷ Some 0x040F ∷
    Some 0x0452 ∷ Some 0x2018 ∷ Some 0x2019 ∷ Some 0x201C ∷ Some 0x201D ∷ Some 0x2022 ∷ Some 0x2013 ∷ Some 0x2014 ∷
    None ∷ Some 0x2122 ∷ Some 0x0459 ∷ Some 0x203A ∷ Some 0x045A ∷ Some 0x045C ∷ Some 0x045B ∷ Some 0x045F ∷
    Some 0x00A0 ∷ Some 0x040E ∷ Some 0x045E ∷ Some 0x0408 ∷ Some 0x00A4 ∷ Some 0x0490 ∷ Some 0x00A6 ∷ Some 0x00A7 ∷
    Some 0x0401 ∷ Some 0x00A9 ∷ Some 0x0404 ∷ Some 0x00AB ∷ Some 0x00AC ∷ Some 0x00AD ∷ Some 0x00AE ∷ Some 0x0407 ∷
    Some 0x00B0 ∷ Some 0x00B1 ∷ Some 0x0406 ∷ Some 0x0456 ∷ Some 0x0491 ∷ Some 0x00B5 ∷ Some 0x00B6 ∷ Some 0x00B7 ∷
    Some 0x0451 ∷ Some 0x2116 ∷ Some 0x0454 ∷ Some 0x00BB ∷ Some 0x0458 ∷ Some 0x0405 ∷ Some 0x0455 ∷ Some 0x0457 ∷ []

-- Windows-1251: a byte below 0x80 has the character of the same number, and the bytes from 0xC0 on have the 64 characters from U+0410 on.
unfoldable pub chars1251 : List (Option ℕ)
chars1251 = row 0x00 0x80 ++ (from80tobf ++ row 0x0410 0x40)
