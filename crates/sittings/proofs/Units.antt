-- The units of a character, as numbers and back.
use Rattle.std.proofs.Common.{◌≡◌, ℕ, ◌+◌, ◌-◌, ◌/◌, ◌%◌, ◌^◌, ◌<◌, ◌≤◌, true, false, ltb, leb, pos, negsuc, ap, ◌∙◌, ⊎_elim, arith}
use lib.Signed.{mag}
use lib.Utf8.{scalar, scalar_cases}
use Rattle.std.proofs.lemmas.Bool.{cond-true, cond_both, ltb-false, lt-ltb, le-leb, lt-leb, and_left, and_right, and_from}
use Rattle.reader.specs.Rules.{unit, unit_of}
use Rattle.reader.specs.Content.{is_high, is_low, pair_of}
use Rattle.writer.specs.Spelling.{unit_number}

-- The number of a unit is small.
pub unit_small : (u : ℕ) → u < 65536 → mag (unit_number u) < 2 ^ 31
unit_small u h = cond_both (ltb u 32768) (pos u) (negsuc (65535 - u)) (λ z. mag z < 2 ^ 31) (λ _. omega arith) (λ _. omega arith)

-- The number of a unit stands for the unit.
pub unit_back : (u : ℕ) → u < 65536 → unit_of (unit_number u) ≡ unit u
unit_back u h =
    cond_both (ltb u 32768) (pos u) (negsuc (65535 - u)) (λ z. unit_of z ≡ unit u)
    (λ _. cond-true _ _ _ (le-leb u 65535 (omega arith)))
    (λ q. let same : 65535 - (65535 - u) ≡ u = omega arith in
    cond-true _ _ _ (lt-ltb (65535 - u) 32768 (omega (arith, ltb-false u 32768 q))) ∙ ap unit same)

-- A character is no half.
pub not_high : (c : ℕ) → scalar c ≡ true → is_high c ≡ false
not_high c e =
    ⊎_elim (λ h. and_left (leb 0xD800 c) (leb c 0xDBFF) (lt-leb 0xD800 c h))
    (λ h. and_right (leb 0xD800 c) (leb c 0xDBFF) (lt-leb c 0xDBFF (omega (arith, h.0))))
    (scalar_cases c e)

pub not_low : (c : ℕ) → scalar c ≡ true → is_low c ≡ false
not_low c e =
    ⊎_elim (λ h. and_left (leb 0xDC00 c) (leb c 0xDFFF) (lt-leb 0xDC00 c (omega arith)))
    (λ h. and_right (leb 0xDC00 c) (leb c 0xDFFF) (lt-leb c 0xDFFF h.0))
    (scalar_cases c e)

-- The halves of a character beyond 65,535: each is one, and together they are the character.
module _ (c : ℕ) (e : scalar c ≡ true) (beyond-one : 0x10000 ≤ c) where
  below_last : c < 0x110000
  below_last = ⊎_elim (λ h. absurd (omega arith)) (λ h. h.1) (scalar_cases c e)

  pub halves_small : (0xD800 + (c - 0x10000) / 0x400 < 65536) × (0xDC00 + (c - 0x10000) % 0x400 < 65536)
  halves_small = let l = below_last in (omega arith, omega arith)

  pub high_half : is_high (0xD800 + (c - 0x10000) / 0x400) ≡ true
  high_half =
      let l = below_last in
      let high = 0xD800 + (c - 0x10000) / 0x400 in
      and_from (leb 0xD800 high) (leb high 0xDBFF) (le-leb 0xD800 high (omega arith)) (le-leb high 0xDBFF (omega arith))

  pub low_half : is_low (0xDC00 + (c - 0x10000) % 0x400) ≡ true
  low_half =
      let low = 0xDC00 + (c - 0x10000) % 0x400 in
      and_from (leb 0xDC00 low) (leb low 0xDFFF) (le-leb 0xDC00 low (omega arith)) (le-leb low 0xDFFF (omega arith))

  pub paired : pair_of (0xD800 + (c - 0x10000) / 0x400) (0xDC00 + (c - 0x10000) % 0x400) ≡ c
  paired = let l = below_last in omega arith
