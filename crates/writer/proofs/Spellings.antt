-- How single characters are spelled, by cases.
use Rattle.std.proofs.Common.{◌≡◌, ℕ, ◌+◌, ◌-◌, ◌/◌, ◌%◌, ◌<◌, ◌≤◌, ltb, ◌++◌, ap, ◌∙◌, append-nil}
use Rattle.std.specs.List.{flat_map}
use Rattle.std.proofs.lemmas.Bool.{cond-true, cond-false, lt-ltb, le-ltb}
use Rattle.writer.specs.Spelling.{spelled_unit, units}

-- A character of one unit, and one of two.
pub one_unit : (c : ℕ) → c < 0x10000 → flat_map spelled_unit (units c) ≡ spelled_unit c
one_unit c h = ap (flat_map spelled_unit) (cond-true (ltb c 0x10000) _ _ (lt-ltb c 0x10000 h)) ∙ append-nil (spelled_unit c)

pub two_units : (c : ℕ) → 0x10000 ≤ c → flat_map spelled_unit (units c) ≡ spelled_unit (0xD800 + (c - 0x10000) / 0x400) ++ spelled_unit (0xDC00 + (c - 0x10000) % 0x400)
two_units c h =
    ap (flat_map spelled_unit) (cond-false (ltb c 0x10000) _ _ (le-ltb c 0x10000 h))
    ∙ ap (λ l. spelled_unit (0xD800 + (c - 0x10000) / 0x400) ++ l) (append-nil (spelled_unit (0xDC00 + (c - 0x10000) % 0x400)))
