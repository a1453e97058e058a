use Rattle.std.proofs.Common.{◌≡◌, ◌*◌, ◌≤◌, length, take}
use Rattle.std.specs.List.{flat_map}
use Rattle.writer.specs.Spelling.{spelled_unit, units}
use Rattle.writer.proofs.spelling.append_units.Given as goal

-- The units so far are spelled.
abbrev pub invariant-loop-unit : goal.invariant-loop-unit
invariant-loop-unit l = (l.spelling.items ≡ flat_map spelled_unit (take l.unit-index (units l.fn.character))) × (length l.spelling.items ≤ 9 * l.unit-index)
