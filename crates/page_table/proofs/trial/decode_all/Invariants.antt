use Rattle.std.proofs.Common.{◌≤◌}
use Rattle.page_table.proofs.trial.decode_all.Given as goal

abbrev pub invariant-loop-byte : goal.invariant-loop-byte
invariant-loop-byte g l = (l.have ≤ l.byte) × (l.differ ≤ l.byte)
