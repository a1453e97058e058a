use Rattle.std.proofs.Common.{◌≤◌}
use Rattle.page_table.proofs.trial.encode_all.Given as goal

abbrev pub invariant-loop-code : goal.invariant-loop-code
invariant-loop-code g l = (l.have ≤ l.code) × (l.differ ≤ l.code)
