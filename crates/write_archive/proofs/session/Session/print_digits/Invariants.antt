use Rattle.std.proofs.Common.{◌≡◌}
use Rattle.write_archive.proofs.session.Session.print_digits.Given as goal

-- No chunk is longer than the room has digits for.
abbrev pub invariant-loop-chunk : goal.invariant-loop-chunk
invariant-loop-chunk g l = l.chunk-iterator.size ≡ 64
