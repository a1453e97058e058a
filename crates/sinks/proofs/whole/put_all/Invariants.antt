use Rattle.std.proofs.Common.{◌≡◌, ◌+◌, ◌≤◌, ◌++◌, length, take}
use Rattle.sinks.proofs.whole.put_all.Given as goal

-- The bytes so far are put, and the space still takes the rest.
abbrev pub invariant-loop-byte : goal.invariant-loop-byte
invariant-loop-byte g l =
    let m = g.S.Sink in
    (l.byte-index ≤ length l.bytes) × (length l.bytes ≤ m.space l.initial.sink) × (m.held l.sink ≡ m.held l.initial.sink ++ take l.byte-index l.bytes) × (m.space l.sink + l.byte-index ≡ m.space l.initial.sink) × (m.home l.sink ≡ m.home l.initial.sink)
