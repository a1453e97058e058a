-- What a sink over a byte buffer holds.
use Rattle.std.specs.Prelude.{ℕ, ◌-◌, List, length, take}
use Rattle.sinks.specs.declared.buffer.BufferSink.{BufferSink}

-- The bytes that were put stand at the buffer's start.
abbrev pub written : BufferSink → List ℕ
written s = take s.len s.bytes.now

-- The bytes of the buffer that are left.
abbrev pub spare : BufferSink → ℕ
spare s = length s.bytes.now - s.len
