use Rattle.std.proofs.Common.{◌≡◌, ◌+◌, ◌++◌, length}
use Rattle.std.specs.List.{flat_map}
use Rattle.std.specs.Str.{chars}
use Rattle.writer.specs.Spelling.{spelled_key, spelled_all}
use Rattle.writer.specs.Shown.{keys_left}
use Rattle.writer.proofs.piece.put_text.Given as goal

-- What the sink holds, and the spelling of the keys to come, are all; and its space is for what is to come.
abbrev pub invariant-loop-key : goal.invariant-loop-key
invariant-loop-key g l =
    let encoded = g.P.CodePage.encoded l.page in
    let whole = spelled_all encoded (chars l.text) in
    let rest = flat_map (spelled_key encoded) (keys_left l.key-iterator) in
    record {
      bytes : g.S.Sink.held l.sink ++ rest ≡ g.S.Sink.held l.initial.sink ++ whole;
      left : g.S.Sink.space l.sink + length whole ≡ g.S.Sink.space l.initial.sink + length rest;
    }
