use Rattle.std.proofs.Common.{◌≡◌, ◌+◌, ◌≤◌, length}
use Rattle.std.specs.List.{flat_map}
use Rattle.std.specs.Str.{chars}
use Rattle.writer.specs.Spelling.{spelled_key, spelled_all}
use Rattle.writer.specs.Shown.{keys_left}
use Rattle.writer.proofs.piece.spelled_length.Given as goal

-- The bytes so far, and those of the keys to come, are all.
abbrev pub invariant-loop-key : goal.invariant-loop-key
invariant-loop-key g l =
    let encoded = g.P.CodePage.encoded l.page in
    record {
      most : l.total ≤ l.most;
      bytes : l.total + length (flat_map (spelled_key encoded) (keys_left l.key-iterator)) ≡ length (spelled_all encoded (chars l.text));
    }
