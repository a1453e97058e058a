use Rattle.std.proofs.Common.{◌≡◌, map, drop}
use Rattle.writer.specs.Decoration.{among}
use Rattle.writer.proofs.decoration.is_among.Given as goal

-- The words so far are other names.
abbrev pub invariant-loop-word : goal.invariant-loop-word
invariant-loop-word l = among l.name (map (λ x. x.now) (drop l.word-index l.words)) ≡ among l.name (map (λ x. x.now) l.words)
