use Rattle.std.proofs.Common.{◌≡◌, sym, ap, ◌∙◌}
use lib.Utf8.{encodes}
use Rattle.std.specs.Str.{chars}
use Rattle.std.proofs.lemmas.Str.{encodes-chars}
use Rattle.reader.specs.Pieces.{characters_of}
use Rattle.reader.proofs.reading.put_piece.Goals as goal

pub returns-in-Text-clause-value : goal.returns-in-Text-clause-value
returns-in-Text-clause-value c =
    let told = c.as_bytes-in-Text.ensures in
    let same : encodes (characters_of c.args.piece) ≡ c.as_bytes-in-Text.result.now = ap (λ p. encodes (characters_of p)) c.in-Text.is ∙ ap (λ b. encodes (chars b)) (sym told.value) ∙ encodes-chars _ told.utf8 in
    λ content held. rw (same) (c.push-in-Text.ensures.value content held)
