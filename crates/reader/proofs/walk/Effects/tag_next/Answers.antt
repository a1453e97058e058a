use Rattle.std.proofs.Common.{◌&&◌, sym, ap, ◌∙◌, arith}
use Rattle.std.proofs.lemmas.Bool.{and_left, and_right}
use Rattle.tokens.specs.Shown.{shown}
use Rattle.reader.specs.Rules.{tag_next}
use Rattle.reader.specs.Walk.{rest}
use Rattle.reader.proofs.Walks.{ended_tag, tag_good}
use Rattle.reader.proofs.walk.Effects.tag_next.Goals as goal

pub returns-then-not-is_star : goal.returns-then-not-is_star
returns-then-not-is_star c = sym (and_left _ _ (sym c.if-not-is_star.ensures))

pub returns-in-Some : goal.returns-in-Some
returns-in-Some c =
    let s = c.args.self.now in
    let f = c.in-Some.found in
    let fits = c.in-Some.ensures.bound in
    c.is_htmltag.ensures ∙ sym (ap (λ b. b && tag_next (rest s)) (sym c.if-not-is_star.ensures) ∙ tag_good s.bytes.now s.at (shown f.token) f.place f.end (omega (arith, fits.0, fits.1)) c.in-Some.ensures.value)

pub returns-in-None : goal.returns-in-None
returns-in-None c =
    let s = c.args.self.now in
    sym (and_right _ _ (ended_tag s.bytes.now s.at c.in-None.ensures.value))
