use Rattle.std.proofs.Common.{map, sym, ◌∙◌}
use Rattle.std.proofs.lemmas.List.{at_drop_all}
use Rattle.writer.specs.Decoration.{among}
use Rattle.writer.proofs.Decorations.{among_here, among_on}
use Rattle.writer.proofs.decoration.is_among.Goals as goal

pub returns-then-eq : goal.returns-then-eq
returns-then-eq c =
    let same = c.eq.ensures in
    sym (among_here c.args.name.now c.args.words.now c.loop-word.word-index _ c.loop-word-test.true (sym same ∙ c.if-eq.true)) ∙ c.loop-word.invariant

pub loop-word-preserved : goal.loop-word-preserved
loop-word-preserved c =
    let same = c.eq.ensures in
    sym (among_on c.args.name.now c.args.words.now c.loop-word.word-index _ c.loop-word-test.true (sym same ∙ c.if-eq.false)) ∙ c.loop-word.invariant

pub returns : goal.returns
returns c = sym (at_drop_all (λ ws. among c.args.name.now (map (λ x. x.now) ws)) c.args.words.now c.loop-word.word-index c.loop-word-test.false) ∙ c.loop-word.invariant
