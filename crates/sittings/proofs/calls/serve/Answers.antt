use Rattle.std.proofs.Common.{get_or, take, ap, ◌∙◌}
use Rattle.records.specs.declared.kinds.Kind.TheVariants.{Html}
use Rattle.writer.specs.Calls.{answer, step, told}
use Rattle.writer.specs.Writers.{moment_of}
use Rattle.sittings.specs.declared.calls.Call.TheVariants.{Open}
use Rattle.sittings.specs.Calls.{asked}
use Rattle.sittings.proofs.Served.{turn_left, turn_told}
use Rattle.sittings.proofs.Truths.{never_lies}
use Rattle.sittings.proofs.calls.serve.Goals as goal

pub loop-at-preserved : goal.loop-at-preserved
loop-at-preserved g c =
    let inv = c.loop-at.invariant in
    let made = c.make.ensures in
    let moment = moment_of g.S.Sink.held g.S.Sink.space in
    let p = c.args.writer.now.page in
    let calls = c.args.calls.now in
    let count = c.min-count.result in
    let at = c.loop-at.at in
    let a = asked (get_or (take count calls) at (Open Html)) in
    let first = moment c.args.writer.now in
    let m = moment c.loop-at.writer in
    let page = g.P.CodePage.number p in
    let encoded = g.P.CodePage.encoded p in
    record {
      same_page = made.page ∙ inv.same_page;
      stands = turn_left page encoded first calls c.args.told.now count at (Open Html) c.min-count.ensures c.loop-at-test.true m _ inv.stands (made.served.leaves ∙ ap (λ q. step (g.P.CodePage.number q) (g.P.CodePage.encoded q) m a) inv.same_page);
      written = turn_told page encoded first calls c.args.told.now count at (Open Html) c.min-count.ensures c.loop-at-test.true m c.loop-at.told c.make.result inv.stands inv.written (made.served.tells ∙ ap (λ q. told (answer (g.P.CodePage.number q) (g.P.CodePage.encoded q) m a)) inv.same_page);
    }

-- the theorem, from the laws that the page meets
pub returns-clause-truth : goal.returns-clause-truth
returns-clause-truth g c =
    let met = g.met.P.CodePage in
    let p = c.args.writer.now.page in
    never_lies _ _ _ (record { numbered = met.numbered p; ascii = λ b h. met.ascii p b h; back = λ b d e. met.back p b d e; bytes = λ b d e. met.bytes p b d e })
