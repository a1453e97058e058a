use Rattle.std.proofs.Common.{◌≡◌, ◌++◌, map, take, drop}
use Rattle.writer.specs.Writers.{moment_of}
use Rattle.sittings.specs.Calls.{asked, answers, left}
use Rattle.sittings.proofs.calls.serve.Given as goal

-- The calls so far are made, and their answers written.
abbrev pub invariant-loop-at : goal.invariant-loop-at
invariant-loop-at g l =
    let page = g.P.CodePage.number l.initial.writer.page in
    let encoded = g.P.CodePage.encoded l.initial.writer.page in
    let moment = moment_of g.S.Sink.held g.S.Sink.space in
    let asks = map asked (take l.at l.calls) in
    record {
      same_page : l.writer.page ≡ l.initial.writer.page;
      stands : moment l.writer ≡ left page encoded (moment l.initial.writer) asks;
      written : l.told ≡ answers page encoded (moment l.initial.writer) asks ++ drop l.at l.initial.told;
    }
