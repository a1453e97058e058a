use Rattle.std.proofs.Common.{Ok, refl, sym, ap}
use Rattle.std.specs.Str.{chars}
use Rattle.writer.specs.Spelling.{spelled_all}
use Rattle.writer.specs.Header.{tagged}
use Rattle.writer.specs.Calls.{markup, and_then}
use Rattle.writer.specs.Writers.{moment_of}
use Rattle.writer.proofs.Answered.{served_added}
use Rattle.writer.proofs.writer.Writer.markup.Goals as goal

pub returns : goal.returns
returns g c =
    let w = c.args.self.now in
    let encoded = g.P.CodePage.encoded w.page in
    record {
      served = served_added (g.P.CodePage.number w.page) encoded (moment_of g.S.Sink.held g.S.Sink.space) w (markup c.args.piece.now) (tagged (spelled_all encoded (chars c.in_ok-typed.field-0.now))) c.in_ok-allowed.ensures
          (ap (λ r. and_then r (λ cs. Ok (tagged (spelled_all encoded cs)))) (sym c.in_ok-typed.ensures)) refl refl
          c.add.result c.add.new.self c.add.ensures.tells c.add.ensures.leaves c.add.ensures.untouched;
      page = c.add.ensures.page;
      untouched = c.add.ensures.untouched;
    }
