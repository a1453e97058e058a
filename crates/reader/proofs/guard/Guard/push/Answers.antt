use Rattle.std.proofs.Common.{◌++◌, ◌-◌, length, ap, ◌∙◌, sym, subst, arith, length-append}
use Rattle.reader.specs.Guarded.{zeros, HoldsBy}
use Rattle.reader.proofs.Guards.{pushed_zeros, put_whole}
use Rattle.reader.proofs.guard.Guard.push.Goals as goal

pub returns-clause-value : goal.returns-clause-value
returns-clause-value c = λ content held.
    let bytes = c.args.self.now.bytes.now in
    let piece = c.args.piece.now in
    let at = c.in-Some.at in
    let h = subst (λ o. HoldsBy content o bytes) c.in-Some.is held in
    let same = put_whole at bytes piece c.copy_from_slice.new.self c.if-at-room.false c.if-piece-room.false c.copy_from_slice.ensures.after in
    let long = length-append content piece in (
      omega (arith, long, h.0),
      omega (arith, long, h.0, same, c.if-at-room.false, c.if-piece-room.false),
      pushed_zeros content piece _ bytes at _ h.0 (omega arith) c.copy_from_slice.ensures.after h.2
          ∙ ap (λ n. (content ++ piece) ++ zeros (n - length (content ++ piece))) (sym same),
    )
