use Rattle.std.proofs.Common.{Ok, sym, ap, ◌∙◌}
use Rattle.std.proofs.lemmas.Result.{err_from_is_err_and}
use Rattle.reader.proofs.Checks.{sound_long, sound_refused, sound_first}
use Rattle.reader.proofs.sound.sound_record.Goals as goal

pub returns-then-bytes-gt-MAX_BYTES : goal.returns-then-bytes-gt-MAX_BYTES
returns-then-bytes-gt-MAX_BYTES c = sym (sound_long c.args.bytes.now c.if-bytes-gt-MAX_BYTES.true)

pub returns-in_err-record : goal.returns-in_err-record
returns-in_err-record c =
    let p = err_from_is_err_and c.from_residual.result c.from_residual.ensures.1 in
    rw (p.1, p.2) (sym (sound_refused c.args.bytes.now c.if-bytes-gt-MAX_BYTES.false c.in_err-record.field-0.0 c.in_err-record.ensures.value))

pub returns-in_err-check_trailing : goal.returns-in_err-check_trailing
returns-in_err-check_trailing c =
    let p = err_from_is_err_and c.from_residual-in_err-check_trailing.result c.from_residual-in_err-check_trailing.ensures.1 in
    let parts = c.in_ok-record.ensures.value in
    rw (p.1, p.2) (sym (sound_first c.args.bytes.now c.if-bytes-gt-MAX_BYTES.false c.in_ok-record.rest.place _ parts.end c.in_err-check_trailing.ensures))

pub returns : goal.returns
returns c =
    let parts = c.in_ok-record.ensures.value in
    ap Ok parts.front ∙ sym (sound_first c.args.bytes.now c.if-bytes-gt-MAX_BYTES.false c.in_ok-record.rest.place _ parts.end c.in_ok-check_trailing.ensures)
