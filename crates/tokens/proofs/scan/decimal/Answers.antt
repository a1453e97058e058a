use Rattle.std.proofs.Common.{◌≤◌, length, get_or, take, ap, ◌∙◌, arith, length-take}
use Rattle.std.specs.Str.Parse.{digits_value}
use Rattle.std.proofs.lemmas.Int.Digits.{digits_value_more}
use Rattle.std.proofs.lemmas.List.{take_all}
use Rattle.tokens.proofs.Runs.{digits_at, digits_take, digit_from_value, value_few}
use Rattle.tokens.proofs.scan.decimal.Goals as goal

pub overflow_mul-n : goal.overflow_mul-n
overflow_mul-n c =
    let small : length (take c.loop-d.d-index c.args.digits.now) ≤ 10 = simp length-take (omega arith) in
    omega (arith, value_few (take c.loop-d.d-index c.args.digits.now) (digits_take _ c.loop-d.d-index c.requires.digits) small)

pub overflow_sub-d : goal.overflow_sub-d
overflow_sub-d c = (digit_from_value (get_or c.args.digits.now c.loop-d.d-index 0) (digits_at c.args.digits.now c.loop-d.d-index c.requires.digits c.loop-d-test.true)).0

pub overflow_add-n : goal.overflow_add-n
overflow_add-n c =
    let small : length (take c.loop-d.d-index c.args.digits.now) ≤ 10 = simp length-take (omega arith) in
    let d = digit_from_value (get_or c.args.digits.now c.loop-d.d-index 0) (digits_at c.args.digits.now c.loop-d.d-index c.requires.digits c.loop-d-test.true) in
    omega (arith, value_few (take c.loop-d.d-index c.args.digits.now) (digits_take _ c.loop-d.d-index c.requires.digits) small)

pub loop-d-preserved : goal.loop-d-preserved
loop-d-preserved c =
    let digits = c.args.digits.now in
    let i = c.loop-d.d-index in
    let d = digit_from_value (get_or digits i 0) (digits_at digits i c.requires.digits c.loop-d-test.true) in
    omega (arith, digits_value_more 10 digits i c.loop-d-test.true)

pub returns : goal.returns
returns c = c.loop-d.invariant ∙ ap (digits_value 10) (take_all c.loop-d.d-index c.args.digits.now c.loop-d-test.false)
