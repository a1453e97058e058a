use Rattle.std.proofs.Common.{◌-◌, length, drop, take, sym, subst}
use Rattle.std.specs.Str.Parse.{AllDigits}
use Rattle.tokens.proofs.Runs.{digits_run}
use Rattle.tokens.proofs.scan.number_at.Goals as goal

pub decimal-requires-clause-digits : goal.decimal-requires-clause-digits
decimal-requires-clause-digits c =
    let rest = take (length c.args.bytes.now - c.begins_with-minus.result) (drop c.begins_with-minus.result c.args.bytes.now) in
    subst (λ n. AllDigits 10 (take n rest)) (sym c.run_length-digits.ensures.value) (digits_run rest)
