use Rattle.std.proofs.Common.{◌+◌, ◌-◌, None, length, drop, take, sym, ap, ◌∙◌}
use Rattle.std.proofs.lemmas.List.{take_rest}
use Rattle.tokens.specs.Tokens.{next, next_by}
use Rattle.tokens.proofs.Steps.{next_end, byte_here, next_here}
use Rattle.tokens.proofs.lexer.next_token.Goals as goal

pub returns-in_default-clause-value : goal.returns-in_default-clause-value
returns-in_default-clause-value c =
    let at = c.args.at in
    let given = take (length c.args.bytes.now - at) (drop at c.args.bytes.now) in
    let n = c.run_length-skipped.result in
    sym (ap (next at) (sym (take_rest c.args.bytes.now at)) ∙ next_end at n given c.run_length-skipped.ensures.value (ap length (sym (take_rest given n)) ∙ c.in_default.ensures.cases))

pub front-requires : goal.front-requires
front-requires c =
    let at = c.args.at in
    let given = take (length c.args.bytes.now - at) (drop at c.args.bytes.now) in
    let n = c.run_length-skipped.result in
    byte_here at n given c.run_length-skipped.ensures.value c.in-Some.first.now c.in-Some.rest.now (sym (take_rest given n) ∙ c.in-Some.ensures.cases.0)

pub returns-in-Ok-clause-value : goal.returns-in-Ok-clause-value
returns-in-Ok-clause-value c =
    let at = c.args.at in
    let given = take (length c.args.bytes.now - at) (drop at c.args.bytes.now) in
    let n = c.run_length-skipped.result in
    let e = next_here at n given c.run_length-skipped.ensures.value c.in-Some.first.now c.in-Some.rest.now (sym (take_rest given n) ∙ c.in-Some.ensures.cases.0) in
    ap (λ f. next_by (at + n) f None) c.in-Ok.ensures.value ∙ sym (ap (next at) (sym (take_rest c.args.bytes.now at)) ∙ e)

pub returns-in-Err-clause-value : goal.returns-in-Err-clause-value
returns-in-Err-clause-value c =
    let at = c.args.at in
    let given = take (length c.args.bytes.now - at) (drop at c.args.bytes.now) in
    let n = c.run_length-skipped.result in
    let e = next_here at n given c.run_length-skipped.ensures.value c.in-Some.first.now c.in-Some.rest.now (sym (take_rest given n) ∙ c.in-Some.ensures.cases.0) in
    ap (λ f. next_by (at + n) f None) c.in-Err.ensures.value ∙ sym (ap (next at) (sym (take_rest c.args.bytes.now at)) ∙ e)
