use Rattle.std.proofs.Common.{◌+◌, sym, ap, ◌∙◌, arith}
use Rattle.std.proofs.lemmas.List.{take_rest}
use Rattle.tokens.specs.Shown.{shown}
use Rattle.tokens.specs.Tokens.{control}
use Rattle.tokens.proofs.Braces.{past_control_here, past_passive}
use Rattle.tokens.proofs.brace.next_brace.Goals as goal

pub loop-at-preserved-in-Ok : goal.loop-at-preserved-in-Ok
loop-at-preserved-in-Ok c =
    let bytes = c.args.bytes.now in
    let found = c.in-Ok.found in
    let control_is = c.in-Ok.ensures.value ∙ ap control (take_rest bytes (c.loop-at.at + 1)) in (
      omega (arith, c.loop-at.invariant.0),
      sym (past_control_here bytes c.loop-at.at c.loop-at-test.true c.in-92.is (shown found.token) found.length control_is) ∙ c.loop-at.invariant.1,
    )

pub loop-at-preserved : goal.loop-at-preserved
loop-at-preserved c = (
  omega (arith, c.loop-at.invariant.0),
  sym (past_passive c.args.bytes.now c.loop-at.at c.run_length-at.result c.run_length-at.ensures.value) ∙ c.loop-at.invariant.1,
)
