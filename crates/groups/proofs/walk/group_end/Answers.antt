use Rattle.std.proofs.Common.{◌≡◌, ℕ, ◌+◌, List, length, drop, Some, None, Ok, Err, Result, unwrap_or, sym, ap, ◌∙◌, subst, arith}
use Rattle.std.proofs.lemmas.Result.{err_from_is_err_and}
use Rattle.tokens.specs.declared.brace.Brace.{Brace}
use Rattle.tokens.specs.Tokens.{items}
use Rattle.tokens.specs.Shown.{brace_items, BraceFits}
use Rattle.groups.specs.declared.faults.GroupFault.{GroupFault}
use Rattle.groups.specs.declared.faults.GroupFault.TheVariants.{Unclosed}
use Rattle.groups.specs.Stack.{held}
use Rattle.groups.specs.Groups.{closing, group_end}
use Rattle.groups.proofs.Turns.{walk_on, turn_deeper, turn_too_deep, turn_last, turn_closed, innermost_top}
use Rattle.groups.proofs.walk.group_end.Goals as goal
use Rattle.groups.proofs.walk.group_end.Goals.{In-Some}

-- the groups open before the brace
abbrev stood : In-Some → List ℕ
stood c = held c.loop-brace.stack.depth c.loop-brace.stack.entries.now

-- the walk from a place on, by the groups then open
abbrev on : In-Some → ℕ → List ℕ → Result ℕ GroupFault
on c e hs = closing hs (items 0 e (drop e c.args.bytes.now))

-- the brace that was found lies after the place where the walk stood
fits : (c : In-Some) (b : Brace) → c.in-Some.brace ≡ b → BraceFits c.loop-brace.at (length c.args.bytes.now) (Ok (Some b))
fits c b e = subst (λ o. BraceFits c.loop-brace.at (length c.args.bytes.now) (Ok o)) (c.in-Some.is ∙ ap Some e) c.in_ok-brace.ensures.bound

-- the walk goes on with the brace
step : (c : In-Some) (b : Brace) → c.in-Some.brace ≡ b → closing (stood c) (brace_items c.args.bytes.now (Ok (Some b))) ≡ group_end c.args.place c.args.bytes.now
step c b e = walk_on c.args.bytes.now c.loop-brace.at _ _ c.loop-brace.invariant.3 (Ok (Some b)) (ap (λ o. brace_items c.args.bytes.now (Ok o)) (sym (c.in-Some.is ∙ ap Some e)) ∙ c.in_ok-brace.ensures.value)

pub returns-in_err-brace-clause-value : goal.returns-in_err-brace-clause-value
returns-in_err-brace-clause-value c =
    let p = err_from_is_err_and c.from_residual-in_err-brace.result c.from_residual-in_err-brace.ensures.1 in
    rw (p.1, p.2) (walk_on c.args.bytes.now c.loop-brace.at _ _ c.loop-brace.invariant.3 (Err c.in_err-brace.field-0.0) c.in_err-brace.ensures.value)

pub returns-in_err-push-in-Open-clause-value : goal.returns-in_err-push-in-Open-clause-value
returns-in_err-push-in-Open-clause-value c =
    let here = (goal.at.returns-in_err-push-in-Open-clause-value c).In-Some in
    let p = err_from_is_err_and c.from_residual-in_err-push-in-Open.result c.from_residual-in_err-push-in-Open.ensures.1 in
    let pushed = c.in_err-push-in-Open.ensures.cases in
    let o = c.in-Open.opened in
    rw (p.1, p.2) (ap Err pushed.1 ∙ sym (turn_too_deep o (o + 1) (stood here) (on here (o + 1)) (omega (arith, pushed.0, c.loop-brace.invariant.2))) ∙ step here _ c.in-Open.is)

pub loop-brace-preserved-in-Open : goal.loop-brace-preserved-in-Open
loop-brace-preserved-in-Open c =
    let here = (goal.at.loop-brace-preserved-in-Open c).In-Some in
    let within = fits here _ c.in-Open.is in
    let pushed = c.in_ok-push-in-Open.ensures.cases in
    let o = c.in-Open.opened in (
      omega (arith, within.1),
      omega (arith, within.0, c.loop-brace.invariant.1),
      c.push-in-Open.ensures.room ∙ c.loop-brace.invariant.2,
      ap (on here (o + 1)) pushed.1 ∙ sym (turn_deeper o (o + 1) (stood here) (on here (o + 1)) (omega (arith, pushed.0, c.loop-brace.invariant.2))) ∙ step here _ c.in-Open.is,
    )

pub returns-then-depth-eq0-clause-value : goal.returns-then-depth-eq0-clause-value
returns-then-depth-eq0-clause-value c =
    let here = (goal.at.returns-then-depth-eq0-clause-value c).In-Some in
    let none = ap length (sym c.pop.ensures.after) ∙ sym c.depth.ensures.value ∙ c.if-depth-eq0.true in
    let p = c.in-Close.closed in
    sym (turn_last p (p + 1) (stood here) (on here (p + 1)) none) ∙ step here _ c.in-Close.is

pub loop-brace-preserved : goal.loop-brace-preserved
loop-brace-preserved c =
    let here = (goal.at.loop-brace-preserved c).In-Some in
    let within = fits here _ c.in-Close.is in
    let p = c.in-Close.closed in (
      omega (arith, within.1),
      omega (arith, within.0, c.loop-brace.invariant.1),
      c.pop.ensures.room ∙ c.loop-brace.invariant.2,
      ap (on here (p + 1)) c.pop.ensures.after ∙ sym (turn_closed p (p + 1) (stood here) (on here (p + 1)) (λ e. c.if-depth-eq0.false (c.depth.ensures.value ∙ ap length c.pop.ensures.after ∙ e))) ∙ step here _ c.in-Close.is,
    )

pub returns-clause-value : goal.returns-clause-value
returns-clause-value c =
    let none = ap (λ o. brace_items c.args.bytes.now (Ok o)) (sym c.in_default.is) ∙ c.in_ok-brace.ensures.value in
    let top = c.unwrap_or.ensures ∙ ap (λ o. unwrap_or o 0) c.top.ensures ∙ innermost_top (held c.loop-brace.stack.depth c.loop-brace.stack.entries.now) in
    ap (λ p. Err (Unclosed p)) top ∙ walk_on c.args.bytes.now c.loop-brace.at _ _ c.loop-brace.invariant.3 (Ok None) none
