use Rattle.std.proofs.Common.{◌≡◌, [], ◌∷◌, length, drop, Some, Ok, ap, ◌∙◌, subst, arith}
use Rattle.tokens.specs.Tokens.{good, bad, next}
use Rattle.tokens.specs.Shown.{shown, shown_next, FoundFits, items_at, items_left}
use Rattle.tokens.proofs.Items.{items_none, items_bad, items_good}
use Rattle.tokens.proofs.tokens.TokensIterator.next.Goals as goal
use Rattle.tokens.proofs.tokens.TokensIterator.next.Goals.{In-Ok-Some, In-Err}

-- what was to come is the token, and the items after it
found : (c : In-Ok-Some) → items_left c.args.self.now ≡ good (shown c.in-Ok-Some.found.token) c.in-Ok-Some.found.place c.in-Ok-Some.found.end ∷ items_at c.args.self.now.bytes.now (Some c.in-Ok-Some.found.end)
found c =
    let bytes = c.args.self.now.bytes.now in
    let f = c.in-Ok-Some.found in
    let fits = subst (λ o. FoundFits c.in_ok-at.at (length bytes) (Ok o)) c.in-Ok-Some.field-0-is c.in-Ok-Some.ensures.bound in
    let first = subst (λ o. shown_next (Ok o) ≡ next c.in_ok-at.at (drop c.in_ok-at.at bytes)) c.in-Ok-Some.field-0-is c.in-Ok-Some.ensures.value in
    ap (items_at bytes) c.in_ok-at.was ∙ items_good bytes c.in_ok-at.at (shown f.token) f.place f.end (omega (arith, fits.0, fits.1)) first

-- what was to come is the fault alone
faulty : (c : In-Err) → items_left c.args.self.now ≡ bad c.in-Err.fault ∷ []
faulty c = ap (items_at c.args.self.now.bytes.now) c.in_ok-at.was ∙ items_bad c.args.self.now.bytes.now c.in_ok-at.at c.in-Err.fault c.in-Err.ensures.value

pub returns-in-Ok-Some-clause-steps : goal.returns-in-Ok-Some-clause-steps
returns-in-Ok-Some-clause-steps c = found (goal.at.returns-in-Ok-Some-clause-steps c).In-Ok-Some

pub returns-in-Ok-Some-clause-goes : goal.returns-in-Ok-Some-clause-goes
returns-in-Ok-Some-clause-goes c =
    let fewer = ap length (found (goal.at.returns-in-Ok-Some-clause-goes c).In-Ok-Some) in
    record { on = λ _. (tt, tt, omega (arith, fewer)); keeps = tt; rests = λ _. tt }

pub returns-in-Ok-None-clause-steps : goal.returns-in-Ok-None-clause-steps
returns-in-Ok-None-clause-steps c =
    let bytes = c.args.self.now.bytes.now in
    let first = subst (λ o. shown_next (Ok o) ≡ next c.in_ok-at.at (drop c.in_ok-at.at bytes)) c.in-Ok-None.field-0-is c.in-Ok-None.ensures.value in
    let none = ap (items_at bytes) c.in_ok-at.was ∙ items_none bytes c.in_ok-at.at first in
    (none, none)

pub returns-in-Err-clause-steps : goal.returns-in-Err-clause-steps
returns-in-Err-clause-steps c = faulty (goal.at.returns-in-Err-clause-steps c).In-Err

pub returns-in-Err-clause-goes : goal.returns-in-Err-clause-goes
returns-in-Err-clause-goes c =
    let fewer = ap length (faulty (goal.at.returns-in-Err-clause-goes c).In-Err) in
    record { on = λ _. (tt, tt, omega (arith, fewer)); keeps = tt; rests = λ _. tt }
