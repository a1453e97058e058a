use Rattle.std.proofs.Common.{◌≡◌, ◌+◌, ◌-◌, ◌≤◌, length, drop, Err, sym, ap, ◌∙◌, subst, arith, length-drop}
use Rattle.std.proofs.lemmas.List.{take_rest}
use Rattle.records.specs.Apart.{first_end, record', series}
use Rattle.records.specs.Cursor.{to_come, series_at, steps}
use Rattle.records.specs.Faults.{place_of}
use Rattle.records.specs.Shown.{Split}
use Rattle.records.proofs.Series.{series_next, fault_within}
use Rattle.records.proofs.archive.RecordsIterator.next.Goals as goal
use Rattle.records.proofs.archive.RecordsIterator.next.Goals.{In-Ok}

pub overflow_add-place : goal.overflow_add-place
overflow_add-place c =
    let archive = c.args.self.now.archive.now in
    let at = c.in_ok-at.at in
    let refused : first_end (drop at archive) ≡ Err c.in-Err.fault = ap first_end (sym (take_rest archive at)) ∙ c.in-Err.ensures.value in
    let within : place_of c.in-Err.fault ≤ length archive - at = rw (length-drop at archive) at (fault_within (drop at archive) c.in-Err.fault refused) in
    omega (arith, c.place.ensures, c.if-at-self.false)

-- what was to come is the record, and what comes after it
taken : (c : In-Ok) → to_come c.args.self.now ≡ record' c.in_ok-at.at c.in-Ok.record.bytes.now (series 0 (c.in_ok-at.at + c.in-Ok.rest.place) (drop (c.in_ok-at.at + c.in-Ok.rest.place) c.args.self.now.archive.now))
taken c =
    let archive = c.args.self.now.archive.now in
    let at = c.in_ok-at.at in
    let parts : Split (drop at archive) c.in-Ok.record c.in-Ok.rest = subst (λ l. Split l c.in-Ok.record c.in-Ok.rest) (take_rest archive at) c.in-Ok.ensures.value in
    let n = c.in-Ok.rest.place in
    ap (series_at archive) c.in_ok-at.was ∙ series_next archive at n parts.end ∙ ap (λ r. record' at r (series 0 (at + n) (drop (at + n) archive))) (sym parts.front)

pub returns-in-Ok-clause-steps : goal.returns-in-Ok-clause-steps
returns-in-Ok-clause-steps c = taken (goal.at.returns-in-Ok-clause-steps c).In-Ok

pub returns-in-Ok-clause-goes : goal.returns-in-Ok-clause-goes
returns-in-Ok-clause-goes c =
    let fewer = ap steps (taken (goal.at.returns-in-Ok-clause-goes c).In-Ok) in
    record { on = λ f. (tt, tt, omega (arith, fewer)); keeps = tt; rests = λ f. tt }
