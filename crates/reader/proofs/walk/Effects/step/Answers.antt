use Rattle.std.proofs.Common.{◌≡◌, ℕ, List, drop, sym, refl, ap, ◌∙◌, arith}
use Rattle.tokens.specs.declared.lexer.Token.{Token}
use Rattle.tokens.specs.Shown.{shown}
use Rattle.tokens.specs.Tokens.{Item, items}
use Rattle.groups.specs.Stack.{room}
use Rattle.reader.specs.Rules.{Effect, step, effects, tag_next}
use Rattle.reader.specs.Walk.{to_come, most, states}
use Rattle.reader.proofs.Walks.{walk_found, closed_below, step_other}
use Rattle.reader.proofs.walk.Effects.step.Goals as goal
use Rattle.reader.proofs.walk.Effects.step.Goals.{Start}

-- the tokens after the one that was found
abbrev later : Start → List Item
later c = items 0 c.args.found.end (drop c.args.found.end c.args.self.now.bytes.now)

-- the walk by a token
abbrev by : (c : Start) → Token → List (Effect × ℕ)
by c t = step (most c.args.self.now) c.args.self.now.kind (shown t) c.args.found.place (tag_next (later c)) (states c.args.self.now) c.args.self.now.skip (λ rs n. effects (most c.args.self.now) c.args.self.now.kind rs n (later c))

found : (c : Start) → to_come c.args.self.now ≡ by c c.args.found.token
found c = let s = c.args.self.now in walk_found (most s) s.kind (states s) s.skip s.bytes.now s.at (shown c.args.found.token) c.args.found.place c.args.found.end c.requires.after c.requires.next

pub returns-in-Open : goal.returns-in-Open
returns-in-Open c =
    let here = (goal.at.returns-in-Open c).Start in
    record { value = found here ∙ ap (by here) c.in-Open.is ∙ sym c.open.ensures.value; on = c.open.ensures.on; same = c.open.ensures.same }

pub returns-in-Close : goal.returns-in-Close
returns-in-Close c =
    let here = (goal.at.returns-in-Close c).Start in
    let s = c.args.self.now in
    record {
      value = found here ∙ ap (by here) c.in-Close.is ∙ closed_below (most s) s.kind (states s) (later here) ∙ (λ i. effects (room (sym c.pop.ensures.room i)) s.kind (sym c.pop.ensures.after i) 0 (later here));
      on = omega arith;
      same = refl;
    }

pub returns-in_default : goal.returns-in_default
returns-in_default c =
    let here = (goal.at.returns-in_default c).Start in
    let s = c.args.self.now in
    let t = c.args.found.token in
    record {
      value = found here ∙ step_other (most s) s.kind t c.args.found.place (tag_next (later here)) (states s) s.skip (λ rs n. effects (most s) s.kind rs n (later here)) c.in_default.not-Open c.in_default.not-Close ∙ sym (c.other.ensures.value c.args.found.place);
      on = omega (arith, c.other.ensures.on);
      same = c.other.ensures.same;
    }
