use Rattle.std.proofs.Common.{◌≡◌, ◌≤◌, [], ◌∷◌, length, drop, sym, refl, ap, ◌∙◌, subst, arith}
use Rattle.std.proofs.lemmas.List.{drop_all}
use Rattle.groups.specs.Stack.{below, held, room}
use Rattle.groups.proofs.Held.{pushed_full}
use Rattle.tokens.specs.Tokens.{items}
use Rattle.reader.specs.Rules.{opened, effects}
use Rattle.reader.specs.Walk.{states, most, from, rest}
use Rattle.reader.proofs.Walks.{effects_none, top_none, top_some, opened_deep}
use Rattle.reader.proofs.walk.Effects.open.Goals as goal

pub returns-in_default : goal.returns-in_default
returns-in_default c =
    let s = c.args.self.now in
    let none : states s ≡ [] = top_none (states s) c.in_default.ensures in
    record { value = ap (λ ss. effects (most s) s.kind ss 0 (rest s)) none ∙ effects_none (most s) s.kind 0 (rest s) ∙ sym (ap (λ ss. opened (most s) c.args.place ss (from s)) none); on = omega arith; same = refl }

pub returns-then-is_err : goal.returns-then-is_err
returns-then-is_err c =
    let s = c.args.self.now in
    let ss = states s in
    let bytes = s.bytes.now in
    let is : ss ≡ c.in-Some.state ∷ below ss = top_some ss c.in-Some.state c.in-Some.ensures in
    let full = pushed_full (λ x. x.opens) c.inside.result (length s.states.entries.now) ss (held c.push.new.self.depth c.push.new.self.entries.now) c.push.result (sym c.if-is_err.ensures.value) c.push.ensures.cases in
    let deep : most s ≤ length (c.in-Some.state ∷ below ss) = subst (λ l. most s ≤ length l) is full in
    let none : drop (length bytes) bytes ≡ [] = drop_all (length bytes) bytes (omega arith) in
    record {
      value = ap (λ l. effects (room (length c.push.new.self.entries.now)) s.kind (held c.push.new.self.depth c.push.new.self.entries.now) 0 (items 0 (length bytes) l)) none ∙ sym (ap (λ l. opened (most s) c.args.place l (from s)) is ∙ opened_deep (most s) c.args.place c.in-Some.state (below ss) (from s) deep);
      on = c.requires;
      same = refl;
    }
