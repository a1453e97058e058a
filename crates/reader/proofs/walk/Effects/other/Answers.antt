use Rattle.std.proofs.Common.{◌≡◌, ◌∷◌, unwrap_or, sym, ap, ◌∙◌, arith}
use Rattle.tokens.specs.Shown.{shown}
use Rattle.groups.specs.Stack.{below, topped, room}
use Rattle.reader.specs.Rules.{Turn, other, added, effects, turn_of, tag_next}
use Rattle.reader.specs.Shown.{shown_turn}
use Rattle.reader.specs.Walk.{to_come, states, from, rest}
use Rattle.reader.proofs.Walks.{top_some, turn_star}
use Rattle.reader.proofs.walk.Effects.other.Goals as goal
use Rattle.reader.proofs.walk.Effects.other.Goals.{in-Some-change, in_default-change}

pub returns : goal.returns
returns c =
    let s = c.args.self.now in
    let t = shown c.args.token in
    let state = c.in-Some.state in
    let ss = states s in
    let taken = c.turn_of-turn.result in
    let is : ss ≡ state ∷ below ss = top_some ss state c.in-Some.ensures in
    let none : s.skip ≡ 0 = omega arith in
    let turn : shown_turn state taken ≡ turn_of s.kind state t (tag_next (rest s)) = c.turn_of-turn.ensures ∙ ap (turn_of s.kind state t) c.tag_next.ensures ∙ turn_star s.kind state t (tag_next (rest s)) in
    let later : to_come c.match-turn.self ≡ from s ((shown_turn state taken).state ∷ below ss) taken.skip = elim c.match-turn.branch [
      | in-Some-change w ↦
          let top = w.set_top.ensures.after ∙ ap (topped w.in-Some-change.changed) is in
          ap to_come w.self-is ∙ (λ i. effects (room (w.set_top.ensures.room i)) s.kind (top i) taken.skip (rest s)) ∙ ap (λ o. from s (unwrap_or o state ∷ below ss) taken.skip) (sym w.in-Some-change.is)
      | in_default-change w ↦
          ap to_come w.self-is ∙ ap (λ l. from s l taken.skip) is ∙ ap (λ o. from s (unwrap_or o state ∷ below ss) taken.skip) (sym w.in_default-change.is)
    ] in
    record {
      value = λ p.
          ap (added (shown_turn state taken).effect p) later
          ∙ ap (λ (x : Turn). added x.effect p (from s (x.state ∷ below ss) x.skip)) turn
          ∙ sym (ap (λ l. other s.kind t p (tag_next (rest s)) l s.skip (from s)) is ∙ ap (λ n. other s.kind t p (tag_next (rest s)) (state ∷ below ss) n (from s)) none);
      on = elim c.match-turn.branch [ in-Some-change w ↦ ap (λ e. e.at) w.self-is | in_default-change w ↦ ap (λ e. e.at) w.self-is ];
      same = elim c.match-turn.branch [ in-Some-change w ↦ ap (λ e. e.bytes.now) w.self-is | in_default-change w ↦ ap (λ e. e.bytes.now) w.self-is ];
    }
