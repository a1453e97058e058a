use Rattle.std.proofs.Common.{◌≡◌, ◌-◌, ◌<◌, cond, [], ◌++◌, take, drop, sym, refl, ap, ◌∙◌, subst, arith}
use Rattle.std.specs.List.{prefix_len, AllByRecursion}
use Rattle.std.proofs.lemmas.List.{at_drop_all}
use Rattle.std.proofs.lemmas.Bool.{cond-true, cond-false, cond_both}
use Rattle.tokens.specs.Tokens.{is_plain, items}
use Rattle.tokens.proofs.Texts.{items_run, run_low}
use Rattle.reader.specs.Rules.{effects}
use Rattle.reader.specs.Walk.{as_bytes, in_text, states, most}
use Rattle.reader.proofs.Walks.{run_taken}
use Rattle.reader.proofs.walk.Effects.text.Goals as goal
use Rattle.reader.proofs.walk.Effects.text.Goals.{then-from-self-via-then-from-self, then-from-self-via-else-from-self+then-not-is_in_text}

pub returns : goal.returns
returns c =
    let s = c.args.self.now in
    let bytes = s.bytes.now in
    let end = c.text_end-end.result in
    let run = prefix_len is_plain (drop s.at bytes) in
    let after = items 0 end (drop end bytes) in
    let takes = sym c.if-not-is_in_text.ensures in
    let long : run ≡ end - s.at = omega (arith, c.text_end-end.ensures.value) in
    record {
      run = ap (λ k. take k (drop s.at bytes)) (sym long) ∙ sym (cond-true _ _ [] takes);
      value =
          ap (effects (most s) s.kind (states s) s.skip) (items_run bytes s.at end c.text_end-end.ensures.value)
          ∙ run_taken (most s) s.kind after (states s) s.skip takes s.at (take run (drop s.at bytes))
          ∙ ap (λ k. as_bytes s.at (take k (drop s.at bytes)) ++ effects (most s) s.kind (states s) s.skip after) long;
      ascii = subst (λ k. AllByRecursion (λ b. b < 128) (take k (drop s.at bytes))) long (run_low (drop s.at bytes));
    }

pub returns-then-from-self : goal.returns-then-from-self
returns-then-from-self c =
    let s = c.args.self.now in
    let takes = in_text s.kind (states s) s.skip in
    record {
      run = elim c.then-from-self.branch [
        | then-from-self-via-then-from-self w ↦ sym (at_drop_all (λ bs. cond takes (take (prefix_len is_plain bs) bs) []) s.bytes.now s.at w.if-from-self.true ∙ cond_both takes [] [] (λ l. l ≡ []) (λ _. refl) (λ _. refl))
        | then-from-self-via-else-from-self+then-not-is_in_text w ↦ sym (cond-false takes _ [] (sym w.if-not-is_in_text.ensures))
      ];
      value = refl;
      ascii = tt;
    }
