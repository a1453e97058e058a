use Rattle.std.proofs.Common.{◌≡◌, ◌-◌, ◌++◌, length, take, drop, Ok, sym, refl, ap, ◌∙◌, subst, arith}
use Rattle.std.proofs.lemmas.List.{take_rest, take-append-drop}
use Rattle.std.proofs.lemmas.Bool.{cond-true}
use Rattle.records.specs.Apart.{first_end, passed_up}
use Rattle.records.proofs.Alone.{first_alone}
use Rattle.records.proofs.parts.take_apart.Goals as goal

pub returns : goal.returns
returns c =
    let bytes = c.args.bytes.now in
    let end = c.in_ok-end.end in
    let all : end - 0 ≡ end = omega arith in
    let ends : first_end bytes ≡ Ok end = cond-true _ _ _ (sym c.if-not-is_rtf.ensures) ∙ ap passed_up (sym c.in_ok-end.ensures.value) in
    let front : take (end - 0) bytes ≡ take end bytes = ap (λ k. take k bytes) all in
    record {
      value = record { end = ends; start = refl; front = front; back = take_rest bytes end };
      joined = ap (λ l. l ++ take (length bytes - end) (drop end bytes)) front ∙ ap (λ l. take end bytes ++ l) (take_rest bytes end) ∙ take-append-drop end bytes;
      alone = λ more. subst (λ k. first_end (take k bytes ++ more) ≡ Ok (length (take k bytes))) (sym all) (first_alone bytes end ends more);
    }
