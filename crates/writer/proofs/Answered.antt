-- What a call answers, once the state takes it and its piece is good: then only the room decides.
use Rattle.std.proofs.Common.{◌≡◌, ℕ, List, length, Ok, Err, Option, Result, OnOk, OnErr, sym, refl, ap, ◌∙◌, subst}
use Rattle.writer.specs.declared.faults.WriterFault.{WriterFault}
use Rattle.writer.specs.States.{allowed}
use Rattle.writer.specs.Calls.{Ask, Moment, and_then, call_of, to_put, fits, room, answer, added, after, left_by, told}
use Rattle.writer.specs.Writers.{Served, measured}

-- Bytes that a call adds to the open record of a writer, if there is room for them.
module _ {W : Type 0} (page : ℕ) (encoded : ℕ → Option ℕ) (moment : W → Moment) (w : W) (ask : Ask) (bs : List ℕ)
    (may : Ok tt ≡ allowed (moment w).state (call_of ask)) (puts : to_put page encoded ask ≡ Ok bs) (adds : fits (moment w) ask (length bs) ≡ room (moment w).size (moment w).space (length bs)) (stays : after (moment w) ask bs ≡ added (moment w) bs) where
  answered : (q : Result (Unit {0}) WriterFault) → room (moment w).size (moment w).space (length bs) ≡ q → answer page encoded (moment w) ask ≡ and_then q (λ _. Ok bs)
  answered q e =
      ap (λ x. and_then x (λ _. and_then (to_put page encoded ask) (λ cs. and_then (fits (moment w) ask (length cs)) (λ _. Ok cs)))) (sym may)
      ∙ ap (λ x. and_then x (λ cs. and_then (fits (moment w) ask (length cs)) (λ _. Ok cs))) puts
      ∙ ap (λ x. and_then x (λ _. Ok bs)) (adds ∙ e)

  pub served_added : (r : Result ℕ WriterFault) (v : W) → r ≡ measured (moment w).size (moment w).space (length bs) → OnOk r (moment v ≡ added (moment w) bs) → OnErr r (v ≡ w) → Served page encoded ask (moment w) r (moment v)
  served_added r v tells ok err = by (room (moment w).size (moment w).space (length bs)) refl
    where
      by : (q : Result (Unit {0}) WriterFault) → room (moment w).size (moment w).space (length bs) ≡ q → Served page encoded ask (moment w) r (moment v)
      by (Ok u) e =
          let is : r ≡ Ok (length bs) = tells ∙ ap (λ x. and_then x (λ _. Ok (length bs))) e in
          let put = answered (Ok u) e in
          record { tells = is ∙ sym (ap told put); leaves = subst (λ x. OnOk x (moment v ≡ added (moment w) bs)) is ok ∙ sym stays ∙ sym (ap (left_by (moment w) ask) put) }
      by (Err f) e =
          let is : r ≡ Err f = tells ∙ ap (λ x. and_then x (λ _. Ok (length bs))) e in
          let put = answered (Err f) e in
          record { tells = is ∙ sym (ap told put); leaves = ap moment (subst (λ x. OnErr x (v ≡ w)) is err) ∙ sym (ap (left_by (moment w) ask) put) }
