-- Calls that are made one after the other: their answers, and what they leave.
use Rattle.std.proofs.Common.{◌≡◌, ℕ, suc, ◌+◌, ◌<◌, List, [], ◌∷◌, ◌++◌, map, length, get_or, take, drop, set, min, Option, Result, sym, refl, ap, ◌∙◌, append_assoc, arith}
use lib.ListN.{length-map}
use Rattle.std.proofs.lemmas.List.{drop_more, length-take, length-take-le, get_or-take, map_more, set_at}
use Rattle.writer.specs.declared.faults.WriterFault.{WriterFault}
use Rattle.writer.specs.Calls.{Ask, Moment, answer, step, told}
use Rattle.sittings.specs.declared.calls.Call.{Call}
use Rattle.sittings.specs.Calls.{asked, answers, left}

module _ (page : ℕ) (encoded : ℕ → Option ℕ) where
  -- One call more.
  pub left_more : (m : Moment) (asks : List Ask) (a : Ask) → left page encoded m (asks ++ a ∷ []) ≡ step page encoded (left page encoded m asks) a
  left_more m [] a = refl
  left_more m (b ∷ asks) a = left_more (step page encoded m b) asks a

  pub answers_more : (m : Moment) (asks : List Ask) (a : Ask) → answers page encoded m (asks ++ a ∷ []) ≡ answers page encoded m asks ++ told (answer page encoded (left page encoded m asks) a) ∷ []
  answers_more m [] a = refl
  answers_more m (b ∷ asks) a = ap (λ l. told (answer page encoded m b) ∷ l) (answers_more (step page encoded m b) asks a)

  pub answers_long : (m : Moment) (asks : List Ask) → length (answers page encoded m asks) ≡ length asks
  answers_long m [] = refl
  answers_long m (a ∷ asks) = ap suc (answers_long (step page encoded m a) asks)

-- A turn of the serving, of as many as there are calls and places: one call more is made, and its answer written.
module _ (page : ℕ) (encoded : ℕ → Option ℕ) (first : Moment) (calls : List Call) (before : List (Result ℕ WriterFault)) (count at : ℕ) (d : Call) (fits : count ≡ min (length calls) (length before)) (turn : at < length (take count calls)) where
  asks_more : map asked (take (at + 1) calls) ≡ map asked (take at calls) ++ asked (get_or (take count calls) at d) ∷ []
  asks_more = map_more asked calls at d (omega (arith, length-take count calls)) ∙ ap (λ c. map asked (take at calls) ++ asked c ∷ []) (sym (get_or-take count calls at d (omega (arith, length-take count calls))))

  pub turn_left : (m after : Moment) → m ≡ left page encoded first (map asked (take at calls)) → after ≡ step page encoded m (asked (get_or (take count calls) at d)) → after ≡ left page encoded first (map asked (take (at + 1) calls))
  turn_left m after p q =
      q ∙ ap (λ x. step page encoded x (asked (get_or (take count calls) at d))) p
      ∙ sym (left_more page encoded first (map asked (take at calls)) (asked (get_or (take count calls) at d))) ∙ ap (left page encoded first) (sym asks_more)

  pub turn_told : (m : Moment) (written : List (Result ℕ WriterFault)) (x : Result ℕ WriterFault) → m ≡ left page encoded first (map asked (take at calls)) → written ≡ answers page encoded first (map asked (take at calls)) ++ drop at before → x ≡ told (answer page encoded m (asked (get_or (take count calls) at d))) → set written at x ≡ answers page encoded first (map asked (take (at + 1) calls)) ++ drop (at + 1) before
  turn_told m written x p q r =
      let so_far = answers page encoded first (map asked (take at calls)) in
      let within : (at < length calls) × (at < length before) = (omega (arith, length-take count calls), omega (arith, length-take count calls)) in
      let long : length so_far ≡ at = answers_long page encoded first (map asked (take at calls)) ∙ length-map (take at calls) asked ∙ length-take-le at calls (omega arith) in
      let new = r ∙ ap (λ y. told (answer page encoded y (asked (get_or (take count calls) at d)))) p in
      ap (λ l. set l at x) (q ∙ ap (λ l. so_far ++ l) (drop_more before at x within.1))
      ∙ set_at so_far (get_or before at x) (drop (at + 1) before) x at long
      ∙ sym (append_assoc so_far (x ∷ []) (drop (at + 1) before))
      ∙ ap (λ y. (so_far ++ y ∷ []) ++ drop (at + 1) before) new
      ∙ ap (λ l. l ++ drop (at + 1) before) (sym (answers_more page encoded first (map asked (take at calls)) (asked (get_or (take count calls) at d))) ∙ ap (answers page encoded first) (sym asks_more))
