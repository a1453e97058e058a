-- The content, one effect at a time.
use Rattle.std.proofs.Common.{◌≡◌, ℕ, ◌+◌, ◌<◌, ◌≤◌, List, [], ◌∷◌, ◌++◌, length, Some, None, Ok, Err, Option, Result, sym, refl, ap, ◌∙◌, append_assoc, append-nil, arith, length-append}
use Rattle.std.specs.List.{AllByRecursion}
use Rattle.reader.specs.declared.faults.ReadFault.{ReadFault}
use Rattle.reader.specs.declared.faults.ReadFault.TheVariants.{LoneHalf}
use Rattle.reader.specs.declared.assemble.Half.{Half}
use Rattle.reader.specs.declared.assemble.Joined.{Joined}
use Rattle.reader.specs.Rules.{Effect}
use Rattle.reader.specs.Content.{make, read, before, onward, characters}
use Rattle.reader.specs.Pieces.{shown, shown_joined}
use Rattle.reader.specs.Walk.{as_bytes}

before_more : (cs ds : List ℕ) (r : Result (List ℕ) ReadFault) → before cs (before ds r) ≡ before (cs ++ ds) r
before_more cs ds (Ok es) = ap (λ l. Ok l) (sym (append_assoc cs ds es))
before_more cs ds (Err f) = refl

module _ (decoded : ℕ → Option ℕ) where
  characters_step : (w : Option Half) (x : Effect × ℕ) (xs : List (Effect × ℕ)) → characters decoded w (x ∷ xs) ≡ onward (make decoded w x.0 x.1) (λ w. characters decoded w xs)
  characters_step None x xs = refl
  characters_step (Some h) x xs = refl

  module _ (done : List ℕ) (w : Option Half) (x : Effect × ℕ) (xs all : List (Effect × ℕ)) (e : all ≡ x ∷ xs) where
    pub made_more : (j : Joined) → shown_joined (Ok j) ≡ make decoded w x.0 x.1 → before done (characters decoded w all) ≡ before (done ++ (shown j).characters) (characters decoded (shown j).waiting xs)
    made_more j m = ap (λ l. before done (characters decoded w l)) e ∙ ap (before done) (characters_step w x xs) ∙ ap (λ r. before done (onward r (λ w. characters decoded w xs))) (sym m) ∙ before_more done (shown j).characters (characters decoded (shown j).waiting xs)

    pub made_none : (f : ReadFault) → Err f ≡ make decoded w x.0 x.1 → before done (characters decoded w all) ≡ Err f
    made_none f m = ap (λ l. before done (characters decoded w l)) e ∙ ap (before done) (characters_step w x xs) ∙ ap (λ r. before done (onward r (λ w. characters decoded w xs))) (sym m)

  module _ (done : List ℕ) (w : Option Half) (all : List (Effect × ℕ)) (e : all ≡ []) where
    pub ended_whole : w ≡ None → before done (characters decoded w all) ≡ Ok done
    ended_whole n = ap (λ l. before done (characters decoded w l)) e ∙ ap (λ w. before done (characters decoded w [])) n ∙ ap (λ l. Ok l) (append-nil done)

    pub ended_half : (h : Half) → w ≡ Some h → before done (characters decoded w all) ≡ Err (LoneHalf h.place)
    ended_half h n = ap (λ l. before done (characters decoded w l)) e ∙ ap (λ w. before done (characters decoded w [])) n

before_none : (r : Result (List ℕ) ReadFault) → r ≡ before [] r
before_none (Ok cs) = refl
before_none (Err f) = refl

-- ASCII bytes are their own characters
module _ (decoded : ℕ → Option ℕ) (ascii : (b : ℕ) → b < 128 → decoded b ≡ Some b) where
  bytes_made : (p : ℕ) (bs : List ℕ) (xs : List (Effect × ℕ)) → AllByRecursion (λ b. b < 128) bs → characters decoded None (as_bytes p bs ++ xs) ≡ before bs (characters decoded None xs)
  bytes_made p [] xs h = before_none (characters decoded None xs)
  bytes_made p (b ∷ bs) xs h =
      ap (λ o. onward (read o p) (λ w. characters decoded w (as_bytes (p + 1) bs ++ xs))) (ascii b h.0)
      ∙ ap (before (b ∷ [])) (bytes_made (p + 1) bs xs h.1)
      ∙ before_more (b ∷ []) bs (characters decoded None xs)

  pub text_more : (done : List ℕ) (w : Option Half) (p : ℕ) (bs : List ℕ) (all xs : List (Effect × ℕ)) → w ≡ None → AllByRecursion (λ b. b < 128) bs → all ≡ as_bytes p bs ++ xs → before done (characters decoded w all) ≡ before (done ++ bs) (characters decoded w xs)
  text_more done w p bs all xs none h e =
      ap (λ l. before done (characters decoded w l)) e
      ∙ ap (λ w. before done (characters decoded w (as_bytes p bs ++ xs))) none
      ∙ ap (before done) (bytes_made p bs xs h)
      ∙ before_more done bs (characters decoded None xs)
      ∙ ap (λ w. before (done ++ bs) (characters decoded w xs)) (sym none)

-- a run that was taken leaves no more to come
pub text_less : (p : ℕ) (bs : List ℕ) (all xs : List (Effect × ℕ)) → all ≡ as_bytes p bs ++ xs → length xs ≤ length all
text_less p bs all xs e = omega (arith, ap length e, length-append (as_bytes p bs) xs)
