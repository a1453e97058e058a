-- The keys of a text, by its first characters.
use Rattle.std.proofs.Common.{◌≡◌, ℕ, Bool, true, false, cond, ◌&&◌, eqb, List, [], ◌∷◌, ◌++◌, length, None, Some, Option, IsUtf8, sym, refl, ap, ◌∙◌, arith}
use lib.Utf8.{encode}
use Rattle.std.specs.List.{slice_get}
use Rattle.std.specs.Option.{option_eq, MatchOption}
use Rattle.std.specs.Str.{chars}
use Rattle.std.proofs.lemmas.Bool.{cond-false, eqb-true, ne_eqb, true≢false}
use Rattle.std.proofs.lemmas.Str.{chars-nil, chars_past_char}
use Rattle.writer.specs.Spelling.{Key, break, key, press, keys}

-- Only a CR joins what comes after it.
press_other : (c : ℕ) (ks : List Key) → eqb c 13 ≡ false → press c ks ≡ key c ∷ ks
press_other c [] e = refl
press_other c (break ∷ ks) e = refl
press_other c (key d ∷ ks) e = ap (λ b. cond (b && eqb d 10) (break ∷ ks) (key c ∷ (key d ∷ ks))) e

-- And it joins only an LF.
press_return : (c : ℕ) (ks : List Key) → eqb c 10 ≡ false → press 13 (press c ks) ≡ key 13 ∷ press c ks
press_return c [] e = cond-false _ _ _ e
press_return c (break ∷ ks) e = cond-false _ _ _ e
press_return c (key d ∷ ks) e = joins (eqb c 13 && eqb d 10)
  where
    joins : (b : Bool) → press 13 (cond b (break ∷ ks) (key c ∷ (key d ∷ ks))) ≡ key 13 ∷ cond b (break ∷ ks) (key c ∷ (key d ∷ ks))
    joins true = refl
    joins false = cond-false _ _ _ e

-- A text with no character.
pub no_key : (bs : List ℕ) → length bs ≡ 0 → keys (chars bs) ≡ []
no_key [] e = ap keys chars-nil
no_key (b ∷ bs) e = absurd (omega arith)

-- A text that begins with a character.
module _ (bs later : List ℕ) (c : ℕ) (text : IsUtf8 bs) (is : bs ≡ encode c ++ later) where
  starts : keys (chars bs) ≡ press c (keys (chars later))
  starts = ap keys (chars_past_char bs later c text is)

  -- The character is no CR, or none with an LF after it.
  pub key_other : (c ≡ 13 → ⊥) → keys (chars bs) ≡ key c ∷ keys (chars later)
  key_other other = starts ∙ press_other c (keys (chars later)) (ne_eqb c 13 other)

  pub key_return : (r : Option ℕ) → c ≡ 13 → r ≡ slice_get (chars later) 0 → false ≡ option_eq eqb r (Some 10) → keys (chars bs) ≡ key c ∷ keys (chars later)
  key_return r e f other = starts ∙ ap (λ x. press x (keys (chars later))) e ∙ by (chars later) (other ∙ ap (λ x. option_eq eqb x (Some 10)) f) ∙ ap (λ x. key x ∷ keys (chars later)) (sym e)
    where
      by : (cs : List ℕ) → false ≡ option_eq eqb (slice_get cs 0) (Some 10) → press 13 (keys cs) ≡ key 13 ∷ keys cs
      by [] q = refl
      by (d ∷ cs) q = press_return d (keys cs) (sym q)

  -- It is a CR with an LF after it.
  pub key_break : (after : List ℕ) (r : Option ℕ) (N : Type 0) → c ≡ 13 → IsUtf8 later → MatchOption r N (λ d. later ≡ encode d ++ after) → true ≡ option_eq eqb r (Some 10) → keys (chars bs) ≡ break ∷ keys (chars after)
  key_break after None N e u next same = absurd (true≢false same)
  key_break after (Some d) N e u next same =
      starts ∙ ap (λ x. press x (keys (chars later))) e ∙ ap (λ l. press 13 (keys l)) (chars_past_char later after d u next)
      ∙ ap (λ x. press 13 (press x (keys (chars after)))) (eqb-true d 10 (sym same)) ∙ ap (press 13) (press_other 10 (keys (chars after)) refl)
