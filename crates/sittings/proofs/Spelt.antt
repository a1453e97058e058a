-- A piece as it is spelled: it reads as its characters.
use Rattle.std.proofs.Common.{◌≡◌, ℕ, ◌+◌, ◌-◌, ◌/◌, ◌%◌, ◌<◌, ◌≤◌, true, false, ◌&&◌, ◌||◌, eqb, ltb, leb, ◌⊎◌, List, [], ◌∷◌, ◌++◌, length, Some, None, codes, Option, sym, refl, ap, ◌∙◌, subst, inl, inr, ⊎_elim, arith}
use lib.Utf8.{scalar, scalars}
use Rattle.std.specs.List.{flat_map, AllByRecursion}
use Rattle.std.specs.Char.{is_ascii_alphabetic}
use Rattle.std.specs.Fmt.{signed_decimal}
use Rattle.std.proofs.lemmas.Bool.{cond_both, eqb-true, leb-true, ltb-true, ltb-false, ne_eqb, or_parts, or_cases, and_parts, cases_Bool}
use Rattle.tokens.specs.Tokens.{Tok, word, hex, symbol, text}
use Rattle.tokens.proofs.Fronts.{stops_question}
use Rattle.tokens.proofs.Lexed.{Lexed, lexed_nil, lexed_append, lexed_then, lexed_text, lexed_symbol, lexed_spaced, lexed_hex, lexed_number}
use Rattle.groups.proofs.Passes.{Level, level_append}
use Rattle.records.specs.declared.kinds.Kind.{Kind}
use Rattle.reader.specs.declared.state.ReadingState.{ReadingState}
use Rattle.reader.specs.Rules.{symbol_text}
use Rattle.reader.proofs.Says.{Plain, Says, says_nil, says_append, says_text, says_hex, says_symbol, says_tab, says_par, says_unit, says_pair}
use Rattle.writer.specs.Spelling.{unit_number, spelled_unit, hexed, coded, is_escaped, spelled, Key, break, key, press, keys, spelled_key, spelled_all}
use Rattle.writer.proofs.Spellings.{one_unit, two_units}
use Rattle.sittings.proofs.Lawful.{Lawful}
use Rattle.sittings.proofs.Units.{unit_small, unit_back, not_high, not_low, halves_small, high_half, low_half, paired}

-- The bytes xs stand for the characters cs wherever tokens have effect: their tokens open and close no group.
pub record Spells (decoded : ℕ → Option ℕ) (xs cs : List ℕ) : Type 0 where
  pub tokens : List (Tok × ℕ)
  pub lexed : Lexed xs tokens
  pub level : Level 0 0 tokens
  pub says : (k : Kind) (ss : List ReadingState) (s : ReadingState) → Plain s → Says decoded k s ss tokens cs

-- The tokens of a unit: its word and a question mark.
abbrev unit_tokens : ℕ → List (Tok × ℕ)
unit_tokens u = (word (codes "u") (Some (unit_number u)), 2 + length (signed_decimal (unit_number u))) ∷ (text 63, 1) ∷ []

module _ (decoded : ℕ → Option ℕ) where
  pub spells_nil : Spells decoded [] []
  spells_nil = record { tokens = []; lexed = lexed_nil; level = refl; says = λ k ss s h. says_nil decoded k ss s }

  pub spells_append : (xs ys cs ds : List ℕ) → Spells decoded xs cs → Spells decoded ys ds → Spells decoded (xs ++ ys) (cs ++ ds)
  spells_append xs ys cs ds a b = record {
    tokens = a.tokens ++ b.tokens;
    lexed = lexed_append xs ys a.tokens b.tokens a.lexed b.lexed;
    level = level_append 0 a.tokens b.tokens a.level b.level;
    says = λ k ss s h. says_append decoded k ss s a.tokens b.tokens cs ds (a.says k ss s h) (b.says k ss s h);
  }

  unit_lexed : (u : ℕ) → u < 65536 → Lexed (spelled_unit u) (unit_tokens u)
  unit_lexed u h =
      lexed_then 63 (92 ∷ 117 ∷ signed_decimal (unit_number u)) [] _ _
      (lexed_number (codes "u") (omega arith) (omega arith) refl refl (unit_number u) (unit_small u h) 63 stops_question)
      (lexed_text 63 refl refl refl refl refl)

  -- a character of one unit, and one of two
  spells_unit : (c : ℕ) → scalar c ≡ true → c < 0x10000 → Spells decoded (spelled_unit c) (c ∷ [])
  spells_unit c e h = record {
    tokens = unit_tokens c;
    lexed = unit_lexed c h;
    level = refl;
    says = λ k ss s p. says_unit decoded k ss s p (2 + length (signed_decimal (unit_number c))) 1 (unit_number c) c (unit_back c h) (not_high c e) (not_low c e);
  }

  spells_pair : (c : ℕ) → scalar c ≡ true → 0x10000 ≤ c → Spells decoded (spelled_unit (0xD800 + (c - 0x10000) / 0x400) ++ spelled_unit (0xDC00 + (c - 0x10000) % 0x400)) (c ∷ [])
  spells_pair c e h =
      let high = 0xD800 + (c - 0x10000) / 0x400 in
      let low = 0xDC00 + (c - 0x10000) % 0x400 in
      let small = halves_small c e h in
      record {
        tokens = unit_tokens high ++ unit_tokens low;
        lexed = lexed_append (spelled_unit high) (spelled_unit low) (unit_tokens high) (unit_tokens low) (unit_lexed high small.0) (unit_lexed low small.1);
        level = refl;
        says = λ k ss s p. subst (λ x. Says decoded k s ss (unit_tokens high ++ unit_tokens low) (x ∷ [])) (paired c e h)
            (says_pair decoded k ss s p (2 + length (signed_decimal (unit_number high))) 1 (2 + length (signed_decimal (unit_number low))) 1 (unit_number high) (unit_number low) high low (unit_back high small.0) (unit_back low small.1) (high_half c e h) (low_half c e h));
      }

  spells_units : (c : ℕ) → scalar c ≡ true → Spells decoded (coded None c) (c ∷ [])
  spells_units c e =
      ⊎_elim
      (λ q. subst (λ xs. Spells decoded xs (c ∷ [])) (sym (one_unit c (ltb-true c 0x10000 q))) (spells_unit c e (ltb-true c 0x10000 q)))
      (λ q. subst (λ xs. Spells decoded xs (c ∷ [])) (sym (two_units c (ltb-false c 0x10000 q))) (spells_pair c e (ltb-false c 0x10000 q)))
      (cases_Bool (ltb c 0x10000))

  spells_hex : (b c : ℕ) → b < 256 → decoded b ≡ Some c → Spells decoded (hexed b) (c ∷ [])
  spells_hex b c h e = record {
    tokens = (hex b, 4) ∷ [];
    lexed = lexed_hex b h;
    level = refl;
    says = λ k ss s p. says_hex decoded k ss s p 4 b c e;
  }

  spells_tab : Spells decoded (codes "\\tab ") (9 ∷ [])
  spells_tab = record {
    tokens = (word (codes "tab") None, 5) ∷ [];
    lexed = lexed_spaced (codes "tab") (word (codes "tab") None) refl;
    level = refl;
    says = λ k ss s p. says_tab decoded k ss s p 5 None;
  }

  spells_break : Spells decoded (codes "\\par ") (13 ∷ 10 ∷ [])
  spells_break = record {
    tokens = (word (codes "par") None, 5) ∷ [];
    lexed = lexed_spaced (codes "par") (word (codes "par") None) refl;
    level = refl;
    says = λ k ss s p. says_par decoded k ss s p 5 None;
  }

  spells_escaped : (c : ℕ) → (c ≡ 123) ⊎ ((c ≡ 125) ⊎ (c ≡ 92)) → Spells decoded (92 ∷ c ∷ []) (c ∷ [])
  spells_escaped c =
      let P : ℕ → Type 0 = λ x. Spells decoded (92 ∷ x ∷ []) (x ∷ []) in
      ⊎_elim (λ e. subst P (sym e) (escaped 123 refl refl refl (λ k. refl))) (⊎_elim (λ e. subst P (sym e) (escaped 125 refl refl refl (λ k. refl))) (λ e. subst P (sym e) (escaped 92 refl refl refl (λ k. refl))))
    where
      escaped : (x : ℕ) → is_ascii_alphabetic x ≡ false → eqb x 39 ≡ false → eqb x 42 ≡ false → ((k : Kind) → symbol_text k x ≡ Some (x ∷ [])) → Spells decoded (92 ∷ x ∷ []) (x ∷ [])
      escaped x l q t given = record {
        tokens = (symbol x, 2) ∷ [];
        lexed = lexed_symbol x l q;
        level = refl;
        says = λ k ss s p. says_symbol decoded k ss s p 2 x (x ∷ []) (given k) t;
      }

-- What a key stands for.
abbrev spoken_key : Key → List ℕ
spoken_key break = 13 ∷ 10 ∷ []
spoken_key (key c) = c ∷ []

abbrev ScalarKey : Key → Type 0
ScalarKey break = Unit {0}
ScalarKey (key c) = scalar c ≡ true

-- A character before keys is said before what they say.
press_spoken : (c : ℕ) (ks : List Key) → flat_map spoken_key (press c ks) ≡ c ∷ flat_map spoken_key ks
press_spoken c [] = refl
press_spoken c (break ∷ ks) = refl
press_spoken c (key d ∷ ks) =
    cond_both (eqb c 13 && eqb d 10) _ _ (λ x. flat_map spoken_key x ≡ c ∷ d ∷ flat_map spoken_key ks)
    (λ q. let parts = and_parts (eqb c 13) (eqb d 10) q in ap (λ x. x ∷ 10 ∷ flat_map spoken_key ks) (sym (eqb-true c 13 parts.0)) ∙ ap (λ x. c ∷ x ∷ flat_map spoken_key ks) (sym (eqb-true d 10 parts.1)))
    (λ _. refl)

keys_spoken : (cs : List ℕ) → flat_map spoken_key (keys cs) ≡ cs
keys_spoken [] = refl
keys_spoken (c ∷ cs) = press_spoken c (keys cs) ∙ ap (λ l. c ∷ l) (keys_spoken cs)

press_scalar : (c : ℕ) (ks : List Key) → scalar c ≡ true → AllByRecursion ScalarKey ks → AllByRecursion ScalarKey (press c ks)
press_scalar c [] s all = (s, tt)
press_scalar c (break ∷ ks) s all = (s, all)
press_scalar c (key d ∷ ks) s all = cond_both (eqb c 13 && eqb d 10) _ _ (AllByRecursion ScalarKey) (λ _. (tt, all.1)) (λ _. (s, all))

keys_scalar : (cs : List ℕ) → scalars cs ≡ true → AllByRecursion ScalarKey (keys cs)
keys_scalar [] s = tt
keys_scalar (c ∷ cs) s = let parts = and_parts (scalar c) (scalars cs) s in press_scalar c (keys cs) parts.0 (keys_scalar cs parts.1)

-- A character, a key and a piece, in a lawful code page.
module _ (page : ℕ) (decoded encoded : ℕ → Option ℕ) (lawful : Lawful page decoded encoded) where
  spells_plain : (c : ℕ) → is_escaped c ≡ false → 32 ≤ c → c ≤ 126 → Spells decoded (c ∷ []) (c ∷ [])
  spells_plain c e low high =
      let one = or_parts (eqb c 123) (eqb c 125 || eqb c 92) e in
      let two = or_parts (eqb c 125) (eqb c 92) one.1 in
      record {
        tokens = (text c, 1) ∷ [];
        lexed = lexed_text c one.0 two.0 two.1 (ne_eqb c 13 (λ q. omega arith)) (ne_eqb c 10 (λ q. omega arith));
        level = refl;
        says = λ k ss s p. says_text decoded k ss s p 1 c c (lawful.ascii c (omega arith));
      }

  spells_coded : (c : ℕ) (o : Option ℕ) → encoded c ≡ o → scalar c ≡ true → Spells decoded (coded o c) (c ∷ [])
  spells_coded c (Some b) e s = let has = lawful.back b c e in spells_hex decoded b c (lawful.bytes b c has) has
  spells_coded c None e s = spells_units decoded c s

  pub spells_character : (c : ℕ) → scalar c ≡ true → Spells decoded (spelled encoded c) (c ∷ [])
  spells_character c s =
      let P : List ℕ → Type 0 = λ xs. Spells decoded xs (c ∷ []) in
      cond_both (eqb c 9) _ _ P (λ q. subst (λ x. Spells decoded (codes "\\tab ") (x ∷ [])) (sym (eqb-true c 9 q)) (spells_tab decoded))
      (λ _. cond_both (is_escaped c) _ _ P (λ q. spells_escaped decoded c (escapes q))
      (λ q. cond_both (leb 32 c && leb c 126) _ _ P
      (λ r. let parts = and_parts (leb 32 c) (leb c 126) r in spells_plain c q (leb-true 32 c parts.0) (leb-true c 126 parts.1))
      (λ _. spells_coded c (encoded c) refl s)))
    where
      escapes : is_escaped c ≡ true → (c ≡ 123) ⊎ ((c ≡ 125) ⊎ (c ≡ 92))
      escapes q = ⊎_elim (λ r. inl (eqb-true c 123 r)) (λ r. ⊎_elim (λ t. inr (inl (eqb-true c 125 t))) (λ t. inr (inr (eqb-true c 92 t))) (or_cases (eqb c 125) (eqb c 92) r)) (or_cases (eqb c 123) (eqb c 125 || eqb c 92) q)

  spells_key : (x : Key) → ScalarKey x → Spells decoded (spelled_key encoded x) (spoken_key x)
  spells_key break s = spells_break decoded
  spells_key (key c) s = spells_character c s

  spells_keys : (ks : List Key) → AllByRecursion ScalarKey ks → Spells decoded (flat_map (spelled_key encoded) ks) (flat_map spoken_key ks)
  spells_keys [] all = spells_nil decoded
  spells_keys (x ∷ ks) all = spells_append decoded _ _ _ _ (spells_key x all.0) (spells_keys ks all.1)

  -- A piece of scalar values reads as they are.
  pub spells_all : (cs : List ℕ) → scalars cs ≡ true → Spells decoded (spelled_all encoded cs) cs
  spells_all cs s = subst (Spells decoded (spelled_all encoded cs)) (keys_spoken cs) (spells_keys (keys cs) (keys_scalar cs s))
