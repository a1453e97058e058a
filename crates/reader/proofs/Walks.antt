-- The walk through a record, one token at a time.
use Rattle.std.proofs.Common.{◌≡◌, ℕ, ◌+◌, ◌<◌, ◌≤◌, Bool, true, false, cond, not, ◌&&◌, ◌⊎◌, List, [], ◌∷◌, ◌++◌, length, drop, Some, None, Option, sym, refl, ap, ◌∙◌, inl, inr, ⊎_elim, arith}
use Rattle.std.proofs.lemmas.Bool.{cond-true, cond-false, and_right, and_parts, eqb-true, lt-ltb, le-ltb, cases_Bool, false≢true}
use Rattle.tokens.specs.declared.faults.TokenFault.{TokenFault}
use Rattle.tokens.specs.declared.lexer.Token.{Token}
use Rattle.tokens.specs.declared.lexer.Token.TheVariants as token
use Rattle.tokens.specs.Shown.{shown}
use Rattle.tokens.specs.Tokens.{Tok, opens, closes, word, hex, symbol, text, Item, good, bad, items, next}
use Rattle.tokens.proofs.Items.{items_none, items_bad, items_good}
use Rattle.tokens.proofs.Texts.{texts}
use Rattle.groups.specs.Stack.{top_of, below}
use Rattle.records.specs.declared.kinds.Kind.{Kind}
use Rattle.reader.specs.declared.state.ReadingState.{ReadingState}
use Rattle.reader.specs.Tokens.{Ended}
use Rattle.reader.specs.Words.{is_htmlrtf, is_htmltag, is_silent}
use Rattle.records.specs.Kinds.{is_html}
use Rattle.reader.specs.Walk.{in_text, as_bytes}
use Rattle.reader.specs.Rules.{Effect, byte, Later, Turn, inside, still, adds, added, suppress, silence, make_tag, turns_off, plain_turn, opened, closed, other, step, effects, means, tag_next, is_star, turn_of, takes_text}

-- where no group is open nothing comes
pub effects_none : (m : ℕ) (k : Kind) (n : ℕ) (is : List Item) → effects m k [] n is ≡ []
effects_none m k n [] = refl
effects_none m k n (bad f ∷ is) = refl
effects_none m k n (good opens p e ∷ is) = refl
effects_none m k n (good closes p e ∷ is) = refl
effects_none m k n (good (word name v) p e ∷ is) = refl
effects_none m k n (good (hex b) p e ∷ is) = refl
effects_none m k n (good (symbol b) p e ∷ is) = refl
effects_none m k n (good (text b) p e ∷ is) = refl

-- what the top tells of what is held
pub top_none : (ss : List ReadingState) → None ≡ top_of ss → ss ≡ []
top_none [] e = refl
top_none (s ∷ ss) e = let q : None ≡ Some s = e in let z : ◌≡◌ {A = ℕ} 0 1 = cc in absurd (omega arith)

pub top_some : (ss : List ReadingState) (s : ReadingState) → Some s ≡ top_of ss → ss ≡ s ∷ below ss
top_some [] s e = let q : Some s ≡ None = e in let z : ◌≡◌ {A = ℕ} 0 1 = cc in absurd (omega arith)
top_some (x ∷ ss) s e = let q : s ≡ x = cc in ap (λ y. y ∷ ss) (sym q)

module _ (m p : ℕ) (s : ReadingState) (ss : List ReadingState) (later : Later) where
  pub opened_deep : m ≤ length (s ∷ ss) → opened m p (s ∷ ss) later ≡ []
  opened_deep h = cond-false _ _ _ (le-ltb _ _ h)

  pub opened_inside : length (s ∷ ss) < m → opened m p (s ∷ ss) later ≡ later (inside p s ∷ (s ∷ ss)) 0
  opened_inside h = cond-true _ _ _ (lt-ltb _ _ h)

-- what is left of the rules behind the one of \*
abbrev beyond_star : Kind → ReadingState → Tok → Turn
beyond_star k s t = cond (not s.tag && is_silent (means t)) (still (silence s)) (plain_turn k s t)

turn_other : (k : Kind) (s : ReadingState) (t : Tok) (m n : Bool) → is_star t ≡ false → turn_of k s t m ≡ turn_of k s t n
turn_other k s t m n e =
    let z : (not s.tag && is_star t) ≡ false = and_right _ _ e in
    ap (λ x. cond s.silent (still s) (cond (is_html k && (s.suppressed && not (is_htmlrtf (means t)))) (still s) (cond (is_html k && (not s.tag && is_htmlrtf (means t))) (still (suppress (not (turns_off t)) s)) x)))
    (cond-false _ (still (cond (is_html k && m) (make_tag s) (silence s))) (beyond_star k s t) z ∙ sym (cond-false _ (still (cond (is_html k && n) (make_tag s) (silence s))) (beyond_star k s t) z))

-- the next token matters to \* alone
pub turn_star : (k : Kind) (s : ReadingState) (t : Tok) (n : Bool) → turn_of k s t (is_star t && n) ≡ turn_of k s t n
turn_star k s t n =
    ⊎_elim (λ e. ap (λ b. turn_of k s t (b && n)) e) (λ e. turn_other k s t (is_star t && n) n e) (cases_Bool (is_star t))

-- where no token comes nothing else does
module _ (bytes : List ℕ) (at : ℕ) where
  ended_items : (o : Option Item) → o ≡ next at (drop at bytes) → Ended o → (items 0 at (drop at bytes) ≡ []) ⊎ ((f : TokenFault) × (items 0 at (drop at bytes) ≡ bad f ∷ []))
  ended_items None h e = inl (items_none bytes at h)
  ended_items (Some (bad f)) h e = inr (f, items_bad bytes at f h)
  ended_items (Some (good t p q)) h e = absurd e

  pub ended_effects : (m : ℕ) (k : Kind) (ss : List ReadingState) (n : ℕ) → Ended (next at (drop at bytes)) → effects m k ss n (items 0 at (drop at bytes)) ≡ []
  ended_effects m k ss n e = ⊎_elim (ap (effects m k ss n)) (λ h. ap (effects m k ss n) h.1) (ended_items _ refl e)

  pub ended_tag : Ended (next at (drop at bytes)) → tag_next (items 0 at (drop at bytes)) ≡ false
  ended_tag e = ⊎_elim (ap tag_next) (λ h. ap tag_next h.1) (ended_items _ refl e)

  pub tag_good : (t : Tok) (p e : ℕ) → at ≤ e → Some (good t p e) ≡ next at (drop at bytes) → tag_next (items 0 at (drop at bytes)) ≡ is_htmltag (means t)
  tag_good t p e l h = ap tag_next (items_good bytes at t p e l h)

-- the walk by the token that was found
module _ (m : ℕ) (k : Kind) (ss : List ReadingState) (skip : ℕ) (bytes : List ℕ) (at : ℕ) where
  pub walk_found : (t : Tok) (p e : ℕ) → at ≤ e → Some (good t p e) ≡ next at (drop at bytes) → effects m k ss skip (items 0 at (drop at bytes)) ≡ step m k t p (tag_next (items 0 e (drop e bytes))) ss skip (λ rs n. effects m k rs n (items 0 e (drop e bytes)))
  walk_found t p e l h = ap (effects m k ss skip) (items_good bytes at t p e l h)

-- a closed group leaves those around it, or nothing where none was open
pub closed_below : (m : ℕ) (k : Kind) (ss : List ReadingState) (is : List Item) → closed ss (λ rs n. effects m k rs n is) ≡ effects m k (below ss) 0 is
closed_below m k [] is = sym (effects_none m k 0 is)
closed_below m k (s ∷ ss) is = refl

-- a token that is no brace
pub step_other : (m : ℕ) (k : Kind) (t : Token) (p : ℕ) (next : Bool) (ss : List ReadingState) (skip : ℕ) (later : Later) → (t ≡ token.Open → ⊥) → (t ≡ token.Close → ⊥) → step m k (shown t) p next ss skip later ≡ other k (shown t) p next ss skip later
step_other m k token.Open p next ss skip later o c = absurd (o refl)
step_other m k token.Close p next ss skip later o c = absurd (c refl)
step_other m k (token.Word name number) p next ss skip later o c = refl
step_other m k (token.Hex b) p next ss skip later o c = refl
step_other m k (token.Symbol b) p next ss skip later o c = refl
step_other m k (token.Text b) p next ss skip later o c = refl

-- a text byte where text has effect
taken : (silent html suppressed tag : Bool) (s x y z : ReadingState) (e : Effect) → (not silent && not (html && suppressed)) ≡ true → cond silent (still s) (cond (html && (suppressed && true)) (still s) (cond (html && (not tag && false)) (still x) (cond (not tag && false) (still y) (cond (not tag && false) (still z) (adds s e))))) ≡ adds s e
taken true html suppressed tag s x y z e h = absurd (false≢true h)
taken false true true tag s x y z e h = absurd (false≢true h)
taken false true false true s x y z e h = refl
taken false true false false s x y z e h = refl
taken false false suppressed true s x y z e h = refl
taken false false suppressed false s x y z e h = refl

module _ (m : ℕ) (k : Kind) (is : List Item) where
  texts_taken : (s : ReadingState) (ss : List ReadingState) → takes_text k s ≡ true → (at : ℕ) (bs : List ℕ) → effects m k (s ∷ ss) 0 (texts at bs ++ is) ≡ as_bytes at bs ++ effects m k (s ∷ ss) 0 is
  texts_taken s ss h at [] = refl
  texts_taken s ss h at (b ∷ bs) =
      let after = texts (at + 1) bs ++ is in
      let turn : turn_of k s (text b) (tag_next after) ≡ adds s (byte b) = taken s.silent (is_html k) s.suppressed s.tag s _ _ _ _ h in
      ap (λ (x : Turn). added x.effect at (effects m k (x.state ∷ ss) x.skip after)) turn ∙ ap (λ l. (byte b, at) ∷ l) (texts_taken s ss h (at + 1) bs)

  pub run_taken : (ss : List ReadingState) (skip : ℕ) → in_text k ss skip ≡ true → (at : ℕ) (bs : List ℕ) → effects m k ss skip (texts at bs ++ is) ≡ as_bytes at bs ++ effects m k ss skip is
  run_taken [] skip h at bs = absurd (false≢true h)
  run_taken (s ∷ ss) skip h at bs =
      let parts = and_parts _ _ h in
      let none : skip ≡ 0 = eqb-true _ _ parts.0 in
      ap (λ n. effects m k (s ∷ ss) n (texts at bs ++ is)) none ∙ texts_taken s ss parts.1 at bs ∙ ap (λ n. as_bytes at bs ++ effects m k (s ∷ ss) n is) (sym none)
