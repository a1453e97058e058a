-- The way to the next brace, one token at a time.
use Rattle.std.proofs.Common.{◌≡◌, ℕ, ◌+◌, ◌-◌, ◌<◌, ◌≤◌, true, cond, List, [], ◌∷◌, length, get_or, take, drop, Some, Option, sym, refl, ap, ◌∙◌, ⊎_elim, add-zero, one-add, arith}
use Rattle.std.specs.List.{prefix_len}
use Rattle.std.proofs.lemmas.List.{at_drop_more, drop-drop, take_rest}
use Rattle.std.proofs.lemmas.Bool.{cond-false, cond-true, cond_both, cases_Bool}
use Rattle.std.proofs.lemmas.Bool.Decides.{nat_tests}
use Rattle.tokens.specs.Tokens.{Tok, opens, closes, word, hex, symbol, text, Front, layout, fault, token, is_layout, is_passive, control, front, Item, good, next, next_by, items, items_by, from_brace}
use Rattle.tokens.proofs.Fronts.{Control, control_gives}
use Rattle.tokens.proofs.Items.{items_good}

-- two constructors are never equal: cc then finds that 0 is 1
never : {A : Type 0} → ◌≡◌ {A = ℕ} 0 1 → A
never z = absurd (omega arith)

-- what a backslash begins is no brace
past_control : (m at : ℕ) (x : Front) → Control m x → (o : Option Item) (t : Tok) (p e : ℕ) → Some (good t p e) ≡ next_by at x o → (is : List Item) → from_brace (good t p e ∷ is) ≡ from_brace is
past_control m at layout k o t p e h is = absurd k
past_control m at (fault f) k o t p e h is = never (cc)
past_control m at (token opens n) k o t p e h is = absurd k
past_control m at (token closes n) k o t p e h is = absurd k
past_control m at (token (word name v) n) k o t p e h is = let q : t ≡ word name v = cc in ap (λ x. from_brace (good x p e ∷ is)) q
past_control m at (token (hex b) n) k o t p e h is = let q : t ≡ hex b = cc in ap (λ x. from_brace (good x p e ∷ is)) q
past_control m at (token (symbol b) n) k o t p e h is = let q : t ≡ symbol b = cc in ap (λ x. from_brace (good x p e ∷ is)) q
past_control m at (token (text b) n) k o t p e h is = absurd k

front_passive : (b : ℕ) (rest : List ℕ) → is_passive b ≡ true → front b rest ≡ cond (is_layout b) layout (token (text b) 1)
front_passive b rest e = grind (arith, nat_tests)

-- text and layout are passed over
past_front : (at b : ℕ) (rest : List ℕ) → is_passive b ≡ true → from_brace (items 0 at (b ∷ rest)) ≡ from_brace (items 0 (at + 1) rest)
past_front at b rest e =
    let by : Front → List Item = λ x. from_brace (items_by at x (λ k. items k (at + 1) rest)) in
    ap by (front_passive b rest e)
    ∙ cond_both (is_layout b) layout (token (text b) 1) (λ x. by x ≡ from_brace (items 0 (at + 1) rest)) (λ _. refl) (λ _. refl)

past_run : (at : ℕ) (bs : List ℕ) → from_brace (items 0 at bs) ≡ from_brace (items 0 (at + prefix_len is_passive bs) (drop (prefix_len is_passive bs) bs))
past_run at [] = refl
past_run at (b ∷ bs) =
    ⊎_elim
    (λ e. let n = cond-true _ (1 + prefix_len is_passive bs) 0 e in
    let s : at + 1 + prefix_len is_passive bs ≡ at + (1 + prefix_len is_passive bs) = omega arith in
    past_front at b bs e ∙ past_run (at + 1) bs ∙ rw (n, s, one-add))
    (λ e. rw (cond-false _ (1 + prefix_len is_passive bs) 0 e, add-zero))
    (cases_Bool (is_passive b))

-- so is a run of them, from a place on
pub past_passive : (bytes : List ℕ) (at n : ℕ) → n ≡ prefix_len is_passive (take (length bytes - at) (drop at bytes)) → from_brace (items 0 at (drop at bytes)) ≡ from_brace (items 0 (at + n) (drop (at + n) bytes))
past_passive bytes at n e =
    let r : n ≡ prefix_len is_passive (drop at bytes) = e ∙ ap (prefix_len is_passive) (take_rest bytes at) in
    past_run at (drop at bytes) ∙ ap (λ k. from_brace (items 0 (at + k) (drop k (drop at bytes)))) (sym r) ∙ ap (λ l. from_brace (items 0 (at + n) l)) (drop-drop n at bytes)

module _ (bytes : List ℕ) (at : ℕ) (h : at < length bytes) where
  -- what a backslash begins is passed over
  pub past_word : get_or bytes at 0 ≡ 92 → (t : Tok) (p e : ℕ) → at ≤ e → Some (good t p e) ≡ next at (drop at bytes) → from_brace (items 0 at (drop at bytes)) ≡ from_brace (items 0 e (drop e bytes))
  past_word s t p e l f =
      let rest = drop (at + 1) bytes in
      let found : Some (good t p e) ≡ next_by at (control rest) (next (at + 1) rest) = f ∙ at_drop_more (next at) bytes at 0 h ∙ ap (λ b. next_by at (front b rest) (next (at + 1) rest)) s in
      ap from_brace (items_good bytes at t p e l f) ∙ past_control _ at (control rest) (control_gives rest) _ t p e found (items 0 e (drop e bytes))

  -- also where it is found by what comes after the backslash
  pub past_control_here : get_or bytes at 0 ≡ 92 → (t : Tok) (n : ℕ) → token t n ≡ control (drop (at + 1) bytes) → from_brace (items 0 at (drop at bytes)) ≡ from_brace (items 0 (at + n) (drop (at + n) bytes))
  past_control_here s t n e =
      let rest = drop (at + 1) bytes in
      let back : next at (drop at bytes) ≡ next_by at (control rest) (next (at + 1) rest) = at_drop_more (next at) bytes at 0 h ∙ ap (λ b. next_by at (front b rest) (next (at + 1) rest)) s in
      past_word s t at (at + n) (omega arith) (ap (λ x. next_by at x (next (at + 1) rest)) e ∙ sym back)
