-- Where a walk ends: the bytes after the closing brace do not matter to it, and a fault lies within the bytes.
use Rattle.std.proofs.Common.{◌≡◌, ℕ, zero, suc, ◌+◌, ◌-◌, ◌≤◌, true, eqb, ltb, List, [], ◌∷◌, ◌++◌, length, Ok, Err, Result, sym, refl, ap, ◌∙◌, arith}
use Rattle.std.specs.List.{AllByRecursion}
use Rattle.std.proofs.lemmas.Bool.{cond-true, cond-false, cond_both}
use Rattle.tokens.specs.Tokens.{Tok, opens, closes, word, hex, symbol, text, Front, layout, fault, token, Item, front, items_by, items}
use Rattle.tokens.proofs.Fronts.{stops_close, front_local, front_layout, front_close}
use Rattle.groups.specs.declared.faults.GroupFault.{GroupFault}
use Rattle.groups.specs.Faults.{place_of}
use Rattle.groups.specs.Stack.{below}
use Rattle.groups.specs.Groups.{innermost, turn, closing}

-- two constructors are never equal: cc then finds that 0 is 1
never : {A : Type 0} → ◌≡◌ {A = ℕ} 0 1 → A
never z = absurd (omega arith)

-- The walk with groups gs open through the bytes bs that stand at a place, after k of them, ends at n: at a closing brace,
-- and so it does whatever follows that brace.
pub record Ends (k at : ℕ) (gs bs : List ℕ) (n : ℕ) : Type 0 where
  pub before : List ℕ
  pub after : List ℕ
  pub split : bs ≡ before ++ 125 ∷ after
  pub long : n ≡ at + length before + 1
  pub passed : k ≤ length before
  pub again : (vs : List ℕ) → closing gs (items k at (before ++ 125 ∷ vs)) ≡ Ok n

module _ (at b n : ℕ) (gs bs : List ℕ) where
  -- one byte of layout, or passed over, before the walk goes on
  ends_passed : (k : ℕ) → Ends k (at + 1) gs bs n → Ends (suc k) at gs (b ∷ bs) n
  ends_passed k h = record {
    before = b ∷ h.before;
    after = h.after;
    split = ap (λ l. b ∷ l) h.split;
    long = omega (arith, h.long);
    passed = omega (arith, h.passed);
    again = h.again;
  }

  ends_layout : front b bs ≡ layout → Ends 0 (at + 1) gs bs n → Ends 0 at gs (b ∷ bs) n
  ends_layout e h = record {
    before = b ∷ h.before;
    after = h.after;
    split = ap (λ l. b ∷ l) h.split;
    long = omega (arith, h.long);
    passed = omega arith;
    again = λ vs. ap (λ x. closing gs (items_by at x (λ k. items k (at + 1) (h.before ++ 125 ∷ vs)))) (front_layout b bs (h.before ++ 125 ∷ vs) e) ∙ h.again vs;
  }

  -- a token that leaves the groups hs open, whatever comes
  ends_token : (t : Tok) (m : ℕ) (hs : List ℕ) → front b bs ≡ token t m → ((on : List ℕ → Result ℕ GroupFault) → turn t at (at + m) gs on ≡ on hs) → Ends (m - 1) (at + 1) hs bs n → Ends 0 at gs (b ∷ bs) n
  ends_token t m hs e turned h = record {
    before = b ∷ h.before;
    after = h.after;
    split = ap (λ l. b ∷ l) h.split;
    long = omega (arith, h.long);
    passed = omega arith;
    again = λ vs.
        let same = front_local 125 stops_close.parts b h.before h.after vs t m (ap (front b) (sym h.split) ∙ e) (omega (arith, h.passed)) in
        ap (λ x. closing gs (items_by at x (λ k. items k (at + 1) (h.before ++ 125 ∷ vs)))) same ∙ turned (λ hs. closing hs (items (m - 1) (at + 1) (h.before ++ 125 ∷ vs))) ∙ h.again vs;
  }

  -- the brace that leaves no group open
  ends_here : (m : ℕ) → front b bs ≡ token closes m → eqb (length (below gs)) 0 ≡ true → at + m ≡ n → Ends 0 at gs (b ∷ bs) n
  ends_here m e q h =
      let brace = front_close b bs m e in
      record {
        before = [];
        after = bs;
        split = ap (λ x. x ∷ bs) brace.0;
        long = omega (arith, brace.1);
        passed = omega arith;
        again = λ vs. cond-true _ _ _ q ∙ ap Ok (omega (arith, brace.1));
      }

  module _ (ih : (k : ℕ) (hs : List ℕ) → closing hs (items k (at + 1) bs) ≡ Ok n → Ends k (at + 1) hs bs n) where
    ends_turn : (t : Tok) (m : ℕ) → front b bs ≡ token t m → turn t at (at + m) gs (λ hs. closing hs (items (m - 1) (at + 1) bs)) ≡ Ok n → Ends 0 at gs (b ∷ bs) n
    ends_turn opens m e =
        cond_both (ltb (length gs) 64) _ _ (λ r. r ≡ Ok n → Ends 0 at gs (b ∷ bs) n)
        (λ q h. ends_token opens m (at ∷ gs) e (λ on. cond-true _ _ _ q) (ih (m - 1) (at ∷ gs) h))
        (λ _ h. never (cc))
    ends_turn closes m e =
        cond_both (eqb (length (below gs)) 0) _ _ (λ r. r ≡ Ok n → Ends 0 at gs (b ∷ bs) n)
        (λ q h. ends_here m e q (cc))
        (λ q h. ends_token closes m (below gs) e (λ on. cond-false _ _ _ q) (ih (m - 1) (below gs) h))
    ends_turn (word name v) m e = λ h. ends_token (word name v) m gs e (λ on. refl) (ih (m - 1) gs h)
    ends_turn (hex x) m e = λ h. ends_token (hex x) m gs e (λ on. refl) (ih (m - 1) gs h)
    ends_turn (symbol x) m e = λ h. ends_token (symbol x) m gs e (λ on. refl) (ih (m - 1) gs h)
    ends_turn (text x) m e = λ h. ends_token (text x) m gs e (λ on. refl) (ih (m - 1) gs h)

    ends_front : (x : Front) → front b bs ≡ x → closing gs (items_by at x (λ k. items k (at + 1) bs)) ≡ Ok n → Ends 0 at gs (b ∷ bs) n
    ends_front layout e h = ends_layout e (ih 0 gs h)
    ends_front (fault f) e h = never (cc)
    ends_front (token t m) e h = ends_turn t m e h

-- Where a walk ends, it ends at a closing brace, whatever follows it.
pub closing_ends : (k at : ℕ) (gs bs : List ℕ) (n : ℕ) → closing gs (items k at bs) ≡ Ok n → Ends k at gs bs n
closing_ends zero at gs [] n h = never (cc)
closing_ends (suc k) at gs [] n h = never (cc)
closing_ends (suc k) at gs (b ∷ bs) n h = ends_passed at b n gs bs k (closing_ends k (at + 1) gs bs n h)
closing_ends zero at gs (b ∷ bs) n h = ends_front at b n gs bs (λ k hs. closing_ends k (at + 1) hs bs n) (front b bs) refl h

-- The place of a fault, if it is one, is at most m.
abbrev pub Within : ℕ → Result ℕ GroupFault → Type 0
Within m (Ok n) = Unit {0}
Within m (Err f) = place_of f ≤ m

module _ (m : ℕ) where
  innermost_within : (gs : List ℕ) → AllByRecursion (λ p. p ≤ m) gs → innermost gs ≤ m
  innermost_within [] a = omega arith
  innermost_within (p ∷ gs) a = a.0

  below_within : (gs : List ℕ) → AllByRecursion (λ p. p ≤ m) gs → AllByRecursion (λ p. p ≤ m) (below gs)
  below_within [] a = tt
  below_within (p ∷ gs) a = a.1

  module _ (at : ℕ) (here : at ≤ m) (on : List ℕ → Result ℕ GroupFault) (then : (hs : List ℕ) → AllByRecursion (λ p. p ≤ m) hs → Within m (on hs)) where
    turn_within : (t : Tok) (e : ℕ) (gs : List ℕ) → AllByRecursion (λ p. p ≤ m) gs → Within m (turn t at e gs on)
    turn_within opens e gs a = cond_both (ltb (length gs) 64) _ _ (Within m) (λ _. then (at ∷ gs) (here, a)) (λ _. here)
    turn_within closes e gs a = cond_both (eqb (length (below gs)) 0) _ _ (Within m) (λ _. tt) (λ _. then (below gs) (below_within gs a))
    turn_within (word name v) e gs a = then gs a
    turn_within (hex x) e gs a = then gs a
    turn_within (symbol x) e gs a = then gs a
    turn_within (text x) e gs a = then gs a

  front_within : (at : ℕ) (x : Front) (rest : ℕ → List Item) → at ≤ m → ((k : ℕ) (hs : List ℕ) → AllByRecursion (λ p. p ≤ m) hs → Within m (closing hs (rest k))) → (gs : List ℕ) → AllByRecursion (λ p. p ≤ m) gs → Within m (closing gs (items_by at x rest))
  front_within at layout rest here then gs a = then 0 gs a
  front_within at (fault f) rest here then gs a = here
  front_within at (token t n) rest here then gs a = turn_within at here (λ hs. closing hs (rest (n - 1))) (then (n - 1)) t (at + n) gs a

  -- A fault of a walk lies at a group that was open, or within the bytes.
  pub closing_within : (k at : ℕ) (gs bs : List ℕ) → at + length bs ≤ m → AllByRecursion (λ p. p ≤ m) gs → Within m (closing gs (items k at bs))
  closing_within zero at gs [] h a = innermost_within gs a
  closing_within (suc k) at gs [] h a = innermost_within gs a
  closing_within (suc k) at gs (b ∷ bs) h a = closing_within k (at + 1) gs bs (omega arith) a
  closing_within zero at gs (b ∷ bs) h a = front_within at (front b bs) (λ k. items k (at + 1) bs) (omega arith) (λ k hs. closing_within k (at + 1) hs bs (omega arith)) gs a
