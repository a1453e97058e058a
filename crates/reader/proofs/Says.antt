-- What tokens add to the content.
use Rattle.std.proofs.Common.{◌≡◌, ℕ, ◌+◌, ◌<◌, ◌≤◌, Bool, true, false, cond, not, ◌&&◌, eqb, ltb, List, [], ◌∷◌, ◌++◌, length, ℤ, pos, Some, None, Ok, Err, codes, Option, Result, sym, refl, ap, ◌∙◌, arith, length-append}
use Rattle.std.specs.List.{AllByRecursion}
use Rattle.std.proofs.lemmas.List.{append_assoc}
use Rattle.std.proofs.lemmas.Bool.{cond_both, cond-true, cond-false, and_left, and_right, and_from, not_from_false, lt-ltb}
use Rattle.tokens.specs.Tokens.{Tok, opens, closes, word, hex, symbol, text, Item, good}
use Rattle.tokens.proofs.Lexed.{placed, spans, placed_append}
use Rattle.groups.proofs.Passes.{Level}
use Rattle.reader.specs.declared.faults.ReadFault.{ReadFault}
use Rattle.records.specs.declared.kinds.Kind.{Kind}
use Rattle.records.specs.declared.kinds.Kind.TheVariants.{Html}
use Rattle.records.specs.Kinds.{is_html}
use Rattle.reader.specs.declared.assemble.Half.{Half}
use Rattle.reader.specs.declared.state.ReadingState.{ReadingState}
use Rattle.reader.specs.declared.words.Word.{Word}
use Rattle.reader.specs.declared.words.Word.TheVariants as w
use Rattle.reader.specs.Words.{word_of, is_htmlrtf, is_silent}
use Rattle.reader.specs.Rules.{Effect, unit, byte, given, Turn, outermost, inside, still, adds, unit_of, word_turn, symbol_text, text_turn, plain_turn, turn_of, means, is_star, turns_off, suppress, silence, make_tag, tag_next, added, effects}
use Rattle.reader.specs.Content.{is_high, is_low, pair_of, read, making, first, before, onward, characters}

-- A group in which tokens have effect, and one token stands in for each unit.
pub record Plain (s : ReadingState) : Type 0 where
  pub loud : s.silent ≡ false
  pub shown : s.suppressed ≡ false
  pub single : s.fallback ≡ 1

-- The first group is plain.
pub plain_outermost : Plain outermost
plain_outermost = record { loud = refl; shown = refl; single = refl }

-- A group within a plain group is plain.
pub plain_inside : (p : ℕ) (s : ReadingState) → Plain s → Plain (inside p s)
plain_inside p s h = record { loud = h.loud; shown = h.shown; single = h.single }

-- A plain group that becomes a tag group stays plain.
pub plain_tag : (s : ReadingState) → Plain s → Plain (make_tag s)
plain_tag s h = record { loud = h.loud; shown = h.shown; single = h.single }

before_nil : (r : Result (List ℕ) ReadFault) → before [] r ≡ r
before_nil (Ok ds) = refl
before_nil (Err f) = refl

before_append : (cs ds : List ℕ) (r : Result (List ℕ) ReadFault) → before cs (before ds r) ≡ before (cs ++ ds) r
before_append cs ds (Ok es) = ap Ok (sym (append_assoc cs ds es))
before_append cs ds (Err f) = refl

-- Tokens after tokens, before the rest.
placed_then : (at : ℕ) (ts us : List (Tok × ℕ)) (rest : List Item) → placed at (ts ++ us) ++ rest ≡ placed at ts ++ (placed (at + spans ts) us ++ rest)
placed_then at ts us rest = ap (λ is. is ++ rest) (placed_append at ts us) ∙ append_assoc (placed at ts) (placed (at + spans ts) us) rest

-- A token that is no brace.
abbrev Inner : Tok → Type 0
Inner opens = ⊥
Inner closes = ⊥
Inner (word name v) = Unit {0}
Inner (hex b) = Unit {0}
Inner (symbol b) = Unit {0}
Inner (text b) = Unit {0}

module _ (k : Kind) where
  -- such a token by its turn
  by_turn : (t : Tok) → Inner t → (s : ReadingState) (ss : List ReadingState) (p e : ℕ) (is : List Item) (r : Turn) → turn_of k s t (tag_next is) ≡ r → effects 64 k (s ∷ ss) 0 (good t p e ∷ is) ≡ added r.effect p (effects 64 k (r.state ∷ ss) r.skip is)
  by_turn opens i s ss p e is r h = absurd i
  by_turn closes i s ss p e is r h = absurd i
  by_turn (word name v) i s ss p e is r h = ap (λ r. added r.effect p (effects 64 k (r.state ∷ ss) r.skip is)) h
  by_turn (hex b) i s ss p e is r h = ap (λ r. added r.effect p (effects 64 k (r.state ∷ ss) r.skip is)) h
  by_turn (symbol b) i s ss p e is r h = ap (λ r. added r.effect p (effects 64 k (r.state ∷ ss) r.skip is)) h
  by_turn (text b) i s ss p e is r h = ap (λ r. added r.effect p (effects 64 k (r.state ∷ ss) r.skip is)) h

  -- the rules behind that of \htmlrtf, at a token of a plain group
  abbrev beyond_switch : ReadingState → Tok → Bool → Turn
  beyond_switch s t next = cond (not s.tag && is_star t) (still (cond (is_html k && next) (make_tag s) (silence s))) (cond (not s.tag && is_silent (means t)) (still (silence s)) (plain_turn k s t))

  switch_turn : (s : ReadingState) → Plain s → (t : Tok) (next : Bool) → turn_of k s t next ≡ cond (is_html k && (not s.tag && is_htmlrtf (means t))) (still (suppress (not (turns_off t)) s)) (beyond_switch s t next)
  switch_turn s h t next =
      cond-false s.silent (still s) _ h.loud
      ∙ cond-false (is_html k && (s.suppressed && not (is_htmlrtf (means t)))) (still s) _ (and_right (is_html k) _ (and_left s.suppressed _ h.shown))

  beyond_turn : (s : ReadingState) → Plain s → (t : Tok) (next : Bool) → is_htmlrtf (means t) ≡ false → turn_of k s t next ≡ beyond_switch s t next
  beyond_turn s h t next u = switch_turn s h t next ∙ cond-false (is_html k && (not s.tag && is_htmlrtf (means t))) (still (suppress (not (turns_off t)) s)) _ (and_right (is_html k) _ (and_right (not s.tag) _ u))

  -- what a token does in a plain group, where it neither suppresses nor silences
  plain_turn_lem : (s : ReadingState) → Plain s → (t : Tok) (next : Bool) → is_htmlrtf (means t) ≡ false → is_star t ≡ false → is_silent (means t) ≡ false → turn_of k s t next ≡ plain_turn k s t
  plain_turn_lem s h t next u v x =
      beyond_turn s h t next u
      ∙ cond-false (not s.tag && is_star t) (still (cond (is_html k && next) (make_tag s) (silence s))) _ (and_right (not s.tag) _ v)
      ∙ cond-false (not s.tag && is_silent (means t)) (still (silence s)) _ (and_right (not s.tag) _ x)

  word_turn_lem : (s : ReadingState) → Plain s → (name : List ℕ) (v : Option ℤ) (next : Bool) (c : Option Word) → word_of name ≡ c → is_htmlrtf c ≡ false → is_silent c ≡ false → turn_of k s (word name v) next ≡ word_turn k s c v
  word_turn_lem s h name v next c e u x = plain_turn_lem s h (word name v) next (ap is_htmlrtf e ∙ u) refl (ap is_silent e ∙ x) ∙ ap (λ c. word_turn k s c v) e

module _ (decoded : ℕ → Option ℕ) (k : Kind) where
  -- The tokens, in a group in the state s within groups ss, add the characters cs and lead to the state r.
  abbrev pub Leads : ReadingState → ReadingState → List ReadingState → List (Tok × ℕ) → List ℕ → Type 0
  Leads s r ss ts cs = (at : ℕ) (rest : List Item) → characters decoded None (effects 64 k (s ∷ ss) 0 (placed at ts ++ rest)) ≡ before cs (characters decoded None (effects 64 k (r ∷ ss) 0 rest))

  -- The tokens add the characters cs and leave the state as it was.
  abbrev pub Says : ReadingState → List ReadingState → List (Tok × ℕ) → List ℕ → Type 0
  Says s ss ts cs = Leads s s ss ts cs

module _ (decoded : ℕ → Option ℕ) (k : Kind) (ss : List ReadingState) where
  -- Tokens after tokens add their characters one after another.
  pub leads_append : (s r q : ReadingState) (ts us : List (Tok × ℕ)) (cs ds : List ℕ) → Leads decoded k s r ss ts cs → Leads decoded k r q ss us ds → Leads decoded k s q ss (ts ++ us) (cs ++ ds)
  leads_append s r q ts us cs ds h l at rest =
      ap (λ is. characters decoded None (effects 64 k (s ∷ ss) 0 is)) (placed_then at ts us rest)
      ∙ h at (placed (at + spans ts) us ++ rest) ∙ ap (before cs) (l (at + spans ts) rest) ∙ before_append cs ds (characters decoded None (effects 64 k (q ∷ ss) 0 rest))

  -- Tokens without effect add nothing.
  pub leads_nothing : (s r : ReadingState) (ts : List (Tok × ℕ)) → ((at : ℕ) (rest : List Item) → effects 64 k (s ∷ ss) 0 (placed at ts ++ rest) ≡ effects 64 k (r ∷ ss) 0 rest) → Leads decoded k s r ss ts []
  leads_nothing s r ts h at rest = ap (characters decoded None) (h at rest) ∙ sym (before_nil (characters decoded None (effects 64 k (r ∷ ss) 0 rest)))

  -- A token that changes the state alone adds nothing.
  pub leads_still : (s r : ReadingState) (t : Tok) (n : ℕ) → Inner t → ((next : Bool) → turn_of k s t next ≡ still r) → Leads decoded k s r ss ((t, n) ∷ []) []
  leads_still s r t n i h = leads_nothing s r ((t, n) ∷ []) (λ at rest. by_turn k t i s ss at (at + n) rest (still r) (h (tag_next rest)))

  module _ (s : ReadingState) where
    -- No tokens say nothing.
    pub says_nil : Says decoded k s ss [] []
    says_nil = leads_nothing s s [] (λ at rest. refl)

    -- Tokens after tokens say what they say one after another.
    pub says_append : (ts us : List (Tok × ℕ)) (cs ds : List ℕ) → Says decoded k s ss ts cs → Says decoded k s ss us ds → Says decoded k s ss (ts ++ us) (cs ++ ds)
    says_append ts us cs ds h l = leads_append s s s ts us cs ds h l

    module _ (h : Plain s) (n : ℕ) where
      -- a token that adds one effect, by the characters that it makes
      says_effect : (t : Tok) → Inner t → (x : Effect) (cs : List ℕ) → ((next : Bool) → turn_of k s t next ≡ adds s x) → ((p : ℕ) → first decoded x p ≡ making cs) → Says decoded k s ss ((t, n) ∷ []) cs
      says_effect t i x cs turn makes at rest =
          ap (characters decoded None) (by_turn k t i s ss at (at + n) rest (adds s x) (turn (tag_next rest)))
          ∙ ap (λ m. onward m (λ w. characters decoded w (effects 64 k (s ∷ ss) 0 rest))) (makes at)

      -- A text byte says its character in the code page.
      pub says_text : (b c : ℕ) → decoded b ≡ Some c → Says decoded k s ss ((text b, n) ∷ []) (c ∷ [])
      says_text b c e = says_effect (text b) tt (byte b) (c ∷ []) (λ next. plain_turn_lem k s h (text b) next refl refl refl) (λ p. ap (λ o. read o p) e)

      -- A byte by hexadecimal digits says its character in the code page.
      pub says_hex : (b c : ℕ) → decoded b ≡ Some c → Says decoded k s ss ((hex b, n) ∷ []) (c ∷ [])
      says_hex b c e = says_effect (hex b) tt (byte b) (c ∷ []) (λ next. plain_turn_lem k s h (hex b) next refl refl refl) (λ p. ap (λ o. read o p) e)

      -- A control symbol that has characters says them.
      pub says_symbol : (b : ℕ) (cs : List ℕ) → symbol_text k b ≡ Some cs → eqb b 42 ≡ false → Says decoded k s ss ((symbol b, n) ∷ []) cs
      says_symbol b cs e q = says_effect (symbol b) tt (given cs) cs (λ next. plain_turn_lem k s h (symbol b) next refl q refl ∙ ap (text_turn s) e) (λ p. refl)

      -- \tab says a tab.
      pub says_tab : (v : Option ℤ) → Says decoded k s ss ((word (codes "tab") v, n) ∷ []) (9 ∷ [])
      says_tab v = says_effect (word (codes "tab") v) tt (given (9 ∷ [])) (9 ∷ []) (λ next. plain_turn_lem k s h (word (codes "tab") v) next refl refl refl) (λ p. refl)

      -- \par says a line's end.
      pub says_par : (v : Option ℤ) → Says decoded k s ss ((word (codes "par") v, n) ∷ []) (13 ∷ 10 ∷ [])
      says_par v = says_effect (word (codes "par") v) tt (given (13 ∷ 10 ∷ [])) (13 ∷ 10 ∷ []) (λ next. plain_turn_lem k s h (word (codes "par") v) next refl refl refl) (λ p. refl)

      -- A word that means nothing says nothing.
      pub says_other : (name : List ℕ) (v : Option ℤ) → word_of name ≡ None → Says decoded k s ss ((word name v, n) ∷ []) []
      says_other name v e = leads_still s s (word name v) n tt (λ next. word_turn_lem k s h name v next None e refl refl)

      -- \uc1, where one token stands in for each unit already, says nothing.
      pub says_single : Says decoded k s ss ((word (codes "uc") (Some (pos 1)), n) ∷ []) []
      says_single =
          leads_still s s (word (codes "uc") (Some (pos 1))) n tt
          (λ next. plain_turn_lem k s h (word (codes "uc") (Some (pos 1))) next refl refl refl
          ∙ (λ i. still (record { opens = s.opens; silent = s.silent; tag = s.tag; suppressed = s.suppressed; fallback = sym h.single i })))

    module _ (h : Plain s) where
      -- the word of a unit, and the token that stands in for it
      unit_effect : (n m : ℕ) (z : ℤ) (u : ℕ) → unit_of z ≡ unit u → (at : ℕ) (rest : List Item) → effects 64 k (s ∷ ss) 0 (placed at ((word (codes "u") (Some z), n) ∷ (text 63, m) ∷ []) ++ rest) ≡ (unit u, at) ∷ effects 64 k (s ∷ ss) 0 rest
      unit_effect n m z u e at rest =
          by_turn k (word (codes "u") (Some z)) tt s ss at (at + n) (good (text 63) (at + n) (at + n + m) ∷ rest) (record { state = s; skip = s.fallback; effect = Some (unit_of z) }) (plain_turn_lem k s h (word (codes "u") (Some z)) false refl refl refl)
          ∙ (λ i. (e i, at) ∷ effects 64 k (s ∷ ss) (h.single i) (good (text 63) (at + n) (at + n + m) ∷ rest))

      -- A unit that is no half of a character says itself.
      pub says_unit : (n m : ℕ) (z : ℤ) (u : ℕ) → unit_of z ≡ unit u → is_high u ≡ false → is_low u ≡ false → Says decoded k s ss ((word (codes "u") (Some z), n) ∷ (text 63, m) ∷ []) (u ∷ [])
      says_unit n m z u e high low at rest =
          ap (characters decoded None) (unit_effect n m z u e at rest)
          ∙ ap (λ r. onward r (λ x. characters decoded x (effects 64 k (s ∷ ss) 0 rest))) (cond-false (is_high u) _ _ high ∙ cond-false (is_low u) _ _ low)

      -- Two halves say the character that they make.
      pub says_pair : (n m i j : ℕ) (y z : ℤ) (u v : ℕ) → unit_of y ≡ unit u → unit_of z ≡ unit v → is_high u ≡ true → is_low v ≡ true →
          Says decoded k s ss ((word (codes "u") (Some y), n) ∷ (text 63, m) ∷ (word (codes "u") (Some z), i) ∷ (text 63, j) ∷ []) (pair_of u v ∷ [])
      says_pair n m i j y z u v e f high low at rest =
          let later = effects 64 k (s ∷ ss) 0 rest in
          let half : Half = record { unit = u; place = at } in
          ap (characters decoded None) (unit_effect n m y u e at (placed (at + n + m) ((word (codes "u") (Some z), i) ∷ (text 63, j) ∷ []) ++ rest) ∙ ap (λ xs. (unit u, at) ∷ xs) (unit_effect i j z v f (at + n + m) rest))
          ∙ ap (λ r. onward r (λ x. characters decoded x ((unit v, at + n + m) ∷ later))) (cond-true (is_high u) _ _ high)
          ∙ before_nil (characters decoded (Some half) ((unit v, at + n + m) ∷ later))
          ∙ ap (λ r. onward r (λ x. characters decoded x later)) (cond-true (is_low v) _ _ low)

    -- A group says what the tokens in it add, whatever state they lead to.
    pub says_group : (r : ℕ → ReadingState) (m n : ℕ) (ts : List (Tok × ℕ)) (cs : List ℕ) → length (s ∷ ss) < 64 → ((p : ℕ) → Leads decoded k (inside p s) (r p) (s ∷ ss) ts cs) → Says decoded k s ss ((opens, m) ∷ (ts ++ (closes, n) ∷ [])) cs
    says_group r m n ts cs short h at rest =
        ap (characters decoded None)
        (cond-true (ltb (length (s ∷ ss)) 64) _ _ (lt-ltb _ 64 short) ∙ ap (effects 64 k (inside at s ∷ (s ∷ ss)) 0) (placed_then (at + m) ts ((closes, n) ∷ []) rest))
        ∙ h at (at + m) (good closes (at + m + spans ts) (at + m + spans ts + n) ∷ rest)

-- Tokens that keep the state of every quiet group have no effect in one.
module _ (k : Kind) (Quiet : ReadingState → Type 0) (Idle : Tok → Type 0) (copies : (p : ℕ) (h : ReadingState) → Quiet h → Quiet (inside p h))
    (keeps : (h : ReadingState) (t : Tok) (next : Bool) → Quiet h → Idle t → turn_of k h t next ≡ still h) (s : ReadingState) (ss : List ReadingState) (quiet : Quiet s) where
  idle_one : (t : Tok) → Inner t → Idle t → (hs : List ReadingState) → AllByRecursion Quiet hs → (p e : ℕ) (is : List Item) → effects 64 k (hs ++ s ∷ ss) 0 (good t p e ∷ is) ≡ effects 64 k (hs ++ s ∷ ss) 0 is
  idle_one t i d [] a p e is = by_turn k t i s ss p e is (still s) (keeps s t (tag_next is) quiet d)
  idle_one t i d (h ∷ hs) a p e is = by_turn k t i h (hs ++ s ∷ ss) p e is (still h) (keeps h t (tag_next is) a.0 d)

  -- a group that opens within is quiet too
  idle_deeper : (hs : List ReadingState) → AllByRecursion Quiet hs → length (hs ++ s ∷ ss) < 64 → (p e : ℕ) (is : List Item) (end : List (Effect × ℕ)) → ((h : ReadingState) → Quiet h → effects 64 k (h ∷ (hs ++ s ∷ ss)) 0 is ≡ end) → effects 64 k (hs ++ s ∷ ss) 0 (good opens p e ∷ is) ≡ end
  idle_deeper [] a short p e is end then = cond-true _ _ _ (lt-ltb _ 64 short) ∙ then (inside p s) (copies p s quiet)
  idle_deeper (h ∷ hs) a short p e is end then = cond-true _ _ _ (lt-ltb _ 64 short) ∙ then (inside p h) (copies p h a.0)

  module _ (room : ℕ) (enough : length (s ∷ ss) + room ≤ 64) (rest : List Item) where
    idle_walk : (hs : List ReadingState) (at : ℕ) (ts : List (Tok × ℕ)) → AllByRecursion Quiet hs → Level room (length hs) ts → AllByRecursion (λ x. Idle x.0) ts → effects 64 k (hs ++ s ∷ ss) 0 (placed at ts ++ rest) ≡ effects 64 k (s ∷ ss) 0 rest
    idle_walk [] at [] a l d = refl
    idle_walk (h ∷ hs) at [] a l d = absurd (omega arith)
    idle_walk hs at ((opens, n) ∷ ts) a l d =
        idle_deeper hs a (omega (arith, length-append hs (s ∷ ss), l.0)) at (at + n) (placed (at + n) ts ++ rest) (effects 64 k (s ∷ ss) 0 rest) (λ h q. idle_walk (h ∷ hs) (at + n) ts (q, a) l.1 d.1)
    idle_walk [] at ((closes, n) ∷ ts) a l d = absurd l
    idle_walk (h ∷ hs) at ((closes, n) ∷ ts) a l d = idle_walk hs (at + n) ts a.1 l d.1
    idle_walk hs at ((word name v, n) ∷ ts) a l d = idle_one (word name v) tt d.0 hs a at (at + n) (placed (at + n) ts ++ rest) ∙ idle_walk hs (at + n) ts a l d.1
    idle_walk hs at ((hex b, n) ∷ ts) a l d = idle_one (hex b) tt d.0 hs a at (at + n) (placed (at + n) ts ++ rest) ∙ idle_walk hs (at + n) ts a l d.1
    idle_walk hs at ((symbol b, n) ∷ ts) a l d = idle_one (symbol b) tt d.0 hs a at (at + n) (placed (at + n) ts ++ rest) ∙ idle_walk hs (at + n) ts a l d.1
    idle_walk hs at ((text b, n) ∷ ts) a l d = idle_one (text b) tt d.0 hs a at (at + n) (placed (at + n) ts ++ rest) ∙ idle_walk hs (at + n) ts a l d.1

any_tokens : (ts : List (Tok × ℕ)) → AllByRecursion (λ _. Unit {0}) ts
any_tokens [] = tt
any_tokens (x ∷ ts) = (tt, any_tokens ts)

-- Level tokens say nothing in a silent group.
pub says_silent : (decoded : ℕ → Option ℕ) (k : Kind) (ss : List ReadingState) (s : ReadingState) (room : ℕ) (ts : List (Tok × ℕ)) → Level room 0 ts → length (s ∷ ss) + room ≤ 64 → s.silent ≡ true → Says decoded k s ss ts []
says_silent decoded k ss s room ts level enough quiet =
    leads_nothing decoded k ss s s ts
    (λ at rest. idle_walk k (λ h. h.silent ≡ true) (λ _. Unit {0}) (λ p h q. q) (λ h t next q _. cond-true h.silent _ _ q) s ss quiet room enough rest [] at ts tt level (any_tokens ts))

-- while suppressed, only \htmlrtf has effect in HTML
suppressed_turn : (h : ReadingState) (t : Tok) (next : Bool) → h.suppressed ≡ true → is_htmlrtf (means t) ≡ false → turn_of Html h t next ≡ still h
suppressed_turn h t next q e =
    cond_both h.silent (still h) _ (λ r. r ≡ still h) (λ _. refl)
    (λ _. cond-true (h.suppressed && not (is_htmlrtf (means t))) (still h) _ (and_from _ _ q (not_from_false _ e)))

-- In HTML, level tokens say nothing in a suppressed group, if no word among them is \htmlrtf.
pub says_suppressed : (decoded : ℕ → Option ℕ) (ss : List ReadingState) (s : ReadingState) (room : ℕ) (ts : List (Tok × ℕ)) → Level room 0 ts → length (s ∷ ss) + room ≤ 64 → s.suppressed ≡ true → AllByRecursion (λ x. is_htmlrtf (means x.0) ≡ false) ts → Says decoded Html s ss ts []
says_suppressed decoded ss s room ts level enough quiet plain =
    leads_nothing decoded Html ss s s ts
    (λ at rest. idle_walk Html (λ h. h.suppressed ≡ true) (λ t. is_htmlrtf (means t) ≡ false) (λ p h q. q) suppressed_turn s ss quiet room enough rest [] at ts tt level plain)

module _ (decoded : ℕ → Option ℕ) (k : Kind) (ss : List ReadingState) (s : ReadingState) (h : Plain s) (outside : s.tag ≡ false) where
  -- a word of a silent destination silences its group
  leads_silent : (name : List ℕ) (v : Option ℤ) (n : ℕ) → word_of name ≡ Some w.Silent → Leads decoded k s (silence s) ss ((word name v, n) ∷ []) []
  leads_silent name v n e =
      leads_still decoded k ss s (silence s) (word name v) n tt
      (λ next. beyond_turn k s h (word name v) next (ap is_htmlrtf e)
      ∙ cond-false (not s.tag && false) _ _ (and_right (not s.tag) false refl)
      ∙ cond-true (not s.tag && is_silent (word_of name)) _ _ (and_from _ _ (not_from_false _ outside) (ap is_silent e)))

-- A group that begins with a word of a silent destination says nothing.
pub says_silent_group : (decoded : ℕ → Option ℕ) (k : Kind) (ss : List ReadingState) (s : ReadingState) → Plain s → s.tag ≡ false → (name : List ℕ) → word_of name ≡ Some w.Silent → (v : Option ℤ) (l m n room : ℕ) (ts : List (Tok × ℕ)) → Level room 0 ts → 1 + length (s ∷ ss) + room ≤ 64 →
    Says decoded k s ss ((opens, l) ∷ (word name v, m) ∷ (ts ++ (closes, n) ∷ [])) []
says_silent_group decoded k ss s h outside name e v l m n room ts level enough =
    says_group decoded k ss s (λ p. silence (inside p s)) l n ((word name v, m) ∷ ts) [] (omega arith)
    (λ p. leads_append decoded k (s ∷ ss) (inside p s) (silence (inside p s)) (silence (inside p s)) ((word name v, m) ∷ []) ts [] []
    (leads_silent decoded k (s ∷ ss) (inside p s) (plain_inside p s h) outside name v m e)
    (says_silent decoded k (s ∷ ss) (silence (inside p s)) room ts level (omega arith) refl))

module _ (decoded : ℕ → Option ℕ) (ss : List ReadingState) (s : ReadingState) (h : Plain s) (outside : s.tag ≡ false) where
  -- \* before \htmltag makes a tag group of HTML
  leads_tag : (v : Option ℤ) (m n : ℕ) → Leads decoded Html s (make_tag s) ss ((symbol 42, m) ∷ (word (codes "htmltag") v, n) ∷ []) []
  leads_tag v m n =
      leads_nothing decoded Html ss s (make_tag s) ((symbol 42, m) ∷ (word (codes "htmltag") v, n) ∷ [])
      (λ at rest. by_turn Html (symbol 42) tt s ss at (at + m) (good (word (codes "htmltag") v) (at + m) (at + m + n) ∷ rest) (still (make_tag s))
      (beyond_turn Html s h (symbol 42) true refl ∙ cond-true (not s.tag && true) _ _ (and_from _ _ (not_from_false _ outside) refl))
      ∙ by_turn Html (word (codes "htmltag") v) tt (make_tag s) ss (at + m) (at + m + n) rest (still (make_tag s)) (plain_turn_lem Html (make_tag s) (plain_tag s h) (word (codes "htmltag") v) (tag_next rest) refl refl refl))

  -- \htmlrtf suppresses what follows in its group
  leads_off : (n : ℕ) → Leads decoded Html s (suppress true s) ss ((word (codes "htmlrtf") None, n) ∷ []) []
  leads_off n =
      leads_still decoded Html ss s (suppress true s) (word (codes "htmlrtf") None) n tt
      (λ next. switch_turn Html s h (word (codes "htmlrtf") None) next ∙ cond-true (not s.tag && true) _ _ (and_from _ _ (not_from_false _ outside) refl))

  -- \htmlrtf0 ceases to
  leads_on : (n : ℕ) → Leads decoded Html (suppress true s) s ss ((word (codes "htmlrtf") (Some (pos 0)), n) ∷ []) []
  leads_on n =
      leads_still decoded Html ss (suppress true s) s (word (codes "htmlrtf") (Some (pos 0))) n tt
      (λ next. cond-false s.silent (still (suppress true s)) _ h.loud ∙ cond-true (not s.tag && true) _ _ (and_from _ _ (not_from_false _ outside) refl)
      ∙ (λ i. still (record { opens = s.opens; silent = s.silent; tag = s.tag; suppressed = sym h.shown i; fallback = s.fallback })))

  -- Level tokens between \htmlrtf and \htmlrtf0 say nothing, if no word among them is \htmlrtf.
  pub says_dressed : (m n room : ℕ) (ts : List (Tok × ℕ)) → Level room 0 ts → length (s ∷ ss) + room ≤ 64 → AllByRecursion (λ x. is_htmlrtf (means x.0) ≡ false) ts →
      Says decoded Html s ss ((word (codes "htmlrtf") None, m) ∷ (ts ++ (word (codes "htmlrtf") (Some (pos 0)), n) ∷ [])) []
  says_dressed m n room ts level enough plain =
      leads_append decoded Html ss s (suppress true s) s ((word (codes "htmlrtf") None, m) ∷ []) (ts ++ (word (codes "htmlrtf") (Some (pos 0)), n) ∷ []) [] [] (leads_off m)
      (leads_append decoded Html ss (suppress true s) (suppress true s) s ts ((word (codes "htmlrtf") (Some (pos 0)), n) ∷ []) [] []
      (says_suppressed decoded ss (suppress true s) room ts level enough refl plain) (leads_on n))

-- A tag group of HTML says what its tokens say in it.
pub says_tag : (decoded : ℕ → Option ℕ) (ss : List ReadingState) (s : ReadingState) → Plain s → s.tag ≡ false → (v : Option ℤ) (i j m n : ℕ) (ts : List (Tok × ℕ)) (cs : List ℕ) → length (s ∷ ss) < 64 →
    ((p : ℕ) → Says decoded Html (make_tag (inside p s)) (s ∷ ss) ts cs) → Says decoded Html s ss ((opens, i) ∷ (symbol 42, j) ∷ (word (codes "htmltag") v, m) ∷ (ts ++ (closes, n) ∷ [])) cs
says_tag decoded ss s h outside v i j m n ts cs short says =
    says_group decoded Html ss s (λ p. make_tag (inside p s)) i n ((symbol 42, j) ∷ (word (codes "htmltag") v, m) ∷ ts) cs short
    (λ p. leads_append decoded Html (s ∷ ss) (inside p s) (make_tag (inside p s)) (make_tag (inside p s)) ((symbol 42, j) ∷ (word (codes "htmltag") v, m) ∷ []) ts [] cs
    (leads_tag decoded (s ∷ ss) (inside p s) (plain_inside p s h) outside v j m) (says p))
