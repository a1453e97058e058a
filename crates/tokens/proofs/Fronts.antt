-- What a token takes of the bytes at its front, and what it does not depend on.
use Rattle.std.proofs.Common.{◌≡◌, ℕ, ◌+◌, ◌-◌, ◌≤◌, Bool, true, false, cond, eqb, ltb, leb, List, [], ◌∷◌, ◌++◌, length, take, drop, ℤ, Some, None, Ok, Err, Option, Result, sym, refl, ap, ◌∙◌, subst, ⊎_elim, arith}
use Rattle.std.proofs.lemmas.List.{append-nil, drop-append-le, length-append, length-drop, length-take-le, take-append-drop, take-append-le}
use Rattle.std.proofs.lemmas.List.Sums.{prefix_len-le-length}
use Rattle.std.proofs.lemmas.Bool.{cond_both, cond-false, cond-true, eqb-true, le-leb, leb-true, both_ways, or_cases}
use Rattle.std.specs.Str.Parse.{digits_value}
use Rattle.std.specs.Char.{is_ascii_digit, is_ascii_alphabetic}
use Rattle.std.specs.List.{prefix_len}
use Rattle.tokens.specs.declared.scan.Class.TheVariants.{Layout}
use Rattle.tokens.specs.declared.faults.Flaw.{Flaw}
use Rattle.tokens.specs.declared.faults.Flaw.TheVariants.{LongNumber}
use Rattle.tokens.specs.declared.scan.Numeral.{Numeral}
use Rattle.tokens.specs.Tokens.{Front, fault, layout, token}
use Rattle.tokens.specs.Tokens.{Tok, closes, hex, opens, symbol, text, word}
use Rattle.tokens.specs.Tokens.{begins, control, data_count, digits, front, hex_pair, hex_byte, byte_of, named, within}
use Rattle.tokens.specs.Tokens.{number, number_after, numbered, spaced, with_data}

-- A byte that no name and no number goes on with.
pub record Parts (s : ℕ) : Type 0 where
  pub letter : is_ascii_alphabetic s ≡ false
  pub digit : is_ascii_digit s ≡ false
  pub minus : eqb s 45 ≡ false

-- A space is such a byte.
pub parts_space : Parts 32
parts_space = record { letter = refl; digit = refl; minus = refl }

-- A byte that no name, number or space goes on with.
pub record Stops (s : ℕ) : Type 0 where
  pub parts : Parts s
  pub space : eqb s 32 ≡ false

-- An opening brace stops each of them.
pub stops_open : Stops 123
stops_open = record { parts = record { letter = refl; digit = refl; minus = refl }; space = refl }

-- So does a closing brace.
pub stops_close : Stops 125
stops_close = record { parts = record { letter = refl; digit = refl; minus = refl }; space = refl }

-- So does a backslash.
pub stops_backslash : Stops 92
stops_backslash = record { parts = record { letter = refl; digit = refl; minus = refl }; space = refl }

-- So does a question mark.
pub stops_question : Stops 63
stops_question = record { parts = record { letter = refl; digit = refl; minus = refl }; space = refl }

-- Bytes that no name and no number goes on with.
record Parted (us : List ℕ) : Type 0 where
  letter : prefix_len is_ascii_alphabetic us ≡ 0
  digit : prefix_len is_ascii_digit us ≡ 0
  minus : begins 45 us ≡ 0

parted_none : Parted []
parted_none = record { letter = refl; digit = refl; minus = refl }

parted_from : (s : ℕ) → Parts s → (us : List ℕ) → Parted (s ∷ us)
parted_from s parts us = record {
  letter = cond-false _ _ _ parts.letter;
  digit = cond-false _ _ _ parts.digit;
  minus = cond-false _ _ _ parts.minus;
}

-- A run of one class before bytes that do not go on with it.
pub leading_before : (f : ℕ → Bool) (us : List ℕ) → prefix_len f us ≡ 0 → (w : List ℕ) → prefix_len f (w ++ us) ≡ prefix_len f w
leading_before f us e [] = e
leading_before f us e (x ∷ w) = ap (λ n. cond (f x) (1 + n) 0) (leading_before f us e w)

begins_before : (c : ℕ) (us : List ℕ) → begins c us ≡ 0 → (w : List ℕ) → begins c (w ++ us) ≡ begins c w
begins_before c us e [] = e
begins_before c us e (x ∷ w) = refl

begins_fits : (c : ℕ) (bs : List ℕ) → begins c bs ≤ length bs
begins_fits c [] = omega arith
begins_fits c (x ∷ bs) = cond_both (eqb x c) 1 0 (λ n. n ≤ length (x ∷ bs)) (λ _. omega arith) (λ _. omega arith)

module _ (us : List ℕ) (parted : Parted us) where
  number_after_before : (m : ℕ) (w : List ℕ) → number_after m (w ++ us) ≡ number_after m w
  number_after_before m w =
      let h : prefix_len is_ascii_digit w ≤ length w = prefix_len-le-length is_ascii_digit w in
      rw (leading_before is_ascii_digit us parted.digit w, take-append-le)

  number_before : (w : List ℕ) → number (w ++ us) ≡ number w
  number_before w =
      let h : begins 45 w ≤ length w = begins_fits 45 w in
      rw (begins_before 45 us parted.minus w, drop-append-le) (number_after_before (begins 45 w) (drop (begins 45 w) w))

-- Bytes that go on alike tell whether a space follows.
begins_alike : (c : ℕ) (us vs : List ℕ) → begins c us ≡ begins c vs → (w : List ℕ) → begins c (w ++ us) ≡ begins c (w ++ vs)
begins_alike c us vs e [] = e
begins_alike c us vs e (x ∷ w) = refl

space_alike : (us vs : List ℕ) → begins 32 us ≡ begins 32 vs → (n : ℕ) (w : List ℕ) → n ≤ length w → begins 32 (drop n (w ++ us)) ≡ begins 32 (drop n (w ++ vs))
space_alike us vs e n w h = rw (drop-append-le n w us h, drop-append-le n w vs h) (begins_alike 32 us vs e (drop n w))

-- How many bytes a number takes.
abbrev taken : Result (Option Numeral) Flaw → ℕ
taken (Ok None) = 0
taken (Ok (Some v)) = v.length
taken (Err f) = 0

digits_fit : (m n k : ℕ) (bs : List ℕ) → m + n ≤ k → taken (digits m n bs) ≤ k
digits_fit m n k bs h =
    let P : Result (Option Numeral) Flaw → Type 0 = λ r. taken r ≤ k in
    cond_both (eqb n 0) (Ok None) _ P (λ _. omega arith)
    (λ _. cond_both (ltb 10 n) (Err LongNumber) _ P (λ _. omega arith)
    (λ _. cond_both (leb (digits_value 10 (take n bs)) (2147483647 + m)) _ (Err LongNumber) P (λ _. h) (λ _. omega arith)))

number_fits : (bs : List ℕ) → taken (number bs) ≤ length bs
number_fits bs =
    let m : ℕ = begins 45 bs in
    let h : m ≤ length bs = begins_fits 45 bs in
    let k : prefix_len is_ascii_digit (drop m bs) ≤ length bs - m = rw (length-drop m bs) at (prefix_len-le-length is_ascii_digit (drop m bs)) in
    digits_fit m (prefix_len is_ascii_digit (drop m bs)) (length bs) (drop m bs) (omega arith)

-- Two constructors are never equal: cc then finds that 0 is 1.
never : {A : Type 0} → ◌≡◌ {A = ℕ} 0 1 → A
never z = absurd (omega arith)

-- What a backslash begins is a fault, or a word, a hexadecimal byte or a symbol, of 2 to m bytes.
abbrev pub Control : ℕ → Front → Type 0
Control m layout = ⊥
Control m (fault f) = Unit
Control m (token opens n) = ⊥
Control m (token closes n) = ⊥
Control m (token (word name v) n) = (2 ≤ n) × (n ≤ m)
Control m (token (hex b) n) = (2 ≤ n) × (n ≤ m)
Control m (token (symbol b) n) = (2 ≤ n) × (n ≤ m)
Control m (token (text b) n) = ⊥

spaced_control : (m : ℕ) (name : List ℕ) (v : Option ℤ) (n : ℕ) (bs : List ℕ) → 1 ≤ length name →
    1 + length name + length bs ≡ m → n ≤ length bs → Control m (spaced name v n bs)
spaced_control m name v n bs l e h =
    let s : begins 32 (drop n bs) ≤ length bs - n = rw (length-drop n bs) at (begins_fits 32 (drop n bs)) in
    cond_both (leb (data_count name v) (length bs - (n + begins 32 (drop n bs)))) _ _ (Control m)
    (λ q. let k = leb-true _ _ q in (omega arith, omega arith)) (λ _. tt)

numbered_control : (m : ℕ) (name bs : List ℕ) (r : Result (Option Numeral) Flaw) → 1 ≤ length name → 1 + length name + length bs ≡ m →
    taken r ≤ length bs → Control m (numbered name bs r)
numbered_control m name bs (Ok None) l e h = spaced_control m name None 0 bs l e h
numbered_control m name bs (Err f) l e h = tt
numbered_control m name bs (Ok (Some v)) l e h = spaced_control m name (Some v.value) v.length bs l e h

hex_byte_control : (m : ℕ) (o : Option ℕ) → 4 ≤ m → Control m (hex_byte o)
hex_byte_control m None h = tt
hex_byte_control m (Some b) h = (omega arith, h)

hex_pair_control : (m : ℕ) (bs : List ℕ) → 2 + length bs ≡ m → Control m (hex_pair bs)
hex_pair_control m [] e = tt
hex_pair_control m (h ∷ []) e = tt
hex_pair_control m (h ∷ l ∷ bs) e = hex_byte_control m (byte_of h l) (omega arith)

length_take_drop : (n : ℕ) (w : List ℕ) → length (take n w) + length (drop n w) ≡ length w
length_take_drop n w = sym (length-append (take n w) (drop n w)) ∙ ap length (take-append-drop n w)

named_control : (n : ℕ) (bs : List ℕ) → 1 ≤ n → n ≤ length bs → Control (1 + length bs) (named n bs)
named_control n bs l h =
    let e : length (take n bs) ≡ n = length-take-le n bs h in
    let k : length (take n bs) + length (drop n bs) ≡ length bs = length_take_drop n bs in
    cond_both (ltb 32 n) _ _ (Control (1 + length bs)) (λ _. tt)
    (λ _. numbered_control (1 + length bs) (take n bs) (drop n bs) (number (drop n bs)) (omega arith) (omega arith) (number_fits (drop n bs)))

pub control_gives : (bs : List ℕ) → Control (1 + length bs) (control bs)
control_gives [] = tt
control_gives (b ∷ bs) =
    let w : List ℕ = b ∷ bs in
    cond_both (is_ascii_alphabetic b) _ _ (Control (1 + length w))
    (λ q. let e : prefix_len is_ascii_alphabetic w ≡ 1 + prefix_len is_ascii_alphabetic bs = cond-true _ _ _ q in
    named_control (prefix_len is_ascii_alphabetic w) w (omega arith) (prefix_len-le-length is_ascii_alphabetic w))
    (λ _. cond_both (eqb b 39) _ _ (Control (1 + length w)) (λ _. hex_pair_control _ bs (omega arith)) (λ _. (omega arith, omega arith)))

control_takes : (m : ℕ) (t : Tok) (n : ℕ) → Control m (token t n) → (2 ≤ n) × (n ≤ m)
control_takes m opens n c = absurd c
control_takes m closes n c = absurd c
control_takes m (word name v) n c = c
control_takes m (hex b) n c = c
control_takes m (symbol b) n c = c
control_takes m (text b) n c = absurd c

control_is : (bs : List ℕ) (x : Front) → control bs ≡ x → Control (1 + length bs) x
control_is bs x e = subst (Control (1 + length bs)) e (control_gives bs)

-- What holds at each arm of front holds at the front.
module _ (b : ℕ) (bs : List ℕ) where
  front_by : (P : Front → Type 0) → (b ≡ 123 → P (token opens 1)) → (b ≡ 125 → P (token closes 1)) → P (control bs) →
      P layout → P (token (text b) 1) → P (front b bs)
  front_by P o c k l t =
      cond_both (eqb b 123) _ _ P (λ q. o (eqb-true b 123 q))
      (λ _. cond_both (eqb b 125) _ _ P (λ q. c (eqb-true b 125 q))
      (λ _. cond_both (eqb b 92) _ _ P (λ _. k)
      (λ _. cond_both (within Layout b) _ _ P (λ _. l) (λ _. t))))

  takes_one : (n : ℕ) → 1 ≡ n → (1 ≤ n) × (n ≤ 1 + length bs)
  takes_one n e = (omega arith, omega arith)

  -- A token takes at least one byte, and no more than there are.
  pub front_positive : (t : Tok) (n : ℕ) → front b bs ≡ token t n → (1 ≤ n) × (n ≤ 1 + length bs)
  front_positive t n =
      front_by (λ x. x ≡ token t n → (1 ≤ n) × (n ≤ 1 + length bs))
      (λ _ e. takes_one n (cc))
      (λ _ e. takes_one n (cc))
      (λ e. let q : (2 ≤ n) × (n ≤ 1 + length bs) = control_takes _ t n (control_is bs (token t n) e) in (omega arith, omega arith))
      (λ e. never (cc))
      (λ e. takes_one n (cc))

  -- An opening brace is the byte 123, and takes one byte.
  pub front_open : (n : ℕ) → front b bs ≡ token opens n → (b ≡ 123) × (n ≡ 1)
  front_open n =
      front_by (λ x. x ≡ token opens n → (b ≡ 123) × (n ≡ 1))
      (λ h e. (h, cc))
      (λ _ e. never (cc))
      (λ e. absurd (control_is bs (token opens n) e))
      (λ e. never (cc))
      (λ e. never (cc))

  -- A closing brace is the byte 125, and takes one byte.
  pub front_close : (n : ℕ) → front b bs ≡ token closes n → (b ≡ 125) × (n ≡ 1)
  front_close n =
      front_by (λ x. x ≡ token closes n → (b ≡ 125) × (n ≡ 1))
      (λ _ e. never (cc))
      (λ h e. (h, cc))
      (λ e. absurd (control_is bs (token closes n) e))
      (λ e. never (cc))
      (λ e. never (cc))

  -- A byte that is not layout begins no layout.
  pub front_solid : within Layout b ≡ false → front b bs ≡ layout → ⊥
  front_solid q =
      cond_both (eqb b 123) _ _ (λ x. x ≡ layout → ⊥) (λ _ e. never (cc))
      (λ _. cond_both (eqb b 125) _ _ (λ x. x ≡ layout → ⊥) (λ _ e. never (cc))
      (λ _. cond_both (eqb b 92) _ _ (λ x. x ≡ layout → ⊥) (λ _. control_is bs layout)
      (λ _. cond_both (within Layout b) _ _ (λ x. x ≡ layout → ⊥) (λ t. absurd (both_ways _ q t)) (λ _ e. never (cc)))))

  -- A byte that is layout begins layout.
  pub front_blank : within Layout b ≡ true → front b bs ≡ layout
  front_blank e = ⊎_elim (λ t. rw (eqb-true b 13 t)) (λ t. rw (eqb-true b 10 t)) (or_cases (eqb b 13) (eqb b 10) e)

-- What relates both arms of two conds relates the conds, and so the fronts of one first byte.
cond_alike : (R : Front → Front → Type 0) (c : Bool) (w x y z : Front) → R w x → R y z → R (cond c w y) (cond c x z)
cond_alike R true w x y z p q = p
cond_alike R false w x y z p q = q

front_alike : (R : Front → Front → Type 0) → ((x : Front) → R x x) → (b : ℕ) (bs cs : List ℕ) →
    R (control bs) (control cs) → R (front b bs) (front b cs)
front_alike R each b bs cs k =
    cond_alike R (eqb b 123) _ _ _ _ (each _)
    (cond_alike R (eqb b 125) _ _ _ _ (each _)
    (cond_alike R (eqb b 92) _ _ _ _ k (each _)))

-- Layout is told by the first byte alone.
pub front_layout : (b : ℕ) (xs ys : List ℕ) → front b xs ≡ layout → front b ys ≡ layout
front_layout b xs ys = front_alike (λ x y. x ≡ layout → y ≡ layout) (λ _ e. e) b xs ys (λ e. absurd (control_is xs layout e))

-- A token of at most m bytes in one front is the token in the other.
abbrev Keeps : ℕ → Front → Front → Type 0
Keeps m x y = (t : Tok) (n : ℕ) → x ≡ token t n → n ≤ m → y ≡ token t n

with_data_local : (m : ℕ) (t : Tok) (n k l r : ℕ) → (n + k ≤ m → k ≤ r) → Keeps m (with_data t n k l) (with_data t n k r)
with_data_local m t n k l r fits =
    cond_both (leb k l) _ _ (λ x. Keeps m x (with_data t n k r))
    (λ _ u i e h. let q : n + k ≡ i = cc in cond-true _ _ _ (le-leb k r (fits (omega arith))) ∙ e)
    (λ _ u i e h. never (cc))

hex_byte_takes : (o : Option ℕ) (t : Tok) (n : ℕ) → hex_byte o ≡ token t n → 4 ≤ n
hex_byte_takes None t n e = never (cc)
hex_byte_takes (Some b) t n e = let q : 4 ≡ n = cc in omega arith

hex_pair_takes : (bs : List ℕ) (t : Tok) (n : ℕ) → hex_pair bs ≡ token t n → 4 ≤ n
hex_pair_takes [] t n e = never (cc)
hex_pair_takes (h ∷ []) t n e = never (cc)
hex_pair_takes (h ∷ l ∷ bs) t n e = hex_byte_takes (byte_of h l) t n e

-- Bytes us and vs in which a token goes on alike, for j bytes at most.
record Alike (j : ℕ) (us vs : List ℕ) : Type 0 where
  one : j ≤ 1
  room : j ≤ length vs
  left : Parted us
  right : Parted vs
  space : begins 32 us ≡ begins 32 vs
  symbols : Keeps (1 + j) (control us) (control vs)
  pairs : (x : ℕ) → Keeps (3 + j) (hex_pair (x ∷ us)) (hex_pair (x ∷ vs))

-- What stands after a parting byte does not matter to it,
alike_after : (s : ℕ) → Parts s → (us vs : List ℕ) → Alike 1 (s ∷ us) (s ∷ vs)
alike_after s parts us vs = record {
  one = omega arith;
  room = omega arith;
  left = parted_from s parts us;
  right = parted_from s parts vs;
  space = refl;
  symbols = rw parts.letter (cond_alike (Keeps 2) (eqb s 39) _ _ _ _ (λ t n e h. absurd (omega (arith, hex_pair_takes us t n e))) (λ t n e _. e));
  pairs = λ x t n e _. e;
}

-- and a stopping byte is as good as the end.
alike_before : (s : ℕ) → Stops s → (vs : List ℕ) → Alike 0 [] (s ∷ vs)
alike_before s stop vs = record {
  one = omega arith;
  room = omega arith;
  left = parted_none;
  right = parted_from s stop.parts vs;
  space = sym (cond-false _ _ _ stop.space);
  symbols = λ t n e _. never (cc);
  pairs = λ x t n e _. never (cc);
}

module _ (j : ℕ) (us vs : List ℕ) (alike : Alike j us vs) where
  spaced_local : (m : ℕ) (name : List ℕ) (v : Option ℤ) (n : ℕ) (w : List ℕ) → m ≤ 1 + length name + length w + j →
      n ≤ length w → Keeps m (spaced name v n (w ++ us)) (spaced name v n (w ++ vs))
  spaced_local m name v n w g h =
      let room = alike.room in
      rw (space_alike us vs alike.space n w h)
      (with_data_local m _ _ _ _ _ (λ k. simp length-append (omega arith)))

  numbered_local : (m : ℕ) (name w : List ℕ) (r : Result (Option Numeral) Flaw) → m ≤ 1 + length name + length w + j → taken r ≤ length w →
      Keeps m (numbered name (w ++ us) r) (numbered name (w ++ vs) r)
  numbered_local m name w (Ok None) g h = spaced_local m name None 0 w g h
  numbered_local m name w (Err f) g h = λ t n e _. e
  numbered_local m name w (Ok (Some v)) g h = spaced_local m name (Some v.value) v.length w g h

  named_local : (n : ℕ) (w : List ℕ) → n ≤ length w → Keeps (1 + length w + j) (named n (w ++ us)) (named n (w ++ vs))
  named_local n w h =
      rw (take-append-le n w us h, take-append-le n w vs h, drop-append-le n w us h, drop-append-le n w vs h)
      (rw (number_before us alike.left (drop n w), number_before vs alike.right (drop n w))
      (cond_alike (Keeps (1 + length w + j)) (ltb 32 n) _ _ _ _ (λ t i e _. e)
      (numbered_local (1 + length w + j) (take n w) (drop n w) (number (drop n w)) (omega (arith, length_take_drop n w)) (number_fits (drop n w)))))

  hex_pair_local : (m : ℕ) (w : List ℕ) → m ≤ 2 + length w + j → Keeps m (hex_pair (w ++ us)) (hex_pair (w ++ vs))
  hex_pair_local m [] g t n e h = absurd (omega (arith, hex_pair_takes us t n e, alike.one))
  hex_pair_local m (x ∷ []) g t n e h = alike.pairs x t n e (omega arith)
  hex_pair_local m (x ∷ y ∷ w) g t n e h = e

  letters_local : (w : List ℕ) →
      Keeps (1 + length w + j) (named (prefix_len is_ascii_alphabetic (w ++ us)) (w ++ us)) (named (prefix_len is_ascii_alphabetic (w ++ vs)) (w ++ vs))
  letters_local w =
      rw (leading_before is_ascii_alphabetic us alike.left.letter w, leading_before is_ascii_alphabetic vs alike.right.letter w)
      (named_local (prefix_len is_ascii_alphabetic w) w (prefix_len-le-length is_ascii_alphabetic w))

  control_local : (w : List ℕ) → Keeps (1 + length w + j) (control (w ++ us)) (control (w ++ vs))
  control_local [] = λ t n e h. alike.symbols t n e (omega arith)
  control_local (x ∷ w) =
      let R : Front → Front → Type 0 = Keeps (1 + length (x ∷ w) + j) in
      cond_alike R (is_ascii_alphabetic x) _ _ _ _ (letters_local (x ∷ w))
      (cond_alike R (eqb x 39) _ _ _ _ (hex_pair_local _ w (omega arith)) (λ t n e _. e))

-- A token that ends with a parting byte, or before it, is the same whatever follows that byte.
pub front_local : (s : ℕ) → Parts s → (b : ℕ) (w us vs : List ℕ) (t : Tok) (n : ℕ) → front b (w ++ s ∷ us) ≡ token t n →
    n ≤ 2 + length w → front b (w ++ s ∷ vs) ≡ token t n
front_local s parts b w us vs t n e h =
    front_alike (Keeps (1 + length w + 1)) (λ _ t n e _. e) b (w ++ s ∷ us) (w ++ s ∷ vs) (control_local 1 (s ∷ us) (s ∷ vs) (alike_after s parts us vs) w) t n e (omega arith)

-- A token at the end of some bytes is the same where a stopping byte follows.
pub front_before : (s : ℕ) → Stops s → (b : ℕ) (w vs : List ℕ) (t : Tok) (n : ℕ) → front b w ≡ token t n → front b (w ++ s ∷ vs) ≡ token t n
front_before s stop b w vs t n e =
    front_alike (Keeps (1 + length w + 0)) (λ _ t n e _. e) b (w ++ []) (w ++ s ∷ vs) (control_local 0 [] (s ∷ vs) (alike_before s stop vs) w) t n
    (ap (front b) (append-nil w) ∙ e) (omega (arith, (front_positive b w t n e).1))
