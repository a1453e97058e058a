-- The tokens of bytes that are put one after another.
use Rattle.std.proofs.Common.{◌≡◌, ℕ, zero, suc, ◌+◌, ◌-◌, ◌/◌, ◌%◌, ◌^◌, ◌<◌, ◌≤◌, true, false, eqb, ltb, List, [], ◌∷◌, ◌++◌, length, take, drop, ℤ, pos, negsuc, Some, Ok, codes, decimal, sym, refl, ap, ◌∙◌, subst, add-zero, arith}
use lib.Signed.{mag}
use Rattle.std.proofs.lemmas.Fmt.{decimal_is_IsNumeral, length-decimal-le}
use Rattle.std.proofs.lemmas.List.{append_assoc, at_drop_all, drop_at, length-append, take_all, take_at}
use Rattle.std.proofs.lemmas.Bool.{and_left, cond_both, cond-false, cond-true, ltb-true, ltb-false, ne_eqb, le-ltb, le-leb, lt-leb, and_from, or_from, or_left, or_right}
use Rattle.std.proofs.lemmas.Str.{digit_value-digit_char}
use Rattle.std.specs.Str.Parse.{digits_value, AllDigits}
use Rattle.std.specs.Char.{is_ascii_digit, is_ascii_hexdigit, is_ascii_alphabetic, digit_char}
use Rattle.std.specs.Fmt.{signed_decimal}
use Rattle.std.specs.List.{prefix_len}
use Rattle.std.specs.Str.{bytes_eq}
use Rattle.tokens.specs.Tokens.{Tok, closes, hex, opens, symbol, text, word, Front, fault, layout, token, Item, bad, good, front, items, items_by}
use Rattle.tokens.specs.Tokens.{begins, control, digits, hex_byte, limited, named, number, number_after, numeral, numbered, spaced, with_data}
use Rattle.tokens.specs.Tokens as tokens
use Rattle.tokens.proofs.Fronts.{Stops, front_before, front_local, front_positive, leading_before, parts_space}
use Rattle.tokens.proofs.Items.{items_skip}
use Rattle.tokens.proofs.Runs.{digit_from_value}

-- Tokens, each with the count of its bytes, from a place on.
abbrev pub placed : ℕ → List (Tok × ℕ) → List Item
placed at [] = []
placed at (x ∷ xs) = good x.0 at (at + x.1) ∷ placed (at + x.1) xs

-- How many bytes tokens take.
abbrev pub spans : List (Tok × ℕ) → ℕ
spans [] = 0
spans (x ∷ xs) = x.1 + spans xs

-- The bytes are these tokens and nothing else, whatever follows.
pub record Lexed (xs : List ℕ) (ts : List (Tok × ℕ)) : Type 0 where
  pub whole : spans ts ≡ length xs
  pub same : (at : ℕ) (ys : List ℕ) → items 0 at (xs ++ ys) ≡ placed at ts ++ items 0 (at + length xs) ys

-- The bytes are these tokens and nothing else where a byte s follows.
pub record LexedBefore (s : ℕ) (xs : List ℕ) (ts : List (Tok × ℕ)) : Type 0 where
  pub whole : spans ts ≡ length xs
  pub same : (at : ℕ) (ys : List ℕ) → items 0 at (xs ++ s ∷ ys) ≡ placed at ts ++ items 0 (at + length xs) (s ∷ ys)

-- Tokens after tokens stand from where the first end.
pub placed_append : (at : ℕ) (ts us : List (Tok × ℕ)) → placed at (ts ++ us) ≡ placed at ts ++ placed (at + spans ts) us
placed_append at [] us = rw add-zero
placed_append at (x ∷ ts) us =
    let e : at + x.1 + spans ts ≡ at + (x.1 + spans ts) = omega arith in
    ap (λ is. good x.0 at (at + x.1) ∷ is) (placed_append (at + x.1) ts us ∙ ap (λ p. placed (at + x.1) ts ++ placed p us) e)

spans_append : (ts us : List (Tok × ℕ)) → spans (ts ++ us) ≡ spans ts + spans us
spans_append [] us = omega arith
spans_append (x ∷ ts) us = omega (arith, spans_append ts us)

module _ (xs ys : List ℕ) (ts us : List (Tok × ℕ)) (first : spans ts ≡ length xs) where
  both_whole : spans us ≡ length ys → spans (ts ++ us) ≡ length (xs ++ ys)
  both_whole second = omega (arith, spans_append ts us, length-append xs ys)

  -- the tokens of two parts, before zs
  both_same : (at : ℕ) (zs : List ℕ) → items 0 at (xs ++ (ys ++ zs)) ≡ placed at ts ++ items 0 (at + length xs) (ys ++ zs) →
      items 0 (at + length xs) (ys ++ zs) ≡ placed (at + length xs) us ++ items 0 (at + length xs + length ys) zs →
      items 0 at ((xs ++ ys) ++ zs) ≡ placed at (ts ++ us) ++ items 0 (at + length (xs ++ ys)) zs
  both_same at zs e f =
      let there : at + length xs + length ys ≡ at + length (xs ++ ys) = omega (arith, length-append xs ys) in
      ap (items 0 at) (append_assoc xs ys zs) ∙ e ∙ ap (λ is. placed at ts ++ is) f
      ∙ sym (append_assoc (placed at ts) (placed (at + length xs) us) (items 0 (at + length xs + length ys) zs))
      ∙ ap (λ p. (placed at ts ++ placed (at + p) us) ++ items 0 (at + length xs + length ys) zs) (sym first)
      ∙ ap (λ is. is ++ items 0 (at + length xs + length ys) zs) (sym (placed_append at ts us))
      ∙ ap (λ p. placed at (ts ++ us) ++ items 0 p zs) there

-- No bytes are no tokens.
pub lexed_nil : Lexed [] []
lexed_nil = record { whole = refl; same = λ at ys. rw add-zero }

-- Bytes that are tokens whatever follows are so before any byte.
pub lexed_any : (s : ℕ) (xs : List ℕ) (ts : List (Tok × ℕ)) → Lexed xs ts → LexedBefore s xs ts
lexed_any s xs ts h = record { whole = h.whole; same = λ at ys. h.same at (s ∷ ys) }

-- Bytes after bytes are the tokens of both.
pub lexed_append : (xs ys : List ℕ) (ts us : List (Tok × ℕ)) → Lexed xs ts → Lexed ys us → Lexed (xs ++ ys) (ts ++ us)
lexed_append xs ys ts us h k = record {
  whole = both_whole xs ys ts us h.whole k.whole;
  same = λ at zs. both_same xs ys ts us h.whole at zs (h.same at (ys ++ zs)) (k.same (at + length xs) zs);
}

-- So they are where the second stand before a byte.
pub lexed_append_before : (s : ℕ) (xs ys : List ℕ) (ts us : List (Tok × ℕ)) → Lexed xs ts → LexedBefore s ys us → LexedBefore s (xs ++ ys) (ts ++ us)
lexed_append_before s xs ys ts us h k = record {
  whole = both_whole xs ys ts us h.whole k.whole;
  same = λ at zs. both_same xs ys ts us h.whole at (s ∷ zs) (h.same at (ys ++ s ∷ zs)) (k.same (at + length xs) zs);
}

-- So they are where the first stand before the byte that the second begin with.
pub lexed_then : (s : ℕ) (xs ys : List ℕ) (ts us : List (Tok × ℕ)) → LexedBefore s xs ts → Lexed (s ∷ ys) us → Lexed (xs ++ s ∷ ys) (ts ++ us)
lexed_then s xs ys ts us h k = record {
  whole = both_whole xs (s ∷ ys) ts us h.whole k.whole;
  same = λ at zs. both_same xs (s ∷ ys) ts us h.whole at zs (h.same at (ys ++ zs)) (k.same (at + length xs) zs);
}

-- So they are where both do.
pub lexed_then_before : (s r : ℕ) (xs ys : List ℕ) (ts us : List (Tok × ℕ)) → LexedBefore s xs ts → LexedBefore r (s ∷ ys) us → LexedBefore r (xs ++ s ∷ ys) (ts ++ us)
lexed_then_before s r xs ys ts us h k = record {
  whole = both_whole xs (s ∷ ys) ts us h.whole k.whole;
  same = λ at zs. both_same xs (s ∷ ys) ts us h.whole at (r ∷ zs) (h.same at (ys ++ r ∷ zs)) (k.same (at + length xs) zs);
}

module _ (b : ℕ) (xs : List ℕ) (t : Tok) where
  one_whole : spans ((t, 1 + length xs) ∷ []) ≡ length (b ∷ xs)
  one_whole = omega arith

  -- a token that takes all of the bytes before ys
  one_same : (at : ℕ) (ys : List ℕ) → front b (xs ++ ys) ≡ token t (1 + length xs) → items 0 at (b ∷ (xs ++ ys)) ≡ good t at (at + (1 + length xs)) ∷ items 0 (at + length (b ∷ xs)) ys
  one_same at ys e =
      let there : at + 1 + (1 + length xs - 1) ≡ at + length (b ∷ xs) = omega arith in
      let past : drop (1 + length xs - 1) (xs ++ ys) ≡ ys = drop_at xs ys (1 + length xs - 1) (omega arith) in
      ap (λ x. items_by at x (λ k. items k (at + 1) (xs ++ ys))) e
      ∙ ap (λ is. good t at (at + (1 + length xs)) ∷ is) (items_skip (1 + length xs - 1) (at + 1) (xs ++ ys) ∙ ap (items 0 (at + 1 + (1 + length xs - 1))) past ∙ ap (λ p. items 0 p ys) there)

  -- Bytes whose front is one token, whatever follows, are that token.
  pub lexed_one : ((ys : List ℕ) → front b (xs ++ ys) ≡ token t (1 + length xs)) → Lexed (b ∷ xs) ((t, 1 + length xs) ∷ [])
  lexed_one e = record { whole = one_whole; same = λ at ys. one_same at ys (e ys) }

  -- Bytes whose front is one token are that token before a stopping byte.
  pub lexed_one_before : (s : ℕ) → Stops s → front b xs ≡ token t (1 + length xs) → LexedBefore s (b ∷ xs) ((t, 1 + length xs) ∷ [])
  lexed_one_before s stop e = record { whole = one_whole; same = λ at ys. one_same at (s ∷ ys) (front_before s stop b xs ys t (1 + length xs) e) }

-- two constructors are never equal: cc then finds that 0 is 1
never : {A : Type 0} → ◌≡◌ {A = ℕ} 0 1 → A
never z = absurd (omega arith)

-- The first of the items, if it is a token, stands at q or later.
abbrev Late : ℕ → List Item → Type 0
Late q [] = Unit {0}
Late q (bad f ∷ is) = Unit {0}
Late q (good t p e ∷ is) = q ≤ p

front_late : (q at : ℕ) (x : Front) (rest : ℕ → List Item) → q ≤ at → ((k : ℕ) → Late q (rest k)) → Late q (items_by at x rest)
front_late q at layout rest l then = then 0
front_late q at (fault f) rest l then = tt
front_late q at (token t n) rest l then = l

items_late : (q k at : ℕ) (bs : List ℕ) → q ≤ at → Late q (items k at bs)
items_late q zero at [] l = tt
items_late q (suc k) at [] l = tt
items_late q zero at (b ∷ bs) l = front_late q at (front b bs) (λ k. items k (at + 1) bs) l (λ k. items_late q k (at + 1) bs (omega arith))
items_late q (suc k) at (b ∷ bs) l = items_late q k (at + 1) bs (omega arith)

-- tokens that are all of the bytes leave no room for layout before them
no_layout : (p q : ℕ) (bs : List ℕ) (ts : List (Tok × ℕ)) → q < p → items 0 p bs ≡ placed q ts → 0 < spans ts → ⊥
no_layout p q bs [] l e h = omega arith
no_layout p q bs (x ∷ ts) l e h = let late : p ≤ q = subst (Late p) e (items_late p 0 p bs (omega arith)) in omega arith

module _ (s : ℕ) (stop : Stops s) (ys : List ℕ) where
  module _ (b p : ℕ) (xs : List ℕ) (at e : ℕ) (long : at + length (b ∷ xs) ≡ e)
      (ih : (k : ℕ) (ts : List (Tok × ℕ)) (q r : ℕ) → p + 1 + k ≡ q → at + 1 + k ≡ r → k + spans ts ≡ length xs → items k (p + 1) xs ≡ placed q ts → items k (at + 1) (xs ++ s ∷ ys) ≡ placed r ts ++ items 0 e (s ∷ ys)) where
    from_front : (x : Front) → front b xs ≡ x → (ts : List (Tok × ℕ)) → spans ts ≡ length (b ∷ xs) → items_by p x (λ k. items k (p + 1) xs) ≡ placed p ts → items 0 at (b ∷ (xs ++ s ∷ ys)) ≡ placed at ts ++ items 0 e (s ∷ ys)
    from_front layout f ts w h = absurd (no_layout (p + 1) p xs ts (omega arith) h (omega arith))
    from_front (fault g) f [] w h = absurd (omega arith)
    from_front (fault g) f (x ∷ ts) w h = never (cc)
    from_front (token t n) f [] w h = absurd (omega arith)
    from_front (token t n) f (x ∷ ts) w h =
        let size = front_positive b xs t n f in
        let count : p + n ≡ p + x.1 = cc in
        let kind : t ≡ x.0 = cc in
        let later : items (n - 1) (p + 1) xs ≡ placed (p + x.1) ts = cc in
        let end : at + n ≡ at + x.1 = omega arith in
        ap (λ y. items_by at y (λ k. items k (at + 1) (xs ++ s ∷ ys))) (front_before s stop b xs ys t n f)
        ∙ (λ i. good (kind i) at (end i) ∷ ih (n - 1) ts (p + x.1) (at + x.1) (omega (arith, size.0)) (omega (arith, size.0)) (omega (arith, size.0)) later i)

  -- the tokens of the bytes from a place on, after k of them
  from_alone : (xs : List ℕ) (k p : ℕ) (ts : List (Tok × ℕ)) (q at r e : ℕ) → p + k ≡ q → at + k ≡ r → at + length xs ≡ e → k + spans ts ≡ length xs → items k p xs ≡ placed q ts → items k at (xs ++ s ∷ ys) ≡ placed r ts ++ items 0 e (s ∷ ys)
  from_alone [] zero p [] q at r e pk ak long w h = let same : at ≡ e = omega arith in ap (λ a. items 0 a (s ∷ ys)) same
  from_alone [] zero p (x ∷ ts) q at r e pk ak long w h = never (cc)
  from_alone [] (suc k) p ts q at r e pk ak long w h = absurd (omega arith)
  from_alone (b ∷ xs) zero p ts q at r e pk ak long w h =
      let here : p ≡ q = omega arith in
      let there : at ≡ r = omega arith in
      from_front b p xs at e long (λ k us q r pk ak w. from_alone xs k (p + 1) us q (at + 1) r e pk ak (omega arith) w) (front b xs) refl ts (omega arith) (h ∙ ap (λ a. placed a ts) (sym here))
      ∙ ap (λ a. placed a ts ++ items 0 e (s ∷ ys)) there
  from_alone (b ∷ xs) (suc k) p ts q at r e pk ak long w h = from_alone xs k (p + 1) ts q (at + 1) r e (omega arith) (omega arith) (omega arith) (omega arith) h

-- Bytes that alone are these tokens are so before a stopping byte, at any place.
pub lexed_before : (s : ℕ) → Stops s → (xs : List ℕ) (ts : List (Tok × ℕ)) → spans ts ≡ length xs → items 0 0 xs ≡ placed 0 ts → LexedBefore s xs ts
lexed_before s stop xs ts w e = record {
  whole = w;
  same = λ at ys. from_alone s stop ys xs 0 0 ts 0 at at (at + length xs) refl (omega arith) refl (omega arith) e;
}

-- An opening brace.
pub lexed_open : Lexed (123 ∷ []) ((opens, 1) ∷ [])
lexed_open = lexed_one 123 [] opens (λ ys. refl)

-- A closing brace.
pub lexed_close : Lexed (125 ∷ []) ((closes, 1) ∷ [])
lexed_close = lexed_one 125 [] closes (λ ys. refl)

-- A text byte: no brace, no backslash, and neither CR nor LF.
pub lexed_text : (c : ℕ) → eqb c 123 ≡ false → eqb c 125 ≡ false → eqb c 92 ≡ false → eqb c 13 ≡ false → eqb c 10 ≡ false → Lexed (c ∷ []) ((text c, 1) ∷ [])
lexed_text c o p b r n =
    lexed_one c [] (text c) (λ ys. cond-false _ _ _ o ∙ cond-false _ _ _ p ∙ cond-false _ _ _ b ∙ cond-false _ _ _ (or_from _ _ r n))

-- A control symbol: a backslash and a byte that begins neither a word nor hexadecimal digits.
pub lexed_symbol : (c : ℕ) → is_ascii_alphabetic c ≡ false → eqb c 39 ≡ false → Lexed (92 ∷ c ∷ []) ((symbol c, 2) ∷ [])
lexed_symbol c l q = lexed_one 92 (c ∷ []) (symbol c) (λ ys. cond-false _ _ _ l ∙ cond-false _ _ _ q)

-- A control word, or another token, that ends with a space: computed before the space alone, it is the token whatever follows.
pub lexed_spaced : (w : List ℕ) (t : Tok) → front 92 (w ++ 32 ∷ []) ≡ token t (2 + length w) → Lexed (92 ∷ (w ++ 32 ∷ [])) ((t, 2 + length w) ∷ [])
lexed_spaced w t e =
    let size : 2 + length w ≡ 1 + length (w ++ 32 ∷ []) = omega (arith, length-append w (32 ∷ [])) in
    subst (λ n. Lexed (92 ∷ (w ++ 32 ∷ [])) ((t, n) ∷ [])) (sym size)
    (lexed_one 92 (w ++ 32 ∷ []) t (λ ys.
    ap (front 92) (append_assoc w (32 ∷ []) ys) ∙ front_local 32 parts_space 92 w [] ys t (2 + length w) e (omega arith) ∙ ap (token t) size))

hex_digit : (d : ℕ) → d < 16 → is_ascii_hexdigit (digit_char d) ≡ true
hex_digit d h =
    cond_both (ltb d 10) (48 + d) (87 + d) (λ c. is_ascii_hexdigit c ≡ true)
    (λ q. let l = ltb-true d 10 q in or_left _ _ (or_left _ _ (and_from _ _ (le-leb 48 (48 + d) (omega arith)) (le-leb (48 + d) 57 (omega arith)))))
    (λ q. let l = ltb-false d 10 q in or_right _ _ (and_from _ _ (le-leb 97 (87 + d) (omega arith)) (le-leb (87 + d) 102 (omega arith))))

-- A byte by its two hexadecimal digits.
pub lexed_hex : (b : ℕ) → b < 256 → Lexed (92 ∷ 39 ∷ digit_char (b / 16) ∷ digit_char (b % 16) ∷ []) ((hex b, 4) ∷ [])
lexed_hex b h =
    let high : b / 16 < 16 = omega arith in
    let low : b % 16 < 16 = omega arith in
    let is : digits_value 16 (digit_char (b / 16) ∷ digit_char (b % 16) ∷ []) ≡ b = rw (digit_value-digit_char (b / 16) (omega arith), digit_value-digit_char (b % 16) (omega arith)) (omega arith) in
    lexed_one 92 (39 ∷ digit_char (b / 16) ∷ digit_char (b % 16) ∷ []) (hex b) (λ ys.
    ap hex_byte (cond-true _ _ _ (and_from _ _ (hex_digit (b / 16) high) (hex_digit (b % 16) low)) ∙ ap Some is))

-- What numerals are made of.
digits_run : (ds : List ℕ) → AllDigits 10 ds → prefix_len is_ascii_digit ds ≡ length ds
digits_run [] d = refl
digits_run (c ∷ ds) d =
    let range = digit_from_value c d.0 in
    cond-true _ _ _ (and_from _ _ (le-leb 48 c range.0) (le-leb c 57 range.1)) ∙ omega (arith, digits_run ds d.1)

digits_parted : (ds : List ℕ) → AllDigits 10 ds → (prefix_len is_ascii_alphabetic ds ≡ 0) × (begins 45 ds ≡ 0)
digits_parted [] d = (refl, refl)
digits_parted (c ∷ ds) d =
    let range = digit_from_value c d.0 in
    (cond-false _ _ _ (or_from _ _ (and_left _ _ (lt-leb 65 c (omega arith))) (and_left _ _ (lt-leb 97 c (omega arith)))), cond-false _ _ _ (ne_eqb c 45 (λ e. omega arith)))

-- The number that a numeral of at most ten digits writes, after m minus signs.
digits_read : (m n : ℕ) → n ≤ 2147483647 + m → m ≤ 1 → number_after m (decimal n) ≡ Ok (Some (numeral (tokens.signed m n) (m + length (decimal n))))
digits_read m n small few =
    let reads = decimal_is_IsNumeral n (omega arith) in
    let short : length (decimal n) ≤ 10 = length-decimal-le 10 n (omega arith) (omega arith) (omega arith) in
    let run : prefix_len is_ascii_digit (decimal n) ≡ length (decimal n) = digits_run (decimal n) reads.0.1 in
    let all : digits_value 10 (take (length (decimal n)) (decimal n)) ≡ n = ap (digits_value 10) (take_all (length (decimal n)) (decimal n) (omega arith)) ∙ reads.1 in
    ap (λ k. digits m k (decimal n)) run
    ∙ cond-false _ _ _ (ne_eqb (length (decimal n)) 0 (λ e. omega (arith, reads.0.0))) ∙ cond-false _ _ _ (le-ltb 10 _ short)
    ∙ ap (λ v. limited m v (length (decimal n))) all ∙ cond-true _ _ _ (le-leb n (2147483647 + m) small)

signed_parted : (z : ℤ) → mag z < 2 ^ 31 → prefix_len is_ascii_alphabetic (signed_decimal z) ≡ 0
signed_parted (pos n) h = (digits_parted (decimal n) (decimal_is_IsNumeral n (omega arith)).0.1).0
signed_parted (negsuc n) h = refl

signed_read : (z : ℤ) → mag z < 2 ^ 31 → number (signed_decimal z) ≡ Ok (Some (numeral z (length (signed_decimal z))))
signed_read (pos n) h =
    ap (λ m. number_after m (drop m (decimal n))) (digits_parted (decimal n) (decimal_is_IsNumeral n (omega arith)).0.1).1
    ∙ digits_read 0 n (omega arith) (omega arith) ∙ ap (λ k. Ok (Some (numeral (pos n) k))) (omega arith)
signed_read (negsuc n) h = digits_read 1 (suc n) (omega arith) (omega arith) ∙ ap (λ k. Ok (Some (numeral (negsuc n) k))) (omega arith)

-- The letters after a backslash, and the bytes after them.
first_letter : (b : ℕ) (name : List ℕ) → prefix_len is_ascii_alphabetic (b ∷ name) ≡ length (b ∷ name) → is_ascii_alphabetic b ≡ true
first_letter b name = cond_both (is_ascii_alphabetic b) _ _ (λ n. n ≡ length (b ∷ name) → is_ascii_alphabetic b ≡ true) (λ q _. q) (λ _ e. absurd (omega arith))

control_letters : (name us : List ℕ) → 1 ≤ length name → prefix_len is_ascii_alphabetic name ≡ length name → prefix_len is_ascii_alphabetic us ≡ 0 → control (name ++ us) ≡ named (length name) (name ++ us)
control_letters [] us some all none = absurd (omega arith)
control_letters (b ∷ name) us some all none =
    cond-true _ _ _ (first_letter b name all) ∙ ap (λ n. named n (b ∷ (name ++ us))) (leading_before is_ascii_alphabetic us none (b ∷ name) ∙ all)

named_letters : (name us : List ℕ) → length name ≤ 32 → named (length name) (name ++ us) ≡ numbered name us (number us)
named_letters name us few =
    cond-false _ _ _ (le-ltb 32 (length name) few)
    ∙ ap (λ l. numbered l (drop (length name) (name ++ us)) (number (drop (length name) (name ++ us)))) (take_at name us (length name) refl)
    ∙ ap (λ l. numbered name l (number l)) (drop_at name us (length name) refl)

-- A word whose number is all of the bytes after its name, and which has no data.
spaced_end : (name : List ℕ) (z : ℤ) (us : List ℕ) → bytes_eq name (codes "bin") ≡ false → spaced name (Some z) (length us) us ≡ token (word name (Some z)) (1 + length name + length us)
spaced_end name z us plain =
    let none : begins 32 (drop (length us) us) ≡ 0 = at_drop_all (begins 32) us (length us) (omega arith) in
    let long : 1 + length name + (length us + begins 32 (drop (length us) us)) + 0 ≡ 1 + length name + length us = omega arith in
    ap (λ k. with_data (word name (Some z)) (1 + length name + (length us + begins 32 (drop (length us) us))) k (length us - (length us + begins 32 (drop (length us) us)))) (cond-false _ _ _ plain)
    ∙ cond-true _ _ _ (le-leb 0 (length us - (length us + begins 32 (drop (length us) us))) (omega arith)) ∙ ap (token (word name (Some z))) long

-- A control word of 1 to 32 letters with its number, before a stopping byte.
pub lexed_number : (name : List ℕ) → 1 ≤ length name → length name ≤ 32 → prefix_len is_ascii_alphabetic name ≡ length name → bytes_eq name (codes "bin") ≡ false → (z : ℤ) → mag z < 2 ^ 31 → (s : ℕ) → Stops s →
    LexedBefore s (92 ∷ (name ++ signed_decimal z)) ((word name (Some z), 1 + length name + length (signed_decimal z)) ∷ [])
lexed_number name some few letters plain z small s stop =
    let size : 1 + length (name ++ signed_decimal z) ≡ 1 + length name + length (signed_decimal z) = omega (arith, length-append name (signed_decimal z)) in
    subst (λ n. LexedBefore s (92 ∷ (name ++ signed_decimal z)) ((word name (Some z), n) ∷ [])) size
    (lexed_one_before 92 (name ++ signed_decimal z) (word name (Some z)) s stop
    (control_letters name (signed_decimal z) some letters (signed_parted z small) ∙ named_letters name (signed_decimal z) few
    ∙ ap (numbered name (signed_decimal z)) (signed_read z small) ∙ spaced_end name z (signed_decimal z) plain ∙ ap (token (word name (Some z))) (sym size)))
