-- What holds of every reading: the proofs of the laws.
use Rattle.std.proofs.Common.{◌≡◌, ℕ, zero, suc, ◌+◌, ◌-◌, ◌<◌, ◌≤◌, Bool, true, false, cond, not, ◌&&◌, ◌||◌, eqb, ltb, leb, List, [], ◌∷◌, ◌++◌, map, length, take, drop, ℤ, pos, negsuc, Some, None, Ok, Err, codes, IsUtf8, Option, Result, sym, refl, ap, ◌∙◌, subst, ⊎_elim, append-nil, arith, length-append}
use lib.ListN.{length-map}
use lib.Utf8.{scalar, scalars, encodes, low_scalar}
use Rattle.std.specs.List.{AllByRecursion}
use Rattle.std.specs.Str.{bytes_eq}
use Rattle.std.proofs.lemmas.List.{take_at, drop_at}
use Rattle.std.proofs.lemmas.Bool.{cond-true, cond_both, and_parts, and_from, and_cases, or_cases, leb-true, leb-false, eqb-true, le-leb, lt-ltb}
use Rattle.tokens.specs.Tokens.{Tok, opens, closes, word, hex, symbol, text, Item, good, bad, items_by, items}
use Rattle.tokens.specs.declared.faults.Flaw.TheVariants.{LoneBackslash}
use Rattle.reader.specs.declared.faults.ReadFault.{ReadFault}
use Rattle.records.specs.Apart.{is_rtf, first_end}
use Rattle.records.specs.Laws.{IsRecord}
use Rattle.records.proofs.Alone.{never, record_alone}
use Rattle.reader.specs.declared.assemble.Half.{Half}
use Rattle.records.specs.declared.kinds.Kind.{Kind}
use Rattle.records.specs.declared.kinds.Kind.TheVariants.{Html, Text}
use Rattle.reader.specs.declared.recognise.Sign.{Sign}
use Rattle.reader.specs.declared.recognise.Sign.TheVariants as sign
use Rattle.reader.specs.declared.state.ReadingState.{ReadingState}
use Rattle.reader.specs.declared.words.Named.{Named}
use Rattle.reader.specs.declared.words.Named.TheVariants.{Lsquo, Rsquo, Ldquo, Rdquo, Bull, Ndash, Mdash, Nbsp, Shy}
use Rattle.reader.specs.declared.words.Content.{Content}
use Rattle.reader.specs.declared.words.Content.TheVariants.{Break, Tab, Mark, Fallback, Unicode}
use Rattle.reader.specs.declared.words.Word.{Word}
use Rattle.reader.specs.declared.words.Word.TheVariants as w
use Rattle.reader.specs.Words.{word_of, spelled, is_htmlrtf, is_silent}
use Rattle.records.specs.Kinds.{is_html}
use Rattle.reader.specs.Rules.{Effect, unit, byte, given, beyond, Turn, Later, outermost, inside, still, unit_of, fallback_turn, unicode_turn, content_turn, word_turn, symbol_text, text_turn, plain_turn, turn_of, means, is_star, turns_off, suppress, silence, make_tag, tag_next, added, opened, closed, other, step, effects}
use Rattle.reader.specs.Content.{is_high, is_low, pair_of, Made, read, second, first, make, before, onward, characters}
use Rattle.reader.specs.Recognition.{sign_of, found, recognised, declares, declared_by, declared}
use Rattle.reader.specs.Reading.{and_then, may_trail, trailing, sound_record, content_of, record_of, fitting}
use Rattle.reader.specs.Laws.{ScalarPage, AlwaysUtf8, TrailingChangesNothing, token_of, SameTokens, PlacesDoNotMatter, Balanced, SilentAddsNothing}
use Rattle.reader.proofs.Checks.{sound_first}

-- All content is UTF-8.

-- An effect from which only scalar values can come: a unit has 16 bits, and given characters are scalar values.
abbrev Fair : Effect → Type 0
Fair (unit u) = u < 65536
Fair (byte b) = Unit {0}
Fair (given cs) = scalars cs ≡ true
Fair beyond = Unit {0}

abbrev FairOption : Option Effect → Type 0
FairOption None = Unit {0}
FairOption (Some x) = Fair x

abbrev FairEffects : List (Effect × ℕ) → Type 0
FairEffects xs = AllByRecursion (λ x. Fair x.0) xs

high_scalar : (c : ℕ) → 57344 ≤ c → c < 1114112 → scalar c ≡ true
high_scalar c h l = cond_both (ltb c 55296) true _ (λ x. x ≡ true) (λ _. refl) (λ _. and_from _ _ (le-leb 57344 c h) (lt-ltb c 1114112 l))

scalars_append : (cs ds : List ℕ) → scalars cs ≡ true → scalars ds ≡ true → scalars (cs ++ ds) ≡ true
scalars_append [] ds e f = f
scalars_append (c ∷ cs) ds e f =
    let parts = and_parts (scalar c) (scalars cs) e in
    and_from _ _ parts.0 (scalars_append cs ds parts.1 f)

scalars_one : (c : ℕ) → scalar c ≡ true → scalars (c ∷ []) ≡ true
scalars_one c e = and_from _ _ e refl

spelled_scalars : (k : Kind) (n : Named) → scalars (spelled k n) ≡ true
spelled_scalars Text Lsquo = refl
spelled_scalars Text Rsquo = refl
spelled_scalars Text Ldquo = refl
spelled_scalars Text Rdquo = refl
spelled_scalars Text Bull = refl
spelled_scalars Text Ndash = refl
spelled_scalars Text Mdash = refl
spelled_scalars Text Nbsp = refl
spelled_scalars Text Shy = refl
spelled_scalars Html Lsquo = refl
spelled_scalars Html Rsquo = refl
spelled_scalars Html Ldquo = refl
spelled_scalars Html Rdquo = refl
spelled_scalars Html Bull = refl
spelled_scalars Html Ndash = refl
spelled_scalars Html Mdash = refl
spelled_scalars Html Nbsp = refl
spelled_scalars Html Shy = refl

unit_fair : (z : ℤ) → Fair (unit_of z)
unit_fair (pos n) = cond_both (leb n 65535) (unit n) beyond Fair (λ q. omega (arith, leb-true n 65535 q)) (λ _. tt)
unit_fair (negsuc n) = cond_both (ltb n 32768) (unit (65535 - n)) beyond Fair (λ _. omega arith) (λ _. tt)

fallback_fair : (s : ReadingState) (v : Option ℤ) → FairOption (fallback_turn s v).effect
fallback_fair s None = tt
fallback_fair s (Some (pos n)) = tt
fallback_fair s (Some (negsuc n)) = tt

unicode_fair : (s : ReadingState) (v : Option ℤ) → FairOption (unicode_turn s v).effect
unicode_fair s None = tt
unicode_fair s (Some z) = unit_fair z

content_fair : (k : Kind) (s : ReadingState) (c : Content) (v : Option ℤ) → FairOption (content_turn k s c v).effect
content_fair k s Break v = refl
content_fair k s Tab v = refl
content_fair k s (Mark n) v = spelled_scalars k n
content_fair k s Fallback v = fallback_fair s v
content_fair k s Unicode v = unicode_fair s v

word_fair : (k : Kind) (s : ReadingState) (x : Option Word) (v : Option ℤ) → FairOption (word_turn k s x v).effect
word_fair k s (Some w.Htmlrtf) v = tt
word_fair k s (Some w.Htmltag) v = tt
word_fair k s (Some w.Silent) v = tt
word_fair k s (Some (w.Content c)) v = content_fair k s c v
word_fair k s None v = tt

brace_scalar : (b : ℕ) → (eqb b 123 || (eqb b 125 || eqb b 92)) ≡ true → scalar b ≡ true
brace_scalar b e =
    let small : b < 55296 =
    ⊎_elim (λ q. omega (arith, eqb-true b 123 q))
    (λ q. ⊎_elim (λ q. omega (arith, eqb-true b 125 q)) (λ q. omega (arith, eqb-true b 92 q)) (or_cases (eqb b 125) (eqb b 92) q))
    (or_cases (eqb b 123) (eqb b 125 || eqb b 92) e)
    in low_scalar b small

symbol_fair : (k : Kind) (s : ReadingState) (b : ℕ) → FairOption (text_turn s (symbol_text k b)).effect
symbol_fair k s b =
    let P : Option (List ℕ) → Type 0 = λ o. FairOption (text_turn s o).effect in
    cond_both (eqb b 13 || eqb b 10) _ _ P (λ _. refl)
    (λ _. cond_both (eqb b 123 || (eqb b 125 || eqb b 92)) _ _ P (λ q. scalars_one b (brace_scalar b q))
    (λ _. cond_both (eqb b 126) _ _ P (λ _. spelled_scalars k Nbsp)
    (λ _. cond_both (eqb b 95) _ _ P (λ _. spelled_scalars k Shy) (λ _. tt))))

plain_fair : (k : Kind) (s : ReadingState) (t : Tok) → FairOption (plain_turn k s t).effect
plain_fair k s opens = tt
plain_fair k s closes = tt
plain_fair k s (word name v) = word_fair k s (word_of name) v
plain_fair k s (hex b) = tt
plain_fair k s (symbol b) = symbol_fair k s b
plain_fair k s (text b) = tt

turn_fair : (k : Kind) (s : ReadingState) (t : Tok) (next : Bool) → FairOption (turn_of k s t next).effect
turn_fair k s t next =
    let P : Turn → Type 0 = λ r. FairOption r.effect in
    cond_both s.silent _ _ P (λ _. tt)
    (λ _. cond_both (is_html k && (s.suppressed && not (is_htmlrtf (means t)))) _ _ P (λ _. tt)
    (λ _. cond_both (is_html k && (not s.tag && is_htmlrtf (means t))) _ _ P (λ _. tt)
    (λ _. cond_both (not s.tag && is_star t) _ _ P (λ _. tt)
    (λ _. cond_both (not s.tag && is_silent (means t)) _ _ P (λ _. tt) (λ _. plain_fair k s t)))))

added_fair : (o : Option Effect) (p : ℕ) (later : List (Effect × ℕ)) → FairOption o → FairEffects later → FairEffects (added o p later)
added_fair None p later f fs = fs
added_fair (Some x) p later f fs = (f, fs)

module _ (later : Later) (ih : (ss : List ReadingState) (n : ℕ) → FairEffects (later ss n)) where
  opened_fair : (m p : ℕ) (ss : List ReadingState) → FairEffects (opened m p ss later)
  opened_fair m p [] = tt
  opened_fair m p (s ∷ ss) = cond_both (ltb (length (s ∷ ss)) m) _ _ FairEffects (λ _. ih _ 0) (λ _. tt)

  closed_fair : (ss : List ReadingState) → FairEffects (closed ss later)
  closed_fair [] = tt
  closed_fair (s ∷ ss) = ih ss 0

  other_fair : (k : Kind) (t : Tok) (p : ℕ) (next : Bool) (ss : List ReadingState) (skip : ℕ) → FairEffects (other k t p next ss skip later)
  other_fair k t p next [] skip = tt
  other_fair k t p next (s ∷ ss) skip =
      cond_both (ltb 0 skip) _ _ FairEffects (λ _. ih _ _) (λ _. added_fair _ p _ (turn_fair k s t next) (ih _ _))

  step_fair : (m : ℕ) (k : Kind) (t : Tok) (p : ℕ) (next : Bool) (ss : List ReadingState) (skip : ℕ) → FairEffects (step m k t p next ss skip later)
  step_fair m k opens p next ss skip = opened_fair m p ss
  step_fair m k closes p next ss skip = closed_fair ss
  step_fair m k (word name v) p next ss skip = other_fair k (word name v) p next ss skip
  step_fair m k (hex b) p next ss skip = other_fair k (hex b) p next ss skip
  step_fair m k (symbol b) p next ss skip = other_fair k (symbol b) p next ss skip
  step_fair m k (text b) p next ss skip = other_fair k (text b) p next ss skip

-- every effect of a record is fair
effects_fair : (m : ℕ) (k : Kind) (ss : List ReadingState) (n : ℕ) (is : List Item) → FairEffects (effects m k ss n is)
effects_fair m k ss n [] = tt
effects_fair m k ss n (bad f ∷ is) = tt
effects_fair m k ss n (good t p e ∷ is) = step_fair (λ rs n. effects m k rs n is) (λ rs n. effects_fair m k rs n is) m k t p (tag_next is) ss n

-- What is made, or told, is of scalar values, unless it is a fault.
abbrev ScalarsMade : Result Made ReadFault → Type 0
ScalarsMade (Ok m) = scalars m.characters ≡ true
ScalarsMade (Err f) = Unit {0}

abbrev ScalarsTold : Result (List ℕ) ReadFault → Type 0
ScalarsTold (Ok cs) = scalars cs ≡ true
ScalarsTold (Err f) = Unit {0}

pair_scalar : (h l : ℕ) → scalar (pair_of h l) ≡ true
pair_scalar h l = high_scalar (pair_of h l) (omega arith) (omega arith)

-- a unit that is no half is a scalar value
unit_scalar : (u : ℕ) → u < 65536 → is_high u ≡ false → is_low u ≡ false → scalar u ≡ true
unit_scalar u h e f =
    ⊎_elim (λ q. low_scalar u (omega (arith, leb-false 0xD800 u q)))
    (λ q. ⊎_elim
    (λ r. low_scalar u (omega (arith, leb-false u 0xDBFF q, leb-false 0xDC00 u r)))
    (λ r. high_scalar u (omega (arith, leb-false u 0xDFFF r)) (omega arith))
    (and_cases (leb 0xDC00 u) (leb u 0xDFFF) f))
    (and_cases (leb 0xD800 u) (leb u 0xDBFF) e)

second_scalars : (h : Half) (x : Effect) → ScalarsMade (second h x)
second_scalars h (unit u) = cond_both (is_low u) _ _ ScalarsMade (λ _. scalars_one (pair_of h.unit u) (pair_scalar h.unit u)) (λ _. tt)
second_scalars h (byte b) = tt
second_scalars h (given cs) = tt
second_scalars h beyond = tt

before_scalars : (cs : List ℕ) (r : Result (List ℕ) ReadFault) → scalars cs ≡ true → ScalarsTold r → ScalarsTold (before cs r)
before_scalars cs (Ok ds) e f = scalars_append cs ds e f
before_scalars cs (Err g) e f = tt

onward_scalars : (r : Result Made ReadFault) (later : Option Half → Result (List ℕ) ReadFault) → ScalarsMade r → ((o : Option Half) → ScalarsTold (later o)) → ScalarsTold (onward r later)
onward_scalars (Ok m) later e ih = before_scalars m.characters (later m.waiting) e (ih m.waiting)
onward_scalars (Err g) later e ih = tt

module _ (decoded : ℕ → Option ℕ) (scalar-page : ScalarPage decoded) where
  read_scalars : (b p : ℕ) (o : Option ℕ) → decoded b ≡ o → ScalarsMade (read o p)
  read_scalars b p None e = tt
  read_scalars b p (Some c) e = scalars_one c (scalar-page b c e)

  first_scalars : (x : Effect) (p : ℕ) → Fair x → ScalarsMade (first decoded x p)
  first_scalars (unit u) p f =
      cond_both (is_high u) _ _ ScalarsMade (λ _. refl)
      (λ q. cond_both (is_low u) _ _ ScalarsMade (λ _. tt) (λ r. scalars_one u (unit_scalar u f q r)))
  first_scalars (byte b) p f = read_scalars b p (decoded b) refl
  first_scalars (given cs) p f = f
  first_scalars beyond p f = tt

  make_scalars : (o : Option Half) (x : Effect) (p : ℕ) → Fair x → ScalarsMade (make decoded o x p)
  make_scalars None x p f = first_scalars x p f
  make_scalars (Some h) x p f = second_scalars h x

  -- the characters of fair effects are scalar values
  characters_scalars : (o : Option Half) (xs : List (Effect × ℕ)) → FairEffects xs → ScalarsTold (characters decoded o xs)
  characters_scalars None [] fs = refl
  characters_scalars (Some h) [] fs = tt
  characters_scalars None (x ∷ xs) fs = onward_scalars (make decoded None x.0 x.1) (λ o. characters decoded o xs) (make_scalars None x.0 x.1 fs.0) (λ o. characters_scalars o xs fs.1)
  characters_scalars (Some h) (x ∷ xs) fs = onward_scalars (make decoded (Some h) x.0 x.1) (λ o. characters decoded o xs) (make_scalars (Some h) x.0 x.1 fs.0) (λ o. characters_scalars o xs fs.1)

  content_scalars : (k : Kind) (bs cs : List ℕ) → content_of decoded k bs ≡ Ok cs → scalars cs ≡ true
  content_scalars k bs cs e =
      subst ScalarsTold e (characters_scalars None (effects 64 k (outermost ∷ []) 0 (items 0 1 (drop 1 bs))) (effects_fair 64 k (outermost ∷ []) 0 (items 0 1 (drop 1 bs))))

-- what a check let through, if the whole is told
then_ok : {A B : Type 0} (r : Result A ReadFault) (f : A → Result B ReadFault) (y : B) → and_then r f ≡ Ok y → (x : A) × (r ≡ Ok x) × (f x ≡ Ok y)
then_ok (Ok x) f y e = (x, refl, e)
then_ok (Err g) f y e = never (cc)

fitting_same : (room : ℕ) (r s : Kind × List ℕ) → fitting room r ≡ Ok s → r ≡ s
fitting_same room r s = cond_both (ltb room (length r.1)) _ _ (λ x. x ≡ Ok s → r ≡ s) (λ _ e. never (cc)) (λ _ e. cc)

record_utf8 : (decoded : ℕ → Option ℕ) → ScalarPage decoded → (page : ℕ) (bs : List ℕ) (told : Kind × List ℕ) → record_of page decoded bs ≡ Ok told → IsUtf8 told.1
record_utf8 decoded scalar-page page bs told e =
    let kind = then_ok (recognised 10 (items 0 0 bs)) (λ k. and_then (declared page 10 (items 0 0 bs)) (λ _. and_then (content_of decoded k bs) (λ cs. Ok (k, encodes cs)))) told e in
    let paged = then_ok (declared page 10 (items 0 0 bs)) (λ _. and_then (content_of decoded kind.0 bs) (λ cs. Ok (kind.0, encodes cs))) told kind.2 in
    let chars = then_ok (content_of decoded kind.0 bs) (λ cs. Ok (kind.0, encodes cs)) told paged.2 in
    let same : (kind.0, encodes chars.0) ≡ told = cc chars.2 in
    (chars.0, (content_scalars decoded scalar-page kind.0 bs chars.0 chars.1, ap (λ x. x.1) same))

-- What reading gives is the encoding of scalar values.
pub always_utf8 : AlwaysUtf8
always_utf8 decoded scalar-page page room bytes k content e =
    let sound = then_ok (sound_record bytes) (λ r. and_then (record_of page decoded r) (fitting room)) (k, content) e in
    let told = then_ok (record_of page decoded sound.0) (fitting room) (k, content) sound.2 in
    subst (λ x. IsUtf8 x.1) (fitting_same room told.0 (k, content) told.2) (record_utf8 decoded scalar-page page sound.0 told.0 told.1)

-- Trailing bytes change nothing.

trailing_passes : (p : ℕ) (bs : List ℕ) → AllByRecursion (λ b. may_trail b ≡ true) bs → trailing p bs ≡ Ok tt
trailing_passes p [] a = refl
trailing_passes p (b ∷ bs) a = cond-true _ _ _ a.0 ∙ trailing_passes (p + 1) bs a.1

-- the sound record of a record with such bytes after it is the record
sound_trailed : (r tail : List ℕ) → IsRecord r → AllByRecursion (λ b. may_trail b ≡ true) tail → length (r ++ tail) ≤ 32768 → sound_record (r ++ tail) ≡ Ok r
sound_trailed r tail e a h =
    sound_first (r ++ tail) h (length r) (Ok tt) (record_alone r tail e) (sym (ap (trailing (length r)) (drop_at r tail (length r) refl) ∙ trailing_passes (length r) tail a))
    ∙ ap Ok (take_at r tail (length r) refl)

sound_alone : (r : List ℕ) → IsRecord r → length r ≤ 32768 → sound_record r ≡ Ok r
sound_alone r e h = ap sound_record (sym (append-nil r)) ∙ sound_trailed r [] e tt (subst (λ l. length l ≤ 32768) (sym (append-nil r)) h)

-- With or without such bytes after it, the record is the same, so its reading is.
pub trailing_changes_nothing : TrailingChangesNothing
trailing_changes_nothing page decoded room r tail e a h =
    let short : length r ≤ 32768 = omega (arith, length-append r tail) in
    ap (λ x. and_then x (λ r. and_then (record_of page decoded r) (fitting room))) (sound_trailed r tail e a h ∙ sym (sound_alone r e short))

-- Places do not matter: whatever is told but a fault is told of the same tokens at no places.

-- A result without its fault.
abbrev kept : {A : Type 0} → Result A ReadFault → Option A
kept (Ok x) = Some x
kept (Err f) = None

kept_ok : {A : Type 0} (r : Result A ReadFault) (x : A) → kept r ≡ Some x → r ≡ Ok x
kept_ok (Ok y) x e = let same : y ≡ x = cc in ap Ok same
kept_ok (Err f) x e = never (cc)

kept_then : {A B : Type 0} (r s : Result A ReadFault) (f g : A → Result B ReadFault) → kept r ≡ kept s → ((x : A) → kept (f x) ≡ kept (g x)) → kept (and_then r f) ≡ kept (and_then s g)
kept_then (Ok x) (Ok y) f g e h = let same : x ≡ y = cc in h x ∙ ap (λ z. kept (g z)) same
kept_then (Ok x) (Err b) f g e h = never (cc)
kept_then (Err a) (Ok y) f g e h = never (cc)
kept_then (Err a) (Err b) f g e h = refl

-- An item of a token, at no place.
abbrev nowhere : Option Tok → Item
nowhere (Some t) = good t 0 0
nowhere None = bad (record { flaw = LoneBackslash; place = 0 })

abbrev bare : List Item → List Item
bare is = map nowhere (map token_of is)

-- the kind
pass_bare : (b : Bool) (f g : ReadFault) (r s : Result Kind ReadFault) → kept r ≡ kept s → kept (cond b (Err f) r) ≡ kept (cond b (Err g) s)
pass_bare true f g r s e = refl
pass_bare false f g r s e = e

found_bare : (x : Sign) (n p : ℕ) (r s : Result Kind ReadFault) → kept r ≡ kept s → kept (found x n p r) ≡ kept (found x n 0 s)
found_bare (sign.Mark k) n p r s e = refl
found_bare sign.Pass n p r s e = pass_bare (leb n 1) _ _ r s e
found_bare sign.Stop n p r s e = refl

recognised_bare : (n : ℕ) (is : List Item) → kept (recognised n is) ≡ kept (recognised n (bare is))
recognised_bare n [] = refl
recognised_bare n (bad f ∷ is) = refl
recognised_bare n (good t p e ∷ is) = found_bare (sign_of t) n p (recognised (n - 1) is) (recognised (n - 1) (bare is)) (recognised_bare (n - 1) is)

-- the page
page_bare : (o : Option Bool) (p : ℕ) (r s : Result (Unit {0}) ReadFault) → kept r ≡ kept s → kept (declared_by o p r) ≡ kept (declared_by o 0 s)
page_bare None p r s e = e
page_bare (Some true) p r s e = refl
page_bare (Some false) p r s e = refl

declared_bare : (page n : ℕ) (is : List Item) → kept (declared page n is) ≡ kept (declared page n (bare is))
declared_bare page zero is = refl
declared_bare page (suc n) [] = refl
declared_bare page (suc n) (bad f ∷ is) = refl
declared_bare page (suc n) (good t p e ∷ is) = page_bare (declares page t) p (declared page n is) (declared page n (bare is)) (declared_bare page n is)

-- Effects at no place, and a turn of a group that opened at no place.
abbrev unplaced : List (Effect × ℕ) → List (Effect × ℕ)
unplaced xs = map (λ x. (x.0, 0)) xs

abbrev moved : Turn → Turn
moved r = record { state = inside 0 r.state; skip = r.skip; effect = r.effect }

moved_cond : (b : Bool) (x y u v : Turn) → x ≡ moved u → y ≡ moved v → cond b x y ≡ moved (cond b u v)
moved_cond true x y u v e f = e
moved_cond false x y u v e f = f

fallback_moved : (s : ReadingState) (v : Option ℤ) → fallback_turn (inside 0 s) v ≡ moved (fallback_turn s v)
fallback_moved s None = refl
fallback_moved s (Some (pos n)) = refl
fallback_moved s (Some (negsuc n)) = refl

unicode_moved : (s : ReadingState) (v : Option ℤ) → unicode_turn (inside 0 s) v ≡ moved (unicode_turn s v)
unicode_moved s None = refl
unicode_moved s (Some z) = refl

content_moved : (k : Kind) (s : ReadingState) (c : Content) (v : Option ℤ) → content_turn k (inside 0 s) c v ≡ moved (content_turn k s c v)
content_moved k s Break v = refl
content_moved k s Tab v = refl
content_moved k s (Mark n) v = refl
content_moved k s Fallback v = fallback_moved s v
content_moved k s Unicode v = unicode_moved s v

word_moved : (k : Kind) (s : ReadingState) (x : Option Word) (v : Option ℤ) → word_turn k (inside 0 s) x v ≡ moved (word_turn k s x v)
word_moved k s (Some w.Htmlrtf) v = refl
word_moved k s (Some w.Htmltag) v = refl
word_moved k s (Some w.Silent) v = refl
word_moved k s (Some (w.Content c)) v = content_moved k s c v
word_moved k s None v = refl

text_moved : (s : ReadingState) (o : Option (List ℕ)) → text_turn (inside 0 s) o ≡ moved (text_turn s o)
text_moved s None = refl
text_moved s (Some cs) = refl

plain_moved : (k : Kind) (s : ReadingState) (t : Tok) → plain_turn k (inside 0 s) t ≡ moved (plain_turn k s t)
plain_moved k s opens = refl
plain_moved k s closes = refl
plain_moved k s (word name v) = word_moved k s (word_of name) v
plain_moved k s (hex b) = refl
plain_moved k s (symbol b) = text_moved s (symbol_text k b)
plain_moved k s (text b) = refl

star_moved : (b : Bool) (s : ReadingState) → still (cond b (make_tag (inside 0 s)) (silence (inside 0 s))) ≡ moved (still (cond b (make_tag s) (silence s)))
star_moved true s = refl
star_moved false s = refl

turn_moved : (k : Kind) (s : ReadingState) (t : Tok) (next : Bool) → turn_of k (inside 0 s) t next ≡ moved (turn_of k s t next)
turn_moved k s t next =
    moved_cond s.silent _ _ (still s) _ refl
    (moved_cond (is_html k && (s.suppressed && not (is_htmlrtf (means t)))) _ _ (still s) _ refl
    (moved_cond (is_html k && (not s.tag && is_htmlrtf (means t))) _ _ (still (suppress (not (turns_off t)) s)) _ refl
    (moved_cond (not s.tag && is_star t) _ _ (still (cond (is_html k && next) (make_tag s) (silence s))) _ (star_moved (is_html k && next) s)
    (moved_cond (not s.tag && is_silent (means t)) _ _ (still (silence s)) (plain_turn k s t) refl (plain_moved k s t)))))

unplaced_cond : (b : Bool) (x y u v : List (Effect × ℕ)) → unplaced x ≡ u → unplaced y ≡ v → unplaced (cond b x y) ≡ cond b u v
unplaced_cond true x y u v e f = e
unplaced_cond false x y u v e f = f

added_bare : (o : Option Effect) (p : ℕ) (later : List (Effect × ℕ)) → unplaced (added o p later) ≡ added o 0 (unplaced later)
added_bare None p later = refl
added_bare (Some x) p later = refl

tag_bare : (is : List Item) → tag_next is ≡ tag_next (bare is)
tag_bare [] = refl
tag_bare (bad f ∷ is) = refl
tag_bare (good t p e ∷ is) = refl

module _ (later bared : Later) (ih : (ss : List ReadingState) (n : ℕ) → unplaced (later ss n) ≡ bared (map (inside 0) ss) n) where
  opened_bare : (m p : ℕ) (ss : List ReadingState) → unplaced (opened m p ss later) ≡ opened m 0 (map (inside 0) ss) bared
  opened_bare m p [] = refl
  opened_bare m p (s ∷ ss) =
      unplaced_cond (ltb (length (s ∷ ss)) m) _ [] _ [] (ih (inside p s ∷ (s ∷ ss)) 0) refl
      ∙ ap (λ n. cond (ltb n m) (bared (map (inside 0) (inside p s ∷ (s ∷ ss))) 0) []) (sym (length-map (s ∷ ss) (inside 0)))

  closed_bare : (ss : List ReadingState) → unplaced (closed ss later) ≡ closed (map (inside 0) ss) bared
  closed_bare [] = refl
  closed_bare (s ∷ ss) = ih ss 0

  other_bare : (k : Kind) (t : Tok) (p : ℕ) (next : Bool) (ss : List ReadingState) (skip : ℕ) → unplaced (other k t p next ss skip later) ≡ other k t 0 next (map (inside 0) ss) skip bared
  other_bare k t p next [] skip = refl
  other_bare k t p next (s ∷ ss) skip =
      let turn = turn_of k s t next in
      unplaced_cond (ltb 0 skip) _ _ _ _ (ih (s ∷ ss) (skip - 1))
      (added_bare turn.effect p (later (turn.state ∷ ss) turn.skip)
      ∙ ap (added turn.effect 0) (ih (turn.state ∷ ss) turn.skip)
      ∙ ap (λ r. added r.effect 0 (bared (r.state ∷ map (inside 0) ss) r.skip)) (sym (turn_moved k s t next)))

  step_bare : (m : ℕ) (k : Kind) (t : Tok) (p : ℕ) (next : Bool) (ss : List ReadingState) (skip : ℕ) → unplaced (step m k t p next ss skip later) ≡ step m k t 0 next (map (inside 0) ss) skip bared
  step_bare m k opens p next ss skip = opened_bare m p ss
  step_bare m k closes p next ss skip = closed_bare ss
  step_bare m k (word name v) p next ss skip = other_bare k (word name v) p next ss skip
  step_bare m k (hex b) p next ss skip = other_bare k (hex b) p next ss skip
  step_bare m k (symbol b) p next ss skip = other_bare k (symbol b) p next ss skip
  step_bare m k (text b) p next ss skip = other_bare k (text b) p next ss skip

-- the effects of tokens at no place are those of the tokens, at no place
effects_bare : (m : ℕ) (k : Kind) (ss : List ReadingState) (n : ℕ) (is : List Item) → unplaced (effects m k ss n is) ≡ effects m k (map (inside 0) ss) n (bare is)
effects_bare m k ss n [] = refl
effects_bare m k ss n (bad f ∷ is) = refl
effects_bare m k ss n (good t p e ∷ is) =
    step_bare (λ rs n. effects m k rs n is) (λ rs n. effects m k rs n (bare is)) (λ rs n. effects_bare m k rs n is) m k t p (tag_next is) ss n
    ∙ ap (λ next. step m k t 0 next (map (inside 0) ss) n (λ rs n. effects m k rs n (bare is))) (tag_bare is)

-- A half at no place, and what is made with it.
abbrev bare_half : Option Half → Option Half
bare_half None = None
bare_half (Some h) = Some (record { unit = h.unit; place = 0 })

abbrev bare_made : Result Made ReadFault → Option Made
bare_made (Ok m) = Some (record { characters = m.characters; waiting = bare_half m.waiting })
bare_made (Err f) = None

made_cond : (b : Bool) (x y u v : Result Made ReadFault) → bare_made x ≡ kept u → bare_made y ≡ kept v → bare_made (cond b x y) ≡ kept (cond b u v)
made_cond true x y u v e f = e
made_cond false x y u v e f = f

read_bare : (o : Option ℕ) (p : ℕ) → bare_made (read o p) ≡ kept (read o 0)
read_bare None p = refl
read_bare (Some c) p = refl

before_bare : (cs : List ℕ) (r s : Result (List ℕ) ReadFault) → kept r ≡ kept s → kept (before cs r) ≡ kept (before cs s)
before_bare cs (Ok ds) (Ok es) e = let same : ds ≡ es = cc in ap (λ l. Some (cs ++ l)) same
before_bare cs (Ok ds) (Err g) e = never (cc)
before_bare cs (Err f) (Ok es) e = never (cc)
before_bare cs (Err f) (Err g) e = refl

onward_bare : (r s : Result Made ReadFault) (later bared : Option Half → Result (List ℕ) ReadFault) → bare_made r ≡ kept s → ((o : Option Half) → kept (later o) ≡ kept (bared (bare_half o))) → kept (onward r later) ≡ kept (onward s bared)
onward_bare (Ok m) (Ok n) later bared e ih =
    let same : record { characters = m.characters; waiting = bare_half m.waiting } ≡ n = cc in
    before_bare m.characters (later m.waiting) (bared (bare_half m.waiting)) (ih m.waiting) ∙ ap (λ x. kept (before x.characters (bared x.waiting))) same
onward_bare (Ok m) (Err g) later bared e ih = never (cc)
onward_bare (Err f) (Ok n) later bared e ih = never (cc)
onward_bare (Err f) (Err g) later bared e ih = refl

module _ (decoded : ℕ → Option ℕ) where
  make_bare : (o : Option Half) (x : Effect) (p : ℕ) → bare_made (make decoded o x p) ≡ kept (make decoded (bare_half o) x 0)
  make_bare None (unit u) p = made_cond (is_high u) _ _ _ _ refl (made_cond (is_low u) _ _ _ _ refl refl)
  make_bare None (byte b) p = read_bare (decoded b) p
  make_bare None (given cs) p = refl
  make_bare None beyond p = refl
  make_bare (Some h) (unit u) p = made_cond (is_low u) _ _ _ _ refl refl
  make_bare (Some h) (byte b) p = refl
  make_bare (Some h) (given cs) p = refl
  make_bare (Some h) beyond p = refl

  characters_bare : (o : Option Half) (xs : List (Effect × ℕ)) → kept (characters decoded o xs) ≡ kept (characters decoded (bare_half o) (unplaced xs))
  characters_bare None [] = refl
  characters_bare (Some h) [] = refl
  characters_bare None (x ∷ xs) = onward_bare _ _ (λ o. characters decoded o xs) (λ o. characters decoded o (unplaced xs)) (make_bare None x.0 x.1) (λ o. characters_bare o xs)
  characters_bare (Some h) (x ∷ xs) = onward_bare _ _ (λ o. characters decoded o xs) (λ o. characters decoded o (unplaced xs)) (make_bare (Some h) x.0 x.1) (λ o. characters_bare o xs)

  content_bare : (k : Kind) (bs : List ℕ) → kept (content_of decoded k bs) ≡ kept (characters decoded None (effects 64 k (outermost ∷ []) 0 (bare (items 0 1 (drop 1 bs)))))
  content_bare k bs =
      characters_bare None (effects 64 k (outermost ∷ []) 0 (items 0 1 (drop 1 bs))) ∙ ap (λ xs. kept (characters decoded None xs)) (effects_bare 64 k (outermost ∷ []) 0 (items 0 1 (drop 1 bs)))

-- what is told of bytes with the same tokens, from the start and after the first byte
same_told : (page : ℕ) (decoded : ℕ → Option ℕ) (r s : List ℕ) → SameTokens (items 0 0 r) (items 0 0 s) → SameTokens (items 0 1 (drop 1 r)) (items 0 1 (drop 1 s)) → kept (record_of page decoded r) ≡ kept (record_of page decoded s)
same_told page decoded r s e f =
    kept_then (recognised 10 (items 0 0 r)) (recognised 10 (items 0 0 s)) _ _ (recognised_bare 10 (items 0 0 r) ∙ ap (λ ts. kept (recognised 10 (map nowhere ts))) e ∙ sym (recognised_bare 10 (items 0 0 s)))
    (λ k. kept_then (declared page 10 (items 0 0 r)) (declared page 10 (items 0 0 s)) _ _ (declared_bare page 10 (items 0 0 r) ∙ ap (λ ts. kept (declared page 10 (map nowhere ts))) e ∙ sym (declared_bare page 10 (items 0 0 s)))
    (λ _. kept_then (content_of decoded k r) (content_of decoded k s) _ _ (content_bare decoded k r ∙ ap (λ ts. kept (characters decoded None (effects 64 k (outermost ∷ []) 0 (map nowhere ts)))) f ∙ sym (content_bare decoded k s)) (λ cs. refl)))

record_rtf : (r : List ℕ) (n : ℕ) → first_end r ≡ Ok n → is_rtf r ≡ true
record_rtf r n = cond_both (is_rtf r) _ _ (λ x. x ≡ Ok n → is_rtf r ≡ true) (λ q _. q) (λ _ e. never (cc))

-- the first token of a record is the brace at its first byte
record_items : (r : List ℕ) → IsRecord r → items 0 0 r ≡ good opens 0 1 ∷ items 0 1 (drop 1 r)
record_items [] e = never (cc)
record_items (b ∷ bs) e =
    let brace = (and_parts (eqb b 123) _ (and_parts (bytes_eq (take 6 (b ∷ bs)) (codes "{\\rtf1")) _ (record_rtf (b ∷ bs) _ e)).0).0 in
    ap (λ x. items_by 0 x (λ k. items k 1 bs)) (cond-true (eqb b 123) _ _ brace)

-- After its first brace too a record has the tokens of the other.
pub places_do_not_matter : PlacesDoNotMatter
places_do_not_matter page decoded r s re se e k content told =
    let from_brace_lem : Some opens ∷ map token_of (items 0 1 (drop 1 r)) ≡ Some opens ∷ map token_of (items 0 1 (drop 1 s)) = ap (map token_of) (sym (record_items r re)) ∙ e ∙ ap (map token_of) (record_items s se) in
    let later : SameTokens (items 0 1 (drop 1 r)) (items 0 1 (drop 1 s)) = cc in
    kept_ok (record_of page decoded s) (k, content) (sym (same_told page decoded r s e later) ∙ ap kept told)

-- A silent group adds nothing.

module _ (later : Later) (end : List (Effect × ℕ)) where
  -- a token in a silent group, or skipped
  one_silent : (k : Kind) (t : Tok) (p : ℕ) (next : Bool) (h : ReadingState) (hs : List ReadingState) (skip : ℕ) → h.silent ≡ true → ((n : ℕ) → later (h ∷ hs) n ≡ end) → other k t p next (h ∷ hs) skip later ≡ end
  one_silent k t p next h hs skip q then =
      cond_both (ltb 0 skip) _ _ (λ xs. xs ≡ end) (λ _. then (skip - 1))
      (λ _. ap (λ r. added r.effect p (later (r.state ∷ hs) r.skip)) (cond-true h.silent (still h) _ q) ∙ then 0)

  module _ (s : ReadingState) (ss : List ReadingState) (quiet : s.silent ≡ true) where
    other_silent : (k : Kind) (t : Tok) (p : ℕ) (next : Bool) (hs : List ReadingState) (skip : ℕ) → AllByRecursion (λ h. h.silent ≡ true) hs → ((n : ℕ) → later (hs ++ s ∷ ss) n ≡ end) → other k t p next (hs ++ s ∷ ss) skip later ≡ end
    other_silent k t p next [] skip a then = one_silent k t p next s ss skip quiet then
    other_silent k t p next (h ∷ hs) skip a then = one_silent k t p next h (hs ++ s ∷ ss) skip a.0 then

    -- a group that opens within is silent too
    opened_silent : (m p : ℕ) (hs : List ReadingState) → length (hs ++ s ∷ ss) < m → AllByRecursion (λ h. h.silent ≡ true) hs → ((h : ReadingState) → h.silent ≡ true → later (h ∷ (hs ++ s ∷ ss)) 0 ≡ end) → opened m p (hs ++ s ∷ ss) later ≡ end
    opened_silent m p [] room a then = cond-true _ _ _ (lt-ltb _ m room) ∙ then (inside p s) quiet
    opened_silent m p (h ∷ hs) room a then = cond-true _ _ _ (lt-ltb _ m room) ∙ then (inside p h) a.0

module _ (m room : ℕ) (k : Kind) (s : ReadingState) (ss : List ReadingState) (p e : ℕ) (rest : List Item) (quiet : s.silent ≡ true) (enough : length (s ∷ ss) + room ≤ m) where
  silent_walk : (hs : List ReadingState) (skip : ℕ) (is : List Item) → AllByRecursion (λ h. h.silent ≡ true) hs → Balanced room (length hs) is → effects m k (hs ++ s ∷ ss) skip (is ++ good closes p e ∷ rest) ≡ effects m k ss 0 rest
  silent_walk [] skip [] a b = refl
  silent_walk (h ∷ hs) skip [] a b = absurd (omega arith)
  silent_walk hs skip (bad f ∷ is) a b = absurd b
  silent_walk hs skip (good opens q f ∷ is) a b =
      opened_silent _ _ s ss quiet m q hs (omega (arith, length-append hs (s ∷ ss), b.0)) a (λ h quiets. silent_walk (h ∷ hs) 0 is (quiets, a) b.1)
  silent_walk [] skip (good closes q f ∷ is) a b = absurd b
  silent_walk (h ∷ hs) skip (good closes q f ∷ is) a b = silent_walk hs 0 is a.1 b
  silent_walk hs skip (good (word name v) q f ∷ is) a b = other_silent _ _ s ss quiet k (word name v) q _ hs skip a (λ n. silent_walk hs n is a b)
  silent_walk hs skip (good (hex c) q f ∷ is) a b = other_silent _ _ s ss quiet k (hex c) q _ hs skip a (λ n. silent_walk hs n is a b)
  silent_walk hs skip (good (symbol c) q f ∷ is) a b = other_silent _ _ s ss quiet k (symbol c) q _ hs skip a (λ n. silent_walk hs n is a b)
  silent_walk hs skip (good (text c) q f ∷ is) a b = other_silent _ _ s ss quiet k (text c) q _ hs skip a (λ n. silent_walk hs n is a b)

-- The groups within a silent one are silent, so none of their tokens adds anything.
pub silent_adds_nothing : SilentAddsNothing
silent_adds_nothing most room k s ss skip is p e rest quiet enough b = silent_walk most room k s ss p e rest quiet enough [] skip is tt b
