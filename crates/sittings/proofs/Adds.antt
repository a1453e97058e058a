-- What a call puts into an open record: tokens that leave its group as it was, and add the characters of the piece.
use Rattle.std.proofs.Common.{◌≡◌, ℕ, zero, suc, ◌+◌, ◌-◌, ◌≤◌, Bool, true, false, cond, eqb, ltb, leb, List, [], ◌∷◌, ◌++◌, length, drop, pos, Some, None, Ok, Err, codes, Option, Result, sym, refl, ap, ◌∙◌, add-zero, arith}
use Rattle.std.specs.List.{AllByRecursion}
use Rattle.std.specs.Str.{bytes_eq}
use Rattle.std.proofs.lemmas.Bool.{cond_both, leb-true, ltb-true, ne_eqb, or_parts, or_from, and_parts, both_ways}
use Rattle.tokens.specs.Tokens.{Tok, opens, closes, word, hex, symbol, text, Front, layout, fault, token, good, front, items_by, items, within}
use Rattle.tokens.specs.declared.faults.TokenFault.{TokenFault}
use Rattle.tokens.specs.Names.{name_at}
use Rattle.tokens.specs.declared.scan.Class.TheVariants.{Layout}
use Rattle.tokens.proofs.Fronts.{stops_backslash, front_positive, front_solid}
use Rattle.tokens.proofs.Lexed.{placed, spans, Lexed, lexed_nil, lexed_append, lexed_then, lexed_before, lexed_open, lexed_close, lexed_symbol, lexed_spaced}
use Rattle.groups.specs.declared.faults.GroupFault.TheVariants.{Token}
use Rattle.groups.proofs.Passes.{Level, level_more, level_append, level_group}
use Rattle.records.specs.declared.kinds.Kind.{Kind}
use Rattle.records.specs.declared.kinds.Kind.TheVariants.{Html}
use Rattle.records.proofs.Alone.{never}
use Rattle.reader.specs.declared.words.Word.{Word}
use Rattle.reader.specs.Words.{words, meaning, word_of, is_htmlrtf}
use Rattle.reader.specs.Rules.{outermost, inside, make_tag, means}
use Rattle.reader.proofs.Says.{plain_outermost, plain_inside, plain_tag, Says, says_nil, says_append, says_tag, says_dressed}
use Rattle.writer.specs.declared.faults.WriterFault.{WriterFault}
use Rattle.writer.specs.declared.faults.WriterFault.TheVariants.{Group, Unbalanced, MarkerWord, NotPrintable}
use Rattle.writer.specs.Header.{tagged, dressed}
use Rattle.writer.specs.Decoration.{is_printable, printable, markers, among, passed, faulty, sound, decoration_by, decoration}
use Rattle.sittings.proofs.Spelt.{Spells}

-- The bytes xs, put into an open record of a kind, add the characters cs.
pub record Adds (decoded : ℕ → Option ℕ) (k : Kind) (xs cs : List ℕ) : Type 0 where
  pub tokens : List (Tok × ℕ)
  pub lexed : Lexed xs tokens
  pub level : Level 63 0 tokens
  pub says : Says decoded k outermost [] tokens cs

module _ (decoded : ℕ → Option ℕ) where
  pub adds_nil : (k : Kind) → Adds decoded k [] []
  adds_nil k = record { tokens = []; lexed = lexed_nil; level = refl; says = says_nil decoded k [] outermost }

  pub adds_append : (k : Kind) (xs ys cs ds : List ℕ) → Adds decoded k xs cs → Adds decoded k ys ds → Adds decoded k (xs ++ ys) (cs ++ ds)
  adds_append k xs ys cs ds a b = record {
    tokens = a.tokens ++ b.tokens;
    lexed = lexed_append xs ys a.tokens b.tokens a.lexed b.lexed;
    level = level_append 63 a.tokens b.tokens a.level b.level;
    says = says_append decoded k [] outermost a.tokens b.tokens cs ds a.says b.says;
  }

  -- Text adds its characters.
  pub adds_text : (k : Kind) (xs cs : List ℕ) → Spells decoded xs cs → Adds decoded k xs cs
  adds_text k xs cs w = record {
    tokens = w.tokens;
    lexed = w.lexed;
    level = level_more 0 63 (omega arith) 0 w.tokens w.level;
    says = w.says k [] outermost plain_outermost;
  }

  -- Markup adds its characters too, from within its group.
  pub adds_markup : (xs cs : List ℕ) → Spells decoded xs cs → Adds decoded Html (tagged xs) cs
  adds_markup xs cs w =
      let ts = w.tokens in
      let inner = (symbol 42, 2) ∷ (word (codes "htmltag") None, 9) ∷ ts in
      record {
        tokens = (opens, 1) ∷ (inner ++ (closes, 1) ∷ []);
        lexed =
            lexed_append (codes "{") (codes "\\*\\htmltag " ++ (xs ++ codes "}")) ((opens, 1) ∷ []) (inner ++ (closes, 1) ∷ []) lexed_open
            (lexed_append (codes "\\*") (codes "\\htmltag " ++ (xs ++ codes "}")) ((symbol 42, 2) ∷ []) ((word (codes "htmltag") None, 9) ∷ (ts ++ (closes, 1) ∷ [])) (lexed_symbol 42 refl refl)
            (lexed_append (codes "\\htmltag ") (xs ++ codes "}") ((word (codes "htmltag") None, 9) ∷ []) (ts ++ (closes, 1) ∷ []) (lexed_spaced (codes "htmltag") (word (codes "htmltag") None) refl)
            (lexed_append xs (codes "}") ts ((closes, 1) ∷ []) w.lexed lexed_close)));
        level = level_more 1 63 (omega arith) 0 ((opens, 1) ∷ (inner ++ (closes, 1) ∷ [])) (level_group 0 1 1 inner w.level);
        says = says_tag decoded [] outermost plain_outermost refl None 1 2 9 1 ts cs (omega arith) (λ p. w.says Html (outermost ∷ []) (make_tag (inside p outermost)) (plain_tag (inside p outermost) (plain_inside p outermost plain_outermost)));
      }

-- No entry of a list of meanings is \htmlrtf.
abbrev no_htmlrtf : List (List ℕ × Word) → Bool
no_htmlrtf [] = true
no_htmlrtf (w ∷ ws) = cond (is_htmlrtf (Some w.1)) false (no_htmlrtf ws)

meaning_other : (name : List ℕ) (ws : List (List ℕ × Word)) → no_htmlrtf ws ≡ true → is_htmlrtf (meaning name ws) ≡ false
meaning_other name [] = λ e. refl
meaning_other name (w ∷ ws) =
    cond_both (is_htmlrtf (Some w.1)) false (no_htmlrtf ws) (λ b. b ≡ true → is_htmlrtf (meaning name (w ∷ ws)) ≡ false)
    (λ _ e. never (cc))
    (λ q e. cond_both (bytes_eq name w.0) (Some w.1) (meaning name ws) (λ x. is_htmlrtf x ≡ false) (λ _. q) (λ _. meaning_other name ws e))

-- A word that is no marker is not \htmlrtf.
unmarked : (name : List ℕ) → among name markers ≡ false → is_htmlrtf (word_of name) ≡ false
unmarked name e =
    let other = (or_parts (bytes_eq name (codes "htmlrtf")) _ e).0 in
    cond_both (bytes_eq name (codes "htmlrtf")) _ _ (λ x. is_htmlrtf x ≡ false) (λ q. absurd (both_ways _ other q)) (λ _. meaning_other name (drop 1 words) refl)

-- Every byte is printable.
abbrev Printable : List ℕ → Type 0
Printable bs = AllByRecursion (λ b. is_printable b ≡ true) bs

printable_all : (p : ℕ) (bs : List ℕ) → printable p bs ≡ Ok tt → Printable bs
printable_all p [] = λ e. tt
printable_all p (b ∷ bs) =
    cond_both (is_printable b) (printable (p + 1) bs) (Err (NotPrintable p)) (λ r. r ≡ Ok tt → Printable (b ∷ bs))
    (λ q e. (q, printable_all (p + 1) bs e))
    (λ _ e. never (cc))

-- A printable byte is not layout.
not_layout : (b : ℕ) → is_printable b ≡ true → within Layout b ≡ false
not_layout b e =
    let low = leb-true 32 b (and_parts (leb 32 b) (leb b 126) e).0 in
    or_from (eqb b 13) (eqb b 10) (ne_eqb b 13 (λ q. omega arith)) (ne_eqb b 10 (λ q. omega arith))

-- The tokens of decoration that was let through, with groups open within it: good ones only, level, and no \htmlrtf among them.
record Let (k at : ℕ) (bs ps : List ℕ) : Type 0 where
  tokens : List (Tok × ℕ)
  same : items k at bs ≡ placed (at + k) tokens
  whole : k + spans tokens ≡ length bs
  level : Level 63 (length ps) tokens
  quiet : AllByRecursion (λ x. is_htmlrtf (means x.0) ≡ false) tokens

-- What is refused is not let through.
pub err_not_ok : {A : Type 0} (f : WriterFault) → ◌≡◌ {A = Result (Unit {0}) WriterFault} (Err f) (Ok tt) → A
err_not_ok f e = never (cc)

-- a faulty token is never let through
faulty_not : (whole : List ℕ) (f : TokenFault) → faulty whole f ≡ Ok tt → ⊥
faulty_not whole f = cond_both (among (name_at f.place whole) markers) (Err (MarkerWord f.place)) (Err (Group (Token f))) (λ r. r ≡ Ok tt → ⊥) (λ _ e. err_not_ok _ e) (λ _ e. err_not_ok _ e)

module _ (whole : List ℕ) (at b : ℕ) (bs : List ℕ) (ih : (k : ℕ) (qs : List ℕ) → k ≤ length bs → sound whole qs (items k (at + 1) bs) ≡ Ok tt → Let k (at + 1) bs qs) where
  -- one token, and those after it
  let_token : (t : Tok) (n : ℕ) (ps qs : List ℕ) → front b bs ≡ token t n → sound whole qs (items (n - 1) (at + 1) bs) ≡ Ok tt → ((ts : List (Tok × ℕ)) → Level 63 (length qs) ts → Level 63 (length ps) ((t, n) ∷ ts)) → is_htmlrtf (means t) ≡ false → Let 0 at (b ∷ bs) ps
  let_token t n ps qs e h deeper-level q =
      let some = front_positive b bs t n e in
      let more = ih (n - 1) qs (omega (arith, some.0, some.1)) h in
      let there : at + 1 + (n - 1) ≡ at + n = omega (arith, some.0) in
      let zero_at : at + 0 ≡ at = add-zero at in
      record {
        tokens = (t, n) ∷ more.tokens;
        same =
            ap (λ x. items_by at x (λ k. items k (at + 1) bs)) e ∙ ap (λ is. good t at (at + n) ∷ is) more.same
            ∙ ap (λ p. good t at (at + n) ∷ placed p more.tokens) there ∙ ap (λ p. placed p ((t, n) ∷ more.tokens)) (sym zero_at);
        whole = omega (arith, more.whole, some.0);
        level = deeper-level more.tokens more.level;
        quiet = (q, more.quiet);
      }

  let_passed : (t : Tok) (n : ℕ) (ps : List ℕ) → front b bs ≡ token t n → passed t at ps (λ qs. sound whole qs (items (n - 1) (at + 1) bs)) ≡ Ok tt → Let 0 at (b ∷ bs) ps
  let_passed opens n ps e =
      cond_both (ltb (length ps) 63) _ _ (λ r. r ≡ Ok tt → Let 0 at (b ∷ bs) ps)
      (λ q h. let_token opens n ps (at ∷ ps) e h (λ ts l. (ltb-true (length ps) 63 q, l)) refl)
      (λ _ h. err_not_ok _ h)
  let_passed closes n [] e = λ h. err_not_ok (Unbalanced at) h
  let_passed closes n (p ∷ ps) e = λ h. let_token closes n (p ∷ ps) ps e h (λ ts l. l) refl
  let_passed (word name v) n ps e =
      cond_both (among name markers) (Err (MarkerWord at)) _ (λ r. r ≡ Ok tt → Let 0 at (b ∷ bs) ps)
      (λ _ h. err_not_ok (MarkerWord at) h)
      (λ q h. let_token (word name v) n ps ps e h (λ ts l. l) (unmarked name q))
  let_passed (hex x) n ps e = λ h. let_token (hex x) n ps ps e h (λ ts l. l) refl
  let_passed (symbol x) n ps e = λ h. let_token (symbol x) n ps ps e h (λ ts l. l) refl
  let_passed (text x) n ps e = λ h. let_token (text x) n ps ps e h (λ ts l. l) refl

  let_front : (x : Front) (ps : List ℕ) → is_printable b ≡ true → front b bs ≡ x → sound whole ps (items_by at x (λ k. items k (at + 1) bs)) ≡ Ok tt → Let 0 at (b ∷ bs) ps
  let_front layout ps p e h = absurd (front_solid b bs (not_layout b p) e)
  let_front (fault f) ps p e h = absurd (faulty_not whole (record { flaw = f; place = at }) h)
  let_front (token t n) ps p e h = let_passed t n ps e h

let_through : (whole : List ℕ) (k at : ℕ) (bs ps : List ℕ) → Printable bs → k ≤ length bs → sound whole ps (items k at bs) ≡ Ok tt → Let k at bs ps
let_through whole zero at [] [] p h e = record { tokens = []; same = refl; whole = refl; level = refl; quiet = tt }
let_through whole zero at [] (q ∷ ps) p h e = err_not_ok (Unbalanced q) e
let_through whole (suc k) at [] ps p h e = absurd (omega arith)
let_through whole (suc k) at (b ∷ bs) ps p h e =
    let more = let_through whole k (at + 1) bs ps p.1 (omega arith) e in
    let there : at + 1 + k ≡ at + suc k = omega arith in
    record { tokens = more.tokens; same = more.same ∙ ap (λ q. placed q more.tokens) there; whole = omega (arith, more.whole); level = more.level; quiet = more.quiet }
let_through whole zero at (b ∷ bs) ps p h e =
    let_front whole at b bs (λ k qs l s. let_through whole k (at + 1) bs qs p.1 l s) (front b bs) ps p.0 refl e

decoration_parts : (bs : List ℕ) → decoration bs ≡ Ok tt → Printable bs × (sound bs [] (items 0 0 bs) ≡ Ok tt)
decoration_parts bs = by (printable 0 bs) refl
  where
    by : (r : Result (Unit {0}) WriterFault) → printable 0 bs ≡ r → decoration_by bs r ≡ Ok tt → Printable bs × (sound bs [] (items 0 0 bs) ≡ Ok tt)
    by (Ok u) q e = (printable_all 0 bs q, e)
    by (Err f) q e = never (cc)

-- Decoration that was let through adds nothing.
pub adds_dress : (decoded : ℕ → Option ℕ) (bs : List ℕ) → decoration bs ≡ Ok tt → Adds decoded Html (dressed bs) []
adds_dress decoded bs e =
    let parts = decoration_parts bs e in
    let through = let_through bs 0 0 bs [] parts.0 (omega arith) parts.1 in
    let ts = through.tokens in
    let off : List (Tok × ℕ) = (word (codes "htmlrtf") (Some (pos 0)), 10) ∷ [] in
    let whole : spans ts ≡ length bs = omega (arith, through.whole) in
    record {
      tokens = (word (codes "htmlrtf") None, 9) ∷ (ts ++ off);
      lexed =
          lexed_append (codes "\\htmlrtf ") (bs ++ codes "\\htmlrtf0 ") ((word (codes "htmlrtf") None, 9) ∷ []) (ts ++ off) (lexed_spaced (codes "htmlrtf") (word (codes "htmlrtf") None) refl)
          (lexed_then 92 bs (codes "htmlrtf0 ") ts off (lexed_before 92 stops_backslash bs ts whole through.same) (lexed_spaced (codes "htmlrtf0") (word (codes "htmlrtf") (Some (pos 0))) refl));
      level = level_append 63 ts off through.level refl;
      says = says_dressed decoded [] outermost plain_outermost refl 9 10 63 ts through.level (omega arith) through.quiet;
    }
