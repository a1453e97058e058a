-- The test of UTF-8, and the longest front that passes it.
use Rattle.std.proofs.Common.{◌≡◌, ℕ, zero, suc, ◌<◌, ◌≤◌, true, false, List, length, take, Ok, Err, Result, MatchResult, IsErrAnd, Bor, IsUtf8, sym, ap, ◌∙◌, subst, ⊎_elim, arith}
use lib.Utf8.{scalars, encodes}
use Rattle.std.specs.Str.{IsValidUpTo, chars, bytes_eq}
use Rattle.std.proofs.lemmas.Slice.Eq.{bytes_eq-Decides}
use Rattle.std.proofs.lemmas.Bool.{cond-true, cond-false, and_parts, and_from, cases_Bool, cases_eq}
use Rattle.std.proofs.lemmas.Str.{encodes-chars, scalars-chars}
use Rattle.writer.specs.declared.faults.WriterFault.{WriterFault}
use Rattle.writer.specs.declared.faults.WriterFault.TheVariants.{NotUtf8}
use Rattle.writer.specs.Pieces.{is_utf8, sound_front, typed}
use Rattle.writer.specs.Shown.{shown_text}

-- The test says what it means.
pub utf8_passes : (bs : List ℕ) → IsUtf8 bs → is_utf8 bs ≡ true
utf8_passes bs u = and_from _ _ (scalars-chars bs u) ((bytes_eq-Decides (encodes (chars bs)) bs).1 (encodes-chars bs u))

pub passes_utf8 : (bs : List ℕ) → is_utf8 bs ≡ true → IsUtf8 bs
passes_utf8 bs e =
    let parts = and_parts (scalars (chars bs)) (bytes_eq (encodes (chars bs)) bs) e in
    (chars bs, (parts.0, (bytes_eq-Decides (encodes (chars bs)) bs).0 parts.1))

fails : (bs : List ℕ) → (IsUtf8 bs → ⊥) → is_utf8 bs ≡ false
fails bs no_text = ⊎_elim (λ e. absurd (no_text (passes_utf8 bs e))) (λ e. e) (cases_Bool (is_utf8 bs))

-- The longest front of at most m bytes, where the longest of all has n.
longest : (bs : List ℕ) (n : ℕ) → IsUtf8 (take n bs) → ((k : ℕ) → n < k → IsUtf8 (take k bs) → ⊥) → (m : ℕ) → n ≤ m → sound_front m bs ≡ n
longest bs n u none zero h = omega arith
longest bs n u none (suc m) h =
    ⊎_elim
    (λ e. cond-true _ _ _ (utf8_passes (take (suc m) bs) (subst (λ k. IsUtf8 (take k bs)) e u)) ∙ sym e)
    (λ e. cond-false _ _ _ (fails (take (suc m) bs) (none (suc m) (omega arith))) ∙ longest bs n u none m (omega arith))
    (cases_eq n (suc m))

-- A piece that is UTF-8 is typed by its characters.
pub typed_text : (bs : List ℕ) → IsUtf8 bs → typed bs ≡ Ok (chars bs)
typed_text bs u = cond-true _ _ _ (utf8_passes bs u)

-- Any other is refused where its longest sound front ends.
pub typed_not : (bs : List ℕ) (n : ℕ) → (IsUtf8 bs → ⊥) → IsValidUpTo bs n → typed bs ≡ Err (NotUtf8 n)
typed_not bs n no_text v = cond-false _ _ _ (fails bs no_text) ∙ ap (λ k. Err (NotUtf8 k)) (longest bs n v.front v.longest (length bs) (omega (arith, v.short)))

-- What the test of std gives, with its faults by their places.
pub typed_by : {E : Type 0} (bs : List ℕ) (r : Result (Bor (List ℕ)) E) (q : Result (Bor (List ℕ)) WriterFault) (place : E → ℕ) (P : E → WriterFault → Type 0)
    → MatchResult r (λ s. (s.now ≡ bs) × IsUtf8 bs) (λ e. (IsUtf8 bs → ⊥) × IsValidUpTo bs (place e)) → MatchResult r (λ s. q ≡ Ok s) (λ e. IsErrAnd q (P e)) → ((e : E) (f : WriterFault) → P e f → f ≡ NotUtf8 (place e)) → shown_text q ≡ typed bs
typed_by bs (Ok s) q place P tested mapped gives = ap shown_text mapped ∙ ap (λ x. Ok (chars x)) tested.0 ∙ sym (typed_text bs tested.1)
typed_by bs (Err e) (Ok s) place P tested mapped gives = absurd mapped
typed_by bs (Err e) (Err f) place P tested mapped gives = ap Err (gives e f mapped) ∙ sym (typed_not bs (place e) tested.0 tested.1)
