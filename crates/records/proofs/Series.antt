-- An archive taken apart, step by step and as a whole.
use Rattle.std.proofs.Common.{◌≡◌, ℕ, zero, suc, ◌+◌, ◌-◌, ◌<◌, ◌≤◌, List, [], ◌∷◌, ◌++◌, length, get_or, take, drop, Ok, Err, Result, sym, refl, ap, ◌∙◌, subst, add-zero, arith, length-drop}
use Rattle.std.specs.List.{flat_map, AllByRecursion}
use Rattle.std.proofs.lemmas.List.{drop_more, drop-drop, drop_at, take_at, take-append-drop, length-take-le}
use Rattle.std.proofs.lemmas.Bool.{cond_both}
use Rattle.groups.specs.declared.faults.GroupFault.{GroupFault}
use Rattle.groups.specs.Groups.{group_end}
use Rattle.groups.proofs.Ends.{Within, closing_within}
use Rattle.records.specs.declared.faults.RecordFault.{RecordFault}
use Rattle.records.specs.declared.faults.RecordFault.TheVariants.{NotRtf, Group}
use Rattle.records.specs.Apart.{is_rtf, first_end, passed_up, record', refused, series_by, series}
use Rattle.records.specs.Faults.{place_of}
use Rattle.records.specs.Laws.{ComesApart, IsRecord, chain, ComeBack}
use Rattle.records.proofs.Alone.{never, first_fits, record_alone}

-- what comes after k bytes is what comes of the bytes that are left
pub series_skip : (k at : ℕ) (bs : List ℕ) → series k at bs ≡ series 0 (at + k) (drop k bs)
series_skip zero at bs = rw add-zero
series_skip (suc k) at [] = refl
series_skip (suc k) at (b ∷ bs) =
    let e : at + 1 + k ≡ at + suc k = omega arith in
    series_skip k (at + 1) bs ∙ ap (λ p. series 0 p (drop k bs)) e

-- one record, and what comes after it
series_record : (at : ℕ) (bs : List ℕ) (n : ℕ) → first_end bs ≡ Ok n → series 0 at bs ≡ record' at (take n bs) (series 0 (at + n) (drop n bs))
series_record at [] n e = absurd (omega (arith, (first_fits [] n e).0, (first_fits [] n e).1))
series_record at (b ∷ bs) n e =
    let fits = first_fits (b ∷ bs) n e in
    let place : at + 1 + (n - 1) ≡ at + n = omega arith in
    let past : suc (n - 1) ≡ n = omega arith in
    ap (λ r. series_by at (b ∷ bs) r (λ k. series k (at + 1) bs)) e
    ∙ ap (record' at (take n (b ∷ bs))) (series_skip (n - 1) (at + 1) bs ∙ ap (λ p. series 0 p (drop (n - 1) bs)) place ∙ ap (λ k. series 0 (at + n) (drop k (b ∷ bs))) past)

-- the same at a place of the whole archive
module _ (bytes : List ℕ) (at : ℕ) where
  pub series_next : (n : ℕ) → first_end (drop at bytes) ≡ Ok n → series 0 at (drop at bytes) ≡ record' at (take n (drop at bytes)) (series 0 (at + n) (drop (at + n) bytes))
  series_next n e = series_record at (drop at bytes) n e ∙ ap (λ bs. record' at (take n (drop at bytes)) (series 0 (at + n) bs)) (drop-drop n at bytes)

  pub series_refused : (f : RecordFault) → at < length bytes → first_end (drop at bytes) ≡ Err f → series 0 at (drop at bytes) ≡ refused at f
  series_refused f h e =
      let more = drop_more bytes at 0 h in
      ap (series 0 at) more ∙ ap (λ r. series_by at (get_or bytes at 0 ∷ drop (at + 1) bytes) r (λ k. series k (at + 1) (drop (at + 1) bytes))) (ap first_end (sym more) ∙ e)

-- An archive comes apart as the laws say.
module _ (at : ℕ) (bs : List ℕ) where
  apart_record : (n : ℕ) → first_end bs ≡ Ok n → ComesApart (at + n) (drop n bs) (series 0 (at + n) (drop n bs)) → ComesApart at bs (series 0 at bs)
  apart_record n e later =
      let long : length (take n bs) ≡ n = length-take-le n bs (first_fits bs n e).1 in
      subst (ComesApart at bs) (sym (series_record at bs n e))
      (refl, e ∙ ap Ok (sym long), (drop n bs, sym (take-append-drop n bs), subst (λ k. ComesApart (at + k) (drop n bs) (series 0 (at + n) (drop n bs))) (sym long) later))

  apart_by : (b : ℕ) (cs : List ℕ) → bs ≡ b ∷ cs → ((n : ℕ) → 0 < n → ComesApart (at + n) (drop n bs) (series 0 (at + n) (drop n bs))) → (r : Result ℕ RecordFault) → first_end bs ≡ r → ComesApart at bs (series 0 at bs)
  apart_by b cs is ih (Ok n) e = apart_record n e (ih n (omega (arith, (first_fits bs n e).0)))
  apart_by b cs is ih (Err f) e =
      let refuses : series 0 at bs ≡ refused at f = ap (series 0 at) is ∙ ap (λ r. series_by at (b ∷ cs) r (λ k. series k (at + 1) cs)) (ap first_end (sym is) ∙ e) in
      subst (ComesApart at bs) (sym refuses) (refl, e)

-- by the count of bytes, since each record takes some
apart_up_to : (m at : ℕ) (bs : List ℕ) → length bs ≤ m → ComesApart at bs (series 0 at bs)
apart_up_to m at [] h = refl
apart_up_to zero at (b ∷ bs) h = absurd (omega arith)
apart_up_to (suc m) at (b ∷ bs) h =
    apart_by at (b ∷ bs) b bs refl (λ n some. apart_up_to m (at + n) (drop n (b ∷ bs)) (simp length-drop (omega arith))) (first_end (b ∷ bs)) refl

pub comes_apart : (bs : List ℕ) → ComesApart 0 bs (series 0 0 bs)
comes_apart bs = apart_up_to (length bs) 0 bs (omega arith)

-- a record, and bytes after it
record_first : (at : ℕ) (r more : List ℕ) → IsRecord r → series 0 at (r ++ more) ≡ record' at r (series 0 (at + length r) more)
record_first at r more e =
    series_record at (r ++ more) (length r) (record_alone r more e)
    ∙ ap (λ l. record' at l (series 0 (at + length r) (drop (length r) (r ++ more)))) (take_at r more (length r) refl)
    ∙ ap (λ l. record' at r (series 0 (at + length r) l)) (drop_at r more (length r) refl)

chained : (rs : List (List ℕ)) → AllByRecursion IsRecord rs → (at : ℕ) → series 0 at (flat_map (λ r. r) rs) ≡ chain at rs
chained [] all at = refl
chained (r ∷ rs) all at = record_first at r (flat_map (λ r. r) rs) all.0 ∙ ap (record' at r) (chained rs all.1 (at + length r))

-- Records put one after another come apart into themselves.
pub come_back : (archive : List ℕ) → ComeBack archive
come_back archive rs all e = ap (series 0 0) e ∙ chained rs all 0

-- a fault of taking apart lies within the bytes
passed_within : (m : ℕ) (r : Result ℕ GroupFault) (f : RecordFault) → Within m r → passed_up r ≡ Err f → place_of f ≤ m
passed_within m (Ok n) f w e = never (cc)
passed_within m (Err g) f w e = let is : Group g ≡ f = cc in subst (λ x. place_of x ≤ m) is w

pub fault_within : (bs : List ℕ) (f : RecordFault) → first_end bs ≡ Err f → place_of f ≤ length bs
fault_within [] f = λ e. let is : NotRtf ≡ f = cc in subst (λ x. place_of x ≤ 0) is (omega arith)
fault_within (b ∷ bs) f =
    cond_both (is_rtf (b ∷ bs)) _ _ (λ r. r ≡ Err f → place_of f ≤ length (b ∷ bs))
    (λ _ e. passed_within (length (b ∷ bs)) (group_end 0 (b ∷ bs)) f (closing_within (length (b ∷ bs)) 0 1 (0 ∷ []) bs (omega arith) (omega arith, tt)) e)
    (λ _ e. let is : NotRtf ≡ f = cc in subst (λ x. place_of x ≤ length (b ∷ bs)) is (omega arith))
