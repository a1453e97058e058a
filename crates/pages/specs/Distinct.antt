-- A list of characters in which none stands twice: there a byte finds its character and the character finds that byte.
use Rattle.std.specs.Prelude.{◌≡◌, ◌≢◌, ℕ, zero, suc, ◌+◌, ◌<◌, length, Bool, true, false, not, ◌&&◌, List, [], ◌∷◌, Some, None, Option, refl, cond, nat_lt, MatchOption}
use Rattle.std.specs.List.{list_any, position_or_len}
use Rattle.std.specs.Option.{option_map}
use Rattle.std.proofs.Common.{sym, ap, subst, ◌∙◌, ⊎_elim, arith}
use Rattle.std.proofs.lemmas.Bool.{and_parts, eqb-true, eq-eqb, cases_Bool, cases_lt, cond-true, cond-false, le-ltb, not-true, both_ways, lt-ltb}
use Rattle.std.proofs.lemmas.List.{get_or_past}
use Rattle.std.proofs.lemmas.List.Folds.{list_any_at}
use Rattle.std.proofs.lemmas.List.Quantifiers.{position-Some}
use Rattle.std.proofs.lemmas.List.Sums.{position_or_len_is}
use Rattle.pages.specs.Page.{char_of, is, byte_of}

-- both have a character, and it is the same
abbrev pub same : Option ℕ → Option ℕ → Bool
same x None = false
same x (Some c) = is x c

-- no character stands twice
abbrev pub distinct : List (Option ℕ) → Bool
distinct [] = true
distinct (x ∷ xs) = not (list_any (same x) xs) && distinct xs

pub none_is_some : (c : ℕ) → ◌≡◌ {A = Option ℕ} None (Some c) → ⊥
none_is_some c e = let z : ◌≡◌ {A = ℕ} 0 1 = cc in omega arith

pub is_true : (x : Option ℕ) (c : ℕ) → is x c ≡ true → x ≡ Some c
is_true None c e = let z : ◌≡◌ {A = ℕ} 0 1 = cc in absurd (omega arith)
is_true (Some d) c e = ap Some (eqb-true d c e)

is_from : (x : Option ℕ) (c : ℕ) → x ≡ Some c → is x c ≡ true
is_from x c e = subst (λ o. is o c ≡ true) (sym e) (eq-eqb c c refl)

pub within : (cs : List (Option ℕ)) (b c : ℕ) → char_of cs b ≡ Some c → b < length cs
within cs b c e = ⊎_elim (λ h. h) (λ h. absurd (none_is_some c (sym (get_or_past cs b None h) ∙ e))) (cases_lt b (length cs))

-- where no entry is c, no byte has c
lacks_all : (c : ℕ) (xs : List (Option ℕ)) → list_any (λ x. is x c) xs ≡ false → (k : ℕ) → char_of xs k ≢ Some c
lacks_all c xs l k e = both_ways (list_any (λ x. is x c) xs) l (list_any_at (λ x. is x c) xs k None (within xs k c e) (is_from (char_of xs k) c e))

-- what stands further on does not stand in front
not_first : (x : Option ℕ) (xs : List (Option ℕ)) → list_any (same x) xs ≡ false → (k c : ℕ) → char_of xs k ≡ Some c → is x c ≢ true
not_first x xs n k c e h = both_ways (list_any (same x) xs) n (list_any_at (same x) xs k None (within xs k c e) (subst (λ o. same x o ≡ true) (sym e) h))

-- of two places the later has another character, or one has none
apart : (cs : List (Option ℕ)) → distinct cs ≡ true → (i j : ℕ) → i < j → j < length cs → same (char_of cs i) (char_of cs j) ≡ false
apart [] d i j h l = absurd (omega arith)
apart (x ∷ xs) d i zero h l = absurd (omega arith)
apart (x ∷ xs) d zero (suc j) h l =
    ⊎_elim
    (λ e. absurd (both_ways (list_any (same x) xs) (not-true _ (and_parts _ _ d).0) (list_any_at (same x) xs j None (omega arith) e)))
    (λ e. e)
    (cases_Bool (same x (char_of xs j)))
apart (x ∷ xs) d (suc i) (suc j) h l = apart xs (and_parts _ _ d).1 i j (omega arith) (omega arith)

-- a byte's character has that byte, since no other byte has it
pub there : (cs : List (Option ℕ)) → distinct cs ≡ true → (b c : ℕ) → char_of cs b ≡ Some c → byte_of cs c ≡ Some b
there cs d b c e =
    let inside : b < length cs = within cs b c e in
    let before : (k : ℕ) → k < b → is (char_of cs k) c ≡ false = λ k h. subst (λ o. same (char_of cs k) o ≡ false) e (apart cs d k b h inside) in
    let first : position_or_len (λ x. is x c) cs ≡ b = position_or_len_is (λ x. is x c) cs b None (omega arith) before (λ h. is_from _ c e) in
    subst (λ n. cond (nat_lt n (length cs)) (Some n) None ≡ Some b) (sym first) (cond-true _ _ _ (lt-ltb _ _ inside))

-- a character's byte has that character
pub back : (cs : List (Option ℕ)) (b c : ℕ) → byte_of cs c ≡ Some b → char_of cs b ≡ Some c
back cs b c e = is_true _ c (position-Some (λ x. is x c) cs b None e).1

-- a place at which c stands, or None where it stands nowhere
abbrev pub Stands : List (Option ℕ) → ℕ → Option ℕ → Type 0
Stands cs c r = MatchOption r ((k : ℕ) → k < length cs → is (char_of cs k) c ≡ false) (λ b. (b < length cs) × (is (char_of cs b) c ≡ true))

-- where no character stands twice, any such place is the byte of c
pub stands : (cs : List (Option ℕ)) → distinct cs ≡ true → (c : ℕ) (r : Option ℕ) → Stands cs c r → r ≡ byte_of cs c
stands cs d c None none =
    let last : position_or_len (λ x. is x c) cs ≡ length cs = position_or_len_is (λ x. is x c) cs (length cs) None (omega arith) none (λ h. absurd (omega arith)) in
    sym (subst (λ n. cond (nat_lt n (length cs)) (Some n) None ≡ None) (sym last) (cond-false _ _ _ (le-ltb (length cs) (length cs) (omega arith))))
stands cs d c (Some b) h = sym (there cs d b c (is_true _ c h.1))

-- the place of c in entries of which the first stands at place i
abbrev pub place_from : ℕ → List (Option ℕ) → ℕ → Option ℕ
place_from i xs c = option_map (λ k. i + k) (byte_of xs c)

place_from_lem : (i : ℕ) (xs : List (Option ℕ)) → distinct xs ≡ true → (k c : ℕ) → char_of xs k ≡ Some c → place_from i xs c ≡ Some (i + k)
place_from_lem i xs d k c e = ap (option_map (λ k. i + k)) (there xs d k c e)

found_by : (i b : ℕ) (o : Option ℕ) → option_map (λ k. i + k) o ≡ Some b → (k : ℕ) × (b ≡ i + k) × (o ≡ Some k)
found_by i b None e = absurd (none_is_some b e)
found_by i b (Some k) e = let same_place : i + k ≡ b = cc in (k, sym same_place, refl)

found_from : (i : ℕ) (xs : List (Option ℕ)) (c b : ℕ) → place_from i xs c ≡ Some b → (k : ℕ) × (b ≡ i + k) × (char_of xs k ≡ Some c)
found_from i xs c b e = let f = found_by i b (byte_of xs c) e in (f.0, f.1, back xs f.0 c f.2)
