-- What a guard holds when a piece is added.
use Rattle.std.proofs.Common.{◌≡◌, ℕ, ◌+◌, ◌-◌, ◌≤◌, List, ◌++◌, length, take, drop, sym, refl, ap, ◌∙◌, arith, length-append}
use borrow.Rule.Slice.PartMut.{put_mid}
use Rattle.std.proofs.lemmas.List.{drop-replicate, length-take-le, length-drop}
use Rattle.layers.proofs.Copies.{copied_more, over_zeros}
use Rattle.reader.specs.Guarded.{zeros}

-- a piece over the zeros after the content
pub pushed_zeros : (content piece part bytes : List ℕ) (at k : ℕ) → at ≡ length content → k ≡ length piece → part ≡ piece → bytes ≡ content ++ zeros (length bytes - length content) → put_mid at k bytes part ≡ (content ++ piece) ++ zeros (length bytes - length (content ++ piece))
pushed_zeros content piece part bytes at k a e p b =
    let before = zeros (length bytes) in
    over_zeros (content ++ piece) (put_mid at k bytes part) before (length bytes) _ refl refl (copied_more content piece part bytes before at k (sym a) e p (b ∙ ap (λ l. content ++ l) (sym (drop-replicate (length content) (length bytes) 0))))

-- a part written into a list leaves it as long as before
put_length : (at k : ℕ) (xs ys : List ℕ) → at + k ≤ length xs → length ys ≡ k → length (put_mid at k xs ys) ≡ length xs
put_length at k xs ys h e = length-append (take at xs) _ ∙ ap (λ n. length (take at xs) + n) (length-append ys _) ∙ omega (arith, h, e, length-take-le at xs (omega (arith, h)), length-drop k (drop at xs), length-drop at xs)

pub put_whole : (at : ℕ) (xs ys part : List ℕ) → at ≤ length xs → length ys ≤ length xs - at → part ≡ ys → length (put_mid at (at + length ys - at) xs part) ≡ length xs
put_whole at xs ys part a h e = put_length at (at + length ys - at) xs part (omega (arith, a, h)) (ap length e ∙ omega arith)
