-- What a copy into a buffer leaves.
use Rattle.std.proofs.Common.{◌≡◌, ℕ, ◌+◌, ◌-◌, List, ◌++◌, length, drop, replicate, sym, ap, ◌∙◌, append_assoc, arith, length-append}
use borrow.Rule.Slice.PartMut.{put_mid}
use Rattle.std.proofs.lemmas.List.{take_at, drop_at, drop-drop, drop-replicate}

-- one more part, after what is done
pub copied_more : (done bytes part out before : List ℕ) (at k : ℕ) → length done ≡ at → k ≡ length bytes → part ≡ bytes → out ≡ done ++ drop (length done) before → put_mid at k out part ≡ (done ++ bytes) ++ drop (length (done ++ bytes)) before
copied_more done bytes part out before at k a e p o =
    let rest = drop (length done) before in
    let far : length done + k ≡ length (done ++ bytes) = omega (arith, length-append done bytes) in
    ap (λ l. put_mid at k l part) o ∙ ap (λ l. l ++ (part ++ drop k (drop at (done ++ rest)))) (take_at done rest at a) ∙ ap (λ l. done ++ (part ++ drop k l)) (drop_at done rest at a) ∙ ap (λ l. done ++ (l ++ drop k rest)) p ∙ ap (λ l. done ++ (bytes ++ l)) (drop-drop k (length done) before ∙ ap (λ n. drop n before) far) ∙ sym (append_assoc done bytes (drop (length (done ++ bytes)) before))

-- over zeros
pub over_zeros : (held out before : List ℕ) (size n : ℕ) → n ≡ length held → before ≡ replicate size 0 → out ≡ held ++ drop (length held) before → out ≡ held ++ replicate (size - n) 0
over_zeros held out before size n e z o = o ∙ ap (λ l. held ++ drop (length held) l) z ∙ ap (λ l. held ++ l) (drop-replicate (length held) size 0) ∙ ap (λ k. held ++ replicate (size - k) 0) (sym e)
