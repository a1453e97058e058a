-- What a pile that is filled in turn holds, has space for and keeps in order, one card or one byte on.
use Rattle.std.proofs.Common.{◌≡◌, ℕ, zero, suc, ◌+◌, ◌-◌, ◌*◌, ◌<◌, ◌≤◌, List, [], ◌∷◌, ◌++◌, length, get_or, take, drop, set, replicate, sym, refl, ap, ◌∙◌, append_assoc, append-nil, take_all, add-one, ⊎_elim, arith, length-append, length-set}
use lib.ListN.{length-replicate}
use Rattle.std.proofs.Math.Nat.{eq-or-lt_of_le}
use Rattle.std.proofs.lemmas.Grind.{common_steps}
use Rattle.std.proofs.lemmas.List.{drop-drop, drop-replicate, flat_map_more, get_or-set_same, take_more}
use Rattle.std.proofs.lemmas.List.Folds.{length-flat_map-take}
use borrow.Rule.Slice.PartMut.{put_mid}
use Rattle.std.specs.List.{flat_map}
use Rattle.layers.proofs.Copies.{copied_more, over_zeros}
use Rattle.sinks.specs.declared.cards.Card.{Card}
use Rattle.sinks.specs.Cards.{front, dealt, room_in, blank, zeros, Filled, HasPlace}

-- what a read of a card has for its default
abbrev pub none : Card
none = record { count = 0; «data» = [] }

-- The card that is being filled stands in the pile or, where there is none, just past it, and counts no more than it has.

pub filled_within : (at : ℕ) (cs : List Card) → Filled at cs → at ≤ length cs
filled_within zero cs f = omega arith
filled_within (suc at) [] f = absurd f
filled_within (suc at) (c ∷ cs) f = omega (arith, filled_within at cs f.1)

pub filled_count : (at : ℕ) (cs : List Card) → Filled at cs → (get_or cs at none).count ≤ 127
filled_count zero [] f = omega arith
filled_count zero (c ∷ cs) f = f.0
filled_count (suc at) [] f = absurd f
filled_count (suc at) (c ∷ cs) f = filled_count at cs f.1

begun_most : (at : ℕ) (cs : List Card) (i : ℕ) → Filled at cs → (get_or (take (suc at) cs) i none).count ≤ 127
begun_most zero [] i f = omega arith
begun_most zero (c ∷ cs) zero f = f.0
begun_most zero (c ∷ cs) (suc i) f = omega arith
begun_most (suc at) [] i f = absurd f
begun_most (suc at) (c ∷ cs) zero f = omega (arith, f.0)
begun_most (suc at) (c ∷ cs) (suc i) f = begun_most at cs i f.1

begun_full : (at : ℕ) (cs : List Card) (i : ℕ) → Filled at cs → suc i < length (take (suc at) cs) → (get_or (take (suc at) cs) i none).count ≡ 127
begun_full zero [] i f h = absurd (omega arith)
begun_full zero (c ∷ cs) i f h = absurd (omega arith)
begun_full (suc at) [] i f h = absurd f
begun_full (suc at) (c ∷ cs) zero f h = f.0
begun_full (suc at) (c ∷ cs) (suc i) f h = begun_full at cs i f.1 (omega arith)

pub begun_count : (at : ℕ) (cs begun : List Card) (i : ℕ) → begun ≡ take (suc at) cs → Filled at cs → (get_or begun i none).count ≤ 127
begun_count at cs begun i e f = rw e (begun_most at cs i f)

pub full_before : (at : ℕ) (cs begun : List Card) (i : ℕ) → begun ≡ take (suc at) cs → Filled at cs → i + 1 < length begun → (get_or begun i none).count ≡ 127
full_before at cs begun i e f h =
    let l : suc i < length (take (suc at) cs) = omega (arith, ap length e) in
    rw e (begun_full at cs i f l)

-- The bytes that are held.

pub joined_next : (cs : List Card) (i : ℕ) → i < length cs → flat_map front (take (i + 1) cs) ≡ flat_map front (take i cs) ++ front (get_or cs i none)
joined_next cs i h = rw (take_more cs i none h) (sym (flat_map_more front [] (take i cs) (get_or cs i none)))

-- One more card's bytes, copied after those of the cards before it.
pub copied_card : (cs : List Card) (i k at : ℕ) (bytes part out before : List ℕ) → i < length cs → bytes ≡ front (get_or cs i none) → part ≡ bytes → k ≡ length bytes → length (flat_map front (take i cs)) ≡ at → out ≡ flat_map front (take i cs) ++ drop (length (flat_map front (take i cs))) before → put_mid at k out part ≡ flat_map front (take (i + 1) cs) ++ drop (length (flat_map front (take (i + 1) cs))) before
copied_card cs i k at bytes part out before h v p n a o =
    copied_more (flat_map front (take i cs)) (front (get_or cs i none)) part out before at k a (n ∙ ap length v) (p ∙ v) o ∙ ap (λ l. l ++ drop (length l) before) (sym (joined_next cs i h))

pub copied_length : (at : ℕ) (cs begun : List Card) (i : ℕ) (bytes : List ℕ) → begun ≡ take (suc at) cs → Filled at cs → i + 1 < length begun → bytes ≡ front (get_or begun i none) → length bytes ≡ (get_or begun i none).count → length (flat_map front (take i begun)) ≡ 127 * i → length (flat_map front (take (i + 1) begun)) ≡ 127 * (i + 1)
copied_length at cs begun i bytes e f h v l d = omega (arith, full_before at cs begun i e f h, ap length v, ap length (joined_next begun i (omega arith)), length-append (flat_map front (take i begun)) (front (get_or begun i none)))

-- It fits where all of them do.
pub card_fits : (at : ℕ) (cs begun : List Card) (i n size : ℕ) (bytes : List ℕ) → begun ≡ take (suc at) cs → i < length begun → bytes ≡ front (get_or begun i none) → length (flat_map front (take i begun)) ≡ 127 * i → n ≡ length (dealt at cs) → n ≤ size → 127 * i + length bytes ≤ size
card_fits at cs begun i n size bytes e h v a l m = omega (arith, ap length v, ap (λ b. length (flat_map front b)) e, length-flat_map-take front begun i none h)

-- After the last of them zeros are left.
pub all_copied : (at : ℕ) (cs begun : List Card) (i n size : ℕ) (out before : List ℕ) → begun ≡ take (suc at) cs → length begun ≤ i → before ≡ zeros size → n ≡ length (dealt at cs) → out ≡ flat_map front (take i begun) ++ drop (length (flat_map front (take i begun))) before → out ≡ dealt at cs ++ zeros (size - n)
all_copied at cs begun i n size out before e h z l o =
    over_zeros (dealt at cs) out before size n l z (o ∙ ap (λ b. flat_map front b ++ drop (length (flat_map front b)) before) (take_all i begun h ∙ e))

pub dealt_add : (at : ℕ) (cs : List Card) (c' : Card) (b : ℕ) → at < length cs → front c' ≡ front (get_or cs at none) ++ b ∷ [] → dealt at (set cs at c') ≡ dealt at cs ++ b ∷ []
dealt_add at [] c' b h f = absurd (omega arith)
dealt_add zero (c ∷ cs) c' b h f = append-nil (front c') ∙ f ∙ ap (λ l. l ++ b ∷ []) (sym (append-nil (front c)))
dealt_add (suc at) (c ∷ cs) c' b h f = ap (λ l. front c ++ l) (dealt_add at cs c' b (omega arith) f) ∙ sym (append_assoc (front c) (dealt at cs) (b ∷ []))

-- The space that is left.

pub room_is : (at : ℕ) (cs : List Card) → at < length cs → room_in (drop at cs) ≡ 127 - (get_or cs at none).count + 127 * (length cs - suc at)
room_is at [] h = absurd (omega arith)
room_is zero (c ∷ cs) h = omega arith
room_is (suc at) (c ∷ cs) h = omega (arith, room_is at cs (omega arith))

room_after : (at : ℕ) (cs : List Card) (c' : Card) → at < length cs → room_in (drop at (set cs at c')) ≡ 127 - c'.count + 127 * (length cs - suc at)
room_after at cs c' h =
    let l : at < length (set cs at c') = simp length-set h in
    room_is at (set cs at c') l ∙ simp (length-set, get_or-set_same cs at c' none h)

pub room_add : (at : ℕ) (cs : List Card) (c' : Card) → at < length cs → (get_or cs at none).count < 127 → c'.count ≡ (get_or cs at none).count + 1 → room_in (drop at (set cs at c')) + 1 ≡ room_in (drop at cs)
room_add at cs c' h l e = omega (arith, room_is at cs h, room_after at cs c' h)

-- All that is held and left is the whole pile.

pub whole_add : (at : ℕ) (cs : List Card) (c' : Card) (b : ℕ) → at < length cs → (get_or cs at none).count < 127 → c'.count ≡ (get_or cs at none).count + 1 → front c' ≡ front (get_or cs at none) ++ b ∷ [] → length (dealt at cs) + room_in (drop at cs) ≡ 127 * length cs → length (dealt at (set cs at c')) + room_in (drop at (set cs at c')) ≡ 127 * length (set cs at c')
whole_add at cs c' b h l e f w = omega (arith, room_add at cs c' h l e, ap length (dealt_add at cs c' b h f), length-append (dealt at cs) (b ∷ []), length-set cs at c')

-- The order of the pile.

rest_add : (c c' : Card) → c.count < 127 → c'.count ≡ c.count + 1 → drop c'.count c'.«data» ≡ drop c'.count c.«data» → drop c.count c.«data» ≡ zeros (127 - c.count) → drop c'.count c'.«data» ≡ zeros (127 - c'.count)
rest_add c c' l n e z =
    let same : 127 - c.count - 1 ≡ 127 - c'.count = omega arith in
    e ∙ ap (λ k. drop k c.«data») n ∙ sym (drop-drop 1 c.count c.«data») ∙ ap (drop 1) z ∙ drop-replicate 1 (127 - c.count) 0 ∙ ap zeros same

pub filled_add : (at : ℕ) (cs : List Card) (c' : Card) → at < length cs → (get_or cs at none).count < 127 → c'.count ≡ (get_or cs at none).count + 1 → drop c'.count c'.«data» ≡ drop c'.count (get_or cs at none).«data» → Filled at cs → Filled at (set cs at c')
filled_add at [] c' h l n e f = absurd (omega arith)
filled_add zero (c ∷ cs) c' h l n e f = (omega arith, rest_add c c' l n e f.1, f.2)
filled_add (suc at) (c ∷ cs) c' h l n e f = (f.0, filled_add at cs c' (omega arith) l n e f.1)

-- On to the next card, which holds nothing yet.

next_blank : (at : ℕ) (cs : List Card) → suc at < length cs → Filled at cs → (other : Card) → get_or cs (suc at) other ≡ blank
next_blank at [] h f other = absurd (omega arith)
next_blank zero (c ∷ []) h f other = absurd (omega arith)
next_blank zero (c ∷ d ∷ cs) h f other = cc f.2
next_blank (suc at) (c ∷ cs) h f other = next_blank at cs (omega arith) f.1 other

filled_next : (at : ℕ) (cs : List Card) → suc at < length cs → (get_or cs at none).count ≡ 127 → Filled at cs → Filled (suc at) cs
filled_next at [] h e f = absurd (omega arith)
filled_next zero (c ∷ []) h e f = absurd (omega arith)
filled_next zero (c ∷ d ∷ cs) h e f =
    let fresh : d ≡ blank = cc f.2 in
    let rest : cs ≡ replicate (length cs) blank = cc f.2 in
    (e, (omega (arith, ap (λ x. x.count) fresh), ap (λ x. drop x.count x.«data») fresh ∙ sym (ap (λ x. zeros (127 - x.count)) fresh), rest))
filled_next (suc at) (c ∷ cs) h e f = (f.0, filled_next at cs (omega arith) e f.1)

pub filled_advance : (at : ℕ) (cs : List Card) → at + 1 < length cs → (get_or cs at none).count ≡ 127 → Filled at cs → Filled (at + 1) cs
filled_advance at cs h e f = rw (add-one at) (filled_next at cs (omega arith) e f)

dealt_next : (at : ℕ) (cs : List Card) → suc at < length cs → front (get_or cs (suc at) none) ≡ [] → dealt (suc at) cs ≡ dealt at cs
dealt_next at [] h f = absurd (omega arith)
dealt_next zero (c ∷ []) h f = absurd (omega arith)
dealt_next zero (c ∷ d ∷ cs) h f = ap (λ l. front c ++ (l ++ [])) f
dealt_next (suc at) (c ∷ cs) h f = ap (λ l. front c ++ l) (dealt_next at cs (omega arith) f)

pub dealt_advance : (at : ℕ) (cs : List Card) → at + 1 < length cs → Filled at cs → dealt (at + 1) cs ≡ dealt at cs
dealt_advance at cs h f =
    let l : suc at < length cs = omega arith in
    rw (add-one at) (dealt_next at cs l (ap front (next_blank at cs l f none)))

room_next : (at : ℕ) (cs : List Card) → suc at < length cs → (get_or cs at none).count ≡ 127 → Filled at cs → room_in (drop (suc at) cs) ≡ room_in (drop at cs)
room_next at cs h e f = omega (arith, room_is at cs (omega arith), room_is (suc at) cs h, ap (λ c. c.count) (next_blank at cs h f none))

pub room_advance : (at : ℕ) (cs : List Card) → at + 1 < length cs → (get_or cs at none).count ≡ 127 → Filled at cs → room_in (drop (at + 1) cs) ≡ room_in (drop at cs)
room_advance at cs h e f = rw (add-one at) (room_next at cs (omega arith) e f)

-- Where space is left, the card that was gone on to has a place, and so has one that is not full or has none after it.

pub place_advance : (at : ℕ) (cs : List Card) → at + 1 < length cs → Filled at cs → HasPlace (at + 1) cs
place_advance at cs h f =
    let l : suc at < length cs = omega arith in
    rw (add-one at) (l, λ other. omega (arith, ap (λ c. c.count) (next_blank at cs l f other)))

pub place_here : (at : ℕ) (cs : List Card) → 0 < room_in (drop at cs) → (get_or cs at none).count < 127 → HasPlace at cs
place_here zero [] h l = absurd (omega arith)
place_here (suc at) [] h l = absurd (omega arith)
place_here zero (c ∷ cs) h l = (omega arith, λ other. l)
place_here (suc at) (c ∷ cs) h l =
    let there = place_here at cs h l in
    (omega (arith, there.0), there.1)

pub place_last : (at : ℕ) (cs : List Card) → 0 < room_in (drop at cs) → length cs ≤ at + 1 → HasPlace at cs
place_last zero [] h l = absurd (omega arith)
place_last (suc at) [] h l = absurd (omega arith)
place_last zero (c ∷ cs) h l = (omega arith, λ other. omega arith)
place_last (suc at) (c ∷ cs) h l =
    let there = place_last at cs h (omega arith) in
    (omega (arith, there.0), there.1)

-- Where the card that is being filled has no place left and another follows, it is full.

pub full_here : (at : ℕ) (cs : List Card) → at + 1 < length cs → Filled at cs → (HasPlace at cs → ⊥) → (get_or cs at none).count ≡ 127
full_here at cs h f lacks =
    ⊎_elim (λ e. e) (λ l. absurd (lacks (place_here at cs (omega (arith, room_is at cs (omega arith))) l))) (eq-or-lt_of_le (filled_count at cs f))

-- A pile of blank cards.

pub filled_blank : (n : ℕ) → Filled 0 (replicate n blank)
filled_blank zero = tt
filled_blank (suc n) = (omega arith, refl, ap (λ k. replicate k blank) (sym (length-replicate n blank)))

pub whole_blank : (n : ℕ) → length (dealt 0 (replicate n blank)) + room_in (replicate n blank) ≡ 127 * n
whole_blank zero = refl
whole_blank (suc n) = omega (arith, length-replicate n blank)

-- What the proofs of the card sink cite.
pub ruleset pile = (common_steps, filled_within, filled_count, begun_count, copied_card, copied_length, room_is, dealt_add, room_add, dealt_advance, room_advance, filled_advance, place_advance, place_here, place_last, full_here, filled_blank, whole_blank)
