-- What cards hold that are filled from the first on.
use Rattle.std.specs.Prelude.{◌≡◌, ℕ, zero, suc, ◌+◌, ◌-◌, ◌*◌, ◌<◌, ◌≤◌, min, List, [], ◌∷◌, length, take, drop, replicate, slice_index_or, refl}
use mathlib.Core.HLevel.{×₃_prop}
use Rattle.std.specs.Coded.{Coded, Coded-set, code_by, coded×, coded_list, coded_ℕ, le_prop, Unit-prop, ×_prop}
use Rattle.sinks.specs.declared.cards.Card.{Card}
use Rattle.std.specs.List.{flat_map}

-- So many zeros.
abbrev pub zeros : ℕ → List ℕ
zeros n = replicate n 0

-- The bytes of a card: the first of its data, as many as it counts, and 127 at most.
abbrev pub front : Card → List ℕ
front c = take (min c.count 127) c.«data»

-- The bytes of the cards up to the one that is being filled.
abbrev pub dealt : ℕ → List Card → List ℕ
dealt at cards = flat_map front (take (suc at) cards)

-- The space of some cards of which the first is being filled: what it has left, and all of the others.
abbrev pub room_in : List Card → ℕ
room_in [] = 0
room_in (c ∷ cs) = 127 - c.count + 127 * length cs

-- A card as it is cleared.
abbrev pub blank : Card
blank = record { count = 0; «data» = zeros 127 }

-- Full cards, then the one that is being filled, with zeros after what it counts, then blank ones.
abbrev pub Filled : ℕ → List Card → Type 0
Filled zero [] = Unit {0}
Filled zero (c ∷ cs) = (c.count ≤ 127) × (drop c.count c.«data» ≡ zeros (127 - c.count)) × (cs ≡ replicate (length cs) blank)
Filled (suc at) [] = ⊥
Filled (suc at) (c ∷ cs) = (c.count ≡ 127) × Filled at cs

-- The card that is being filled has a place left.
abbrev pub HasPlace : ℕ → List Card → Type 0
HasPlace at cards = (at < length cards) × ((other : Card) → (slice_index_or cards at other).count < 127)

card_coded : Coded Card
card_coded = code_by (ℕ × List ℕ) (coded× coded_ℕ (coded_list coded_ℕ)) (λ c. (c.count, c.«data»)) (λ p. record { count = p.0; «data» = p.1 }) (λ _. refl)

-- A pile is so in one way at most, as a fact in a type has to be.
pub Filled-prop : (at : ℕ) (cards : List Card) → IsProp (Filled at cards)
Filled-prop zero [] = Unit-prop
Filled-prop zero (c ∷ cs) = ×₃_prop le_prop (Coded-set (coded_list coded_ℕ) _ _) (Coded-set (coded_list card_coded) _ _)
Filled-prop (suc at) [] = λ a. absurd a
Filled-prop (suc at) (c ∷ cs) = ×_prop (Coded-set coded_ℕ _ _) (Filled-prop at cs)
