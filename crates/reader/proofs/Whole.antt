-- The whole reading, by what each check told.
use Rattle.std.proofs.Common.{◌≡◌, ℕ, ◌<◌, ◌≤◌, List, length, Ok, Err, Option, Result, sym, ap, ◌∙◌}
use lib.Utf8.{encodes}
use Rattle.tokens.specs.Tokens.{items}
use Rattle.reader.specs.declared.faults.ReadFault.{ReadFault}
use Rattle.reader.specs.declared.faults.ReadFault.TheVariants.{ShortBuffer}
use Rattle.std.proofs.lemmas.Bool.{cond-true, cond-false, le-ltb, lt-ltb}
use Rattle.records.specs.declared.kinds.Kind.{Kind}
use Rattle.reader.specs.Recognition.{recognised, declared}
use Rattle.reader.specs.Reading.{and_then, sound_record, content_of, record_of, fitting, read_of}

module _ (page : ℕ) (decoded : ℕ → Option ℕ) (room : ℕ) (bytes : List ℕ) where
  -- the content, for a kind
  abbrev with_content : Kind → Result (List ℕ) ReadFault → Result (Kind × List ℕ) ReadFault
  with_content k r = and_then r (λ cs. Ok (k, encodes cs))

  -- the content behind the check of the page
  abbrev with_page : Kind → List ℕ → Result (Unit {0}) ReadFault → Result (Kind × List ℕ) ReadFault
  with_page k b d = and_then d (λ _. with_content k (content_of decoded k b))

  abbrev with_kind : List ℕ → Result Kind ReadFault → Result (Kind × List ℕ) ReadFault
  with_kind b r = and_then r (λ k. with_page k b (declared page 10 (items 0 0 b)))

  pub by_sound : (r : Result (List ℕ) ReadFault) → r ≡ sound_record bytes → read_of page decoded room bytes ≡ and_then r (λ b. and_then (record_of page decoded b) (fitting room))
  by_sound r e = ap (λ r. and_then r (λ b. and_then (record_of page decoded b) (fitting room))) (sym e)

  module _ (b : List ℕ) (s : Ok b ≡ sound_record bytes) where
    pub by_kind : (r : Result Kind ReadFault) → r ≡ recognised 10 (items 0 0 b) → read_of page decoded room bytes ≡ and_then (with_kind b r) (fitting room)
    by_kind r e = by_sound (Ok b) s ∙ ap (λ r. and_then (with_kind b r) (fitting room)) (sym e)

    module _ (k : Kind) (q : Ok k ≡ recognised 10 (items 0 0 b)) where
      pub by_page : (r : Result (Unit {0}) ReadFault) → r ≡ declared page 10 (items 0 0 b) → read_of page decoded room bytes ≡ and_then (with_page k b r) (fitting room)
      by_page r e = by_kind (Ok k) q ∙ ap (λ r. and_then (with_page k b r) (fitting room)) (sym e)

      pub by_content : (u : Unit {0}) → Ok u ≡ declared page 10 (items 0 0 b) → (r : Result (List ℕ) ReadFault) → content_of decoded k b ≡ r → read_of page decoded room bytes ≡ and_then (with_content k r) (fitting room)
      by_content u d r e = by_page (Ok u) d ∙ ap (λ r. and_then (with_content k r) (fitting room)) e

      -- a content that fits, and one that does not
      module _ (u : Unit {0}) (d : Ok u ≡ declared page 10 (items 0 0 b)) (cs : List ℕ) (e : content_of decoded k b ≡ Ok cs) where
        pub told_fitting : length (encodes cs) ≤ room → read_of page decoded room bytes ≡ Ok (k, encodes cs)
        told_fitting h = by_content u d (Ok cs) e ∙ cond-false _ _ _ (le-ltb _ _ h)

        pub told_short : room < length (encodes cs) → read_of page decoded room bytes ≡ Err ShortBuffer
        told_short h = by_content u d (Ok cs) e ∙ cond-true _ _ _ (lt-ltb _ _ h)
