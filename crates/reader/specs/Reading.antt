-- Reading: the checks in their order, and the kind and content that a record encapsulates.
use Rattle.std.specs.Prelude.{◌≡◌, ℕ, ◌+◌, ◌-◌, Bool, cond, ◌||◌, List, [], ◌∷◌, ◌++◌, length, take, drop, replicate, None, Ok, Err, Option, Result, ◌==◌, nat_lt}
use Rattle.std.specs.Borrow.{Bor}
use Rattle.std.proofs.Math.Utf8.{encodes}
use Rattle.tokens.specs.Tokens.{items}
use Rattle.reader.specs.declared.faults.ReadFault.{ReadFault}
use Rattle.reader.specs.declared.faults.ReadFault.TheVariants.{Record, TooLong, Trailing, ShortBuffer}
use Rattle.records.specs.declared.faults.RecordFault.{RecordFault}
use Rattle.records.specs.Apart.{first_end}
use Rattle.records.specs.declared.kinds.Kind.{Kind}
use Rattle.reader.specs.declared.reading.Reading.{Reading}
use Rattle.reader.specs.Rules.{outermost, effects}
use Rattle.reader.specs.Content.{characters}
use Rattle.reader.specs.Recognition.{recognised, declared}

-- What taking apart answers, with a fault passed up.
abbrev pub passed_on : {A : Type 0} → Result A RecordFault → Result A ReadFault
passed_on (Ok x) = Ok x
passed_on (Err f) = Err (Record f)

-- What a check that may refuse lets through.
abbrev pub and_then : {A B : Type 0} → Result A ReadFault → (A → Result B ReadFault) → Result B ReadFault
and_then (Ok x) k = k x
and_then (Err f) k = Err f

-- The bytes that may stand after a record: CR, LF and NUL.
abbrev pub may_trail : ℕ → Bool
may_trail b = b == 13 || (b == 10 || b == 0)

-- Only those stand after a record; the bytes stand at a place.
abbrev pub trailing : ℕ → List ℕ → Result (Unit {0}) ReadFault
trailing p [] = Ok tt
trailing p (b ∷ bs) = cond (may_trail b) (trailing (p + 1) bs) (Err (Trailing p))

-- The record of given bytes: not too many of them, a record, and nothing after it that does not belong there.
abbrev pub sound_record : List ℕ → Result (List ℕ) ReadFault
sound_record bytes =
    cond (nat_lt 32768 (length bytes)) (Err TooLong)
    (and_then (passed_on (first_end bytes)) (λ n.
    and_then (trailing n (drop n bytes)) (λ _. Ok (take n bytes))))

-- The characters of a record, of a kind, in a code page.
abbrev pub content_of : (ℕ → Option ℕ) → Kind → List ℕ → Result (List ℕ) ReadFault
content_of decoded k bs = characters decoded None (effects 64 k (outermost ∷ []) 0 (items 0 1 (drop 1 bs)))

-- The kind and the content of one record, in a code page by its number and its characters.
abbrev pub record_of : ℕ → (ℕ → Option ℕ) → List ℕ → Result (Kind × List ℕ) ReadFault
record_of page decoded bs =
    and_then (recognised 10 (items 0 0 bs)) (λ k.
    and_then (declared page 10 (items 0 0 bs)) (λ _.
    and_then (content_of decoded k bs) (λ cs. Ok (k, encodes cs))))

-- A content that fits into a buffer.
abbrev pub fitting : ℕ → Kind × List ℕ → Result (Kind × List ℕ) ReadFault
fitting room r = cond (nat_lt room (length r.1)) (Err ShortBuffer) (Ok r)

-- What reading given bytes answers, into a buffer of some room.
abbrev pub read_of : ℕ → (ℕ → Option ℕ) → ℕ → List ℕ → Result (Kind × List ℕ) ReadFault
read_of page decoded room bytes = and_then (sound_record bytes) (λ r. and_then (record_of page decoded r) (fitting room))

-- Reading told this, and left the buffer so: the content and zeros after it, or only zeros.
abbrev pub Told : Result (Kind × List ℕ) ReadFault → ℕ → Result Reading ReadFault → List ℕ → Type 0
Told told room (Ok r) after = (content : List ℕ) × (told ≡ Ok (r.kind, content)) × (r.length ≡ length content) × (after ≡ content ++ replicate (room - length content) 0)
Told told room (Err f) after = (told ≡ Err f) × (after ≡ replicate room 0)

-- A slice by its bytes.
abbrev pub shown_bytes : Result (Bor (List ℕ)) ReadFault → Result (List ℕ) ReadFault
shown_bytes (Ok s) = Ok s.now
shown_bytes (Err f) = Err f
