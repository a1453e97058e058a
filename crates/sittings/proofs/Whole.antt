-- A record that was written: it comes apart as one record, and reads as what was written.
use Rattle.std.proofs.Common.{◌≡◌, ℕ, ◌+◌, ◌^◌, ◌<◌, ◌≤◌, ltb, List, [], ◌∷◌, ◌++◌, length, None, Ok, Err, Option, sym, ap, ◌∙◌, subst, append-nil, arith, length-append}
use lib.Utf8.{encodes}
use Rattle.std.proofs.lemmas.List.{take_all, drop_all}
use Rattle.std.proofs.lemmas.Bool.{cond-true, cond-false, le-ltb}
use Rattle.tokens.specs.Tokens.{opens, good, items}
use Rattle.tokens.proofs.Lexed.{placed, lexed_append}
use Rattle.groups.specs.Groups.{closing}
use Rattle.groups.proofs.Passes.{level_passes, level_append}
use Rattle.reader.specs.declared.faults.ReadFault.TheVariants.{ShortBuffer}
use Rattle.records.specs.declared.kinds.Kind.{Kind}
use Rattle.records.specs.Apart.{passed_up, first_end}
use Rattle.records.specs.Laws.{IsRecord}
use Rattle.reader.specs.Rules.{outermost, effects}
use Rattle.reader.specs.Content.{characters}
use Rattle.reader.specs.Recognition.{recognised, declared}
use Rattle.reader.specs.Reading.{and_then, trailing, sound_record, content_of, record_of, fitting, read_of}
use Rattle.reader.proofs.Checks.{sound_first}
use Rattle.reader.proofs.Says.{says_append}
use Rattle.writer.specs.Header.{header}
use Rattle.sittings.proofs.Adds.{Adds}
use Rattle.sittings.proofs.Heads.{head_tokens, head_bytes, header_is, head_rtf, head_lexed, head_recognised, head_declared, head_says, head_level}

-- A record is told by its kind, its page and its content.
told_by : (page : ℕ) (decoded : ℕ → Option ℕ) (k : Kind) (bytes cs : List ℕ) → recognised 10 (items 0 0 bytes) ≡ Ok k → declared page 10 (items 0 0 bytes) ≡ Ok tt → content_of decoded k bytes ≡ Ok cs → record_of page decoded bytes ≡ Ok (k, encodes cs)
told_by page decoded k bytes cs kind paged content =
    ap (λ r. and_then r (λ x. and_then (declared page 10 (items 0 0 bytes)) (λ _. and_then (content_of decoded x bytes) (λ ds. Ok (x, encodes ds))))) kind
    ∙ ap (λ r. and_then r (λ _. and_then (content_of decoded k bytes) (λ ds. Ok (k, encodes ds)))) paged
    ∙ ap (λ r. and_then r (λ ds. Ok (k, encodes ds))) content

-- One record and no more, not too long, reads as it is told.
reads_by : (page : ℕ) (decoded : ℕ → Option ℕ) (k : Kind) (bytes content : List ℕ) (room : ℕ) → IsRecord bytes → length bytes ≤ 32768 → record_of page decoded bytes ≡ Ok (k, content) → length content ≤ room → read_of page decoded room bytes ≡ Ok (k, content)
reads_by page decoded k bytes content room one fits told enough =
    let n = length bytes in
    let none = drop_all n bytes (omega arith) in
    let sound : sound_record bytes ≡ Ok bytes = sound_first bytes fits n (Ok tt) one (sym (ap (trailing n) none)) ∙ ap Ok (take_all n bytes (omega arith)) in
    ap (λ r. and_then r (λ b. and_then (record_of page decoded b) (fitting room))) sound
    ∙ ap (λ r. and_then r (fitting room)) told
    ∙ cond-false (ltb room (length content)) (Err ShortBuffer) (Ok (k, content)) (le-ltb room (length content) enough)

-- A record of a kind with this body, closed by its brace.
abbrev pub closed_with : ℕ → Kind → List ℕ → List ℕ
closed_with page k body = (header page k ++ body) ++ 125 ∷ []

-- What stands between its braces.
abbrev inner_of : ℕ → Kind → List ℕ → List ℕ
inner_of page k body = head_bytes page k ++ body

closed_is : (page : ℕ) (k : Kind) (body : List ℕ) → closed_with page k body ≡ 123 ∷ (inner_of page k body ++ 125 ∷ [])
closed_is page k body = ap (λ h. (h ++ body) ++ 125 ∷ []) (header_is page k)

module _ (page : ℕ) (small : page < 2 ^ 31) (decoded : ℕ → Option ℕ) (k : Kind) (body cs : List ℕ) (adds : Adds decoded k body cs) where
  tokens_before : (vs : List ℕ) → items 0 1 (inner_of page k body ++ 125 ∷ vs) ≡ placed 1 (head_tokens page k ++ adds.tokens) ++ items 0 (1 + length (inner_of page k body)) (125 ∷ vs)
  tokens_before vs = (lexed_append (head_bytes page k) body (head_tokens page k) adds.tokens (head_lexed page small k) adds.lexed).same 1 (125 ∷ vs)

  -- Its first group ends with its last byte.
  whole_ends : first_end (123 ∷ (inner_of page k body ++ 125 ∷ [])) ≡ Ok (1 + length (inner_of page k body) + 1)
  whole_ends =
      cond-true _ _ _ (head_rtf page k body (125 ∷ []))
      ∙ ap (λ is. passed_up (closing (0 ∷ []) is)) (tokens_before [])
      ∙ ap passed_up (level_passes 63 (0 ∷ []) (omega arith) (omega arith) (items 0 (1 + length (inner_of page k body)) (125 ∷ [])) 1 (head_tokens page k ++ adds.tokens) (level_append 63 (head_tokens page k) adds.tokens (head_level page k) adds.level))

  whole_long : length (123 ∷ (inner_of page k body ++ 125 ∷ [])) ≡ 1 + length (inner_of page k body) + 1
  whole_long = omega (arith, length-append (inner_of page k body) (125 ∷ []))

  between_record : IsRecord (123 ∷ (inner_of page k body ++ 125 ∷ []))
  between_record = whole_ends ∙ ap Ok (sym whole_long)

  -- It is one record and no more.
  pub whole_record : IsRecord (closed_with page k body)
  whole_record = subst IsRecord (sym (closed_is page k body)) between_record

  whole_content : content_of decoded k (123 ∷ (inner_of page k body ++ 125 ∷ [])) ≡ Ok cs
  whole_content =
      ap (λ is. characters decoded None (effects 64 k (outermost ∷ []) 0 is)) (tokens_before [])
      ∙ says_append decoded k [] outermost (head_tokens page k) adds.tokens [] cs (head_says decoded page k) adds.says 1 (items 0 (1 + length (inner_of page k body)) (125 ∷ []))
      ∙ ap Ok (append-nil cs)

  from_brace_lem : items 0 0 (123 ∷ (inner_of page k body ++ 125 ∷ [])) ≡ good opens 0 1 ∷ (placed 1 (head_tokens page k ++ adds.tokens) ++ items 0 (1 + length (inner_of page k body)) (125 ∷ []))
  from_brace_lem = ap (λ is. good opens 0 1 ∷ is) (tokens_before [])

  whole_kind : recognised 10 (items 0 0 (123 ∷ (inner_of page k body ++ 125 ∷ []))) ≡ Ok k
  whole_kind = ap (recognised 10) from_brace_lem ∙ head_recognised page k adds.tokens (items 0 (1 + length (inner_of page k body)) (125 ∷ []))

  whole_page : declared page 10 (items 0 0 (123 ∷ (inner_of page k body ++ 125 ∷ []))) ≡ Ok tt
  whole_page = ap (declared page 10) from_brace_lem ∙ head_declared page k adds.tokens (items 0 (1 + length (inner_of page k body)) (125 ∷ []))

  whole_told : record_of page decoded (123 ∷ (inner_of page k body ++ 125 ∷ [])) ≡ Ok (k, encodes cs)
  whole_told = told_by page decoded k (123 ∷ (inner_of page k body ++ 125 ∷ [])) cs whole_kind whole_page whole_content

  -- It reads as its kind and what was written.
  pub whole_reads : length (closed_with page k body) ≤ 32768 → (room : ℕ) → length (encodes cs) ≤ room → read_of page decoded room (closed_with page k body) ≡ Ok (k, encodes cs)
  whole_reads fits room enough =
      let is = closed_is page k body in
      subst (λ bytes. read_of page decoded room bytes ≡ Ok (k, encodes cs)) (sym is)
      (reads_by page decoded k (123 ∷ (inner_of page k body ++ 125 ∷ [])) (encodes cs) room between_record (subst (λ bytes. length bytes ≤ 32768) is fits) whole_told enough)
