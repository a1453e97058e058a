-- The archive does not lie: the theorem, from what every call keeps.
use Rattle.std.proofs.Common.{◌≡◌, ℕ, ◌+◌, ◌<◌, ◌≤◌, true, false, ltb, List, [], ◌∷◌, ◌++◌, map, length, IfSome, Some, None, Ok, Err, Option, Result, sym, refl, ap, ◌∙◌, subst, append_assoc, append-nil, arith, length-append}
use Rattle.std.specs.List.{flat_map, AllByRecursion}
use Rattle.std.specs.Option.{option_map}
use Rattle.std.proofs.ByRecursion.{All-push, All-weaker, All-map}
use Rattle.std.proofs.lemmas.Bool.{cond-false, le-ltb}
use Rattle.std.proofs.lemmas.Grind.{flat_map-append}
use Rattle.reader.specs.declared.faults.ReadFault.{ReadFault}
use Rattle.records.specs.declared.kinds.Kind.{Kind}
use Rattle.records.specs.declared.kinds.Kind.TheVariants.{Html, Text}
use Rattle.records.specs.Apart.{first_end, series}
use Rattle.records.specs.Laws.{IsRecord, chain}
use Rattle.records.proofs.Alone.{never, first_fits, record_alone}
use Rattle.records.proofs.Series.{come_back}
use Rattle.reader.specs.Reading.{read_of}
use Rattle.writer.specs.declared.faults.WriterFault.{WriterFault}
use Rattle.writer.specs.declared.faults.WriterFault.TheVariants.{NoSpace}
use Rattle.writer.specs.declared.state.CallKind.TheVariants as call
use Rattle.writer.specs.States.{allowed}
use Rattle.writer.specs.Calls.{Ask, begin, markup, text, dress, finish, Moment, and_then, fits, answer, after, left_by, step}
use Rattle.sittings.specs.Sittings.{Script, Sitting, grown, ended, accepted, next_by, next, goes, start, sitting, brace_of, entry_of, open_entry}
use Rattle.sittings.specs.Calls.{left}
use Rattle.sittings.specs.Truth.{Reads, NeverLies}
use Rattle.sittings.proofs.Lawful.{Lawful}
use Rattle.sittings.proofs.Runs.{bytes_of, same_ok, Done, OpenAs, Current, done_reads, done_record, begun_closes, sittings_sound}

-- A sitting's writer and sink are as its calls leave them.
next_moment : (page : ℕ) (encoded : ℕ → Option ℕ) (s : Sitting) (a : Ask) → (next page encoded s a).moment ≡ step page encoded s.moment a
next_moment page encoded s a = by (answer page encoded s.moment a)
  where
    put : (b : Ask) (bs : List ℕ) → (accepted s b bs).moment ≡ after s.moment b bs
    put (begin k) bs = refl
    put (markup piece) bs = refl
    put (text piece) bs = refl
    put (dress piece) bs = refl
    put finish bs = refl

    by : (r : Result (List ℕ) WriterFault) → (next_by s a r).moment ≡ left_by s.moment a r
    by (Ok bs) = put a bs
    by (Err f) = refl

goes_moment : (page : ℕ) (encoded : ℕ → Option ℕ) (s : Sitting) (asks : List Ask) → (goes page encoded s asks).moment ≡ left page encoded s.moment asks
goes_moment page encoded s [] = refl
goes_moment page encoded s (a ∷ asks) = goes_moment page encoded (next page encoded s a) asks ∙ ap (λ m. left page encoded m asks) (next_moment page encoded s a)

-- Bytes that are records one after another are not records and then an unfinished one.
never_both : (rs ss : List (List ℕ)) (x : List ℕ) → AllByRecursion IsRecord rs → AllByRecursion IsRecord ss → IsRecord (x ++ 125 ∷ []) → 0 < length x → flat_map (λ r. r) rs ≡ flat_map (λ r. r) ss ++ x → ⊥
never_both [] ss x a b c some e = omega (arith, ap length e, length-append (flat_map (λ r. r) ss) x)
never_both (r ∷ rs) [] x a b c some e =
    let one = record_alone r (flat_map (λ r. r) rs ++ 125 ∷ []) a.0 in
    let whole : r ++ (flat_map (λ r. r) rs ++ 125 ∷ []) ≡ x ++ 125 ∷ [] = sym (append_assoc r (flat_map (λ r. r) rs) (125 ∷ [])) ∙ ap (λ l. l ++ 125 ∷ []) e in
    let long = same_ok (sym one ∙ ap first_end whole ∙ c) in
    omega (arith, long, length-append x (125 ∷ []), ap length e, length-append r (flat_map (λ r. r) rs))
never_both (r ∷ rs) (s ∷ ss) x a b c some e =
    let rest = flat_map (λ r. r) ss ++ x in
    let whole : r ++ flat_map (λ r. r) rs ≡ s ++ rest = e ∙ append_assoc s (flat_map (λ r. r) ss) x in
    let long = same_ok (sym (record_alone r (flat_map (λ r. r) rs) a.0) ∙ ap first_end whole ∙ record_alone s rest b.0) in
    never_both rs ss x a.1 b.1 c some (rest_same r s (flat_map (λ r. r) rs) rest long whole)
  where
    rest_same : (p q u v : List ℕ) → length p ≡ length q → p ++ u ≡ q ++ v → u ≡ v
    rest_same [] [] u v l e = e
    rest_same [] (y ∷ q) u v l e = absurd (omega arith)
    rest_same (z ∷ p) [] u v l e = absurd (omega arith)
    rest_same (z ∷ p) (y ∷ q) u v l e = let later : p ++ u ≡ q ++ v = cc in rest_same p q u v (omega arith) later

-- The records of a chain are those that it was made of.
chain_same : (at : ℕ) (rs ss : List (List ℕ)) → chain at rs ≡ chain at ss → rs ≡ ss
chain_same at [] [] e = refl
chain_same at [] (s ∷ ss) e = never (cc)
chain_same at (r ∷ rs) [] e = never (cc)
chain_same at (r ∷ rs) (s ∷ ss) e =
    let first : r ≡ s = cc in
    let later : chain (at + length r) rs ≡ chain (at + length s) ss = cc in
    let rest = chain_same (at + length r) rs ss (later ∙ ap (λ q. chain (at + length q) ss) (sym first)) in
    ap (λ x. x ∷ rs) first ∙ ap (λ l. s ∷ l) rest

joined_bytes : (rs : List Script) → flat_map (λ r. r.bytes) rs ≡ flat_map (λ r. r) (map (λ r. r.bytes) rs)
joined_bytes [] = refl
joined_bytes (r ∷ rs) = ap (λ l. r.bytes ++ l) (joined_bytes rs)

-- The bytes of a sitting, closed, are its records one after another.
closed_joined : (held : List ℕ) (rs : List Script) (o : Option Script) → held ≡ flat_map (λ r. r.bytes) rs ++ bytes_of o → held ++ brace_of o ≡ flat_map (λ r. r) (map (λ r. r.bytes) (ended rs (option_map (grown (125 ∷ [])) o)))
closed_joined held rs None e = append-nil held ∙ e ∙ append-nil (flat_map (λ r. r.bytes) rs) ∙ joined_bytes rs
closed_joined held rs (Some r) e =
    ap (λ l. l ++ 125 ∷ []) e ∙ append_assoc (flat_map (λ r. r.bytes) rs) r.bytes (125 ∷ [])
    ∙ ap (λ l. flat_map (λ r. r.bytes) rs ++ l) (sym (append-nil (r.bytes ++ 125 ∷ []))) ∙ sym (flat_map-append (λ r. r.bytes) rs (grown (125 ∷ []) r ∷ []))
    ∙ joined_bytes (rs ++ grown (125 ∷ []) r ∷ [])

-- Entries of records that are finished but for the last.
last_open : (rs ss : List Script) (r u : Script) → map (entry_of true) (rs ++ r ∷ []) ≡ map (entry_of true) (ss ++ u ∷ []) → map (entry_of true) rs ++ entry_of false r ∷ [] ≡ map (entry_of true) ss ++ entry_of false u ∷ []
last_open [] [] r u e =
    let same : entry_of true r ≡ entry_of true u = cc in
    ap (λ x. record { kind = x.kind; content = x.content; finished = false } ∷ []) same
last_open [] (s ∷ []) r u e = never (cc)
last_open [] (s ∷ t ∷ ss) r u e = never (cc)
last_open (q ∷ []) [] r u e = never (cc)
last_open (q ∷ p ∷ rs) [] r u e = never (cc)
last_open (q ∷ rs) (s ∷ ss) r u e =
    let first : entry_of true q ≡ entry_of true s = cc in
    let later : map (entry_of true) (rs ++ r ∷ []) ≡ map (entry_of true) (ss ++ u ∷ []) = cc in
    ap (λ x. x ∷ (map (entry_of true) rs ++ entry_of false r ∷ [])) first ∙ ap (λ l. entry_of true s ∷ l) (last_open rs ss r u later)

module _ (page : ℕ) (decoded encoded : ℕ → Option ℕ) (lawful : Lawful page decoded encoded) where
  open_done : (k : Kind) (size space : ℕ) (o : Option Script) → OpenAs page decoded k size space o → IfSome o (λ r. Done page decoded (grown (125 ∷ []) r))
  open_done k size space None is = tt
  open_done k size space (Some r) is = begun_closes page decoded encoded lawful r is.1

  current_done : (st : Option Kind) (size space : ℕ) (o : Option Script) → Current page decoded st size space o → IfSome o (λ r. Done page decoded (grown (125 ∷ []) r))
  current_done None size space o is = subst (λ x. IfSome x (λ r. Done page decoded (grown (125 ∷ []) r))) (sym is) tt
  current_done (Some k) size space o is = open_done k size space o is

  -- Records with the same bytes have the same kind and content.
  same_entry : (r u : Script) → Done page decoded r → Done page decoded u → r.bytes ≡ u.bytes → entry_of true r ≡ entry_of true u
  same_entry r u d f e =
      let room = length r.content + length u.content in
      let told : ◌≡◌ {A = Result (Kind × List ℕ) ReadFault} (Ok (r.kind, r.content)) (Ok (u.kind, u.content)) = sym (done_reads page decoded encoded lawful r d room (omega arith)) ∙ ap (read_of page decoded room) e ∙ done_reads page decoded encoded lawful u f room (omega arith) in
      let same : ◌≡◌ {A = Kind × List ℕ} (r.kind, r.content) (u.kind, u.content) = cc in
      ap (λ x. record { kind = x.0; content = x.1; finished = true }) same

  same_entries : (rs ss : List Script) → AllByRecursion (Done page decoded) rs → AllByRecursion (Done page decoded) ss → map (λ r. r.bytes) rs ≡ map (λ r. r.bytes) ss → map (entry_of true) rs ≡ map (entry_of true) ss
  same_entries [] [] a b e = refl
  same_entries [] (s ∷ ss) a b e = never (cc)
  same_entries (r ∷ rs) [] a b e = never (cc)
  same_entries (r ∷ rs) (s ∷ ss) a b e =
      let first : r.bytes ≡ s.bytes = cc in
      let later : map (λ r. r.bytes) rs ≡ map (λ r. r.bytes) ss = cc in
      ap (λ x. x ∷ map (entry_of true) rs) (same_entry r s a.0 b.0 first) ∙ ap (λ l. entry_of true s ∷ l) (same_entries rs ss a.1 b.1 later)

  all_records : (rs : List Script) → AllByRecursion (Done page decoded) rs → AllByRecursion IsRecord (map (λ r. r.bytes) rs)
  all_records rs a = All-map IsRecord (λ r. r.bytes) rs (All-weaker (Done page decoded) (λ r. IsRecord r.bytes) (done_record page decoded encoded lawful) rs a)

  opened_done : (rs : List Script) (o : Option Script) → AllByRecursion (Done page decoded) rs → IfSome o (λ r. Done page decoded (grown (125 ∷ []) r)) → AllByRecursion (Done page decoded) (ended rs (option_map (grown (125 ∷ [])) o))
  opened_done rs None a d = a
  opened_done rs (Some r) a d = All-push (Done page decoded) rs (grown (125 ∷ []) r) a d

  -- What a sitting's bytes come apart into.
  comes : (held : List ℕ) (rs : List Script) (o : Option Script) → held ≡ flat_map (λ r. r.bytes) rs ++ bytes_of o → AllByRecursion (Done page decoded) rs → IfSome o (λ r. Done page decoded (grown (125 ∷ []) r)) → series 0 0 (held ++ brace_of o) ≡ chain 0 (map (λ r. r.bytes) (ended rs (option_map (grown (125 ∷ [])) o)))
  comes held rs o e a d = come_back (held ++ brace_of o) (map (λ r. r.bytes) (ended rs (option_map (grown (125 ∷ [])) o))) (all_records (ended rs (option_map (grown (125 ∷ [])) o)) (opened_done rs o a d)) (closed_joined held rs o e)

  -- A record left open is not mistaken for finished ones.
  not_mistaken : (held : List ℕ) (rs ss : List Script) (r : Script) → held ≡ flat_map (λ r. r.bytes) rs ++ [] → held ≡ flat_map (λ r. r.bytes) ss ++ r.bytes → AllByRecursion (Done page decoded) rs → AllByRecursion (Done page decoded) ss → Done page decoded (grown (125 ∷ []) r) → ⊥
  not_mistaken held rs ss r e f a b d =
      let one = done_record page decoded encoded lawful (grown (125 ∷ []) r) d in
      never_both (map (λ r. r.bytes) rs) (map (λ r. r.bytes) ss) r.bytes (all_records rs a) (all_records ss b) one
      (omega (arith, (first_fits (r.bytes ++ 125 ∷ []) _ one).0, length-append r.bytes (125 ∷ [])))
      (sym (joined_bytes rs) ∙ sym (append-nil (flat_map (λ r. r.bytes) rs)) ∙ sym e ∙ f ∙ ap (λ l. l ++ r.bytes) (joined_bytes ss))

  distinct_by : (held : List ℕ) (rs ss : List Script) (o p : Option Script) → held ≡ flat_map (λ r. r.bytes) rs ++ bytes_of o → held ≡ flat_map (λ r. r.bytes) ss ++ bytes_of p → AllByRecursion (Done page decoded) rs → AllByRecursion (Done page decoded) ss → IfSome o (λ r. Done page decoded (grown (125 ∷ []) r)) → IfSome p (λ r. Done page decoded (grown (125 ∷ []) r)) → map (entry_of true) rs ++ open_entry o ≡ map (entry_of true) ss ++ open_entry p
  distinct_by held rs ss None None e f a b c d =
      let bytes = chain_same 0 _ _ (sym (comes held rs None e a c) ∙ comes held ss None f b d) in
      ap (λ l. l ++ []) (same_entries rs ss a b bytes)
  distinct_by held rs ss None (Some u) e f a b c d = absurd (not_mistaken held rs ss u e f a b d)
  distinct_by held rs ss (Some r) None e f a b c d = absurd (not_mistaken held ss rs r f e b a c)
  distinct_by held rs ss (Some r) (Some u) e f a b c d =
      let bytes = chain_same 0 _ _ (sym (comes held rs (Some r) e a c) ∙ comes held ss (Some u) f b d) in
      let all = same_entries (rs ++ grown (125 ∷ []) r ∷ []) (ss ++ grown (125 ∷ []) u ∷ []) (opened_done rs (Some r) a c) (opened_done ss (Some u) b d) bytes in
      last_open rs ss (grown (125 ∷ []) r) (grown (125 ∷ []) u) all

  found_reads : (o : Option Script) → IfSome o (λ r. Done page decoded (grown (125 ∷ []) r)) → IfSome o (λ r. Reads page decoded (grown (125 ∷ []) r))
  found_reads None d = tt
  found_reads (Some r) d = done_reads page decoded encoded lawful (grown (125 ∷ []) r) d

  finish_by : (m : Moment) (o : Option Script) → Current page decoded m.state m.size m.space o → IfSome o (λ _. answer page encoded m finish ≡ Ok (125 ∷ []))
  finish_by m o is = by m.state refl o is
    where
      accepts : allowed m.state call.Finish ≡ Ok tt → 1 ≤ m.space → answer page encoded m finish ≡ Ok (125 ∷ [])
      accepts may space =
          ap (λ x. and_then x (λ _. and_then (fits m finish 1) (λ _. Ok (125 ∷ [])))) may
          ∙ ap (λ x. and_then x (λ _. Ok (125 ∷ []))) (cond-false (ltb m.space 1) (Err NoSpace) (Ok tt) (le-ltb m.space 1 space))

      by : (st : Option Kind) → m.state ≡ st → (o : Option Script) → Current page decoded st m.size m.space o → IfSome o (λ _. answer page encoded m finish ≡ Ok (125 ∷ []))
      by None e o is = subst (λ x. IfSome x (λ _. answer page encoded m finish ≡ Ok (125 ∷ []))) (sym is) tt
      by (Some Html) e None is = tt
      by (Some Html) e (Some r) is = accepts (ap (λ st. allowed st call.Finish) e) is.3
      by (Some Text) e None is = tt
      by (Some Text) e (Some r) is = accepts (ap (λ st. allowed st call.Finish) e) is.3

  -- The theorem.
  pub never_lies : NeverLies page decoded encoded
  never_lies = record {
    served = λ space asks. goes_moment page encoded (start space) asks;
    finished = λ space asks. let w = sittings_sound page decoded encoded lawful space asks in All-weaker (Done page decoded) (Reads page decoded) (done_reads page decoded encoded lawful) (sitting page encoded space asks).finished w.finished;
    current = λ space asks. let s = sitting page encoded space asks in found_reads s.current (current_done s.moment.state s.moment.size s.moment.space s.current (sittings_sound page decoded encoded lawful space asks).current);
    apart = λ space asks. let s = sitting page encoded space asks in let w = sittings_sound page decoded encoded lawful space asks in comes s.moment.held s.finished s.current w.held w.finished (current_done s.moment.state s.moment.size s.moment.space s.current w.current);
    distinct = λ space space' asks asks' e.
        let s = sitting page encoded space asks in
        let t = sitting page encoded space' asks' in
        let w = sittings_sound page decoded encoded lawful space asks in
        let v = sittings_sound page decoded encoded lawful space' asks' in
        distinct_by s.moment.held s.finished t.finished s.current t.current w.held (e ∙ v.held) w.finished v.finished (current_done s.moment.state s.moment.size s.moment.space s.current w.current) (current_done t.moment.state t.moment.size t.moment.space t.current v.current);
    ends = λ space asks. let s = sitting page encoded space asks in finish_by s.moment s.current (sittings_sound page decoded encoded lawful space asks).current;
  }
