-- What every call of a sitting keeps: the records are whole, and the open one may go on or be closed.
use Rattle.std.proofs.Common.{◌≡◌, ℕ, ◌+◌, ◌-◌, ◌^◌, ◌<◌, ◌≤◌, true, cond, ltb, List, [], ◌∷◌, ◌++◌, length, Some, None, Ok, Err, Option, Result, sym, refl, ap, ◌∙◌, subst, append_assoc, append-nil, arith, length-append}
use lib.Utf8.{scalars, encodes}
use Rattle.std.specs.List.{flat_map, AllByRecursion}
use Rattle.std.specs.Option.{option_map}
use Rattle.std.specs.Str.{chars as decodes}
use Rattle.std.proofs.ByRecursion.{All-push}
use Rattle.std.proofs.lemmas.Bool.{cond_both, ltb-false}
use Rattle.std.proofs.lemmas.Grind.{flat_map-append}
use Rattle.std.proofs.lemmas.Str.{encodes-append, encodes-chars, scalars-chars}
use Rattle.records.specs.declared.kinds.Kind.{Kind}
use Rattle.records.specs.declared.kinds.Kind.TheVariants.{Html, Text}
use Rattle.records.specs.Laws.{IsRecord}
use Rattle.records.proofs.Alone.{never}
use Rattle.reader.specs.Reading.{read_of}
use Rattle.writer.specs.declared.faults.WriterFault.{WriterFault}
use Rattle.writer.specs.declared.faults.WriterFault.TheVariants.{NoSpace, TooLong}
use Rattle.writer.specs.declared.state.CallKind.TheVariants as call
use Rattle.writer.specs.Header.{header, tagged, dressed}
use Rattle.writer.specs.Spelling.{spelled_all}
use Rattle.writer.specs.Pieces.{is_utf8, typed}
use Rattle.writer.specs.Decoration.{decoration}
use Rattle.writer.specs.States.{allowed}
use Rattle.writer.specs.Calls.{Ask, begin, markup, text, dress, finish, Moment, and_then, call_of, to_put, room, fits, answer, after}
use Rattle.writer.proofs.Sound.{passes_utf8}
use Rattle.sittings.specs.Sittings.{Script, Sitting, grown, pieced, ended, accepted, next_by, next, goes, start, sitting}
use Rattle.sittings.specs.Truth.{Reads}
use Rattle.sittings.proofs.Lawful.{Lawful}
use Rattle.sittings.proofs.Spelt.{spells_all}
use Rattle.sittings.proofs.Adds.{err_not_ok, Adds, adds_nil, adds_append, adds_text, adds_markup, adds_dress}
use Rattle.sittings.proofs.Whole.{closed_with, whole_record, whole_reads}

-- what checks one after the other let through
then_ok : {A B : Type 0} (r : Result A WriterFault) (f : A → Result B WriterFault) (y : B) → and_then r f ≡ Ok y → (x : A) × (r ≡ Ok x) × (f x ≡ Ok y)
then_ok (Ok x) f y e = (x, refl, e)
then_ok (Err g) f y e = never (cc)

pub same_ok : {A E : Type 0} {x y : A} → ◌≡◌ {A = Result A E} (Ok x) (Ok y) → x ≡ y
same_ok e = cc

-- An accepted call passed the state, the piece and the room.
answer_parts : (page : ℕ) (encoded : ℕ → Option ℕ) (m : Moment) (a : Ask) (bs : List ℕ) → answer page encoded m a ≡ Ok bs → (allowed m.state (call_of a) ≡ Ok tt) × (to_put page encoded a ≡ Ok bs) × (fits m a (length bs) ≡ Ok tt)
answer_parts page encoded m a bs e =
    let one = then_ok (allowed m.state (call_of a)) (λ _. and_then (to_put page encoded a) (λ cs. and_then (fits m a (length cs)) (λ _. Ok cs))) bs e in
    let two = then_ok (to_put page encoded a) (λ cs. and_then (fits m a (length cs)) (λ _. Ok cs)) bs one.2 in
    let three = then_ok (fits m a (length two.0)) (λ _. Ok two.0) bs two.2 in
    let same : two.0 ≡ bs = cc three.2 in
    (one.1, two.1 ∙ ap Ok same, ap (λ x. fits m a (length x)) (sym same) ∙ three.1)

room_parts : (size space n : ℕ) → room size space n ≡ Ok tt → (size + n + 1 ≤ 32768) × (n + 1 ≤ space)
room_parts size space n =
    cond_both (ltb 32768 (size + n + 1)) (Err TooLong) (cond (ltb space (n + 1)) (Err NoSpace) (Ok tt)) (λ r. r ≡ Ok tt → (size + n + 1 ≤ 32768) × (n + 1 ≤ space))
    (λ _ e. err_not_ok TooLong e)
    (λ p. cond_both (ltb space (n + 1)) (Err NoSpace) (Ok tt) (λ r. r ≡ Ok tt → (size + n + 1 ≤ 32768) × (n + 1 ≤ space))
    (λ _ e. err_not_ok NoSpace e)
    (λ q e. (ltb-false 32768 (size + n + 1) p, ltb-false space (n + 1) q)))

-- A piece that was let through is the encoding of its characters.
typed_parts : (bs cs : List ℕ) → typed bs ≡ Ok cs → (scalars cs ≡ true) × (encodes cs ≡ bs)
typed_parts bs cs =
    cond_both (is_utf8 bs) _ _ (λ r. r ≡ Ok cs → (scalars cs ≡ true) × (encodes cs ≡ bs))
    (λ p e. let same : decodes bs ≡ cs = cc in
    let u = passes_utf8 bs p in
    (ap scalars (sym same) ∙ scalars-chars bs u, ap encodes (sym same) ∙ encodes-chars bs u))
    (λ _ e. never (cc))

-- The bytes of the open record, if there is one.
abbrev pub bytes_of : Option Script → List ℕ
bytes_of None = []
bytes_of (Some r) = r.bytes

module _ (page : ℕ) (decoded : ℕ → Option ℕ) where
  -- A record that has begun: its header, and a body that adds the characters of its content.
  pub record Begun (r : Script) : Type 0 where
    pub body : List ℕ
    pub characters : List ℕ
    pub bytes : r.bytes ≡ header page r.kind ++ body
    pub adds : Adds decoded r.kind body characters
    pub content : encodes characters ≡ r.content
    pub short : length r.bytes + 1 ≤ 32768

  -- A record that is closed.
  pub record Done (r : Script) : Type 0 where
    pub body : List ℕ
    pub characters : List ℕ
    pub bytes : r.bytes ≡ closed_with page r.kind body
    pub adds : Adds decoded r.kind body characters
    pub content : encodes characters ≡ r.content
    pub short : length r.bytes ≤ 32768

  -- A record of a kind is open, of this size, and there is space for its brace.
  abbrev pub OpenAs : Kind → ℕ → ℕ → Option Script → Type 0
  OpenAs k size space None = ⊥
  OpenAs k size space (Some r) = (r.kind ≡ k) × Begun r × (size ≡ length r.bytes) × (1 ≤ space)

  -- The state says what is open.
  abbrev pub Current : Option Kind → ℕ → ℕ → Option Script → Type 0
  Current None size space o = o ≡ None
  Current (Some k) size space o = OpenAs k size space o

  -- The sink holds the finished records and the open one, and each is as it should be.
  pub record Sound (s : Sitting) : Type 0 where
    pub held : s.moment.held ≡ flat_map (λ r. r.bytes) s.finished ++ bytes_of s.current
    pub finished : AllByRecursion Done s.finished
    pub current : Current s.moment.state s.moment.size s.moment.space s.current

-- Records, in a lawful code page.
module _ (page : ℕ) (decoded encoded : ℕ → Option ℕ) (lawful : Lawful page decoded encoded) where
  small : page < 2 ^ 31
  small = omega (arith, lawful.numbered.1)

  -- A closed record reads as its kind and its content, and is one record and no more.
  pub done_reads : (r : Script) → Done page decoded r → Reads page decoded r
  done_reads r d room enough =
      subst (λ bytes. read_of page decoded room bytes ≡ Ok (r.kind, r.content)) (sym d.bytes)
      (subst (λ content. read_of page decoded room (closed_with page r.kind d.body) ≡ Ok (r.kind, content)) d.content
      (whole_reads page small decoded r.kind d.body d.characters d.adds (subst (λ bytes. length bytes ≤ 32768) d.bytes d.short) room (subst (λ content. length content ≤ room) (sym d.content) enough)))

  pub done_record : (r : Script) → Done page decoded r → IsRecord r.bytes
  done_record r d = subst IsRecord (sym d.bytes) (whole_record page small decoded r.kind d.body d.characters d.adds)

  -- The open record, closed by one brace.
  pub begun_closes : (r : Script) → Begun page decoded r → Done page decoded (grown (125 ∷ []) r)
  begun_closes r b = record {
    body = b.body;
    characters = b.characters;
    bytes = ap (λ l. l ++ 125 ∷ []) b.bytes;
    adds = b.adds;
    content = b.content;
    short = omega (arith, b.short, length-append r.bytes (125 ∷ []));
  }

  -- The open record with more bytes that add characters.
  begun_more : (r : Script) (bs cs piece : List ℕ) → Begun page decoded r → Adds decoded r.kind bs cs → encodes cs ≡ piece → length r.bytes + length bs + 1 ≤ 32768 → Begun page decoded (pieced bs piece r)
  begun_more r bs cs piece b a e short = record {
    body = b.body ++ bs;
    characters = b.characters ++ cs;
    bytes = ap (λ l. l ++ bs) b.bytes ∙ append_assoc (header page r.kind) b.body bs;
    adds = adds_append decoded r.kind b.body bs b.characters cs b.adds a;
    content = encodes-append b.characters cs ∙ ap (λ l. l ++ encodes cs) b.content ∙ ap (λ l. r.content ++ l) e;
    short = omega (arith, length-append r.bytes bs);
  }

  open_more : (k : Kind) (size space : ℕ) (o : Option Script) (bs cs piece : List ℕ) → OpenAs page decoded k size space o → Adds decoded k bs cs → encodes cs ≡ piece → room size space (length bs) ≡ Ok tt → OpenAs page decoded k (size + length bs) (space - length bs) (option_map (pieced bs piece) o)
  open_more k size space None bs cs piece is a e fit = absurd is
  open_more k size space (Some r) bs cs piece is a e fit =
      let parts = room_parts size space (length bs) fit in
      (is.0, begun_more r bs cs piece is.1 (subst (λ x. Adds decoded x bs cs) (sym is.0) a) e (omega (arith, is.2, parts.0)), omega (arith, is.2, length-append r.bytes bs), omega (arith, parts.1))

  -- Decoration adds no piece.
  open_dressed : (k : Kind) (size space : ℕ) (o : Option Script) (bs : List ℕ) → OpenAs page decoded k size space o → Adds decoded k bs [] → room size space (length bs) ≡ Ok tt → OpenAs page decoded k (size + length bs) (space - length bs) (option_map (grown bs) o)
  open_dressed k size space None bs is a fit = absurd is
  open_dressed k size space (Some r) bs is a fit =
      let more = open_more k size space (Some r) bs [] [] is a refl fit in
      (is.0, subst (λ content. Begun page decoded (record { kind = r.kind; bytes = r.bytes ++ bs; content = content })) (append-nil r.content) more.1, more.2, more.3)

  held_more : (held bs : List ℕ) (rs : List Script) (o : Option Script) (f : Script → Script) → held ≡ flat_map (λ r. r.bytes) rs ++ bytes_of o → ((r : Script) → (f r).bytes ≡ r.bytes ++ bs) → (k : Kind) (size space : ℕ) → OpenAs page decoded k size space o → held ++ bs ≡ flat_map (λ r. r.bytes) rs ++ bytes_of (option_map f o)
  held_more held bs rs None f e g k size space is = absurd is
  held_more held bs rs (Some r) f e g k size space is = ap (λ l. l ++ bs) e ∙ append_assoc (flat_map (λ r. r.bytes) rs) r.bytes bs ∙ ap (λ l. flat_map (λ r. r.bytes) rs ++ l) (sym (g r))

  -- What is open where the state takes a call.
  none_open : (st : Option Kind) (size space : ℕ) (o : Option Script) → allowed st call.Open ≡ Ok tt → Current page decoded st size space o → o ≡ None
  none_open None size space o e is = is
  none_open (Some Html) size space o e is = never (cc)
  none_open (Some Text) size space o e is = never (cc)

  text_open : (st : Option Kind) (size space : ℕ) (o : Option Script) → allowed st call.Text ≡ Ok tt → Current page decoded st size space o → (k : Kind) × (Some k ≡ st) × OpenAs page decoded k size space o
  text_open None size space o e is = never (cc)
  text_open (Some Html) size space o e is = (Html, refl, is)
  text_open (Some Text) size space o e is = (Text, refl, is)

  markup_open : (st : Option Kind) (size space : ℕ) (o : Option Script) → allowed st call.Markup ≡ Ok tt → Current page decoded st size space o → (Some Html ≡ st) × OpenAs page decoded Html size space o
  markup_open None size space o e is = never (cc)
  markup_open (Some Html) size space o e is = (refl, is)
  markup_open (Some Text) size space o e is = never (cc)

  dress_open : (st : Option Kind) (size space : ℕ) (o : Option Script) → allowed st call.Dress ≡ Ok tt → Current page decoded st size space o → (Some Html ≡ st) × OpenAs page decoded Html size space o
  dress_open None size space o e is = never (cc)
  dress_open (Some Html) size space o e is = (refl, is)
  dress_open (Some Text) size space o e is = never (cc)

  finish_open : (st : Option Kind) (size space : ℕ) (o : Option Script) → allowed st call.Finish ≡ Ok tt → Current page decoded st size space o → (k : Kind) × OpenAs page decoded k size space o
  finish_open None size space o e is = never (cc)
  finish_open (Some Html) size space o e is = (Html, is)
  finish_open (Some Text) size space o e is = (Text, is)

  -- A record of a kind is open in the state of that kind.
  current_as : (k : Kind) (st : Option Kind) (size space : ℕ) (o : Option Script) → Some k ≡ st → OpenAs page decoded k size space o → Current page decoded st size space o
  current_as k st size space o e is = subst (λ x. Current page decoded x size space o) e is

  module _ (s : Sitting) (w : Sound page decoded s) where
    -- Each accepted call keeps it.
    keeps_begin : (k : Kind) (bs : List ℕ) → allowed s.moment.state call.Open ≡ Ok tt → header page k ≡ bs → room 0 s.moment.space (length bs) ≡ Ok tt → Sound page decoded (accepted s (begin k) bs)
    keeps_begin k bs may is fit =
        let none = none_open s.moment.state s.moment.size s.moment.space s.current may w.current in
        let parts = room_parts 0 s.moment.space (length bs) fit in
        let r : Script = record { kind = k; bytes = bs; content = [] } in
        let b : Begun page decoded r = record { body = []; characters = []; bytes = sym is ∙ sym (append-nil (header page k)); adds = adds_nil decoded k; content = refl; short = omega (arith, parts.0) } in
        record {
          held = ap (λ l. l ++ bs) (w.held ∙ ap (λ o. flat_map (λ r. r.bytes) s.finished ++ bytes_of o) none ∙ append-nil (flat_map (λ r. r.bytes) s.finished));
          finished = w.finished;
          current = (refl, b, refl, omega (arith, parts.1));
        }

    keeps_text : (piece bs cs : List ℕ) → allowed s.moment.state call.Text ≡ Ok tt → typed piece ≡ Ok cs → spelled_all encoded cs ≡ bs → room s.moment.size s.moment.space (length bs) ≡ Ok tt → Sound page decoded (accepted s (text piece) bs)
    keeps_text piece bs cs may is put fit =
        let now_open = text_open s.moment.state s.moment.size s.moment.space s.current may w.current in
        let k = now_open.0 in
        let chars = typed_parts piece cs is in
        let a : Adds decoded k bs cs = subst (λ xs. Adds decoded k xs cs) put (adds_text decoded k (spelled_all encoded cs) cs (spells_all page decoded encoded lawful cs chars.0)) in
        record {
          held = held_more s.moment.held bs s.finished s.current (pieced bs piece) w.held (λ r. refl) k s.moment.size s.moment.space now_open.2;
          finished = w.finished;
          current = current_as k s.moment.state _ _ _ now_open.1 (open_more k s.moment.size s.moment.space s.current bs cs piece now_open.2 a chars.1 fit);
        }

    keeps_markup : (piece bs cs : List ℕ) → allowed s.moment.state call.Markup ≡ Ok tt → typed piece ≡ Ok cs → tagged (spelled_all encoded cs) ≡ bs → room s.moment.size s.moment.space (length bs) ≡ Ok tt → Sound page decoded (accepted s (markup piece) bs)
    keeps_markup piece bs cs may is put fit =
        let now_open = markup_open s.moment.state s.moment.size s.moment.space s.current may w.current in
        let chars = typed_parts piece cs is in
        let a : Adds decoded Html bs cs = subst (λ xs. Adds decoded Html xs cs) put (adds_markup decoded (spelled_all encoded cs) cs (spells_all page decoded encoded lawful cs chars.0)) in
        record {
          held = held_more s.moment.held bs s.finished s.current (pieced bs piece) w.held (λ r. refl) Html s.moment.size s.moment.space now_open.1;
          finished = w.finished;
          current = current_as Html s.moment.state _ _ _ now_open.0 (open_more Html s.moment.size s.moment.space s.current bs cs piece now_open.1 a chars.1 fit);
        }

    keeps_dress : (piece bs : List ℕ) → allowed s.moment.state call.Dress ≡ Ok tt → decoration piece ≡ Ok tt → dressed piece ≡ bs → room s.moment.size s.moment.space (length bs) ≡ Ok tt → Sound page decoded (accepted s (dress piece) bs)
    keeps_dress piece bs may is put fit =
        let now_open = dress_open s.moment.state s.moment.size s.moment.space s.current may w.current in
        let a : Adds decoded Html bs [] = subst (λ xs. Adds decoded Html xs []) put (adds_dress decoded piece is) in
        record {
          held = held_more s.moment.held bs s.finished s.current (grown bs) w.held (λ r. refl) Html s.moment.size s.moment.space now_open.1;
          finished = w.finished;
          current = current_as Html s.moment.state _ _ _ now_open.0 (open_dressed Html s.moment.size s.moment.space s.current bs now_open.1 a fit);
        }

    keeps_finish : (bs : List ℕ) → allowed s.moment.state call.Finish ≡ Ok tt → 125 ∷ [] ≡ bs → Sound page decoded (accepted s finish bs)
    keeps_finish bs may is =
        let now_open = finish_open s.moment.state s.moment.size s.moment.space s.current may w.current in
        by s.current w.held now_open.0 now_open.1
      where
        by : (o : Option Script) → s.moment.held ≡ flat_map (λ r. r.bytes) s.finished ++ bytes_of o → (k : Kind) → OpenAs page decoded k s.moment.size s.moment.space o → Sound page decoded (record { moment = after s.moment finish bs; finished = ended s.finished (option_map (grown bs) o); current = None })
        by None held k open_is = absurd open_is
        by (Some r) held k open_is = record {
          held = ap (λ l. l ++ bs) held ∙ append_assoc (flat_map (λ r. r.bytes) s.finished) r.bytes bs ∙ ap (λ l. flat_map (λ r. r.bytes) s.finished ++ l) (sym (append-nil (r.bytes ++ bs))) ∙ sym (flat_map-append (λ r. r.bytes) s.finished (grown bs r ∷ [])) ∙ sym (append-nil (flat_map (λ r. r.bytes) (s.finished ++ grown bs r ∷ [])));
          finished = All-push (Done page decoded) s.finished (grown bs r) w.finished (subst (λ x. Done page decoded (grown x r)) is (begun_closes r open_is.1));
          current = refl;
        }

    keeps_accepted : (a : Ask) (bs : List ℕ) → answer page encoded s.moment a ≡ Ok bs → Sound page decoded (accepted s a bs)
    keeps_accepted (begin k) bs e =
        let parts = answer_parts page encoded s.moment (begin k) bs e in
        keeps_begin k bs parts.0 (same_ok parts.1) parts.2
    keeps_accepted (markup piece) bs e =
        let parts = answer_parts page encoded s.moment (markup piece) bs e in
        let chars = then_ok (typed piece) (λ cs. Ok (tagged (spelled_all encoded cs))) bs parts.1 in
        keeps_markup piece bs chars.0 parts.0 chars.1 (same_ok chars.2) parts.2
    keeps_accepted (text piece) bs e =
        let parts = answer_parts page encoded s.moment (text piece) bs e in
        let chars = then_ok (typed piece) (λ cs. Ok (spelled_all encoded cs)) bs parts.1 in
        keeps_text piece bs chars.0 parts.0 chars.1 (same_ok chars.2) parts.2
    keeps_accepted (dress piece) bs e =
        let parts = answer_parts page encoded s.moment (dress piece) bs e in
        let checked = then_ok (decoration piece) (λ _. Ok (dressed piece)) bs parts.1 in
        keeps_dress piece bs parts.0 checked.1 (same_ok checked.2) parts.2
    keeps_accepted finish bs e =
        let parts = answer_parts page encoded s.moment finish bs e in
        keeps_finish bs parts.0 (same_ok parts.1)

    -- And so does every call.
    keeps_next : (a : Ask) → Sound page decoded (next page encoded s a)
    keeps_next a = by (answer page encoded s.moment a) refl
      where
        by : (r : Result (List ℕ) WriterFault) → answer page encoded s.moment a ≡ r → Sound page decoded (next_by s a r)
        by (Ok bs) e = keeps_accepted a bs e
        by (Err f) e = w

  keeps_all : (s : Sitting) (asks : List Ask) → Sound page decoded s → Sound page decoded (goes page encoded s asks)
  keeps_all s [] w = w
  keeps_all s (a ∷ asks) w = keeps_all (next page encoded s a) asks (keeps_next s w a)

  -- Every sitting is so at every moment.
  pub sittings_sound : (space : ℕ) (asks : List Ask) → Sound page decoded (sitting page encoded space asks)
  sittings_sound space asks = keeps_all (start space) asks (record { held = refl; finished = tt; current = refl })
