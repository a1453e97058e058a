-- What holds at every moment of every sitting: the archive does not lie.
use Rattle.std.specs.Prelude.{◌≡◌, ℕ, ◌≤◌, List, [], ◌∷◌, map, length, IfSome, Ok, Option, OnSome}
use Rattle.std.specs.List.{AllByRecursion}
use Rattle.records.specs.Apart.{series}
use Rattle.records.specs.Laws.{chain}
use Rattle.reader.specs.Reading.{read_of}
use Rattle.writer.specs.Calls.{Ask, finish, answer}
use Rattle.writer.specs.Writers.{begun}
use Rattle.sittings.specs.Calls.{left}
use Rattle.sittings.specs.Sittings.{Script, grown, sitting, closed, opened, list_of}

-- A record reads as its kind and its pieces joined, into any buffer that is no shorter than these.
abbrev pub Reads : ℕ → (ℕ → Option ℕ) → Script → Type 0
Reads page decoded r = (room : ℕ) → length r.content ≤ room → read_of page decoded room r.bytes ≡ Ok (r.kind, r.content)

-- What holds in a code page, by its number, the characters of its bytes and the bytes of its characters. A moment is what a sitting
-- has come to after some calls or none, so each field speaks of every space and every list of calls.
pub record NeverLies (page : ℕ) (decoded encoded : ℕ → Option ℕ) : Type 0 where
  -- a sitting's writer and sink are as its calls leave them
  pub served : (space : ℕ) (asks : List Ask) → (sitting page encoded space asks).moment ≡ left page encoded (begun [] space) asks
  -- each finished record is accepted in reading, and reads as what was written
  pub finished : (space : ℕ) (asks : List Ask) → AllByRecursion (Reads page decoded) (sitting page encoded space asks).finished
  -- so does the open record, closed by one brace
  pub current : (space : ℕ) (asks : List Ask) → IfSome (sitting page encoded space asks).current (λ r. Reads page decoded (grown (125 ∷ []) r))
  -- the sink's bytes, closed likewise if a record is open, come apart into exactly the records opened, in order
  pub apart : (space : ℕ) (asks : List Ask) → series 0 0 (closed (sitting page encoded space asks)) ≡ chain 0 (map (λ r. r.bytes) (opened (sitting page encoded space asks)))
  -- if the sinks of two sittings hold the same bytes, their lists are the same
  pub distinct : (space space' : ℕ) (asks asks' : List Ask) → (sitting page encoded space asks).moment.held ≡ (sitting page encoded space' asks').moment.held → list_of (sitting page encoded space asks) ≡ list_of (sitting page encoded space' asks')
  -- while a record is open, finish is accepted
  pub ends : (space : ℕ) (asks : List Ask) → OnSome (sitting page encoded space asks).current (answer page encoded (sitting page encoded space asks).moment finish ≡ Ok (125 ∷ []))
