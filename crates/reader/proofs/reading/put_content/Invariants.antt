use Rattle.std.proofs.Common.{◌≡◌, ℕ, List, length}
use lib.Utf8.{encodes}
use Rattle.reader.specs.Content.{before, characters}
use Rattle.reader.specs.Guarded.{Holds, Keeps}
use Rattle.reader.specs.Walk.{to_come}
use Rattle.reader.proofs.reading.put_content.Given as goal

-- the guard holds the characters so far, and they with those to come are the content
pub record Inv (g : goal.Over) (l : goal.Live-loop-placed g) : Type 0 where
  pub done : List ℕ
  pub held : Holds (encodes done) l.out
  pub on : before done (characters (g.P.CodePage.decoded l.page) l.waiting (to_come l.effects)) ≡ characters (g.P.CodePage.decoded l.page) l.initial.waiting (to_come l.initial.effects)
  pub keeps : Keeps l.initial.out l.out

abbrev pub invariant-loop-placed : goal.invariant-loop-placed
invariant-loop-placed g l = Inv g l

abbrev pub decreases-loop-placed : goal.decreases-loop-placed
decreases-loop-placed g l = length (to_come l.effects)
