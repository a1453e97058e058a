use Rattle.std.proofs.Common.{◌≡◌, ◌++◌, length, Ok, None, sym, refl, ap, ◌∙◌, arith}
use lib.Utf8.{encodes}
use Rattle.std.proofs.lemmas.Str.Ascii.{encodes-IsAscii}
use Rattle.std.proofs.ByRecursion.{IsAscii-from_all}
use Rattle.std.proofs.lemmas.Str.{encodes-append}
use Rattle.reader.specs.declared.assemble.Joined.TheVariants.{Made}
use Rattle.reader.specs.Content.{make}
use Rattle.reader.specs.Guarded.{Holds}
use Rattle.reader.specs.Pieces.{characters_of, shown_joined}
use Rattle.reader.specs.Shown.{shown_effect}
use Rattle.reader.proofs.Contents.{made_more, text_more, text_less}
use Rattle.reader.proofs.reading.put_content.Goals as goal

pub loop-placed-preserved : goal.loop-placed-preserved
loop-placed-preserved g c =
    let inv = c.loop-placed.invariant in
    let piece = c.in-Made.piece in
    let placed = c.in-Some.placed in
    let page = c.args.page.now in
    let decoded = g.P.CodePage.decoded page in
    let text = c.text.result.now in
    let done = inv.done ++ characters_of piece in
    let made : shown_joined (Ok (Made piece)) ≡ make decoded c.loop-placed.waiting (shown_effect placed.effect) placed.place = ap shown_joined (sym (c.in_ok-half.was ∙ ap Ok c.in-Made.is)) ∙ c.join.ensures in
    let held : Holds (encodes done) c.put_piece.new.out = rw (encodes-append inv.done (characters_of piece)) (c.put_piece.ensures.value _ inv.held) in
    let low = c.text.ensures.ascii in
    record {
      done = done ++ text;
      held = rw (encodes-append done text, encodes-IsAscii text (IsAscii-from_all text low)) (c.push.ensures.value _ held);
      on =
          sym (text_more decoded (g.met.P.CodePage.ascii page) done None c.next_effect.new.self.at text _ _ refl low c.text.ensures.value)
          ∙ sym (made_more decoded inv.done c.loop-placed.waiting (shown_effect placed.effect, placed.place) _ _ c.in-Some.ensures (Made piece) made) ∙ inv.on;
      keeps = record {
        same = c.push.ensures.keeps.same ∙ c.put_piece.ensures.keeps.same ∙ inv.keeps.same;
        len = c.push.ensures.keeps.len ∙ c.put_piece.ensures.keeps.len ∙ inv.keeps.len;
        accepted = c.push.ensures.keeps.accepted ∙ c.put_piece.ensures.keeps.accepted ∙ inv.keeps.accepted;
      };
    }

pub loop-placed-smaller : goal.loop-placed-smaller
loop-placed-smaller g c = omega (arith, text_less c.next_effect.new.self.at c.text.result.now _ _ c.text.ensures.value, ap length c.in-Some.ensures)
