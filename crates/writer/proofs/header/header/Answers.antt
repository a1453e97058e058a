use Rattle.std.proofs.Common.{[], ◌++◌, codes, decimal, ap, ◌∙◌}
use Rattle.writer.specs.Header.{mark_of, start_of}
use Rattle.writer.proofs.Appends.{five_parts}
use Rattle.writer.proofs.header.header.Goals as goal

pub returns : goal.returns
returns c =
    five_parts [] (codes "{\\rtf1\\ansi\\ansicpg") (decimal c.args.number) (mark_of c.args.kind) (codes "\\deff0{\\fonttbl{\\f0\\fswiss Arial;}}\\uc1\\pard\\plain\\f0") (start_of c.args.kind) _ _ _ _ _
    (c.append.ensures.items ∙ ap (λ l. l ++ codes "{\\rtf1\\ansi\\ansicpg") c.new-bytes.ensures)
    (c.append-2.ensures.items ∙ ap (λ bs. c.append.new.to.items ++ bs) (c.as_bytes.ensures.value ∙ c.format.ensures.text))
    (c.append-3.ensures.items ∙ ap (λ bs. c.append-2.new.to.items ++ bs) c.mark_of.ensures)
    c.append-4.ensures.items
    (c.append-5.ensures.items ∙ ap (λ bs. c.append-4.new.to.items ++ bs) c.start_of.ensures)
