use Rattle.std.proofs.Common.{codes, sym, ap, arith}
use Rattle.reader.specs.Words.{word_of}
use Rattle.reader.proofs.Names.{spelled_as}
use Rattle.reader.proofs.words.word_of.Goals as goal

pub returns-in-lquote : goal.returns-in-lquote
returns-in-lquote c = ap word_of (sym (spelled_as c.args.name.now (codes "lquote") (omega arith) (omega arith, (omega arith, (omega arith, (omega arith, (omega arith, (omega arith, tt))))))))

pub returns-in-rquote : goal.returns-in-rquote
returns-in-rquote c = ap word_of (sym (spelled_as c.args.name.now (codes "rquote") (omega arith) (omega arith, (omega arith, (omega arith, (omega arith, (omega arith, (omega arith, tt))))))))

pub returns-in-bullet : goal.returns-in-bullet
returns-in-bullet c = ap word_of (sym (spelled_as c.args.name.now (codes "bullet") (omega arith) (omega arith, (omega arith, (omega arith, (omega arith, (omega arith, (omega arith, tt))))))))

pub returns-in-endash : goal.returns-in-endash
returns-in-endash c = ap word_of (sym (spelled_as c.args.name.now (codes "endash") (omega arith) (omega arith, (omega arith, (omega arith, (omega arith, (omega arith, (omega arith, tt))))))))

pub returns-in-emdash : goal.returns-in-emdash
returns-in-emdash c = ap word_of (sym (spelled_as c.args.name.now (codes "emdash") (omega arith) (omega arith, (omega arith, (omega arith, (omega arith, (omega arith, (omega arith, tt))))))))

pub returns-in-htmlrtf : goal.returns-in-htmlrtf
returns-in-htmlrtf c = ap word_of (sym (spelled_as c.args.name.now (codes "htmlrtf") (omega arith) (omega arith, (omega arith, (omega arith, (omega arith, (omega arith, (omega arith, (omega arith, tt)))))))))

pub returns-in-htmltag : goal.returns-in-htmltag
returns-in-htmltag c = ap word_of (sym (spelled_as c.args.name.now (codes "htmltag") (omega arith) (omega arith, (omega arith, (omega arith, (omega arith, (omega arith, (omega arith, (omega arith, tt)))))))))

pub returns-in-ldblquote : goal.returns-in-ldblquote
returns-in-ldblquote c = ap word_of (sym (spelled_as c.args.name.now (codes "ldblquote") (omega arith) (omega arith, (omega arith, (omega arith, (omega arith, (omega arith, (omega arith, (omega arith, (omega arith, (omega arith, tt)))))))))))

pub returns-in-rdblquote : goal.returns-in-rdblquote
returns-in-rdblquote c = ap word_of (sym (spelled_as c.args.name.now (codes "rdblquote") (omega arith) (omega arith, (omega arith, (omega arith, (omega arith, (omega arith, (omega arith, (omega arith, (omega arith, (omega arith, tt)))))))))))

pub returns-in-footnote : goal.returns-in-footnote
returns-in-footnote c = ap word_of (sym (spelled_as c.args.name.now (codes "pntext") (omega arith) (omega arith, (omega arith, (omega arith, (omega arith, (omega arith, (omega arith, tt))))))))

pub returns-in-footnote-2 : goal.returns-in-footnote-2
returns-in-footnote-2 c = ap word_of (sym (spelled_as c.args.name.now (codes "footnote") (omega arith) (omega arith, (omega arith, (omega arith, (omega arith, (omega arith, (omega arith, (omega arith, (omega arith, tt))))))))))

pub returns-in-header : goal.returns-in-header
returns-in-header c = ap word_of (sym (spelled_as c.args.name.now (codes "header") (omega arith) (omega arith, (omega arith, (omega arith, (omega arith, (omega arith, (omega arith, tt))))))))

pub returns-in-header-2 : goal.returns-in-header-2
returns-in-header-2 c = ap word_of (sym (spelled_as c.args.name.now (codes "headerl") (omega arith) (omega arith, (omega arith, (omega arith, (omega arith, (omega arith, (omega arith, (omega arith, tt)))))))))

pub returns-in-header-3 : goal.returns-in-header-3
returns-in-header-3 c = ap word_of (sym (spelled_as c.args.name.now (codes "headerr") (omega arith) (omega arith, (omega arith, (omega arith, (omega arith, (omega arith, (omega arith, (omega arith, tt)))))))))

pub returns-in-header-4 : goal.returns-in-header-4
returns-in-header-4 c = ap word_of (sym (spelled_as c.args.name.now (codes "headerf") (omega arith) (omega arith, (omega arith, (omega arith, (omega arith, (omega arith, (omega arith, (omega arith, tt)))))))))

pub returns-in-footer : goal.returns-in-footer
returns-in-footer c = ap word_of (sym (spelled_as c.args.name.now (codes "footer") (omega arith) (omega arith, (omega arith, (omega arith, (omega arith, (omega arith, (omega arith, tt))))))))

pub returns-in-footer-2 : goal.returns-in-footer-2
returns-in-footer-2 c = ap word_of (sym (spelled_as c.args.name.now (codes "footerl") (omega arith) (omega arith, (omega arith, (omega arith, (omega arith, (omega arith, (omega arith, (omega arith, tt)))))))))

pub returns-in-footer-3 : goal.returns-in-footer-3
returns-in-footer-3 c = ap word_of (sym (spelled_as c.args.name.now (codes "footerr") (omega arith) (omega arith, (omega arith, (omega arith, (omega arith, (omega arith, (omega arith, (omega arith, tt)))))))))

pub returns-in-footer-4 : goal.returns-in-footer-4
returns-in-footer-4 c = ap word_of (sym (spelled_as c.args.name.now (codes "footerf") (omega arith) (omega arith, (omega arith, (omega arith, (omega arith, (omega arith, (omega arith, (omega arith, tt)))))))))

pub returns-in-fonttbl : goal.returns-in-fonttbl
returns-in-fonttbl c = ap word_of (sym (spelled_as c.args.name.now (codes "info") (omega arith) (omega arith, (omega arith, (omega arith, (omega arith, tt))))))

pub returns-in-fonttbl-2 : goal.returns-in-fonttbl-2
returns-in-fonttbl-2 c = ap word_of (sym (spelled_as c.args.name.now (codes "pict") (omega arith) (omega arith, (omega arith, (omega arith, (omega arith, tt))))))

pub returns-in-fonttbl-3 : goal.returns-in-fonttbl-3
returns-in-fonttbl-3 c = ap word_of (sym (spelled_as c.args.name.now (codes "object") (omega arith) (omega arith, (omega arith, (omega arith, (omega arith, (omega arith, (omega arith, tt))))))))

pub returns-in-fonttbl-4 : goal.returns-in-fonttbl-4
returns-in-fonttbl-4 c = ap word_of (sym (spelled_as c.args.name.now (codes "fonttbl") (omega arith) (omega arith, (omega arith, (omega arith, (omega arith, (omega arith, (omega arith, (omega arith, tt)))))))))

pub returns-in-fonttbl-5 : goal.returns-in-fonttbl-5
returns-in-fonttbl-5 c = ap word_of (sym (spelled_as c.args.name.now (codes "colortbl") (omega arith) (omega arith, (omega arith, (omega arith, (omega arith, (omega arith, (omega arith, (omega arith, (omega arith, tt))))))))))

pub returns-in-fonttbl-6 : goal.returns-in-fonttbl-6
returns-in-fonttbl-6 c = ap word_of (sym (spelled_as c.args.name.now (codes "stylesheet") (omega arith) (omega arith, (omega arith, (omega arith, (omega arith, (omega arith, (omega arith, (omega arith, (omega arith, (omega arith, (omega arith, tt))))))))))))

pub returns-in-par : goal.returns-in-par
returns-in-par c = ap word_of (sym (spelled_as c.args.name.now (codes "par") (omega arith) (omega arith, (omega arith, (omega arith, tt)))))

pub returns-in-par-2 : goal.returns-in-par-2
returns-in-par-2 c = ap word_of (sym (spelled_as c.args.name.now (codes "line") (omega arith) (omega arith, (omega arith, (omega arith, (omega arith, tt))))))
