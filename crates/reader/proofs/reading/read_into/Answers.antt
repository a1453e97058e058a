use Rattle.std.proofs.Common.{ap, sym, ◌∙◌, subst, arith}
use lib.Utf8.{encodes}
use Rattle.std.proofs.lemmas.Result.{err_from_is_err_and}
use Rattle.tokens.specs.Tokens.{items}
use Rattle.reader.specs.Recognition.{declared}
use Rattle.reader.specs.Guarded.{HoldsBy}
use Rattle.reader.proofs.Whole.{by_page, by_content, told_fitting, told_short}
use Rattle.reader.proofs.reading.read_into.Goals as goal

pub returns-in_err-check_page-clause-value : goal.returns-in_err-check_page-clause-value
returns-in_err-check_page-clause-value g c =
    let p = err_from_is_err_and c.from_residual-in_err-check_page.result c.from_residual-in_err-check_page.ensures.1 in
    let page = c.args.page.now in
    rw (p.1, p.2) (by_page (g.P.CodePage.number page) (g.P.CodePage.decoded page) _ c.args.bytes.now _ c.in_ok-record.ensures c.in_ok-kind.kind c.in_ok-kind.ensures _ (c.in_err-check_page.ensures ∙ ap (λ n. declared n 10 (items 0 0 c.in_ok-record.record.now)) c.number.ensures))

pub returns-in_err-put_content-clause-value : goal.returns-in_err-put_content-clause-value
returns-in_err-put_content-clause-value g c =
    let p = err_from_is_err_and c.from_residual-in_err-put_content.result c.from_residual-in_err-put_content.ensures.1 in
    let page = c.args.page.now in
    rw (p.1, p.2) (by_content (g.P.CodePage.number page) (g.P.CodePage.decoded page) _ c.args.bytes.now _ c.in_ok-record.ensures c.in_ok-kind.kind c.in_ok-kind.ensures _ (c.in_ok-check_page.ensures ∙ ap (λ n. declared n 10 (items 0 0 c.in_ok-record.record.now)) c.number.ensures) _ c.in_err-put_content.ensures.value)

pub returns-in-Some-clause-value : goal.returns-in-Some-clause-value
returns-in-Some-clause-value g c =
    let page = c.args.page.now in
    let filled = c.in_ok-put_content.ensures in
    let cs = filled.value.0 in
    let out = c.put_content.new.out in
    let told = subst (λ o. HoldsBy (encodes cs) o out.bytes.now) (sym c.in-Some.ensures) filled.value.2 in
    (encodes cs, told_fitting (g.P.CodePage.number page) (g.P.CodePage.decoded page) _ c.args.bytes.now _ c.in_ok-record.ensures c.in_ok-kind.kind c.in_ok-kind.ensures _ (c.in_ok-check_page.ensures ∙ ap (λ n. declared n 10 (items 0 0 c.in_ok-record.record.now)) c.number.ensures) cs filled.value.1 (omega (arith, told.1, filled.keeps.len)), told.0, told.2)

pub returns-in-None-clause-value : goal.returns-in-None-clause-value
returns-in-None-clause-value g c =
    let page = c.args.page.now in
    let filled = c.in_ok-put_content.ensures in
    let cs = filled.value.0 in
    let out = c.put_content.new.out in
    let long = subst (λ o. HoldsBy (encodes cs) o out.bytes.now) (sym c.in-None.ensures) filled.value.2 in
    told_short (g.P.CodePage.number page) (g.P.CodePage.decoded page) _ c.args.bytes.now _ c.in_ok-record.ensures c.in_ok-kind.kind c.in_ok-kind.ensures _ (c.in_ok-check_page.ensures ∙ ap (λ n. declared n 10 (items 0 0 c.in_ok-record.record.now)) c.number.ensures) cs filled.value.1 (omega (arith, long, filled.keeps.len))
