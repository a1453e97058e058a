use Rattle.std.proofs.Common.{rules, ◌≡◌, ◌+◌, ◌<◌, ◌≤◌, Some, sym, ap, ◌∙◌}
use Rattle.std.specs.Option.{option_map}
use Rattle.std.proofs.lemmas.Bool.{ltb-true, ltb-false}
use Rattle.pages.specs.Page.{byte_of}
use Rattle.pages.specs.Distinct.{stands}
use Rattle.pages.specs.Codes.{upper_place}
use Rattle.pages.proofs.Codes.{low, high, below}
use Rattle.pages.proofs.table.AnyCodePage.encode.Goals as goal

pub returns-then-is_ascii : goal.returns-then-is_ascii
returns-then-is_ascii g c =
    let own : Some c.args.character ≡ byte_of g.T.TablePage.characters c.args.character = low _ g.met.T.TablePage.facts _ (ltb-true _ _ (sym c.if-is_ascii.ensures)) in
    search rules

pub map-requires : goal.map-requires
map-requires g c =
    let found = c.upper_place.ensures ∙ ap (λ ns. upper_place ns c.args.character) c.codes.ensures in
    λ x e. let small : x < 128 = below _ g.met.T.TablePage.facts _ x (sym found ∙ e) in search rules

pub returns : goal.returns
returns g c =
    let found = c.upper_place.ensures ∙ ap (λ ns. upper_place ns c.args.character) c.codes.ensures in
    let upper : 128 ≤ c.args.character = ltb-false _ _ (sym c.if-is_ascii.ensures) in
    let place : option_map (λ k. 128 + k) c.upper_place.result ≡ byte_of g.T.TablePage.characters c.args.character =
    stands _ g.met.T.TablePage.facts.once _ _ (high _ g.met.T.TablePage.facts _ c.ranges.character.0 upper _ found) in
    search rules
