-- The search for a page over the first tokens of a record, one token at a time.
use Rattle.std.proofs.Common.{◌≡◌, ℕ, suc, ◌+◌, List, ◌∷◌, None, sym, ap, ◌∙◌, arith}
use Rattle.tokens.specs.Tokens.{Tok, Item, good}
use Rattle.reader.specs.Recognition.{declares, declared_by, declared}

-- Past a token that declares no page, the search goes on over one token less.
pub page_on : (page n m : ℕ) (is js : List Item) → m + 1 ≡ n → (t : Tok) (p e : ℕ) → is ≡ good t p e ∷ js → None ≡ declares page t → declared page m js ≡ declared page n is
page_on page n m is js one t p e h none =
    let more : n ≡ suc m = omega (arith, one) in
    ap (λ o. declared_by o p (declared page m js)) none ∙ sym (ap (λ k. declared page k is) more ∙ ap (declared page (suc m)) h)
