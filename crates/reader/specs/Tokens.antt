-- The tokens of a record that is known to be sound: there a fault cannot come, and counts as the end.
use Rattle.std.specs.Prelude.{◌≡◌, Some, None, Option}
use Rattle.tokens.specs.declared.lexer.Found.{Found}
use Rattle.tokens.specs.Shown.{shown}
use Rattle.tokens.specs.Tokens.{Item, good, bad}

-- No token comes.
abbrev pub Ended : Option Item → Type 0
Ended None = Unit {0}
Ended (Some (bad f)) = Unit {0}
Ended (Some (good t p e)) = ⊥

-- What was found is the item that comes, or no token comes.
abbrev pub Sound : Option Found → Option Item → Type 0
Sound None o = Ended o
Sound (Some f) o = Some (good (shown f.token) f.place f.end) ≡ o
