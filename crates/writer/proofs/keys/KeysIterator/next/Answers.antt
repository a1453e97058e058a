use Rattle.std.proofs.Common.{◌≡◌, ◌∷◌, length, IsUtf8, sym, ap, ◌∙◌, subst, rules, arith}
use Rattle.std.specs.Str.{chars}
use Rattle.writer.specs.Spelling.{break, key, keys}
use Rattle.writer.specs.Shown.{keys_left}
use Rattle.writer.proofs.Presses.{no_key, key_other, key_return, key_break}
use Rattle.writer.proofs.keys.KeysIterator.next.Goals as goal
use Rattle.writer.proofs.keys.KeysIterator.next.Goals.{else-character-eq13-via-then-character-eq13+else-eq, else-character-eq13-via-else-character-eq13}

pub returns-then-eq : goal.returns-then-eq
returns-then-eq c =
    let text : IsUtf8 c.args.self.now.rest.now = search rules in
    let later : IsUtf8 c.next.new.self.rest.now = subst IsUtf8 c.as_str-self.ensures c.as_str-self.utf8 in
    let after = c.next-then-character-eq13 in
    let steps = key_break _ _ c.in_ok-character.character text (sym c.chars-characters.ensures.rest ∙ c.in_ok-character.ensures.steps.0) after.new.self.rest.now after.result _ c.if-character-eq13.true later after.ensures.steps.0 c.if-eq.ensures in
    let all : keys_left c.args.self.now ≡ break ∷ keys (chars c.as_str-self-then-eq.result.now) = steps ∙ ap (λ bs. break ∷ keys (chars bs)) (sym c.as_str-self-then-eq.ensures) in
    record { steps = all; goes = record { on = λ _. (tt, tt, omega (arith, ap length all)); keeps = tt; rests = λ _. tt } }

pub returns : goal.returns
returns c =
    let text : IsUtf8 c.args.self.now.rest.now = search rules in
    let first = sym c.chars-characters.ensures.rest ∙ c.in_ok-character.ensures.steps.0 in
    let character = c.in_ok-character.character in
    let steps : keys_left c.args.self.now ≡ key character ∷ keys (chars c.next.new.self.rest.now) =
    (elim c.else-character-eq13.branch [
      | else-character-eq13-via-then-character-eq13+else-eq w ↦ key_return _ _ character text first w.next-then-character-eq13.result w.if-character-eq13.true w.next-then-character-eq13.ensures.steps.2 w.if-eq.ensures
      | else-character-eq13-via-else-character-eq13 w ↦ key_other _ _ character text first w.if-character-eq13.false
    ]) in
    let all : keys_left c.args.self.now ≡ key character ∷ keys (chars c.as_str-self.result.now) = steps ∙ ap (λ bs. key character ∷ keys (chars bs)) (sym c.as_str-self.ensures) in
    record { steps = all; goes = record { on = λ _. (tt, tt, omega (arith, ap length all)); keeps = tt; rests = λ _. tt } }

pub returns-in_err-character-clause-steps : goal.returns-in_err-character-clause-steps
returns-in_err-character-clause-steps c =
    let none = no_key c.args.self.now.rest.now (ap length (sym c.chars-characters.ensures.rest) ∙ c.in_err-character.ensures.steps.0.0) in
    rw c.from_residual.ensures (none, none)
