-- How the code's effects and turns show as those of the rules: a text by its characters.
use Rattle.std.specs.Option.{option_map, unwrap_or}
use Rattle.std.specs.Str.{chars}
use Rattle.reader.specs.declared.rules.Effect.{Effect as Told}
use Rattle.reader.specs.declared.rules.Effect.TheVariants as told
use Rattle.reader.specs.declared.rules.Turn.{Turn as Taken}
use Rattle.reader.specs.declared.state.ReadingState.{ReadingState}
use Rattle.reader.specs.Rules.{Effect, unit, byte, given, beyond, Turn}

abbrev pub shown_effect : Told → Effect
shown_effect (told.Unit u) = unit u
shown_effect (told.Byte b) = byte b
shown_effect (told.Given s) = given (chars s.now)
shown_effect told.Beyond = beyond

-- A turn of a group in a state: without a change the state stays.
abbrev pub shown_turn : ReadingState → Taken → Turn
shown_turn s t = record { state = unwrap_or t.change s; skip = t.skip; effect = option_map shown_effect t.effect }
