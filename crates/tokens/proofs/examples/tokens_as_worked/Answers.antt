use Rattle.std.proofs.Common.{refl}
use Rattle.tokens.proofs.examples.tokens_as_worked.Goals as goal

pub returns : goal.returns
returns c = record {
  words = refl;
  minus = refl;
  binary = refl;
  binary_none = refl;
  binary_past = refl;
  digits = refl;
  digits_one = refl;
  symbols = refl;
  layouts = refl;
  lone = refl;
  names = refl;
  names_long = refl;
  tens = refl;
  tens_long = refl;
  largest = refl;
  larger = refl;
  smallest = refl;
  smaller = refl;
}
