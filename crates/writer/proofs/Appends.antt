-- Bytes that are appended one after the other.
use Rattle.std.proofs.Common.{◌≡◌, ℕ, List, ◌++◌, ap, ◌∙◌, append_assoc}

-- Two parts, each appended to what was there before it.
pub two_parts : (start x y one two : List ℕ) → one ≡ start ++ x → two ≡ one ++ y → two ≡ start ++ (x ++ y)
two_parts start x y one two e f = f ∙ ap (λ l. l ++ y) e ∙ append_assoc start x y

-- Three parts.
pub three_parts : (start x y z one two three : List ℕ) → one ≡ start ++ x → two ≡ one ++ y → three ≡ two ++ z → three ≡ start ++ (x ++ (y ++ z))
three_parts start x y z one two three e f g = two_parts start x (y ++ z) one three e (two_parts one y z two three f g)

-- Five parts.
pub five_parts : (start a b c d e one two three four five : List ℕ) → one ≡ start ++ a → two ≡ one ++ b → three ≡ two ++ c → four ≡ three ++ d → five ≡ four ++ e → five ≡ start ++ (a ++ (b ++ (c ++ (d ++ e))))
five_parts start a b c d e one two three four five p q r s t = two_parts start a (b ++ (c ++ (d ++ e))) one five p (two_parts one b (c ++ (d ++ e)) two five q (three_parts two c d e three four five r s t))
