-- The laws of a code page that writing and reading rest on.
use Rattle.std.proofs.Common.{◌≡◌, ℕ, ◌<◌, ◌≤◌, Some, Option}

pub record Lawful (page : ℕ) (decoded encoded : ℕ → Option ℕ) : Type 0 where
  pub numbered : (1 ≤ page) × (page ≤ 65535)
  pub ascii : (b : ℕ) → b < 128 → decoded b ≡ Some b
  pub back : (b c : ℕ) → encoded c ≡ Some b → decoded b ≡ Some c
  pub bytes : (b c : ℕ) → decoded b ≡ Some c → b < 256
