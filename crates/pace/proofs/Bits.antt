-- A byte has no bit from 8 on.
use Rattle.std.proofs.Common.{ℕ, ◌<◌, ◌≤◌, ◌≡◌, false, lt_of_lt_of_le, pow_mono}
use Rattle.laws.specs.Bits.{bit}
use Rattle.laws.proofs.Bits.{bit_above}

pub bit_none : (b k : ℕ) → b < 256 → 8 ≤ k → bit b k ≡ false
bit_none b k byte high = bit_above b k (lt_of_lt_of_le byte (pow_mono {i = 8} {j = k} high))
