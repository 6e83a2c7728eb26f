-- The bits of a byte, counted from 0.
use Rattle.std.specs.Prelude.{ℕ, zero, suc, ◌+◌, ◌/◌, ◌%◌, ◌^◌, Bool, cond, eqb, ltb}

-- Bit k of b is set.
unfoldable pub bit : ℕ → ℕ → Bool
bit b k = eqb (b / 2 ^ k % 2) 1

-- Bits k and up of b are zero.
unfoldable pub clear_from : ℕ → ℕ → Bool
clear_from k b = ltb b (2 ^ k)

-- The number whose bit k is set exactly where the test holds at k, for k below n, and that has no other bit.
unfoldable pub of_bits : (ℕ → Bool) → ℕ → ℕ
of_bits test zero = 0
of_bits test (suc n) = of_bits test n + cond (test n) (2 ^ n) 0
