-- A number of two parts, the lower one below m.
use Rattle.std.proofs.Common.{ℕ, ◌+◌, ◌*◌, ◌/◌, ◌%◌, ◌<◌, arith, mod-eq_of_lt, ◌≡◌, ◌∙◌}
use native.Mathlib.Nat.{add-mul-mod_self_left, add-mul-div_left, div-eq_of_lt}

module _ (m a b : ℕ) (h : a < m) where
  pub low_part : (a + m * b) % m ≡ a
  low_part = add-mul-mod_self_left a m b ∙ mod-eq_of_lt h

  pub high_part : (a + m * b) / m ≡ b
  high_part = add-mul-div_left a b (omega arith) ∙ rw (div-eq_of_lt h) (omega arith)
