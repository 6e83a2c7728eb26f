-- Laws of bits: what a bit of a number reads, of numbers that are made of bits.
use Rattle.std.proofs.Common.{ℕ, zero, suc, ◌+◌, ◌-◌, ◌*◌, ◌/◌, ◌%◌, ◌^◌, ◌≤◌, ◌<◌, arith, add-zero, div-one, pow-suc, one-mul, div-lt_iff_lt-mul, lt_of_lt_of_le, ◌≡◌, refl, ◌∙◌, ap, Bool, true, false, cond, eqb, pow_pos, pow-add, pow_mono, shr-shr, ltb-true, eqb-true, lt-ltb, ◌↔◌}
use native.Mathlib.Nat.{div-eq_of_lt, add-div_right, add-mul-div_left, add-mul-mod_self_right}
use lib.Arith.{bin_ind}
use borrow.Author.Tests.{eqb-false}
use Rattle.laws.specs.Bits.{bit, clear_from, of_bits}
use Rattle.laws.proofs.Tests.{case, tests}

-- A number below 2 ^ k has no bit at k.
pub bit_above : (b k : ℕ) → b < 2 ^ k → bit b k ≡ false
unfolding bit
bit_above b k h = rw (div-eq_of_lt h)

-- One more at 2 ^ n sets bit n of what was below it, and leaves the bits below n.
pub bit_top : (b n : ℕ) → b < 2 ^ n → bit (b + 2 ^ n) n ≡ true
unfolding bit
bit_top b n h = rw (add-div_right b (pow_pos n), div-eq_of_lt h)

pub bit_low : (b n k : ℕ) → k < n → bit (b + 2 ^ n) k ≡ bit b k
unfolding bit
bit_low b n k h =
    let m : ℕ = n - suc k in
    let split : 2 ^ n ≡ 2 ^ k * (2 ^ m * 2) =
    ap (λ (j : ℕ). 2 ^ j) {x = n} {y = k + suc m} (omega arith) ∙ pow-add 2 k (suc m) ∙ ap (λ (x : ℕ). 2 ^ k * x) (pow-suc 2 m) in
    rw (split, add-mul-div_left b (2 ^ m * 2) (pow_pos k), add-mul-mod_self_right (b / 2 ^ k) (2 ^ m) 2)

-- A number made of bits has those bits and no other.
module _ (test : ℕ → Bool) where
  pub of_bits_below : (n : ℕ) → of_bits test n < 2 ^ n
  unfolding of_bits
  of_bits_below zero = omega arith
  of_bits_below (suc n) =
      case (test n)
      (λ t. rw (t, pow-suc 2 n) (omega (arith, of_bits_below n)))
      (λ t. rw (t, pow-suc 2 n) (omega (arith, of_bits_below n)))

  pub of_bits_at : (n k : ℕ) → k < n → bit (of_bits test n) k ≡ test k
  unfolding of_bits
  of_bits_at zero k h = absurd (omega arith)
  of_bits_at (suc n) k h =
      case (eqb k n)
      (λ e. rw (eqb-true k n e) (top n (of_bits_below n)))
      (λ e. low n k (omega tests) ∙ of_bits_at n k (omega tests))
    where
      top : (n : ℕ) → of_bits test n < 2 ^ n → bit (of_bits test n + cond (test n) (2 ^ n) 0) n ≡ test n
      top n h =
          case (test n)
          (λ t. rw t (bit_top (of_bits test n) n h))
          (λ t. rw (t, add-zero) (bit_above (of_bits test n) n h))

      low : (n k : ℕ) → k < n → bit (of_bits test n + cond (test n) (2 ^ n) 0) k ≡ bit (of_bits test n) k
      low n k h = case (test n) (λ t. rw t (bit_low (of_bits test n) n k h)) (λ t. rw (t, add-zero))

  pub of_bits_above : (n k : ℕ) → n ≤ k → bit (of_bits test n) k ≡ false
  of_bits_above n k h = bit_above (of_bits test n) k (lt_of_lt_of_le (of_bits_below n) (pow_mono h))

-- It is made by what the test says below n alone.
pub of_bits_same :
    (f g : ℕ → Bool) (n : ℕ) → ((k : ℕ) → k < n → f k ≡ g k) → of_bits f n ≡ of_bits g n
unfolding of_bits
of_bits_same f g zero same = refl
of_bits_same f g (suc n) same =
    rw (of_bits_same f g n (λ k h. same k (omega arith)), same n (omega arith))

-- A number with no bit is 0.
no_bits : (b : ℕ) → ((k : ℕ) → bit b k ≡ false) → b ≡ 0
unfolding bit
no_bits =
    bin_ind (λ (b : ℕ). ((k : ℕ) → bit b k ≡ false) → b ≡ 0) (λ none. refl)
    (λ n half none.
    let h : n / 2 ≡ 0 = half (λ k. rw (shr-shr n 1 k) (none (1 + k))) in
    let l : n % 2 ≡ 1 → ⊥ = eqb-false (n % 2) 1 (rw div-one at (none 0)) in
    omega arith)

-- Bits k and up are zero exactly when the number is below 2 ^ k.
pub clear_exactly : (k b : ℕ) → (clear_from k b ≡ true) ↔ ((j : ℕ) → k ≤ j → bit b j ≡ false)
unfolding clear_from bit
clear_exactly k b = (
  λ c j h. bit_above b j (lt_of_lt_of_le (ltb-true b (2 ^ k) c) (pow_mono h)),
  λ none.
      let z : b / 2 ^ k ≡ 0 = no_bits (b / 2 ^ k) (λ j. rw (shr-shr b k j) (none (k + j) (omega arith))) in
      lt-ltb b (2 ^ k) (rw one-mul at ((div-lt_iff_lt-mul {x = b} {y = 1} (pow_pos k)).0 (omega arith))),
)
