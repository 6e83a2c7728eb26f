-- Laws of numbers in decimal: the last digit taken off, how many digits there are, and what they stand for.
use Rattle.std.proofs.Common.{ℕ, zero, suc, ◌+◌, ◌-◌, ◌*◌, ◌/◌, ◌%◌, ◌^◌, ◌≤◌, ◌<◌, arith, div-lt_iff_lt-mul, pow-suc, ◌≡◌, refl, List, [], ◌∷◌, ◌++◌, ltb, length, get_or, length-append, lt-ltb, le-ltb, ltb-true, ltb-false}
use lib.ListN.{get_or-append}
use Rattle.laws.proofs.Tests.{case, tests}
use Rattle.text_rules.specs.Decimal.{digit, digits, decimal, read_on, number_of}
use Rattle.text_rules.specs.Theorems.{DecimalBack, NoZeroInFront, DigitsFew}

-- Turns enough are as good as any other number of them.
enough : (a b n : ℕ) → n < a → n < b → digits a n ≡ digits b n
unfolding digits
enough zero b n h k = absurd (omega arith)
enough (suc a) zero n h k = absurd (omega arith)
enough (suc a) (suc b) n h k =
    case (ltb n 10)
    (λ e. rw e)
    (λ e.
    let more : 10 ≤ n = ltb-false _ _ e in
    rw (e, enough a b (n / 10) (omega arith) (omega arith)))

pub one_digit : (n : ℕ) → n < 10 → decimal n ≡ digit n ∷ []
unfolding decimal digits
one_digit n h = rw (lt-ltb n 10 h)

pub last_digit : (n : ℕ) → 10 ≤ n → decimal n ≡ decimal (n / 10) ++ (digit (n % 10) ∷ [])
unfolding decimal digits
last_digit n h = rw (le-ltb n 10 h, enough n (suc (n / 10)) (n / 10) (omega arith) (omega arith))

pub digits_few : DigitsFew
digits_few zero n h = rw (one_digit n h) (omega arith)
digits_few (suc k) n h =
    case (ltb n 10)
    (λ e. rw (one_digit n (omega tests)) (omega arith))
    (λ e.
    let less : n / 10 < 10 ^ suc k = (div-lt_iff_lt-mul (omega arith)).1 (rw (pow-suc 10 (suc k)) at h) in
    let rest = digits_few k (n / 10) less in
    rw (last_digit n (omega tests), length-append (decimal (n / 10)) (digit (n % 10) ∷ [])) (omega arith))

-- What holds of one digit, and of a number if of that without its last digit, holds of every number.
module _ (P : ℕ → Type 0) (one : (n : ℕ) → n < 10 → P n) (more : (n : ℕ) → 10 ≤ n → P (n / 10) → P n) where
  below : (turns n : ℕ) → n < turns → P n
  below zero n h = absurd (omega arith)
  below (suc turns) n h =
      case (ltb n 10)
      (λ e. one n (ltb-true _ _ e))
      (λ e.
      let some : 10 ≤ n = ltb-false _ _ e in
      more n some (below turns (n / 10) (omega arith)))

  pub digit_by_digit : (n : ℕ) → P n
  digit_by_digit n = below (suc n) n (omega arith)

read_last : (before d : ℕ) (ds : List ℕ) → read_on before (ds ++ (d ∷ [])) ≡ 10 * read_on before ds + (d - digit 0)
unfolding read_on
read_last before d [] = refl
read_last before d (e ∷ ds) = read_last (10 * before + (e - digit 0)) d ds

pub decimal_back : DecimalBack
unfolding number_of read_on
decimal_back =
    digit_by_digit (λ n. number_of (decimal n) ≡ n)
    (λ n h. rw (one_digit n h) (omega arith))
    (λ n h back. rw (last_digit n h, read_last 0 (digit (n % 10)) (decimal (n / 10)), back) (omega arith))

some_digit : (n : ℕ) → 0 < length (decimal n)
some_digit =
    digit_by_digit (λ n. 0 < length (decimal n))
    (λ n h. rw (one_digit n h) (omega arith))
    (λ n h some. rw (last_digit n h, length-append (decimal (n / 10)) (digit (n % 10) ∷ [])) (omega arith))

front_is : (n : ℕ) → 1 ≤ n → 49 ≤ get_or (decimal n) 0 0
front_is =
    digit_by_digit (λ n. 1 ≤ n → 49 ≤ get_or (decimal n) 0 0)
    (λ n h some. rw (one_digit n h) (omega arith))
    (λ n h front some.
    rw (last_digit n h, get_or-append (decimal (n / 10)) (digit (n % 10) ∷ []) 0 0 (some_digit (n / 10))) (front (omega arith)))

pub no_zero_in_front : NoZeroInFront
no_zero_in_front n some e = omega (arith, front_is n some)
