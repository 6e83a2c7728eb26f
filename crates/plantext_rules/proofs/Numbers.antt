-- A reader that comes through a number, digit by digit.
use Rattle.std.proofs.Common.{ℕ, ◌+◌, ◌-◌, ◌*◌, ◌/◌, ◌%◌, ◌^◌, ◌≤◌, ◌<◌, arith, div-lt_iff_lt-mul, pow-suc, ◌≡◌, refl, ◌∙◌, ap, List, [], ◌∷◌, ◌++◌, length, length-append, lt-ltb, le-leb}
use Rattle.rules.specs.declared.Plan.{Plan}
use Rattle.text_rules.specs.Decimal.{digit, decimal}
use Rattle.text_rules.proofs.Decimals.{one_digit, last_digit, digits_few, digit_by_digit}
use Rattle.plantext_rules.specs.declared.Stand.TheVariants as stand
use Rattle.plantext_rules.specs.declared.Reader.{Reader}
use Rattle.plantext_rules.specs.Reading.{reads, read_on}

pub read_append : (a b : List ℕ) (r : Reader) → read_on r (a ++ b) ≡ read_on (read_on r a) b
unfolding read_on
read_append [] b r = refl
read_append (x ∷ a) b r = read_append a b (reads r x)

module _ (line device field : ℕ) (p : Plan) where
  -- In a number of which so many digits have been read.
  abbrev pub in_number : ℕ → ℕ → Reader
  in_number digits value = record {
    cursor = record { stand = stand.Number; line = line; device = device; field = field; digits = digits; value = value };
    plan = p;
  }

  -- A reader for whom a number begins.
  abbrev pub Begins : Reader → Type 0
  Begins r = (d : ℕ) → d < 10 → reads r (digit d) ≡ in_number 1 d

  another_digit : (k v d : ℕ) → d < 10 → k < 5 → reads (in_number k v) (digit d) ≡ in_number (k + 1) (10 * v + d)
  unfolding reads
  another_digit k v d small few =
      rw (le-leb 48 (48 + d) (omega arith), le-leb (48 + d) 57 (omega arith), lt-ltb k 5 few)
      (ap (λ (w : ℕ). in_number (k + 1) (10 * v + w)) {x = 48 + d - 48} {y = d} (omega arith))

  pub number_read :
      (r : Reader) → Begins r → (n : ℕ) → n < 10 ^ 5 → read_on r (decimal n) ≡ in_number (length (decimal n)) n
  unfolding read_on
  number_read r begins =
      digit_by_digit (λ n. n < 10 ^ 5 → read_on r (decimal n) ≡ in_number (length (decimal n)) n)
      (λ n h low. rw (one_digit n h) (begins n h))
      (λ n h rest low.
      let less : n / 10 < 10 ^ 4 = (div-lt_iff_lt-mul (omega arith)).1 (rw (pow-suc 10 4) at low) in
      let few : length (decimal (n / 10)) ≤ 4 = digits_few 3 (n / 10) less in
      rw (last_digit n h, read_append (decimal (n / 10)) (digit (n % 10) ∷ []) r, rest (omega arith), length-append (decimal (n / 10)) (digit (n % 10) ∷ []))
      (another_digit (length (decimal (n / 10))) (n / 10) (n % 10) (omega arith) (omega arith)
      ∙ ap (in_number (length (decimal (n / 10)) + 1)) {x = 10 * (n / 10) + n % 10} {y = n} (omega arith)))
