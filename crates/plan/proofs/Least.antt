-- The least of f 0 to f n, and the lowest index that has it: what one pass over the indices keeps.
use Rattle.std.proofs.Common.{ltb, ℕ, zero, suc, ◌+◌, ◌≤◌, ◌<◌, arith, add-one, ◌≡◌, refl, sym, true, false, cond, Option, None, Some, eqb, eqb-true}
use Rattle.std.proofs.lemmas.Bool.{false≢true}
use lib.Arith.{le-zero}
use Rattle.laws.proofs.Tests.{tests, case}
use Rattle.rules.specs.declared.Refusal.{Refusal}
use Rattle.plan.specs.Places.{lower}
use Rattle.plan.proofs.Lines.{as_line, InTable}

-- What has been found, after one more index: the lower line, and of two that are the same the one that was found before.
abbrev pub refusal_at : Option ℕ → ℕ → Option Refusal
refusal_at None i = None
refusal_at (Some k) i = Some (record { number = k; index = i })

abbrev pub first_of_two : Option Refusal → Option ℕ → ℕ → Option Refusal
first_of_two found None i = found
first_of_two None (Some k) i = Some (record { number = k; index = i })
first_of_two (Some r) (Some k) i = cond (ltb k r.number) (Some (record { number = k; index = i })) (Some r)

taken : (found line : Option ℕ) (at i : ℕ) → lower found line ≡ true → first_of_two (refusal_at line at) found i ≡ refusal_at found i
taken None line at i e = absurd (false≢true e)
taken (Some a) None at i e = refl
taken (Some a) (Some b) at i e = rw e refl

kept : (found line : Option ℕ) (at i : ℕ) → lower found line ≡ false → first_of_two (refusal_at line at) found i ≡ refusal_at line at
kept None line at i e = refl
kept (Some a) None at i e = absurd (false≢true (sym e))
kept (Some a) (Some b) at i e = rw e refl

-- At its index f has it, that index is at most n, it is no more than any, and less than all before.
pub record Least (f : ℕ → ℕ) (n l a : ℕ) : Type 0 where
  pub has : f a ≡ l
  pub within : a ≤ n
  pub most : (j : ℕ) → j ≤ n → l ≤ f j
  pub first : (j : ℕ) → j < a → l < f j

-- One more index: no less than what was found, or less than all before.
module _ (f : ℕ → ℕ) (n : ℕ) where
  stands : (l a : ℕ) → Least f n l a → l ≤ f (suc n) → Least f (suc n) l a
  stands l a h le =
      record {
        has = h.has;
        within = omega (arith, h.within);
        most = λ j low.
            case (eqb j (suc n)) (λ e. rw (eqb-true j (suc n) e) le) (λ e. h.most j (omega tests));
        first = h.first;
      }

  falls : (l : ℕ) → f (suc n) ≡ l → ((j : ℕ) → j ≤ n → l < f j) → Least f (suc n) l (suc n)
  falls l e less =
      record {
        has = e;
        within = omega arith;
        most = λ j low.
            case (eqb j (suc n)) (λ q. rw (eqb-true j (suc n) q) (omega arith)) (λ q. omega (tests, less j (omega tests)));
        first = λ j low. less j (omega arith);
      }

-- What has been found after the indices 0 to n: no line at any of them, or the least line at its lowest index.
abbrev pub IsLowest : (ℕ → ℕ) → ℕ → Option Refusal → Type 0
IsLowest f n None = Least f n 10 0
IsLowest f n (Some r) = (r.number ≤ 9) × Least f n r.number r.index

alone : (f : ℕ → ℕ) (l : ℕ) → f 0 ≡ l → Least f 0 l 0
alone f l e =
    record {
      has = e;
      within = omega arith;
      most = λ j low. rw (le-zero low) (omega arith);
      first = λ j low. absurd (omega arith);
    }

begins : (f : ℕ → ℕ) (line : Option ℕ) → f 0 ≡ as_line line → InTable line → IsLowest f 0 (first_of_two None line 0)
begins f None e small = alone f 10 e
begins f (Some k) e small = (small, alone f k e)

goes_on :
    (f : ℕ → ℕ) (n : ℕ) (found : Option Refusal) (line : Option ℕ)
    → f (suc n) ≡ as_line line → InTable line → IsLowest f n found → IsLowest f (suc n) (first_of_two found line (suc n))
goes_on f n None None e small h = stands f n 10 0 h (omega arith)
goes_on f n (Some r) None e small h = (h.0, stands f n r.number r.index h.1 (omega (arith, h.0)))
goes_on f n None (Some k) e small h = (small, falls f n k e (λ j low. omega (arith, h.most j low)))
goes_on f n (Some r) (Some k) e small h =
    case (ltb k r.number)
    (λ q. rw q (small, falls f n k e (λ j low. omega (tests, h.1.most j low))))
    (λ q. rw q (h.0, stands f n r.number r.index h.1 (omega tests)))

-- The pass over the indices.
unfoldable pub lowest_of : (ℕ → Option ℕ) → ℕ → Option Refusal
lowest_of f zero = first_of_two None (f 0) 0
lowest_of f (suc n) = first_of_two (lowest_of f n) (f (suc n)) (suc n)

pub starts : (f : ℕ → Option ℕ) (line : Option ℕ) → line ≡ f 0 → refusal_at line 0 ≡ lowest_of f 0
unfolding lowest_of
starts f None e = rw (sym e) refl
starts f (Some k) e = rw (sym e) refl

module _
    (f : ℕ → Option ℕ) (n at : ℕ) (line found : Option ℕ)
    (line_is : refusal_at line at ≡ lowest_of f n)
    (found_is : found ≡ f (suc n))
  where
    pub one_lower : lower found line ≡ true → refusal_at found (n + 1) ≡ lowest_of f (n + 1)
    unfolding lowest_of
    one_lower e = rw (add-one n, sym line_is, sym found_is) (sym (taken found line at (suc n) e))

    pub one_not_lower : lower found line ≡ false → refusal_at line at ≡ lowest_of f (n + 1)
    unfolding lowest_of
    one_not_lower e = rw (add-one n, sym line_is, sym found_is) (sym (kept found line at (suc n) e))

pub lowest_is :
    (f : ℕ → Option ℕ) → ((j : ℕ) → InTable (f j)) → (n : ℕ) → IsLowest (λ j. as_line (f j)) n (lowest_of f n)
unfolding lowest_of
lowest_is f small zero = begins (λ j. as_line (f j)) (f 0) refl (small 0)
lowest_is f small (suc n) =
    goes_on (λ j. as_line (f j)) n (lowest_of f n) (f (suc n)) refl (small (suc n)) (lowest_is f small n)
