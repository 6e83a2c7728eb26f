-- How the table's lines are read: at an index of its own a line that is not broken gives its condition, and its condition
-- keeps it unbroken. No line is broken beyond the eight slots.
use Rattle.std.proofs.Common.{ℕ, zero, suc, ◌+◌, ◌-◌, ◌≤◌, ◌<◌, arith, ◌≡◌, refl, ap, Bool, true, false, ltb, eqb, get_or, ltb-true, eqb-true, lt-ltb, le-leb}
use lib.ListN.{get_or-eq_default}
use borrow.Author.Tests.{not-false}
use Rattle.laws.specs.Tests.{lowest}
use Rattle.laws.proofs.Tests.{tests, NoneHolds, all_hold, all_of_lem, none_of, none_at, lowest_none, lowest_holds, lowest_is, lowest_is_none}
use Rattle.rules.specs.declared.Plan.{Plan}
use Rattle.rules.specs.Verdict.{Accepted, Refused}
use Rattle.rules.specs.Plan.{slot, empty_slot, is_time, is_device, is_pair, is_above}
use Rattle.rules.specs.Table.{fails, line1, line2, line3, line4, line5, line6, line7, line8, line9, table, broken, line_verdict}
use Rattle.rules.specs.Theorems.{Time}
use Rattle.rules.proofs.Answers.{accepted_if, refused_if_lem}

-- Device i's slot, as the list has it.
pub slot_at : (p : Plan) (k : ℕ) → get_or p.slots k empty_slot ≡ slot p (k + 1)
unfolding slot
slot_at p k = ap (λ (j : ℕ). get_or p.slots j empty_slot) {x = k} {y = k + 1 - 1} (omega arith)

-- A condition, asked at an index.
pub given : (asked holds : Bool) → fails asked holds ≡ false → asked ≡ true → holds ≡ true
unfolding fails
given asked holds e a = not-false holds (rw a at e)

pub kept : (asked holds : Bool) → (asked ≡ true → holds ≡ true) → fails asked holds ≡ false
unfolding fails
kept true holds h = rw (h refl)
kept false holds h = refl

-- Times, and the indices of devices, pairs and unused slots.
pub time_is : (t : ℕ) → is_time t ≡ true → Time t
unfolding is_time
time_is t e = let h = all_hold _ e in omega tests

pub is_time_lem : (t : ℕ) → Time t → is_time t ≡ true
unfolding is_time
is_time_lem t h = all_of_lem _ (le-leb 1 t h.low, (le-leb t 36000 h.high, tt))

module _ (p : Plan) (i : ℕ) where
  pub device_is : is_device p i ≡ true → (1 ≤ i) × (i ≤ p.N)
  unfolding is_device
  device_is e = let h = all_hold _ e in omega tests

  pub is_device_lem : 1 ≤ i → i ≤ p.N → is_device p i ≡ true
  unfolding is_device
  is_device_lem l h = all_of_lem _ (le-leb _ _ l, (le-leb _ _ h, tt))

  pub pair_is : is_pair p i ≡ true → (1 ≤ i) × (i < p.N)
  unfolding is_pair
  pair_is e = let h = all_hold _ e in omega tests

  pub is_pair_lem : 1 ≤ i → i < p.N → is_pair p i ≡ true
  unfolding is_pair
  is_pair_lem l h = all_of_lem _ (le-leb _ _ l, (lt-ltb _ _ h, tt))

  pub above_is : is_above p i ≡ true → (p.N < i) × (i ≤ 8)
  unfolding is_above
  above_is e = let h = all_hold _ e in omega tests

  pub is_above_lem : p.N < i → i ≤ 8 → is_above p i ≡ true
  unfolding is_above
  is_above_lem l h = all_of_lem _ (lt-ltb _ _ l, (le-leb _ _ h, tt))

-- No line, at an index where none of the nine is broken.
module _ (p : Plan) where
  pub unbroken : (i : ℕ) → NoneHolds (table p i) → (k : ℕ) → broken p k i ≡ false
  unfolding broken
  unbroken i h zero = refl
  unbroken i h (suc k) = none_at (table p i) h k

  -- There is no line above 9.
  pub no_line : (k i : ℕ) → 9 < k → broken p k i ≡ false
  unfolding broken table
  no_line zero i h = refl
  no_line (suc k) i h = get_or-eq_default (table p i) false {n = k} (omega arith)

  -- No line is broken beyond the eight slots, where N is at most 8.
  pub beyond : p.N ≤ 8 → (i : ℕ) → 8 < i → (k : ℕ) → broken p k i ≡ false
  unfolding table line1 line2 line3 line4 line5 line6 line7 line8 line9
  beyond few i far =
      let yard : (h : Bool) → fails (eqb i 0) h ≡ false = λ h. kept _ h (λ a. absurd (omega (tests, eqb-true i 0 a))) in
      let last : (h : Bool) → fails (eqb i p.N) h ≡ false =
      λ h. kept _ h (λ a. absurd (omega (tests, eqb-true i p.N a))) in
      let dev : (h : Bool) → fails (is_device p i) h ≡ false = λ h. kept _ h (λ a. absurd (omega (arith, device_is p i a))) in
      let pair : (h : Bool) → fails (is_pair p i) h ≡ false = λ h. kept _ h (λ a. absurd (omega (arith, pair_is p i a))) in
      let above : (h : Bool) → fails (is_above p i) h ≡ false = λ h. kept _ h (λ a. absurd (omega (arith, above_is p i a))) in
      unbroken i (
        yard _,
        (
          none_of _ (yard _, (dev _, (pair _, tt))),
          (none_of _ (last _, (above _, tt)), (yard _, (yard _, (dev _, (pair _, (pair _, (pair _, tt))))))),
        ),
      )

  -- A line's verdict: accepted where it is broken at none of 0 to 8, else refused at its lowest index.
  pub line_accepted : (k : ℕ) → line_verdict p k ≡ Accepted → (i : ℕ) → i < 9 → broken p k i ≡ false
  unfolding line_verdict
  line_accepted k e i h =
      let n : ℕ = lowest (broken p k) 9 in
      let none : ltb n 9 ≡ false = accepted_if (ltb n 9) k n e in
      lowest_none (broken p k) 9 i (omega tests)

  pub accepted_line : (k : ℕ) → ((i : ℕ) → i < 9 → broken p k i ≡ false) → line_verdict p k ≡ Accepted
  unfolding line_verdict
  accepted_line k u = rw (lowest_is_none (broken p k) 9 u)

  pub line_refused :
      (k m i : ℕ) → line_verdict p k ≡ Refused m i
      → (k ≡ m) × (i < 9) × (broken p k i ≡ true) × ((j : ℕ) → j < i → broken p k j ≡ false)
  unfolding line_verdict
  line_refused k m i e =
      let n : ℕ = lowest (broken p k) 9 in
      let h = refused_if_lem (ltb n 9) k n m i e in
      let at : n ≡ i = h.2 in
      let less : n < 9 = ltb-true n 9 h.0 in (
        h.1,
        omega arith,
        rw at at (lowest_holds (broken p k) 9 less),
        λ j l. lowest_none (broken p k) 9 j (omega arith),
      )

  pub refused_line :
      (k i : ℕ) → i < 9 → broken p k i ≡ true → ((j : ℕ) → j < i → broken p k j ≡ false) → line_verdict p k ≡ Refused k i
  unfolding line_verdict
  refused_line k i below here before =
      rw (lowest_is (broken p k) 9 i below here before, lt-ltb i 9 below)
