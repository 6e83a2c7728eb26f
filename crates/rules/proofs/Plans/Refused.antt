-- Theorem 2: a plan is refused with the first line that it breaks, at that line's lowest index.
use Rattle.std.proofs.Common.{ℕ, zero, suc, ◌≤◌, ◌<◌, arith, ◌≡◌, refl, true, false, leb, ltb, eqb, ltb-true, leb-true, eqb-true}
use Rattle.laws.proofs.Tests.{tests, case, clash, all_hold}
use Rattle.rules.specs.declared.Plan.{Plan}
use Rattle.rules.specs.Verdict.{Accepted, Refused}
use Rattle.rules.specs.Table.{line1, table, broken, line_verdict, plan_verdict}
use Rattle.rules.specs.Theorems.{FirstBroken, RefusedExactly}
use Rattle.rules.proofs.Answers.{first_is, refused_at}
use Rattle.rules.proofs.Plans.Table.{given, kept, beyond, no_line, line_accepted, accepted_line, line_refused, refused_line}

module _ (p : Plan) where
  few_devices : broken p 1 0 ≡ false → p.N ≤ 8
  unfolding broken table line1
  few_devices e = leb-true _ _ (all_hold _ (given (eqb 0 0) _ e refl)).1.0

  -- Line 1 is asked at index 0 alone.
  only_zero : (i : ℕ) → broken p 1 i ≡ true → i ≡ 0
  unfolding broken table line1
  only_zero i e = case (eqb i 0) (eqb-true i 0) (λ q. clash e (kept (eqb i 0) _ (λ r. clash r q)))

  -- A line before which line 1 is not broken has all its indices below 9.
  in_range : (k i : ℕ) → broken p k i ≡ true → ((m j : ℕ) → m < k → broken p m j ≡ false) → (1 ≤ k) × (k ≤ 9) × (i < 9)
  unfolding broken
  in_range zero i here before = clash here refl
  in_range (suc zero) i here before = (omega arith, omega arith, omega (arith, only_zero i here))
  in_range (suc (suc k)) i here before =
      let few : p.N ≤ 8 = few_devices (before 1 0 (omega arith)) in (
        omega arith,
        case (leb (suc (suc k)) 9) (leb-true _ 9) (λ q. clash here (no_line p (suc (suc k)) i (omega tests))),
        case (ltb i 9) (ltb-true i 9) (λ q. clash here (beyond p few i (omega tests) (suc (suc k)))),
      )

  earlier : (k : ℕ) → ((m : ℕ) → 1 ≤ m → m < k → line_verdict p m ≡ Accepted) → (m j : ℕ) → m < k → broken p m j ≡ false
  unfolding broken
  earlier k all zero j h = refl
  earlier k all (suc m) j h =
      let few : p.N ≤ 8 = few_devices (line_accepted p 1 (all 1 (omega arith) (omega arith)) 0 (omega arith)) in
      case (ltb j 9)
      (λ q. line_accepted p (suc m) (all (suc m) (omega arith) h) j (ltb-true j 9 q))
      (λ q. beyond p few j (omega tests) (suc m))

  first_broken : (k i : ℕ) → plan_verdict p ≡ Refused k i → FirstBroken p k i
  unfolding plan_verdict
  first_broken k i e =
      let h = first_is (line_verdict p) (λ m q j r. (line_refused p m q j r).0) 9 k i e in
      let l = line_refused p k k i h.2 in
      record { here = l.2; no_line_before = earlier k h.3; no_lower_index = l.3 }

  is_refused : (k i : ℕ) → FirstBroken p k i → plan_verdict p ≡ Refused k i
  unfolding plan_verdict
  is_refused k i f =
      let r = in_range k i f.here f.no_line_before in
      refused_at (line_verdict p) 9 k i r.0 r.1
      (refused_line p k i r.2 f.here f.no_lower_index)
      (λ m low high. accepted_line p m (λ j h. f.no_line_before m j high))

pub refused_exactly : RefusedExactly
refused_exactly p k i = (first_broken p k i, is_refused p k i)
