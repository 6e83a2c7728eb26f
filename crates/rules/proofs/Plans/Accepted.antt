-- Theorem 1: a plan is accepted exactly when it meets the table.
use Rattle.std.proofs.Common.{ℕ, zero, suc, ◌≤◌, ◌<◌, arith, ◌≡◌, refl, false, leb, eqb, leb-true, eqb-true, lt-ltb, le-leb, eq-eqb}
use Rattle.laws.proofs.Tests.{tests, case, holds, NoneHolds, all_hold, all_of_lem, none_hold, none_of}
use Rattle.rules.specs.declared.Plan.{Plan}
use Rattle.rules.specs.Verdict.{Accepted}
use Rattle.rules.specs.Plan.{slot, empty_slot, is_device, is_pair, is_above}
use Rattle.rules.specs.Table.{line1, line2, line3, line4, line5, line6, line7, line8, line9, table, broken, line_verdict, plan_verdict}
use Rattle.rules.specs.Theorems.{Time, Accepts, AcceptedExactly}
use Rattle.rules.proofs.Answers.{all_accepted, none_refused}
use Rattle.rules.proofs.Plans.Table.{given, kept, time_is, is_time_lem, device_is, is_device_lem, pair_is, is_pair_lem, above_is, is_above_lem, unbroken, no_line, line_accepted, accepted_line}

module _ (p : Plan) where
  -- From the lines, broken nowhere, to what the table asks.
  module _ (u : (k i : ℕ) → i < 9 → broken p k i ≡ false) where
    size : (2 ≤ p.N) × (p.N ≤ 8)
    unfolding broken table line1
    size =
        let h = all_hold _ (given (eqb 0 0) _ (u 1 0 (omega arith)) refl) in
        (leb-true _ _ h.0, leb-true _ _ h.1.0)

    yard_times_lem : Time p.W × Time p.B × Time p.Q
    unfolding broken table line2
    yard_times_lem =
        let h = all_hold _ (given (eqb 0 0) _ (none_hold _ (u 2 0 (omega arith))).0 refl) in
        (time_is _ h.0, time_is _ h.1.0, time_is _ h.1.1.0)

    device_times_lem :
        (i : ℕ) → 1 ≤ i → i ≤ p.N → Time (slot p i).F × Time (slot p i).E × Time (slot p i).R × Time (slot p i).X
    unfolding broken table line2
    device_times_lem i low high =
        let l = none_hold _ (u 2 i (omega (arith, size))) in
        let h = all_hold _ (given (is_device p i) _ l.1.0 (is_device_lem p i low high)) in
        (time_is _ h.0, time_is _ h.1.0, time_is _ h.1.1.0, time_is _ h.1.1.1.0)

    pair_times_lem : (i : ℕ) → 1 ≤ i → i < p.N → Time (slot p i).G × Time (slot p i).S
    unfolding broken table line2
    pair_times_lem i low high =
        let l = none_hold _ (u 2 i (omega (arith, size))) in
        let h = all_hold _ (given (is_pair p i) _ l.1.1.0 (is_pair_lem p i low high)) in
        (time_is _ h.0, time_is _ h.1.0)

    last_spacing_lem : ((slot p p.N).G ≡ 0) × ((slot p p.N).S ≡ 0)
    unfolding broken table line3
    last_spacing_lem =
        let n : ℕ = p.N in
        let l = none_hold _ (u 3 n (omega (arith, size))) in
        let h = all_hold _ (given (eqb n n) _ l.0 (eq-eqb n n refl)) in
        (eqb-true _ _ h.0, eqb-true _ _ h.1.0)

    unused : (i : ℕ) → p.N < i → i ≤ 8 → slot p i ≡ empty_slot
    unfolding broken table line3
    unused i low high =
        let l = none_hold _ (u 3 i (omega arith)) in
        let h = all_hold _ (given (is_above p i) _ l.1.0 (is_above_lem p i low high)) in
        let F : (slot p i).F ≡ 0 = eqb-true _ _ h.0 in
        let E : (slot p i).E ≡ 0 = eqb-true _ _ h.1.0 in
        let R : (slot p i).R ≡ 0 = eqb-true _ _ h.1.1.0 in
        let X : (slot p i).X ≡ 0 = eqb-true _ _ h.1.1.1.0 in
        let G : (slot p i).G ≡ 0 = eqb-true _ _ h.1.1.1.1.0 in
        let S : (slot p i).S ≡ 0 = eqb-true _ _ h.1.1.1.1.1.0 in
        λ j. record { F = F j; E = E j; R = R j; X = X j; G = G j; S = S j }

    -- The conditions c2 to c7 are what the lines test.
    meets : Accepts p
    unfolding broken table line4 line5 line6 line7 line8 line9
    meets =
        record {
          devices = size;
          yard_times = yard_times_lem;
          device_times = device_times_lem;
          pair_times = pair_times_lem;
          last_spacing = last_spacing_lem;
          unused = unused;
          c2 = omega (tests, given (eqb 0 0) _ (u 4 0 (omega arith)) refl);
          c3 = let h = all_hold _ (given (eqb 0 0) _ (u 5 0 (omega arith)) refl) in omega tests;
          c4 = λ i low high. omega (tests, given (is_device p i) _ (u 6 i (omega (arith, size))) (is_device_lem p i low high));
          c5 = λ i low high. omega (tests, given (is_pair p i) _ (u 7 i (omega (arith, size))) (is_pair_lem p i low high));
          c6 = λ i low high. omega (tests, given (is_pair p i) _ (u 8 i (omega (arith, size))) (is_pair_lem p i low high));
          c7 = λ i low high. omega (tests, given (is_pair p i) _ (u 9 i (omega (arith, size))) (is_pair_lem p i low high));
        }

  -- And back: what the table asks keeps every line unbroken.
  module _ (a : Accepts p) where
    times_kept : (i : ℕ) → line2 p i ≡ false
    unfolding line2
    times_kept i =
        let w = a.yard_times in
        none_of _ (
          kept (eqb i 0) _ (λ q. all_of_lem _ (is_time_lem _ w.0, (is_time_lem _ w.1, (is_time_lem _ w.2, tt)))),
          (
            kept (is_device p i) _
                (λ q.
                let d = device_is p i q in
                let s = a.device_times i d.0 d.1 in
                all_of_lem _ (is_time_lem _ s.0, (is_time_lem _ s.1, (is_time_lem _ s.2, (is_time_lem _ s.3, tt))))),
            (
              kept (is_pair p i) _
                  (λ q.
                  let d = pair_is p i q in
                  let s = a.pair_times i d.0 d.1 in
                  all_of_lem _ (is_time_lem _ s.0, (is_time_lem _ s.1, tt))),
              tt,
            ),
          ),
        )

    zeros_kept : (i : ℕ) → line3 p i ≡ false
    unfolding line3
    zeros_kept i =
        none_of _ (
          kept (eqb i p.N) _
              (λ q.
              rw (eqb-true i p.N q)
              (all_of_lem _ (eq-eqb _ _ a.last_spacing.0, (eq-eqb _ _ a.last_spacing.1, tt)))),
          (
            kept (is_above p i) _ (λ q. let d = above_is p i q in rw (a.unused i d.0 d.1) (all_of_lem _ (refl, (refl, (refl, (refl, (refl, (refl, tt)))))))),
            tt,
          ),
        )

    unbroken_lines : (i : ℕ) → NoneHolds (table p i)
    unfolding table line1 line4 line5 line6 line7 line8 line9
    unbroken_lines i = (
      kept (eqb i 0) _ (λ q. all_of_lem _ (le-leb _ _ a.devices.0, (le-leb _ _ a.devices.1, tt))),
      (
        times_kept i,
        (
          zeros_kept i,
          (
            kept (eqb i 0) _ (λ q. holds (λ e. omega (tests, a.c2))),
            (
              kept (eqb i 0) _ (λ q. all_of_lem _ (lt-ltb _ _ a.c3.0, (lt-ltb _ _ a.c3.1, tt))),
              (
                kept (is_device p i) _ (λ q. let d = device_is p i q in holds (λ e. omega (tests, a.c4 i d.0 d.1))),
                (
                  kept (is_pair p i) _ (λ q. let d = pair_is p i q in holds (λ e. omega (tests, a.c5 i d.0 d.1))),
                  (
                    kept (is_pair p i) _ (λ q. let d = pair_is p i q in holds (λ e. omega (tests, a.c6 i d.0 d.1))),
                    (kept (is_pair p i) _ (λ q. let d = pair_is p i q in holds (λ e. omega (tests, a.c7 i d.0 d.1))), tt),
                  ),
                ),
              ),
            ),
          ),
        ),
      ),
    )

  pub accepted_lines : plan_verdict p ≡ Accepted → (k i : ℕ) → i < 9 → broken p k i ≡ false
  unfolding plan_verdict broken
  accepted_lines e zero i h = refl
  accepted_lines e (suc k) i h =
      case (leb (suc k) 9)
      (λ few.
      line_accepted p (suc k)
      (all_accepted (line_verdict p) 9 e (suc k) (omega arith) (leb-true _ _ few)) i h)
      (λ many. no_line p (suc k) i (omega tests))

pub accepted_exactly : AcceptedExactly
unfolding plan_verdict
accepted_exactly p = (
  λ e. meets p (accepted_lines p e),
  λ a. none_refused (line_verdict p) 9 (λ k low high. accepted_line p k (λ i h. unbroken p i (unbroken_lines p a i) k)),
)
