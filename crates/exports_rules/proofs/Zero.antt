-- A call that answers 0 was refused for nothing: no refusal has the number 0.
use Rattle.std.proofs.Common.{ℕ, ◌+◌, ◌*◌, ◌≤◌, arith, ◌≡◌, refl, sym, ◌∙◌, ◌⊎◌, inl, inr, Bool, true, false, List, ltb, length}
use Rattle.laws.proofs.Tests.{case, clash}
use Rattle.rules.specs.declared.Plan.{Plan}
use Rattle.rules.specs.Verdict.{Verdict}
use Rattle.rules.specs.Verdict.{Accepted}
use Rattle.rules.specs.Verdict.{number_of, if_accepted}
use Rattle.rules.specs.Table.{broken, table, plan_verdict}
use Rattle.rules.proofs.Answers.{by_verdict, not_both}
use Rattle.rules.proofs.Plans.Refused.{refused_exactly}
use Rattle.planfile_rules.specs.declared.WriteAnswer.{WriteAnswer}
use Rattle.planfile_rules.specs.File.{whole_plan, read_answer}
use Rattle.planfile_rules.specs.Writing.{write_verdict, write_answer}
use Rattle.planfile_rules.proofs.Numbers.{refused_numbers}
use Rattle.exports_rules.specs.Asked.{size_verdict, fits_plan, write_for}
use Rattle.exports_rules.specs.Calls.{Answered}

-- Not for its sizes: 27 is another number.
pub sized_for :
    {A : Type 0} (verdict : A → Verdict) (fits : Bool) (taken refused : A) → verdict refused ≡ size_verdict fits
    → 0 ≡ number_of (verdict (if_accepted (size_verdict fits) taken refused)) → fits ≡ true
unfolding size_verdict
sized_for verdict true taken refused e h = refl
sized_for verdict false taken refused e h = let z : ◌≡◌ {A = ℕ} 0 27 = rw e at h in absurd (omega arith)

-- No line of the table has the number 0.
pub plan_taken : (p : Plan) → 0 ≡ number_of (plan_verdict p) → plan_verdict p ≡ Accepted
unfolding broken table
plan_taken p h =
    by_verdict (plan_verdict p) (λ taken. taken) (λ k i r.
    let zero : 0 ≡ k = rw r at h in
    let none : broken p 0 i ≡ true = rw (← zero) at ((refused_exactly p k i).0 r).here in
    clash none refl)

-- Nor has any refusal of a plan file.
pub file_taken : (file : List ℕ) → 0 ≡ number_of (read_answer file).verdict → (read_answer file).verdict ≡ Accepted
file_taken file h =
    by_verdict (read_answer file).verdict (λ taken. taken) (λ k i r. absurd (never k i (refused_numbers file k i r) (rw r at h)))
  where
    never : (k i : ℕ) → ((14 ≤ k) × (k ≤ 19) × (i ≡ 0)) ⊎ ((2 ≤ k) × (k ≤ 9)) → 0 ≡ k → ⊥
    never k i (inl h) z = omega (arith, h.0)
    never k i (inr h) z = omega (arith, h.0)

-- Nor has any of the writer's.
fits_taken : (p : Plan) (room : ℕ) → 0 ≡ number_of (write_verdict p room) → write_verdict p room ≡ Accepted
unfolding write_verdict
fits_taken p room h =
    by_verdict (plan_verdict p)
    (λ taken.
    case (ltb room (18 + 12 * p.N))
    (λ e. let z : ◌≡◌ {A = ℕ} 0 20 = rw (taken, e) at h in absurd (omega arith))
    (λ e. rw (taken, e)))
    (λ k i r. let zero : 0 ≡ k = rw r at h in not_both (plan_taken p (rw r zero)) r)

pub write_taken :
    (plan : List ℕ) (room : ℕ) → 0 ≡ number_of (write_for plan room).verdict
    → (fits_plan (length plan) ≡ true) × (write_verdict (whole_plan plan) room ≡ Accepted)
unfolding write_for write_answer size_verdict
write_taken plan room h =
    let fits : fits_plan (length plan) ≡ true =
    sized_for (λ (r : WriteAnswer). r.verdict) (fits_plan (length plan)) (write_answer (whole_plan plan) room)
    (record { verdict = size_verdict (fits_plan (length plan)); length = 0 }) refl h in
    (fits, fits_taken (whole_plan plan) room (rw fits at h))

pub zero_written :
    (plan : List ℕ) (room number i : ℕ) → Answered (write_for plan room).verdict number i → number ≡ 0
    → (write_for plan room).verdict ≡ Accepted
unfolding write_for write_answer size_verdict
zero_written plan room number i a z =
    let taken = write_taken plan room (sym z ∙ a.no) in rw (taken.0, taken.1)
