-- Which numbers a file is refused with.
use Rattle.std.proofs.Common.{ℕ, zero, suc, ◌+◌, ◌≤◌, arith, ◌≡◌, refl, sym, ◌∙◌, ap, ◌⊎◌, inl, inr, Bool, true, false, not, ◌||◌, List, leb, ltb, eqb, length, eqb-true, leb-true, le-leb}
use Rattle.laws.proofs.Tests.{tests, case, clash, all_of_lem}
use Rattle.rules.specs.declared.Plan.{Plan}
use Rattle.rules.specs.Verdict.{Verdict}
use Rattle.rules.specs.Verdict.{Refused}
use Rattle.rules.specs.Verdict.{refused_if, first_of, first_refusal}
use Rattle.rules.specs.Table.{line1, table, broken, plan_verdict}
use Rattle.rules.proofs.Answers.{by_verdict, not_both, refused_if_lem}
use Rattle.rules.proofs.Plans.Table.{kept, no_line}
use Rattle.rules.proofs.Plans.Refused.{refused_exactly}
use Rattle.planfile_rules.specs.declared.Trailer.{Trailer}
use Rattle.numbers.specs.Bytes.{num16}
use Rattle.planfile_rules.specs.File.{the_mark, trailer_of, body_at, devices_for, is_body_size, plan_in, trailer_verdict, body_verdict, answer_of, read_answer}
use Rattle.planfile_rules.specs.Theorems.{RefusedNumbers}
use Rattle.planfile_rules.proofs.Trailers.{devices_back, trailer_holds}

-- A refusal of the file itself, and one of its plan.
abbrev OfFile : ℕ → ℕ → Type 0
OfFile k i = (14 ≤ k) × (k ≤ 19) × (i ≡ 0)

abbrev OfPlan : ℕ → Type 0
OfPlan k = (2 ≤ k) × (k ≤ 9)

-- One refusal of a chain, and the rest of it.
module _ {A : Type 0} (n : ℕ) (k i : ℕ) (here : n ≡ k → i ≡ 0 → A) where
  number_or : (b : Bool) (v : Verdict) → (v ≡ Refused k i → A) → first_of (refused_if b n 0) v ≡ Refused k i → A
  number_or true v rest e = let h = refused_if_lem true n 0 k i e in here h.1 (sym h.2)
  number_or false v rest e = rest e

of_file : {n k i : ℕ} → 14 ≤ n → n ≤ 19 → n ≡ k → i ≡ 0 → OfFile k i
of_file low high e z = (omega arith, omega arith, z)

trailer_numbers : (len : ℕ) (t : Trailer) (k i : ℕ) → trailer_verdict len t ≡ Refused k i → OfFile k i
unfolding trailer_verdict first_refusal
trailer_numbers len t k i =
    number_or 14 k i (of_file (omega arith) (omega arith)) (ltb len 42 || ltb 65536 len) _
    (number_or 15 k i (of_file (omega arith) (omega arith)) (not (eqb t.mark the_mark)) _
    (number_or 16 k i (of_file (omega arith) (omega arith)) (not (eqb t.version 1)) _
    (number_or 17 k i (of_file (omega arith) (omega arith)) (not (is_body_size t.size)) _
    (number_or 18 k i (of_file (omega arith) (omega arith)) (ltb t.back (t.size + 10) || ltb len t.back) _ (λ e. not_both refl e)))))

-- The plan check's number, where N is 2 to 8.
module _ (p : Plan) (low : 2 ≤ p.N) (high : p.N ≤ 8) where
  broken_numbers : (k i : ℕ) → broken p k i ≡ true → OfPlan k
  unfolding broken table line1
  broken_numbers zero i e = clash e refl
  broken_numbers (suc zero) i e =
      clash e (kept (eqb i 0) _ (λ q. all_of_lem _ (le-leb 2 p.N low, (le-leb p.N 8 high, tt))))
  broken_numbers (suc (suc k)) i e = (
    omega arith,
    case (leb (suc (suc k)) 9) (leb-true _ 9) (λ q. clash e (no_line p (suc (suc k)) i (omega tests))),
  )

  plan_numbers : (k i : ℕ) → plan_verdict p ≡ Refused k i → OfPlan k
  plan_numbers k i e = broken_numbers k i ((refused_exactly p k i).0 e).here

body_numbers : (n : ℕ) (body : List ℕ) (k i : ℕ) → 2 ≤ n → n ≤ 8 → body_verdict n body ≡ Refused k i → OfFile k i ⊎ OfPlan k
unfolding body_verdict plan_in
body_numbers n body k i low high e =
    case (eqb (num16 body 0) n)
    (λ q.
    let same : num16 body 0 ≡ n = eqb-true (num16 body 0) n q in
    inr (plan_numbers (plan_in n body) (rw same low) (rw same high) k i (rw q at e)))
    (λ q.
    let h = refused_if_lem true 19 0 k i (rw q at e) in
    inl (of_file (omega arith) (omega arith) h.1 (sym h.2)))

pub refused_numbers : RefusedNumbers
unfolding read_answer answer_of
refused_numbers file k i e =
    let t : Trailer = trailer_of file in
    by_verdict (trailer_verdict (length file) t)
    (λ taken.
    let h = trailer_holds (length file) t taken in
    let n : devices_for t.size ≡ h.devices.0 = ap devices_for h.devices.3 ∙ devices_back h.devices.0 in
    body_numbers (devices_for t.size) (body_at t file) k i
    (rw n h.devices.1) (rw n h.devices.2) (rw taken at e))
    (λ m j refused. inl (trailer_numbers (length file) t k i (refused ∙ rw refused at e)))
