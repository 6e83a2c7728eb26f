-- Laws of answers: which refusal of a list comes first.
use Rattle.std.proofs.Common.{ℕ, zero, suc, ◌≤◌, ◌<◌, arith, ◌≡◌, refl, sym, ◌∙◌, ap, Err, Bool, true, false, List, [], ◌∷◌, ◌++◌, eqb, eqb-true}
use Rattle.laws.specs.Lists.{tabulate}
use Rattle.laws.proofs.Tests.{case, tests}
use Rattle.rules.specs.Verdict.{Verdict, Accepted, Refused, number_of, index_of, refused_if, first_of, first_refusal}

-- An answer is an acceptance or a refusal, and never both.
module _ {ℓ} {A : Type ℓ} where
  pub by_verdict : (v : Verdict) → (v ≡ Accepted → A) → ((k i : ℕ) → v ≡ Refused k i → A) → A
  by_verdict Accepted taken refused = taken refl
  by_verdict (Err r) taken refused = refused r.number r.index refl

  pub not_both : {v : Verdict} {k i : ℕ} → v ≡ Accepted → v ≡ Refused k i → A
  not_both a r = let z : ◌≡◌ {A = ℕ} 0 1 = cc in absurd (omega arith)

pub refused_if_lem : (b : Bool) (k i m j : ℕ) → refused_if b k i ≡ Refused m j → (b ≡ true) × (k ≡ m) × (i ≡ j)
refused_if_lem true k i m j e = (refl, ap number_of e, ap index_of e)
refused_if_lem false k i m j e = not_both refl e

pub accepted_if : (b : Bool) (k i : ℕ) → refused_if b k i ≡ Accepted → b ≡ false
accepted_if true k i e = not_both e refl
accepted_if false k i e = refl

-- Two answers in a row.
pub first_accepted : (v w : Verdict) → first_of v w ≡ Accepted → (v ≡ Accepted) × (w ≡ Accepted)
first_accepted Accepted w e = (refl, e)
first_accepted (Err r) w e = not_both e refl

-- The first refusal of two and then of the rest.
pub two_then :
    (a b : Verdict) (vs : List Verdict) {v : Verdict} → v ≡ first_refusal (a ∷ b ∷ [])
    → first_refusal (a ∷ b ∷ vs) ≡ first_of v (first_refusal vs)
unfolding first_refusal
two_then Accepted Accepted vs e = rw e
two_then Accepted (Err r) vs e = rw e
two_then (Err r) b vs e = rw e

first_last : (vs : List Verdict) (v : Verdict) → first_refusal (vs ++ (v ∷ [])) ≡ first_of (first_refusal vs) v
unfolding first_refusal
first_last [] Accepted = refl
first_last [] (Err r) = refl
first_last (Accepted ∷ vs) v = first_last vs v
first_last (Err r ∷ vs) v = refl

-- The first refusal among f 1 to f n, where a refusal by f k has the number k.
module _ (f : ℕ → Verdict) where
  step : (n : ℕ) → first_refusal (tabulate f (suc n)) ≡ first_of (first_refusal (tabulate f n)) (f (suc n))
  unfolding tabulate
  step n = first_last (tabulate f n) (f (suc n))

  pub none_refused : (n : ℕ) → ((k : ℕ) → 1 ≤ k → k ≤ n → f k ≡ Accepted) → first_refusal (tabulate f n) ≡ Accepted
  unfolding tabulate first_refusal
  none_refused zero all = refl
  none_refused (suc n) all =
      step n
      ∙ rw (none_refused n (λ k low high. all k low (omega arith)), all (suc n) (omega arith) (omega arith))

  pub all_accepted : (n : ℕ) → first_refusal (tabulate f n) ≡ Accepted → (k : ℕ) → 1 ≤ k → k ≤ n → f k ≡ Accepted
  all_accepted zero e k low high = absurd (omega arith)
  all_accepted (suc n) e k low high =
      let h = first_accepted (first_refusal (tabulate f n)) (f (suc n)) (sym (step n) ∙ e) in
      case (eqb k (suc n))
      (λ s. rw (eqb-true k (suc n) s) h.1)
      (λ s. all_accepted n h.0 k low (omega tests))

  pub refused_at :
      (n k i : ℕ) → 1 ≤ k → k ≤ n → f k ≡ Refused k i → ((m : ℕ) → 1 ≤ m → m < k → f m ≡ Accepted)
      → first_refusal (tabulate f n) ≡ Refused k i
  refused_at zero k i low high here before = absurd (omega arith)
  refused_at (suc n) k i low high here before =
      step n
      ∙ case (eqb k (suc n))
      (λ s.
      let e : k ≡ suc n = eqb-true k (suc n) s in
      rw (none_refused n (λ m l h. before m l (omega arith)), ← e) here)
      (λ s. rw (refused_at n k i low (omega tests) here before))

  module _ (numbered : (m k i : ℕ) → f m ≡ Refused k i → m ≡ k) where
    pub first_is :
        (n k i : ℕ) → first_refusal (tabulate f n) ≡ Refused k i
        → (1 ≤ k) × (k ≤ n) × (f k ≡ Refused k i) × ((m : ℕ) → 1 ≤ m → m < k → f m ≡ Accepted)
    unfolding tabulate first_refusal
    first_is zero k i e = not_both refl e
    first_is (suc n) k i e =
        let last : first_of (first_refusal (tabulate f n)) (f (suc n)) ≡ Refused k i = sym (step n) ∙ e in
        by_verdict (first_refusal (tabulate f n))
        (λ a.
        let here : f (suc n) ≡ Refused k i = rw a at last in
        let is : suc n ≡ k = numbered (suc n) k i here in
        (omega arith, omega arith, rw is at here, λ m l h. all_accepted n a m l (omega arith)))
        (λ q j r.
        let same : first_refusal (tabulate f n) ≡ Refused k i = r ∙ (rw r at last) in
        let h = first_is n k i same in
        (h.0, omega (arith, h.1), h.2, h.3))
