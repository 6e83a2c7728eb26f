-- The history of one device: what it has spent of its stay tells how long it has been and will be engaged.
use Rattle.std.proofs.Common.{ℕ, zero, suc, ◌+◌, ◌-◌, ◌≤◌, ◌<◌, arith, add-suc, ◌≡◌, true, List}
use Rattle.rules.specs.declared.Plan.{Plan}
use Rattle.rules.specs.Plan.{slot}
use Rattle.rules.specs.Yard.{device}
use Rattle.rules.specs.Run.{record_at, after}
use Rattle.rules.specs.Theorems.{Accepts}
use Rattle.rules.specs.Promises.{yard_after, place_at, engaged_at}
use Rattle.rules.proofs.States.Formed.{Placed}
use Rattle.rules.proofs.Promises.Stays.Stay.{Active, engaged_active, some_left, engaged_past, engaged_between}
use Rattle.rules.proofs.Promises.Stays.Ticked.{StepOf, tick_steps}
use Rattle.rules.proofs.Promises.Stays.Steps.{on_active, was_active, stays_engaged}
use Rattle.rules.proofs.Promises.Safe.Clauses.{spent_at}
use Rattle.rules.proofs.Promises.Safe.Always.{fresh_idle, always_formed}

module _ (p : Plan) (a : Accepts p) (roll : List ℕ) (i : ℕ) (low : 1 ≤ i) (used : i ≤ p.N) where
  abbrev active_after : ℕ → Type 0
  active_after t = Active (place_at p roll i t)

  abbrev spent_after : ℕ → ℕ
  spent_after t = spent_at p (yard_after p roll t) i

  abbrev Engaged : ℕ → Type 0
  Engaged t = engaged_at p roll i t ≡ true

  steps : (t : ℕ) → StepOf p (yard_after p roll t) (record_at roll t) i
  steps t = tick_steps p (yard_after p roll t) (record_at roll t) i a (always_formed p a roll t) low used

  placed : (t : ℕ) → Placed p i (place_at p roll i t) (device (yard_after p roll t) i).clock
  placed t = (always_formed p a roll t).placed i low (omega (arith, a.devices)) used

  past : (t : ℕ) → Engaged t → (slot p i).E ≤ spent_after t
  past t is = (engaged_past p i (place_at p roll i t) (device (yard_after p roll t) i).clock is).1

  -- A device that is engaged for k ticks more has spent k ticks more.
  spends : (t k : ℕ) → ((j : ℕ) → j ≤ k → Engaged (t + j)) → (slot p i).E + k ≤ spent_after (t + k)
  unfolding after
  spends t zero all = omega (arith, past (t + 0) (all 0 (omega arith)))
  spends t (suc k) all =
      let before : (slot p i).E + k ≤ spent_after (t + k) = spends t k (λ j h. all j (omega arith)) in
      let is : Engaged (suc (t + k)) = rw (add-suc t k) at (all (suc k) (omega arith)) in
      rw (add-suc t k)
      (on_active (steps (t + k)) (engaged_active (place_at p roll i (suc (t + k))) is)
      (λ new spent age. absurd (omega (arith, past (suc (t + k)) is, (a.device_times i low used).1.low)))
      (λ h more. omega arith))

  -- A device in Running that has been there for k ticks was engaged k ticks before, and not before tick 1.
  pub was_engaged :
      (t k : ℕ) → active_after t → (slot p i).E + k ≤ spent_after t → spent_after t < (slot p i).E + (slot p i).R
      → (k < t) × Engaged (t - k)
  unfolding after
  was_engaged zero k active from to = absurd (fresh_idle p a i low used active)
  was_engaged (suc t) zero active from to =
      let same : suc t - 0 ≡ suc t = omega arith in
      (omega arith, rw same (engaged_between p i (place_at p roll i (suc t)) _ (placed (suc t)) active (omega arith) to))
  was_engaged (suc t) (suc k) active from to =
      let same : suc t - suc k ≡ t - k = omega arith in
      let was = was_active (steps t) active (omega arith) to in
      let before = was_engaged t k was.0 (omega (arith, was.1)) (omega (arith, was.1)) in
      (omega (arith, before.0), rw same before.1)

  -- One that is engaged and not yet in Exiting stays engaged for X ticks at least.
  pub stays_on :
      (t k : ℕ) → Engaged t → spent_after t < (slot p i).E + (slot p i).R → k ≤ (slot p i).X
      → Engaged (t + k) × (spent_after (t + k) < (slot p i).E + (slot p i).R + k)
  unfolding after
  stays_on t zero is few time = let same : t + 0 ≡ t = omega arith in rw same (is, omega arith)
  stays_on t (suc k) is few time =
      let now = stays_on t k is few (omega arith) in
      let next = stays_engaged k (steps (t + k)) now.0 now.1 time in
      rw (add-suc t k) (next.0, omega (arith, next.1))

  -- It is not engaged for more than R + X ticks in a row.
  pub stays_short : (t : ℕ) → ((k : ℕ) → k ≤ (slot p i).R + (slot p i).X → Engaged (t + k)) → ⊥
  stays_short t all =
      let last : ℕ = t + ((slot p i).R + (slot p i).X) in
      let is : Engaged last = all ((slot p i).R + (slot p i).X) (omega arith) in
      omega (
        arith,
        spends t ((slot p i).R + (slot p i).X) all,
        some_left p i (place_at p roll i last) _ (placed last) (engaged_active (place_at p roll i last) is),
      )
