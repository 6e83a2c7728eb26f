-- Promises 4 and 6: the base comes back to Fall-Back in time, and then no device is active.
use Rattle.std.proofs.Common.{ℕ, zero, suc, ◌+◌, ◌≤◌, ◌<◌, arith, add-suc, ◌≡◌, refl, List}
use Rattle.rules.specs.declared.Plan.{Plan}
use Rattle.rules.specs.declared.Base.{Base}
use Rattle.rules.specs.declared.Base.TheVariants as base
use Rattle.rules.specs.Plan.{LS}
use Rattle.rules.specs.Numbers.{base_index}
use Rattle.rules.specs.Run.{record_at, after}
use Rattle.rules.specs.Theorems.{Accepts}
use Rattle.rules.specs.Promises.{yard_after, place_at, LeasesEnd, RestIsSafe}
use Rattle.rules.proofs.Plans.Accepted.{accepted_exactly}
use Rattle.rules.proofs.States.Formed.{Based}
use Rattle.rules.proofs.Promises.Stays.Stay.{Idle}
use Rattle.rules.proofs.Promises.Bases.Ticked.{tick_runs}
use Rattle.rules.proofs.Promises.Safe.Always.{always_formed, always_prompt, always_led}

-- Away from Fall-Back the base's place has a device, and the lease clock is below LS.
away : (p : Plan) (b : Base) (c l : ℕ) → Based p b c l → (b ≡ base.FallBack → ⊥) → (1 ≤ base_index b) × (l < LS p)
away p base.FallBack c l h off = absurd (off refl)
away p (base.Lease i) c l h off = (h.0.low, h.0.short)
away p (base.Cancel i) c l h off = (h.0.low, h.0.short)
away p (base.Abort i) c l h off = (h.0.low, h.0.short)

module _ (p : Plan) (a : Accepts p) (roll : List ℕ) where
  abbrev Away : ℕ → Type 0
  Away t = (yard_after p roll t).base ≡ base.FallBack → ⊥

  away_at : (t : ℕ) → Away t → (1 ≤ base_index (yard_after p roll t).base) × ((yard_after p roll t).lease < LS p)
  away_at t off =
      let y = yard_after p roll t in away p y.base y.clock y.lease (always_formed p a roll t).based off

  -- While the base is away its lease clock counts the ticks.
  counts : (t k : ℕ) → ((j : ℕ) → j ≤ k → Away (t + j)) → k ≤ (yard_after p roll (t + k)).lease
  unfolding after
  counts t zero off = omega arith
  counts t (suc k) off =
      let before : k ≤ (yard_after p roll (t + k)).lease = counts t k (λ j h. off j (omega arith)) in
      let was = away_at (t + k) (off k (omega arith)) in
      let is = away_at (suc (t + k)) (rw (add-suc t k) at (off (suc k) (omega arith))) in
      rw (add-suc t k)
      (omega (arith, tick_runs p (yard_after p roll (t + k)) (record_at roll (t + k)) a (always_formed p a roll (t + k)) (always_prompt p a roll (t + k)) was.0 is.0))

pub leases_end : LeasesEnd
leases_end p roll t e off =
    let a : Accepts p = (accepted_exactly p).0 e in
    omega (arith, counts p a roll t (LS p) (λ k h. off k (omega arith)), (away_at p a roll (t + LS p) (off (LS p) (omega arith))).1)

pub rest_is_safe : RestIsSafe
rest_is_safe p roll t i e low high rest =
    let a : Accepts p = (accepted_exactly p).0 e in
    let none : base_index (yard_after p roll t).base ≡ 0 = rw rest in
    let idle : Idle (place_at p roll i t) =
    λ active. omega (arith, (always_led p a roll t).0 i low high active) in
    (λ q. idle (rw q tt), λ q. idle (rw q tt), λ q. idle (rw q tt), λ q. idle (rw q tt))
