-- Promise 5: in a rested yard, undisturbed, the blade starts in exactly the tick that is N - 1 + E(N) after the request's.
pub mod Calm
pub mod Rises
pub mod Base
pub mod States
pub mod Ticked
pub mod First
pub mod Onward
pub mod Last
use Rattle.std.proofs.Common.{ℕ, zero, suc, ◌+◌, ◌-◌, ◌≤◌, ◌<◌, arith, add-suc, add-one, ◌≡◌, sym, ◌∙◌, ap, List, ltb}
use Rattle.laws.proofs.Tests.{tests, case}
use Rattle.rules.specs.declared.Plan.{Plan}
use Rattle.rules.specs.declared.Yard.{Yard}
use Rattle.rules.specs.declared.Place.TheVariants as place
use Rattle.rules.specs.Plan.{slot}
use Rattle.rules.specs.Numbers.{place_number}
use Rattle.rules.specs.Tick.Input.{request}
use Rattle.rules.specs.Tick.Step1.{step1}
use Rattle.rules.specs.Run.{record_at, after}
use Rattle.rules.specs.Theorems.{Accepts}
use Rattle.rules.specs.Promises.{yard_after, place_at, Rested, Undisturbed, way_to_blade, BladeStarts}
use Rattle.rules.proofs.Plans.Accepted.{accepted_exactly}
use Rattle.rules.proofs.States.Formed.{Formed}
use Rattle.rules.proofs.Promises.Safe.Always.{always_formed}

module _ (p : Plan) (a : Accepts p) (roll : List ℕ) (t : ℕ) (rested : Rested p (step1 p (yard_after p roll t))) (asks : (record_at roll t).command ≡ request) (calm : (u : ℕ) → t ≤ u → u ≤ t + way_to_blade p → Undisturbed p (yard_after p roll u) (record_at roll u)) where
  abbrev yard : ℕ → Yard
  yard u = yard_after p roll u

  formed : (u : ℕ) → Formed p (yard u)
  formed u = always_formed p a roll u

  -- After i ticks the lease has come to device i.
  asking_at : (i : ℕ) → suc i < p.N → States.Asking p (yard (t + suc i)) (suc i)
  unfolding after
  asking_at zero few =
      rw (add-one t) (First.asking_first p a (yard t) (record_at roll t) (formed t) (calm t (omega arith) (omega arith)) rested asks)
  asking_at (suc i) few =
      let u : ℕ = t + suc i in
      rw (add-suc t (suc i))
      (rw (add-one (suc i)) at
      (Onward.asking_next p a (yard u) (record_at roll u) (formed u) (calm u (omega arith) (omega arith)) (suc i) (omega arith)
      (omega arith) (asking_at i (omega arith)) (omega arith)))

  -- After N ticks the initializer has been granted; it enters for E ticks.
  granted_at : (c : ℕ) → c < (slot p p.N).E → States.Granted p (yard (t + p.N + c)) c
  unfolding after
  granted_at zero few =
      let i : ℕ = p.N - 2 in
      let u : ℕ = t + suc i in
      let several : 2 ≤ p.N = a.devices.0 in
      let end : t + p.N + 0 ≡ suc u = omega arith in
      rw end
      (Onward.granted_first p a (yard u) (record_at roll u) (formed u) (calm u (omega arith) (omega arith)) (suc i) (omega arith)
      (omega arith) (asking_at i (omega arith)) (omega arith))
  granted_at (suc c) few =
      let u : ℕ = t + p.N + c in
      rw (add-suc (t + p.N) c)
      (rw (add-one c) at
      (Last.granted_next p a (yard u) (record_at roll u) (formed u) (calm u (omega arith) (omega (arith, a.devices))) c
      (granted_at c (omega arith)) (omega arith)))

  runs : place_at p roll p.N (t + 1 + way_to_blade p) ≡ place.Running
  unfolding after
  runs =
      let some : 1 ≤ (slot p p.N).E = (a.device_times p.N (omega (arith, a.devices)) (omega arith)).1.low in
      let c : ℕ = (slot p p.N).E - 1 in
      let u : ℕ = t + p.N + c in
      let end : t + 1 + way_to_blade p ≡ suc u = omega (arith, a.devices) in
      rw end
      (Last.granted_runs p a (yard u) (record_at roll u) (formed u) (calm u (omega arith) (omega (arith, a.devices))) c
      (granted_at c (omega arith)) (omega arith))

  not_before : (u : ℕ) → t < u → u < t + 1 + way_to_blade p → place_at p roll p.N u ≡ place.Running → ⊥
  not_before u low high is =
      case (ltb u (t + p.N))
      (λ e.
      let i : ℕ = u - t - 1 in
      let here : u ≡ t + suc i = omega arith in
      let waits : place_at p roll p.N u ≡ place.Requesting = rw here (asking_at i (omega tests)).waits in
      omega (arith, ap place_number (sym waits ∙ is)))
      (λ e.
      let c : ℕ = u - (t + p.N) in
      let here : u ≡ t + p.N + c = omega tests in
      let enters : place_at p roll p.N u ≡ place.Entering = rw here (granted_at c (omega (tests, a.devices))).enters.place in
      omega (arith, ap place_number (sym enters ∙ is)))

pub blade_starts : BladeStarts
blade_starts p roll t e rested asks calm =
    let a : Accepts p = (accepted_exactly p).0 e in
    (runs p a roll t rested asks calm, not_before p a roll t rested asks calm)
