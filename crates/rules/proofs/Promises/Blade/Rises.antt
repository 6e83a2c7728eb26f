-- Steps 1 and 2 of the devices on the way to the blade: one that rests goes on resting, one that has approved still says so,
-- and the initializer requests, waits, enters and runs.
use Rattle.std.proofs.Common.{Option, ℕ, ◌+◌, ◌<◌, arith, ◌≡◌, refl, eqb, eq-eqb, ne_eqb}
use Rattle.laws.proofs.Tests.{on_cond}
use Rattle.rules.specs.declared.Plan.{Plan}
use Rattle.rules.specs.declared.Place.{Place}
use Rattle.rules.specs.declared.Place.TheVariants as place
use Rattle.rules.specs.declared.Letter.{Letter}
use Rattle.rules.specs.Letters as letter
use Rattle.rules.specs.declared.Device.{Device}
use Rattle.rules.specs.declared.Record.{Record}
use Rattle.rules.specs.Plan.{slot}
use Rattle.rules.specs.Yard.{at}
use Rattle.rules.specs.Tick.Input.{request, cancel}
use Rattle.rules.specs.Tick.Step1.{device_clock, clocked}
use Rattle.rules.specs.Tick.Step2.{heed, moved, moved_at}
use Rattle.rules.proofs.Promises.Stays.Moves.{on_heed}

-- A device stands in a place, with a clock.
pub record Stands (d : Device) (pl : Place) (c : ℕ) : Type 0 where
  pub place : d.place ≡ pl
  pub clock : d.clock ≡ c

-- A device in Fall-Back that has rested once its clock has moved on.
pub record Rests (p : Plan) (i : ℕ) (d : Device) : Type 0 where
  pub place : d.place ≡ place.FallBack
  pub clock : device_clock (slot p i) d.place d.clock ≡ (slot p i).F

module _ (p : Plan) (r : Record) (i : ℕ) (pl : Place) (c : ℕ) (l : Option Letter) where
  abbrev risen : Device
  risen = moved_at p r i (clocked p i (at pl c l))

  pub rest_rises : i < p.N → pl ≡ place.FallBack → device_clock (slot p i) pl c ≡ (slot p i).F → Stands risen place.FallBack (slot p i).F
  unfolding moved
  rest_rises few here rested = rw (here, ne_eqb i p.N (λ q. omega arith)) (record { place = refl; clock = rw here at rested })

  pub request_rises :
      i ≡ p.N → r.command ≡ request → pl ≡ place.FallBack → device_clock (slot p i) pl c ≡ (slot p i).F
      → Stands risen place.Requesting 0 × (risen.letter ≡ letter.Request)
  unfolding moved heed
  request_rises last asks here rested = rw (here, eq-eqb i p.N last, asks, rw here at rested, eq-eqb (slot p i).F (slot p i).F refl) (record { place = refl; clock = refl }, refl)

  pub approve_rises : i < p.N → pl ≡ place.Entering → l ≡ letter.Approve → risen.letter ≡ letter.Approve
  unfolding moved
  approve_rises few here said =
      rw (here, ne_eqb i p.N (λ q. omega arith))
      (on_cond (λ (d : Device). d.letter ≡ letter.Approve) (eqb (device_clock (slot p i) place.Entering c) (slot p i).E) (λ e. said) (λ e. said))

  -- The initializer goes on as long as nothing is due for it and it is not told to cancel.
  module _ (calm : r.command ≡ cancel → ⊥) where
    pub wait_rises :
        pl ≡ place.Requesting → c + 1 < p.Q → Stands risen place.Requesting (c + 1) × (risen.letter ≡ l)
    unfolding moved
    wait_rises here early =
        rw (here, ne_eqb (c + 1) p.Q (λ q. omega arith))
        (on_heed p i r (λ (d : Device). Stands d place.Requesting (c + 1) × (d.letter ≡ l)) (at place.Requesting (c + 1) l)
        (record { place = refl; clock = refl }, refl) (record { place = refl; clock = refl }, refl)
        (λ last told. absurd (calm told)))

    pub enter_rises :
        pl ≡ place.Entering → c + 1 < (slot p i).E → Stands risen place.Entering (c + 1) × (risen.letter ≡ l)
    unfolding moved
    enter_rises here early =
        rw (here, ne_eqb (c + 1) (slot p i).E (λ q. omega arith))
        (on_heed p i r (λ (d : Device). Stands d place.Entering (c + 1) × (d.letter ≡ l)) (at place.Entering (c + 1) l)
        (record { place = refl; clock = refl }, refl) (record { place = refl; clock = refl }, refl)
        (λ last told. absurd (calm told)))

  pub run_rises : pl ≡ place.Entering → c + 1 ≡ (slot p i).E → Stands risen place.Running 0 × (risen.letter ≡ l)
  unfolding moved
  run_rises here late = rw (here, eq-eqb (c + 1) (slot p i).E late) (record { place = refl; clock = refl }, refl)
