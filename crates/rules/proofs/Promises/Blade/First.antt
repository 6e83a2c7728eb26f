-- The request's tick in a rested yard: the lease comes to device 1.
use Rattle.std.proofs.Common.{ℕ, ◌≤◌, arith, ◌≡◌, refl, ◌∙◌}
use Rattle.rules.specs.declared.Plan.{Plan}
use Rattle.rules.specs.declared.Yard.{Yard}
use Rattle.rules.specs.declared.Record.{Record}
use Rattle.rules.specs.declared.Base.TheVariants as base
use Rattle.rules.specs.declared.Place.TheVariants as place
use Rattle.rules.specs.Letters as letter
use Rattle.rules.specs.Downs as down
use Rattle.rules.specs.declared.Device.{Device}
use Rattle.rules.specs.Plan.{terms}
use Rattle.rules.specs.Yard.{device}
use Rattle.rules.specs.Tick.{tick}
use Rattle.rules.specs.Tick.Input.{approval, request}
use Rattle.rules.specs.Tick.Step1.{clocked, step1}
use Rattle.rules.specs.Tick.Step3.{goes}
use Rattle.rules.specs.Theorems.{Accepts}
use Rattle.rules.specs.Promises.{Rested, Undisturbed}
use Rattle.rules.proofs.States.Formed.{Formed}
use Rattle.rules.proofs.Ticks.Views.{turn, up, each_used}
use Rattle.rules.proofs.Promises.Blade.Calm.{all_heard}
use Rattle.rules.proofs.Promises.Blade.Rises.{Stands, Rests, request_rises}
use Rattle.rules.proofs.Promises.Blade.Base.{opens}
use Rattle.rules.proofs.Promises.Blade.States.{Asking}
use Rattle.rules.proofs.Promises.Blade.Ticked.{asking}

module _ (p : Plan) (a : Accepts p) (y : Yard) (r : Record) (f : Formed p y) (u : Undisturbed p y r) (rested : Rested p (step1 p y)) (asks : r.command ≡ request) where
  several : 2 ≤ p.N
  several = a.devices.0

  first : 1 ≤ p.N
  first = omega (arith, several)

  all_rest : (i : ℕ) → 1 ≤ i → i ≤ p.N → Rests p i (device y i)
  unfolding step1
  all_rest i low used =
      let same : device (step1 p y) i ≡ clocked p i (device y i) =
      each_used p (clocked p) y (step1 p y) refl i low (omega (arith, a.devices)) used in
      let h = rested.devices i low used in
      record { place = rw same at h.0; clock = rw same at h.1 }

  -- The initializer requests, and the base opens the lease.
  requests : Stands (up p y r p.N) place.Requesting 0 × ((up p y r p.N).letter ≡ letter.Request)
  requests =
      let d : Device = device y p.N in
      let rest = all_rest p.N first (omega arith) in
      request_rises p r p.N d.place d.clock d.letter refl asks rest.place rest.clock

  opened : turn p y r ≡ goes (base.Lease 1) 0 (down.LeaseReq 1)
  unfolding step1
  opened =
      opens (terms p) (approval r) _ _ y.base _ _ u.approved rested.base
      (all_heard p a y r u p.N first (omega arith) ∙ requests.1) rested.clock

  pub asking_first : Asking p (tick p y r) 1
  asking_first = asking p a y r f u 0 several opened (λ j low few. all_rest j low (omega arith)) requests.0
