-- An undisturbed tick once the initializer has been granted: the base holds, and the initializer enters on until it runs.
use Rattle.std.proofs.Common.{ℕ, ◌+◌, ◌≤◌, ◌<◌, arith, ◌≡◌, ◌∙◌, ap}
use Rattle.rules.specs.declared.Plan.{Plan}
use Rattle.rules.specs.declared.Yard.{Yard}
use Rattle.rules.specs.declared.Record.{Record}
use Rattle.rules.specs.declared.Base.TheVariants as base
use Rattle.rules.specs.declared.BaseMove.{BaseMove}
use Rattle.rules.specs.declared.Place.{Place}
use Rattle.rules.specs.declared.Place.TheVariants as place
use Rattle.rules.specs.Letters as letter
use Rattle.rules.specs.declared.Device.{Device}
use Rattle.rules.specs.Plan.{slot, terms}
use Rattle.rules.specs.Yard.{device}
use Rattle.rules.specs.Tick.{tick}
use Rattle.rules.specs.Tick.Input.{approval}
use Rattle.rules.specs.Tick.Step1.{place_clock, lease_clock}
use Rattle.rules.specs.Tick.Step3.{heard, stays}
use Rattle.rules.specs.Numbers.{base_index}
use Rattle.rules.specs.Theorems.{Accepts}
use Rattle.rules.specs.Promises.{Undisturbed}
use Rattle.rules.proofs.States.Formed.{Formed}
use Rattle.rules.proofs.Ticks.Views.{risen, turn, up, tick_base, tick_lease}
use Rattle.rules.proofs.Promises.Stays.Hears.{asked, called_off}
use Rattle.rules.proofs.Promises.Bases.Ticked.{lease_runs}
use Rattle.rules.proofs.Promises.Blade.Calm.{all_heard}
use Rattle.rules.proofs.Promises.Blade.Rises.{Stands, enter_rises, run_rises}
use Rattle.rules.proofs.Promises.Blade.Base.{holds}
use Rattle.rules.proofs.Promises.Blade.States.{Granted, stay_fits, silent}
use Rattle.rules.proofs.Promises.Blade.Ticked.{stands_still}

module _ (p : Plan) (a : Accepts p) (y : Yard) (r : Record) (f : Formed p y) (u : Undisturbed p y r) (c : ℕ) (s : Granted p y c) where
  abbrev n : ℕ
  n = p.N

  abbrev next : Yard
  next = tick p y r

  first : 1 ≤ n
  first = omega (arith, a.devices)

  lease_clock_lem : lease_clock y.base y.lease ≡ n + c
  lease_clock_lem = lease_runs y.base y.lease (rw s.base first) ∙ s.lease

  module _ (time : c + 1 ≤ (slot p p.N).E) (quiet : (up p y r p.N).letter ≡ letter.none) where
    own : heard r (risen p y r) (base_index y.base) ≡ letter.none
    own =
        ap (λ (k : ℕ). heard r (risen p y r) k) (ap base_index s.base)
        ∙ all_heard p a y r u n first (omega arith)
        ∙ quiet

    held : turn p y r ≡ stays (base.Lease n) (place_clock (terms p) y.base y.clock) (lease_clock y.base y.lease)
    held =
        holds (terms p) (approval r) _ _ y.base _ _ u.approved n s.base (omega arith)
        (λ over. omega (arith, lease_clock_lem, stay_fits p a, (a.device_times n first (omega arith)).2.low))
        (all_heard p a y r u n first (omega arith) ∙ quiet) own

    stands : (pl : Place) (k : ℕ) → Stands (up p y r n) pl k → Stands (device next n) pl k
    stands pl k h =
        stands_still p a y r f u n first 0 (ap (λ (m : BaseMove). asked m.down) held)
        (ap (λ (m : BaseMove). called_off m.down) held) (λ q. omega (arith, first)) (omega arith) pl k h

  pub granted_next : c + 1 < (slot p p.N).E → Granted p next (c + 1)
  granted_next early =
      let d : Device = device y n in
      let e = enter_rises p r n d.place d.clock d.letter u.not_cancelled s.enters.place (omega (arith, s.enters.clock)) in
      let quiet = e.1 ∙ silent p y a f in
      let e' = stands (omega arith) quiet place.Entering (d.clock + 1) e.0 in
      record {
        base = tick_base p y r ∙ ap (λ (m : BaseMove). m.base) (held (omega arith) quiet);
        lease = omega (arith, tick_lease p y r ∙ ap (λ (m : BaseMove). m.lease) (held (omega arith) quiet), lease_clock_lem);
        enters = record { place = e'.place; clock = omega (arith, e'.clock, s.enters.clock) };
      }

  pub granted_runs : c + 1 ≡ (slot p p.N).E → (device next p.N).place ≡ place.Running
  granted_runs late =
      let d : Device = device y n in
      let e = run_rises p r n d.place d.clock d.letter s.enters.place (omega (arith, s.enters.clock)) in
      (stands (omega arith) (e.1 ∙ silent p y a f) place.Running 0 e.0).place
