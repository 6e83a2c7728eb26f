-- An undisturbed tick while the lease is on its way: it comes to the next device, and from the last participant to the
-- initializer.
use Rattle.std.proofs.Common.{ℕ, ◌+◌, ◌≤◌, ◌<◌, arith, ◌≡◌, ◌∙◌, ap, eq-eqb, ne_eqb}
use Rattle.rules.specs.declared.Plan.{Plan}
use Rattle.rules.specs.declared.Yard.{Yard}
use Rattle.rules.specs.declared.Record.{Record}
use Rattle.rules.specs.declared.BaseMove.{BaseMove}
use Rattle.rules.specs.declared.Place.TheVariants as place
use Rattle.rules.specs.Letters as letter
use Rattle.rules.specs.Downs as down
use Rattle.rules.specs.declared.Device.{Device}
use Rattle.rules.specs.Plan.{terms}
use Rattle.rules.specs.Yard.{device}
use Rattle.rules.specs.Tick.{tick}
use Rattle.rules.specs.Tick.Input.{approval}
use Rattle.rules.specs.Tick.Step1.{lease_clock}
use Rattle.rules.specs.Tick.Step3.{heard, leases}
use Rattle.rules.specs.Numbers.{base_index}
use Rattle.rules.specs.Theorems.{Accepts}
use Rattle.rules.specs.Promises.{Undisturbed}
use Rattle.rules.proofs.States.Formed.{Formed}
use Rattle.rules.proofs.Ticks.Views.{risen, turn, up, tick_base, tick_lease}
use Rattle.rules.proofs.Promises.Bases.Ticked.{lease_runs}
use Rattle.rules.proofs.Promises.Blade.Calm.{all_heard}
use Rattle.rules.proofs.Promises.Blade.Rises.{Stands, approve_rises, wait_rises}
use Rattle.rules.proofs.Promises.Blade.Base.{goes_on}
use Rattle.rules.proofs.Promises.Blade.States.{Asking, Granted, wait_fits, stay_fits, silent}
use Rattle.rules.proofs.Promises.Blade.Ticked.{enters_granted, asking}

module _ (p : Plan) (a : Accepts p) (y : Yard) (r : Record) (f : Formed p y) (u : Undisturbed p y r) (i : ℕ) (low : 1 ≤ i) (few : i < p.N) (s : Asking p y i) where
  abbrev next : Yard
  next = tick p y r

  first : 1 ≤ p.N
  first = omega arith

  lease_clock_lem : lease_clock y.base y.lease ≡ i
  lease_clock_lem = lease_runs y.base y.lease (rw s.base low) ∙ s.lease

  -- The initializer waits on, since Q is longer than one tick a device.
  waiting : Stands (up p y r p.N) place.Requesting ((device y p.N).clock + 1) × ((up p y r p.N).letter ≡ letter.none)
  waiting =
      let d : Device = device y p.N in
      let w =
      wait_rises p r p.N d.place d.clock d.letter u.not_cancelled s.waits
      (omega (arith, s.waited, wait_fits p a)) in
      (w.0, w.1 ∙ silent p y a f)

  approved : heard r (risen p y r) (base_index y.base) ≡ letter.Approve
  approved =
      let d : Device = device y i in
      ap (λ (k : ℕ). heard r (risen p y r) k) (ap base_index s.base)
      ∙ all_heard p a y r u i low (omega arith)
      ∙ approve_rises p r i d.place d.clock d.letter few s.enters s.approves

  onward : turn p y r ≡ leases (terms p) i (lease_clock y.base y.lease)
  onward =
      goes_on (terms p) (approval r) _ _ y.base _ _ u.approved i s.base few
      (λ over. omega (arith, lease_clock_lem, stay_fits p a, (a.device_times p.N first (omega arith)).1.low))
      (all_heard p a y r u p.N first (omega arith) ∙ waiting.1) approved

  pub asking_next : i + 1 < p.N → Asking p next (i + 1)
  asking_next more =
      asking p a y r f u i more (onward ∙ rw (lease_clock_lem, ne_eqb (i + 1) p.N (λ q. omega arith)))
      s.rests (record { place = waiting.0.place; clock = waiting.0.clock ∙ s.waited })

  pub granted_first : i + 1 ≡ p.N → Granted p next 0
  granted_first last =
      let grant : (turn p y r).down ≡ down.Grant p.N =
      ap (λ (m : BaseMove). m.down) onward ∙ rw (eq-eqb (i + 1) p.N last, last) in
      record {
        base = tick_base p y r ∙ ap (λ (m : BaseMove). m.base) onward ∙ rw last;
        lease = omega (arith, tick_lease p y r ∙ ap (λ (m : BaseMove). m.lease) onward, lease_clock_lem);
        enters = enters_granted p a y r f u p.N first (omega arith) grant waiting.0.place;
      }
