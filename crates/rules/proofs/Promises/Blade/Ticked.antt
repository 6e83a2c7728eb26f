-- One undisturbed tick of a device on the way to the blade: asked, it enters; not asked, it stands as it stood when the
-- letters went up.
use Rattle.std.proofs.Common.{ℕ, ◌+◌, ◌≤◌, ◌<◌, arith, ◌≡◌, ◌∙◌, ap}
use Rattle.rules.specs.declared.Plan.{Plan}
use Rattle.rules.specs.declared.Yard.{Yard}
use Rattle.rules.specs.declared.Record.{Record}
use Rattle.rules.specs.declared.Base.TheVariants as base
use Rattle.rules.specs.declared.BaseMove.{BaseMove}
use Rattle.rules.specs.declared.Place.{Place}
use Rattle.rules.specs.declared.Place.TheVariants as place
use Rattle.rules.specs.Letters as letter
use Rattle.rules.specs.Downs as down
use Rattle.rules.specs.declared.Device.{Device}
use Rattle.rules.specs.Plan.{slot}
use Rattle.rules.specs.Yard.{device}
use Rattle.rules.specs.Tick.{tick}
use Rattle.rules.specs.Tick.Input.{willing}
use Rattle.rules.specs.Tick.Step3.{goes}
use Rattle.rules.specs.Theorems.{Accepts}
use Rattle.rules.specs.Promises.{Undisturbed}
use Rattle.rules.proofs.States.Formed.{Formed}
use Rattle.rules.proofs.Ticks.Views.{turn, up, tick_base, tick_lease, tick_down}
use Rattle.rules.proofs.Promises.Stays.Hears.{asked, called_off}
use Rattle.rules.proofs.Promises.Stays.Ticked.{tick_same}
use Rattle.rules.proofs.Promises.Blade.Calm.{all_arrives}
use Rattle.rules.proofs.Promises.Blade.Rises.{Stands, Rests, rest_rises}
use Rattle.rules.proofs.Promises.Blade.States.{Asking, rests_on, asked_enters, granted_enters}

module _ (p : Plan) (a : Accepts p) (y : Yard) (r : Record) (f : Formed p y) (u : Undisturbed p y r) (i : ℕ) (low : 1 ≤ i) where
  abbrev next : Yard
  next = tick p y r

  -- Asked, a participant that has rested enters and approves; granted, the initializer that waits enters.
  pub enters_asked :
      i < p.N → (turn p y r).down ≡ down.LeaseReq i → Rests p i (device y i)
      → ((device next i).place ≡ place.Entering) × ((device next i).letter ≡ letter.Approve)
  enters_asked few ask rests =
      let d : Device = device y i in
      let rose = rest_rises p r i d.place d.clock d.letter few rests.place rests.clock in
      rw (all_arrives p a y r u i low (omega arith))
      (asked_enters (slot p i) (willing r i) i (turn p y r).down (up p y r i).place (up p y r i).clock ask
      (u.willing i (tick_down p y r ∙ ask)) rose.place rose.clock)

  pub enters_granted :
      i ≤ p.N → (turn p y r).down ≡ down.Grant i → (up p y r i).place ≡ place.Requesting
      → Stands (device next i) place.Entering 0
  enters_granted used grant waits =
      rw (all_arrives p a y r u i low used)
      (granted_enters (slot p i) (willing r i) i (turn p y r).down (up p y r i).place (up p y r i).clock grant waits)

  -- The base has asked device k, or nobody.
  module _ (k : ℕ) (ask : asked (turn p y r).down ≡ k) (off : called_off (turn p y r).down ≡ 0) (other : i ≡ k → ⊥) where
    pub stands_still : i ≤ p.N → (pl : Place) (c : ℕ) → Stands (up p y r i) pl c → Stands (device next i) pl c
    stands_still used pl c h =
        let same = tick_same p y r i a f low used (λ q. other (omega arith)) (λ q. omega arith) in
        record { place = same.0 ∙ h.place; clock = same.1 ∙ h.clock }

    pub rests_still : i < p.N → Rests p i (device y i) → Rests p i (device next i)
    rests_still few rests =
        let d : Device = device y i in
        rests_on p i (device next i)
        (stands_still (omega arith) place.FallBack (slot p i).F
        (rest_rises p r i d.place d.clock d.letter few rests.place rests.clock))

-- The base has gone to Lease i+1 and asks device i+1: it enters, those above it rest on, and the initializer waits on.
pub asking :
    (p : Plan) (a : Accepts p) (y : Yard) (r : Record) → Formed p y → Undisturbed p y r → (i : ℕ) → i + 1 < p.N
    → turn p y r ≡ goes (base.Lease (i + 1)) i (down.LeaseReq (i + 1))
    → ((j : ℕ) → i < j → j < p.N → Rests p j (device y j)) → Stands (up p y r p.N) place.Requesting i
    → Asking p (tick p y r) (i + 1)
asking p a y r f u i few went rests waiting =
    let ask : (turn p y r).down ≡ down.LeaseReq (i + 1) = ap (λ (m : BaseMove). m.down) went in
    let entered = enters_asked p a y r f u (i + 1) (omega arith) few ask (rests (i + 1) (omega arith) few) in
    let waits =
    stands_still p a y r f u p.N (omega arith) (i + 1) (ap asked ask) (ap called_off ask) (λ q. omega arith) (omega arith)
    place.Requesting i waiting in
    record {
      base = tick_base p y r ∙ ap (λ (m : BaseMove). m.base) went;
      lease = omega (arith, tick_lease p y r ∙ ap (λ (m : BaseMove). m.lease) went);
      enters = entered.0;
      approves = entered.1;
      rests =
          λ j above below.
          rests_still p a y r f u j (omega arith) (i + 1) (ap asked ask) (ap called_off ask) (λ q. omega arith) below
          (rests j (omega arith) below);
      waits = waits.place;
      waited = omega (arith, waits.clock);
    }
