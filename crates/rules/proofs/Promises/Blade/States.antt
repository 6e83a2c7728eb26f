-- The yard on the way to the blade: the lease has come to device i; the initializer has been granted and enters.
use Rattle.std.proofs.Common.{Option, ℕ, ◌+◌, ◌-◌, ◌*◌, ◌≤◌, ◌<◌, arith, mul-le-mul_left, ◌≡◌, refl, Bool, true, eq-eqb, le-ltb}
use Rattle.rules.specs.declared.Plan.{Plan}
use Rattle.rules.specs.declared.Slot.{Slot}
use Rattle.rules.specs.declared.Yard.{Yard}
use Rattle.rules.specs.declared.Base.TheVariants as base
use Rattle.rules.specs.declared.Place.{Place}
use Rattle.rules.specs.declared.Place.TheVariants as place
use Rattle.rules.specs.declared.Letter.{Letter}
use Rattle.rules.specs.Letters as letter
use Rattle.rules.specs.declared.Down.{Down}
use Rattle.rules.specs.Downs as down
use Rattle.rules.specs.declared.Device.{Device}
use Rattle.rules.specs.Plan.{slot, stay, LS}
use Rattle.rules.specs.Yard.{at, device}
use Rattle.rules.specs.Tick.Step4.{arrived}
use Rattle.rules.specs.Theorems.{Accepts}
use Rattle.rules.proofs.States.Formed.{Lettered, Formed}
use Rattle.rules.proofs.Promises.Blade.Rises.{Stands, Rests}

-- The base is in Lease i, i ticks after the request; device i has approved, those above it rest, and the initializer waits.
pub record Asking (p : Plan) (y : Yard) (i : ℕ) : Type 0 where
  pub base : y.base ≡ base.Lease i
  pub lease : y.lease + 1 ≡ i
  pub enters : (device y i).place ≡ place.Entering
  pub approves : (device y i).letter ≡ letter.Approve
  pub rests : (j : ℕ) → i < j → j < p.N → Rests p j (device y j)
  pub waits : (device y p.N).place ≡ place.Requesting
  pub waited : (device y p.N).clock + 1 ≡ i

-- The base is in Lease N, and the initializer has been in Entering for c ticks.
pub record Granted (p : Plan) (y : Yard) (c : ℕ) : Type 0 where
  pub base : y.base ≡ base.Lease p.N
  pub lease : y.lease + 1 ≡ p.N + c
  pub enters : Stands (device y p.N) place.Entering c

-- One tick for each device is less than Q, and leaves the initializer's stay within the lease: W is at least 1.
module _ (p : Plan) (a : Accepts p) where
  several : p.N - 1 ≤ (p.N - 1) * p.W
  several = let h : (p.N - 1) * 1 ≤ (p.N - 1) * p.W = mul-le-mul_left (p.N - 1) a.yard_times.0.low in omega arith

  pub wait_fits : p.N - 1 < p.Q
  wait_fits = omega (arith, several, a.c3)

  pub stay_fits : p.N - 1 + stay p p.N ≤ LS p
  stay_fits = omega (arith, several, a.c4 p.N (omega (arith, a.devices)) (omega arith))

-- Between ticks the initializer holds no letter.
pub silent : (p : Plan) (y : Yard) → Accepts p → Formed p y → (device y p.N).letter ≡ letter.none
silent p y a f =
    none (device y p.N).letter (device y p.N).place (device y p.N).clock
    (f.lettered p.N (omega (arith, a.devices)) (omega (arith, a.devices)) (omega arith))
  where
    none : (l : Option Letter) (pl : Place) (c : ℕ) → Lettered p p.N l pl c → l ≡ letter.none
    none letter.none pl c h = refl
    none letter.Request pl c h = absurd h
    none letter.Cancel pl c h = absurd h
    none letter.Approve pl c h = absurd (omega (arith, h.1))
    none letter.Deny pl c h = absurd (omega (arith, h.1))
    none letter.Exit pl c h = absurd h

-- A device that stands in Fall-Back at F rests on.
pub rests_on : (p : Plan) (i : ℕ) (d : Device) → Stands d place.FallBack (slot p i).F → Rests p i d
rests_on p i d h =
    let f : ℕ = (slot p i).F in
    record { place = h.place; clock = rw (h.place, h.clock, le-ltb f f (omega arith)) }

-- A willing device that has rested is asked, and enters; the initializer that waits is granted, and enters.
module _ (s : Slot) (w : Bool) (i : ℕ) (l : Option Down) (pl : Place) (c : ℕ) where
  abbrev end : Device
  end = arrived s w l i (at pl c letter.none)

  pub asked_enters :
      l ≡ down.LeaseReq i → w ≡ true → pl ≡ place.FallBack → c ≡ s.F
      → (end.place ≡ place.Entering) × (end.letter ≡ letter.Approve)
  unfolding arrived
  asked_enters sent ready here rested = rw (sent, eq-eqb i i refl, ready, here, eq-eqb c s.F rested) (refl, refl)

  pub granted_enters : l ≡ down.Grant i → pl ≡ place.Requesting → Stands end place.Entering 0
  unfolding arrived
  granted_enters sent here = rw (sent, eq-eqb i i refl, here) (record { place = refl; clock = refl })
