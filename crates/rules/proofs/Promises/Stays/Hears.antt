-- Step 4, as a stay sees it: the down letter leaves a device as it is, is denied by an idle one, starts a stay or halts it.
use Rattle.std.proofs.Common.{Option, ℕ, ◌+◌, ◌<◌, arith, ◌≡◌, refl, Bool, eqb, eqb-true}
use Rattle.laws.proofs.Tests.{tests, on_cond}
use Rattle.rules.specs.declared.Plan.{Plan}
use Rattle.rules.specs.declared.Slot.{Slot}
use Rattle.rules.specs.declared.Place.{Place}
use Rattle.rules.specs.declared.Place.TheVariants as place
use Rattle.rules.specs.declared.Letter.{Letter}
use Rattle.rules.specs.Letters as letter
use Rattle.rules.specs.declared.Down.{Down}
use Rattle.rules.specs.Downs as down
use Rattle.rules.specs.declared.Device.{Device}
use Rattle.rules.specs.declared.Record.{Record}
use Rattle.rules.specs.Plan.{slot}
use Rattle.rules.specs.Yard.{at, engaged}
use Rattle.rules.specs.Tick.Input.{down_lost, willing}
use Rattle.rules.specs.Tick.Step4.{hear_lease_req, hear_grant, hear_cancel, arrived, delivered}
use Rattle.rules.proofs.States.Formed.{Placed}
use Rattle.rules.proofs.Promises.Stays.Stay.{Idle, spent}
use Rattle.rules.proofs.Promises.Stays.Moves.{Stays}

-- The device that a down letter asks to start, and the one whose stay it calls off; 0 is nobody.
abbrev pub asked : Option Down → ℕ
asked down.none = 0
asked (down.LeaseReq k) = k
asked (down.Grant k) = k
asked (down.Cancel k) = 0
asked (down.Abort k) = 0

abbrev pub called_off : Option Down → ℕ
called_off down.none = 0
called_off (down.LeaseReq k) = 0
called_off (down.Grant k) = 0
called_off (down.Cancel k) = k
called_off (down.Abort k) = k

-- From device u, when the letters have gone up, to device e at the tick's end. A device that has rested its F ticks, or
-- waits in Requesting, may start.
abbrev pub Ready : Slot → Place → ℕ → Type 0
Ready s place.FallBack c = c ≡ s.F
Ready s place.Requesting c = Unit
Ready s place.Entering c = ⊥
Ready s place.Running c = ⊥
Ready s place.Exiting1 c = ⊥
Ready s place.Exiting2 c = ⊥

pub data Hears (s : Slot) (Asked Off : Type 0) (u e : Device) : Type 0 where
  same : e.place ≡ u.place → e.clock ≡ u.clock → Hears s Asked Off u e
  denies : Asked → u.place ≡ place.FallBack → e.place ≡ place.FallBack → e.clock ≡ 0 → Hears s Asked Off u e
  starts : Asked → Ready s u.place u.clock → e.place ≡ place.Entering → e.clock ≡ 0 → Hears s Asked Off u e
  halted :
      Off → Stays s 0 u e → spent s u.place u.clock < s.E + s.R → spent s e.place e.clock ≡ s.E + s.R
      → Hears s Asked Off u e

module _ (p : Plan) (i : ℕ) (x : Option Letter) where
  -- What device i makes of down letter l; its own letter x has gone up.
  abbrev Heard : Option Down → Place → ℕ → Device → Type 0
  Heard l pl c e = Hears (slot p i) (asked l ≡ i) (called_off l ≡ i) (at pl c x) e

  hears_lease :
      (l : Option Down) → asked l ≡ i → (w : Bool) (pl : Place) (c : ℕ)
      → Heard l pl c (hear_lease_req (slot p i) w pl (at pl c letter.none))
  hears_lease l here w place.FallBack c =
      on_cond (Heard l place.FallBack c) (eqb c (slot p i).F)
      (λ e. on_cond (Heard l place.FallBack c) w (λ q. starts here (eqb-true _ _ e) refl refl) (λ q. denies here refl refl refl))
      (λ e. same refl refl)
  hears_lease l here w place.Requesting c = same refl refl
  hears_lease l here w place.Entering c = same refl refl
  hears_lease l here w place.Running c = same refl refl
  hears_lease l here w place.Exiting1 c = same refl refl
  hears_lease l here w place.Exiting2 c = same refl refl

  hears_grant : (l : Option Down) → asked l ≡ i → (pl : Place) (c : ℕ) → Heard l pl c (hear_grant pl (at pl c letter.none))
  hears_grant l here place.FallBack c = same refl refl
  hears_grant l here place.Requesting c = starts here tt refl refl
  hears_grant l here place.Entering c = same refl refl
  hears_grant l here place.Running c = same refl refl
  hears_grant l here place.Exiting1 c = same refl refl
  hears_grant l here place.Exiting2 c = same refl refl

  hears_cancel :
      (l : Option Down) → called_off l ≡ i → (pl : Place) (c : ℕ) → Placed p i pl c → Heard l pl c (hear_cancel pl (at pl c letter.none))
  unfolding engaged
  hears_cancel l here place.FallBack c h = same refl refl
  hears_cancel l here place.Requesting c h = same refl refl
  hears_cancel l here place.Entering c h =
      halted here (record { was = tt; is = tt; older = omega arith; engages = λ q. q }) (omega arith) (omega arith)
  hears_cancel l here place.Running c h =
      halted here (record { was = tt; is = tt; older = omega arith; engages = λ q. refl }) (omega arith) (omega arith)
  hears_cancel l here place.Exiting1 c h = same refl refl
  hears_cancel l here place.Exiting2 c h = same refl refl

  hears :
      (w : Bool) (l : Option Down) (pl : Place) (c : ℕ) → Placed p i pl c
      → Heard l pl c (arrived (slot p i) w l i (at pl c letter.none))
  unfolding arrived
  hears w down.none pl c h = same refl refl
  hears w (down.LeaseReq k) pl c h =
      on_cond (Heard (down.LeaseReq k) pl c) (eqb i k) (λ e. hears_lease (down.LeaseReq k) (omega tests) w pl c)
      (λ e. same refl refl)
  hears w (down.Grant k) pl c h =
      on_cond (Heard (down.Grant k) pl c) (eqb i k) (λ e. hears_grant (down.Grant k) (omega tests) pl c)
      (λ e. same refl refl)
  hears w (down.Cancel k) pl c h =
      on_cond (Heard (down.Cancel k) pl c) (eqb i k) (λ e. hears_cancel (down.Cancel k) (omega tests) pl c h)
      (λ e. same refl refl)
  hears w (down.Abort k) pl c h =
      on_cond (Heard (down.Abort k) pl c) (eqb i k) (λ e. hears_cancel (down.Abort k) (omega tests) pl c h)
      (λ e. same refl refl)

pub hears_down :
    (p : Plan) (i : ℕ) (r : Record) (l : Option Down) (u : Device) → Placed p i u.place u.clock
    → Hears (slot p i) (asked l ≡ i) (called_off l ≡ i) u (delivered p r l i (at u.place u.clock letter.none))
hears_down p i r l u h =
    on_cond (Heard p i u.letter l u.place u.clock) (down_lost r) (λ e. same refl refl)
    (λ e. hears p i u.letter (willing r i) l u.place u.clock h)

pub ready_idle : (s : Slot) (pl : Place) (c : ℕ) → Ready s pl c → Idle pl
ready_idle s place.FallBack c h l = l
ready_idle s place.Requesting c h l = l
ready_idle s place.Entering c h l = h
ready_idle s place.Running c h l = h
ready_idle s place.Exiting1 c h l = h
ready_idle s place.Exiting2 c h l = h
