-- Steps 1, 2 and 4 keep a device well formed, under an accepted plan.
use Rattle.std.proofs.Common.{Option, ℕ, ◌≤◌, ◌<◌, arith, ◌≡◌, refl, Bool, true, false, ltb, eqb, eqb-true}
use Rattle.laws.proofs.Tests.{tests, on_cond, clash}
use Rattle.rules.specs.declared.Plan.{Plan}
use Rattle.rules.specs.declared.Place.{Place}
use Rattle.rules.specs.declared.Place.TheVariants as place
use Rattle.rules.specs.declared.Letter.{Letter}
use Rattle.rules.specs.Letters as letter
use Rattle.rules.specs.declared.Down.{Down}
use Rattle.rules.specs.Downs as down
use Rattle.rules.specs.declared.Device.{Device}
use Rattle.rules.specs.declared.Record.{Record}
use Rattle.rules.specs.Plan.{slot}
use Rattle.rules.specs.Yard.{at}
use Rattle.rules.specs.Tick.Input.{down_lost, willing, request, cancel}
use Rattle.rules.specs.Tick.Step1.{stops_at, device_clock, clocked}
use Rattle.rules.specs.Tick.Step2.{due, due_move, heed_request, heed_cancel, heed, moved, moved_at}
use Rattle.rules.specs.Tick.Step4.{hear_lease_req, hear_grant, hear_cancel, arrived, delivered}
use Rattle.rules.specs.Theorems.{Accepts}
use Rattle.rules.proofs.States.Formed.{Placed, Lettered}

-- A clock that stops at its limit stays within it.
pub stopped : (limit c : ℕ) → c ≤ limit → stops_at limit c ≤ limit
stopped limit c h = on_cond (λ (x : ℕ). x ≤ limit) (ltb c limit) (λ q. omega tests) (λ q. h)

-- Only a participant is sent a LeaseReq.
abbrev pub ForParticipant : Plan → Option Down → Type 0
ForParticipant p down.none = Unit
ForParticipant p (down.LeaseReq k) = k < p.N
ForParticipant p (down.Grant k) = Unit
ForParticipant p (down.Cancel k) = Unit
ForParticipant p (down.Abort k) = Unit

module _ (p : Plan) (a : Accepts p) where
  -- After step 1 a clock may stand at its limit; step 2 moves such a device on.
  module _ (i : ℕ) (low : 1 ≤ i) (used : i ≤ p.N) where
    abbrev Clocked : Place → ℕ → Type 0
    Clocked place.FallBack c = c ≤ (slot p i).F
    Clocked place.Requesting c = (i ≡ p.N) × (c ≤ p.Q)
    Clocked place.Entering c = c ≤ (slot p i).E
    Clocked place.Running c = c ≤ (slot p i).R
    Clocked place.Exiting1 c = c ≤ (slot p i).X
    Clocked place.Exiting2 c = c ≤ (slot p i).X

    abbrev PlacedAt : Device → Type 0
    PlacedAt d = Placed p i d.place d.clock

    clock_kept : (pl : Place) (c : ℕ) → Placed p i pl c → Clocked pl (device_clock (slot p i) pl c)
    clock_kept place.FallBack c h = stopped (slot p i).F c h
    clock_kept place.Requesting c h = (h.0, omega arith)
    clock_kept place.Entering c h = omega arith
    clock_kept place.Running c h = omega arith
    clock_kept place.Exiting1 c h = omega arith
    clock_kept place.Exiting2 c h = omega arith

    due_placed : (pl : Place) (c : ℕ) (l : Option Letter) → due p.Q (slot p i) pl c ≡ true → PlacedAt (due_move pl (at pl c l))
    due_placed place.FallBack c l e = clash e refl
    due_placed place.Requesting c l e = omega arith
    due_placed place.Entering c l e = (a.device_times i low used).2.low
    due_placed place.Running c l e = (a.device_times i low used).3.low
    due_placed place.Exiting1 c l e = omega arith
    due_placed place.Exiting2 c l e = omega arith

    still_placed : (pl : Place) (c : ℕ) → Clocked pl c → due p.Q (slot p i) pl c ≡ false → Placed p i pl c
    still_placed place.FallBack c h e = h
    still_placed place.Requesting c h e = (h.0, omega tests)
    still_placed place.Entering c h e = omega tests
    still_placed place.Running c h e = omega tests
    still_placed place.Exiting1 c h e = omega tests
    still_placed place.Exiting2 c h e = omega tests

    request_placed :
        i ≡ p.N → (pl : Place) (c : ℕ) (l : Option Letter) → Placed p i pl c → PlacedAt (heed_request (slot p i) pl (at pl c l))
    request_placed last place.FallBack c l h =
        on_cond PlacedAt (eqb c (slot p i).F) (λ q. (last, a.yard_times.2.low)) (λ q. h)
    request_placed last place.Requesting c l h = h
    request_placed last place.Entering c l h = h
    request_placed last place.Running c l h = h
    request_placed last place.Exiting1 c l h = h
    request_placed last place.Exiting2 c l h = h

    cancel_placed : (pl : Place) (c : ℕ) (l : Option Letter) → Placed p i pl c → PlacedAt (heed_cancel pl (at pl c l))
    cancel_placed place.FallBack c l h = h
    cancel_placed place.Requesting c l h = omega arith
    cancel_placed place.Entering c l h = (a.device_times i low used).3.low
    cancel_placed place.Running c l h = (a.device_times i low used).3.low
    cancel_placed place.Exiting1 c l h = h
    cancel_placed place.Exiting2 c l h = h

    heed_placed : i ≡ p.N → (command : ℕ) (d : Device) → PlacedAt d → PlacedAt (heed (slot p i) command d)
    unfolding heed
    heed_placed last command d h =
        on_cond PlacedAt (eqb command request) (λ q. request_placed last d.place d.clock d.letter h)
        (λ q.
        on_cond PlacedAt (eqb command cancel) (λ q. cancel_placed d.place d.clock d.letter h) (λ q. h))

    moved_placed : (r : Record) (d : Device) → Clocked d.place d.clock → PlacedAt (moved_at p r i d)
    unfolding moved
    moved_placed r d h =
        on_cond PlacedAt (due p.Q (slot p i) d.place d.clock) (λ q. due_placed d.place d.clock d.letter q)
        (λ q.
        let s : PlacedAt d = still_placed d.place d.clock h q in
        on_cond PlacedAt (eqb i p.N) (λ e. heed_placed (eqb-true _ _ e) r.command d s) (λ e. s))

    pub up_placed :
        (r : Record) (d : Device) → Placed p i d.place d.clock
        → Placed p i (moved_at p r i (clocked p i d)).place (moved_at p r i (clocked p i d)).clock
    up_placed r d h = moved_placed r (clocked p i d) (clock_kept d.place d.clock h)

    -- The down letter: LeaseReq goes to participants alone, so that Approve and Deny stand where they may.
    abbrev pub Good : Device → Type 0
    Good d = Placed p i d.place d.clock × Lettered p i d.letter d.place d.clock

    lease_good :
        i < p.N → (w : Bool) (pl : Place) (c : ℕ) → Placed p i pl c → Good (hear_lease_req (slot p i) w pl (at pl c letter.none))
    lease_good below w place.FallBack c h =
        on_cond Good (eqb c (slot p i).F)
        (λ q.
        on_cond Good w (λ q. ((a.device_times i low used).1.low, (low, below, refl, refl)))
        (λ q. (omega arith, (low, below, refl, refl))))
        (λ q. (h, tt))
    lease_good below w place.Requesting c h = (h, tt)
    lease_good below w place.Entering c h = (h, tt)
    lease_good below w place.Running c h = (h, tt)
    lease_good below w place.Exiting1 c h = (h, tt)
    lease_good below w place.Exiting2 c h = (h, tt)

    grant_good : (pl : Place) (c : ℕ) → Placed p i pl c → Good (hear_grant pl (at pl c letter.none))
    grant_good place.FallBack c h = (h, tt)
    grant_good place.Requesting c h = ((a.device_times i low used).1.low, tt)
    grant_good place.Entering c h = (h, tt)
    grant_good place.Running c h = (h, tt)
    grant_good place.Exiting1 c h = (h, tt)
    grant_good place.Exiting2 c h = (h, tt)

    called_off_good : (pl : Place) (c : ℕ) → Placed p i pl c → Good (hear_cancel pl (at pl c letter.none))
    called_off_good place.FallBack c h = (h, tt)
    called_off_good place.Requesting c h = (h, tt)
    called_off_good place.Entering c h = ((a.device_times i low used).3.low, tt)
    called_off_good place.Running c h = ((a.device_times i low used).3.low, tt)
    called_off_good place.Exiting1 c h = (h, tt)
    called_off_good place.Exiting2 c h = (h, tt)

    arrived_good :
        (w : Bool) (l : Option Down) (pl : Place) (c : ℕ) → ForParticipant p l → Placed p i pl c
        → Good (arrived (slot p i) w l i (at pl c letter.none))
    unfolding arrived
    arrived_good w down.none pl c f h = (h, tt)
    arrived_good w (down.LeaseReq k) pl c f h =
        on_cond Good (eqb i k) (λ e. lease_good (omega tests) w pl c h) (λ e. (h, tt))
    arrived_good w (down.Grant k) pl c f h = on_cond Good (eqb i k) (λ e. grant_good pl c h) (λ e. (h, tt))
    arrived_good w (down.Cancel k) pl c f h = on_cond Good (eqb i k) (λ e. called_off_good pl c h) (λ e. (h, tt))
    arrived_good w (down.Abort k) pl c f h = on_cond Good (eqb i k) (λ e. called_off_good pl c h) (λ e. (h, tt))

    pub delivered_good :
        (r : Record) (l : Option Down) (pl : Place) (c : ℕ) → ForParticipant p l → Placed p i pl c
        → Good (delivered p r l i (at pl c letter.none))
    delivered_good r l pl c f h = on_cond Good (down_lost r) (λ e. (h, tt)) (λ e. arrived_good (willing r i) l pl c f h)
