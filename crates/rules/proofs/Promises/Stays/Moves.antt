-- One tick of a device, as its stay sees it: it rests, starts, goes on, is halted or ends. Steps 1 and 2 never start a
-- stay, and halt one only at the initializer.
use Rattle.std.proofs.Common.{Option, ℕ, ◌+◌, ◌≤◌, ◌<◌, arith, ◌≡◌, refl, true, cond, eqb, eqb-true}
use Rattle.laws.proofs.Tests.{tests, on_cond}
use Rattle.rules.specs.declared.Plan.{Plan}
use Rattle.rules.specs.declared.Slot.{Slot}
use Rattle.rules.specs.declared.Place.{Place}
use Rattle.rules.specs.declared.Place.TheVariants as place
use Rattle.rules.specs.declared.Letter.{Letter}
use Rattle.rules.specs.declared.Device.{Device}
use Rattle.rules.specs.declared.Record.{Record}
use Rattle.rules.specs.Plan.{slot}
use Rattle.rules.specs.Yard.{at, engaged}
use Rattle.rules.specs.Tick.Input.{request, cancel}
use Rattle.rules.specs.Tick.Step1.{stops_at, clocked}
use Rattle.rules.specs.Tick.Step2.{heed_request, heed_cancel, heed, moved, moved_at}
use Rattle.rules.proofs.States.Formed.{Placed}
use Rattle.rules.proofs.Promises.Stays.Stay.{Active, Idle, spent, age}

-- From device d, active, to device e, n ticks later and active still.
pub record Stays (s : Slot) (n : ℕ) (d e : Device) : Type 0 where
  pub was : Active d.place
  pub is : Active e.place
  pub older : age s e.place e.clock ≤ age s d.place d.clock + n
  pub engages : engaged d.place ≡ true → engaged e.place ≡ true

-- From device d to device e in one tick. `Asked` says that it was asked to start, `Off` that its stay was called off.
pub data Step (s : Slot) (Asked Off : Type 0) (d e : Device) : Type 0 where
  rests : Idle d.place → Idle e.place → Step s Asked Off d e
  starts : Asked → Idle d.place → e.place ≡ place.Entering → e.clock ≡ 0 → Step s Asked Off d e
  goes_on :
      Stays s 1 d e → spent s e.place e.clock ≡ spent s d.place d.clock + 1
      → Step s Asked Off d e
  halted :
      Off → Stays s 1 d e → spent s d.place d.clock < s.E + s.R → spent s e.place e.clock ≡ s.E + s.R
      → Step s Asked Off d e
  ends :
      Active d.place → spent s d.place d.clock + 1 ≡ s.E + s.R + s.X
      → e.place ≡ place.FallBack → e.clock ≡ 0
      → Step s Asked Off d e

none : ⊥ → ⊥
none q = q

module _ (p : Plan) (i : ℕ) (r : Record) where
  -- What holds of a device that nothing was due for, of one that has heeded a request, and of the initializer when it has
  -- heeded a cancel, holds after step 2.
  pub on_heed :
      (P : Device → Type 0) (d : Device)
      → P d → P (heed_request (slot p i) d.place d)
      → (i ≡ p.N → r.command ≡ cancel → P (heed_cancel d.place d))
      → P (cond (eqb i p.N) (heed (slot p i) r.command d) d)
  unfolding heed
  on_heed P d still requested cancelled =
      on_cond P (eqb i p.N)
      (λ last.
      on_cond P (eqb r.command request) (λ e. requested)
      (λ e. on_cond P (eqb r.command cancel) (λ e. cancelled (eqb-true _ _ last) (eqb-true _ _ e)) (λ e. still)))
      (λ e. still)

  -- Where a device goes in steps 1 and 2.
  abbrev Onward : Place → ℕ → Option Letter → Device → Type 0
  Onward pl c l e = Step (slot p i) ⊥ (i ≡ p.N) (at pl c l) e

  moves_on :
      (pl : Place) (c : ℕ) (l : Option Letter) → Placed p i pl c → Onward pl c l (moved_at p r i (clocked p i (at pl c l)))
  unfolding moved engaged
  moves_on place.FallBack c l h =
      let c' : ℕ = stops_at (slot p i).F c in
      on_heed (Onward place.FallBack c l) (at place.FallBack c' l) (rests none none)
      (on_cond (Onward place.FallBack c l) (eqb c' (slot p i).F) (λ e. rests none none) (λ e. rests none none))
      (λ last told. rests none none)
  moves_on place.Requesting c l h =
      on_cond (Onward place.Requesting c l) (eqb (c + 1) p.Q) (λ e. rests none none)
      (λ e.
      on_heed (Onward place.Requesting c l) (at place.Requesting (c + 1) l) (rests none none) (rests none none)
      (λ last told. rests none none))
  moves_on place.Entering c l h =
      on_cond (Onward place.Entering c l) (eqb (c + 1) (slot p i).E)
      (λ e. goes_on (record { was = tt; is = tt; older = omega tests; engages = λ q. refl }) (omega tests))
      (λ e.
      let still : Onward place.Entering c l (at place.Entering (c + 1) l) =
      goes_on (record { was = tt; is = tt; older = omega arith; engages = λ q. q }) refl in
      on_heed (Onward place.Entering c l) (at place.Entering (c + 1) l) still still
      (λ last told.
      halted last (record { was = tt; is = tt; older = omega arith; engages = λ q. q }) (omega arith) (omega arith)))
  moves_on place.Running c l h =
      on_cond (Onward place.Running c l) (eqb (c + 1) (slot p i).R)
      (λ e. goes_on (record { was = tt; is = tt; older = omega tests; engages = λ q. refl }) (omega tests))
      (λ e.
      let still : Onward place.Running c l (at place.Running (c + 1) l) =
      goes_on (record { was = tt; is = tt; older = omega arith; engages = λ q. q }) (omega arith) in
      on_heed (Onward place.Running c l) (at place.Running (c + 1) l) still still
      (λ last told.
      halted last (record { was = tt; is = tt; older = omega arith; engages = λ q. refl }) (omega arith) (omega arith)))
  moves_on place.Exiting1 c l h =
      on_cond (Onward place.Exiting1 c l) (eqb (c + 1) (slot p i).X) (λ e. ends tt (omega tests) refl refl)
      (λ e.
      let still : Onward place.Exiting1 c l (at place.Exiting1 (c + 1) l) =
      goes_on (record { was = tt; is = tt; older = omega arith; engages = λ q. q }) (omega arith) in
      on_heed (Onward place.Exiting1 c l) (at place.Exiting1 (c + 1) l) still still (λ last told. still))
  moves_on place.Exiting2 c l h =
      on_cond (Onward place.Exiting2 c l) (eqb (c + 1) (slot p i).X) (λ e. ends tt (omega tests) refl refl)
      (λ e.
      let still : Onward place.Exiting2 c l (at place.Exiting2 (c + 1) l) =
      goes_on (record { was = tt; is = tt; older = omega arith; engages = λ q. q }) (omega arith) in
      on_heed (Onward place.Exiting2 c l) (at place.Exiting2 (c + 1) l) still still (λ last told. still))

  pub steps_up :
      (d : Device) → Placed p i d.place d.clock
      → Step (slot p i) ⊥ (i ≡ p.N) d (moved_at p r i (clocked p i d))
  steps_up d h = moves_on d.place d.clock d.letter h
