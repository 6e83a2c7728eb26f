-- A letter that goes up tells the truth of the device that wrote it: after Approve it has just entered, after Deny and Exit
-- it is idle.
use Rattle.std.proofs.Common.{Option, ℕ, ◌+◌, ◌≤◌, ◌<◌, arith, eqb}
use Rattle.laws.proofs.Tests.{tests, on_cond}
use Rattle.rules.specs.declared.Plan.{Plan}
use Rattle.rules.specs.declared.Yard.{Yard}
use Rattle.rules.specs.declared.Place.{Place}
use Rattle.rules.specs.declared.Place.TheVariants as place
use Rattle.rules.specs.declared.Letter.{Letter}
use Rattle.rules.specs.Letters as letter
use Rattle.rules.specs.declared.Device.{Device}
use Rattle.rules.specs.declared.Record.{Record}
use Rattle.rules.specs.Plan.{slot}
use Rattle.rules.specs.Yard.{at, device}
use Rattle.rules.specs.Tick.Input.{up_lost}
use Rattle.rules.specs.Tick.Step1.{stops_at, clocked}
use Rattle.rules.specs.Tick.Step2.{moved, moved_at}
use Rattle.rules.specs.Tick.Step3.{heard}
use Rattle.rules.specs.Theorems.{Accepts}
use Rattle.rules.proofs.States.Formed.{Lettered, Formed}
use Rattle.rules.proofs.Ticks.Views.{risen, up, risen_used}
use Rattle.rules.proofs.Promises.Stays.Stay.{Active, Idle, spent}
use Rattle.rules.proofs.Promises.Stays.Moves.{on_heed}

-- What a letter says: Approve says `Came`, Deny and Exit say `Gone`.
abbrev pub Says : Type 0 → Type 0 → Option Letter → Type 0
Says Came Gone letter.none = Unit
Says Came Gone letter.Request = Unit
Says Came Gone letter.Cancel = Unit
Says Came Gone letter.Approve = Came
Says Came Gone letter.Deny = Gone
Says Came Gone letter.Exit = Gone

-- Device i has entered, at least a tick and at most W ticks ago.
pub record Entered (p : Plan) (i : ℕ) (pl : Place) (c : ℕ) : Type 0 where
  pub active : Active pl
  pub some : 1 ≤ spent (slot p i) pl c
  pub few : spent (slot p i) pl c ≤ p.W

module _ (p : Plan) (a : Accepts p) (r : Record) (i : ℕ) where
  abbrev True : Device → Type 0
  True u = Says (Entered p i u.place u.clock) (Idle u.place) u.letter

  abbrev risen_from : Place → ℕ → Option Letter → Device
  risen_from pl c l = moved_at p r i (clocked p i (at pl c l))

  no_letter_lem : (pl : Place) (c : ℕ) → True (risen_from pl c letter.none)
  unfolding moved
  no_letter_lem place.FallBack c =
      let c' : ℕ = stops_at (slot p i).F c in
      on_heed p i r True (at place.FallBack c' letter.none) tt
      (on_cond True (eqb c' (slot p i).F) (λ e. tt) (λ e. tt)) (λ last c. tt)
  no_letter_lem place.Requesting c =
      on_cond True (eqb (c + 1) p.Q) (λ e. tt)
      (λ e. on_heed p i r True (at place.Requesting (c + 1) letter.none) tt tt (λ last c. tt))
  no_letter_lem place.Entering c =
      on_cond True (eqb (c + 1) (slot p i).E) (λ e. tt)
      (λ e. on_heed p i r True (at place.Entering (c + 1) letter.none) tt tt (λ last c. tt))
  no_letter_lem place.Running c =
      on_cond True (eqb (c + 1) (slot p i).R) (λ e. tt)
      (λ e. on_heed p i r True (at place.Running (c + 1) letter.none) tt tt (λ last c. tt))
  no_letter_lem place.Exiting1 c =
      on_cond True (eqb (c + 1) (slot p i).X) (λ e q. q)
      (λ e. on_heed p i r True (at place.Exiting1 (c + 1) letter.none) tt tt (λ last c. tt))
  no_letter_lem place.Exiting2 c =
      on_cond True (eqb (c + 1) (slot p i).X) (λ e q. q)
      (λ e. on_heed p i r True (at place.Exiting2 (c + 1) letter.none) tt tt (λ last c. tt))

  approve : i < p.N → True (risen_from place.Entering 0 letter.Approve)
  unfolding moved
  approve below =
      let wait : 1 ≤ p.W = a.yard_times.0.low in
      let still : Entered p i place.Entering 1 =
      record { active = tt; some = omega arith; few = omega arith } in
      on_cond True (eqb 1 (slot p i).E) (λ e. record { active = tt; some = omega tests; few = omega tests })
      (λ e. on_heed p i r True (at place.Entering 1 letter.Approve) still still (λ last c. absurd (omega arith)))

  deny : i < p.N → (c : ℕ) → True (risen_from place.FallBack c letter.Deny)
  unfolding moved
  deny below c =
      let c' : ℕ = stops_at (slot p i).F c in
      on_heed p i r True (at place.FallBack c' letter.Deny) (λ q. q)
      (on_cond True (eqb c' (slot p i).F) (λ e. tt) (λ e q. q)) (λ last c. absurd (omega arith))

  letter_true : (l : Option Letter) (pl : Place) (c : ℕ) → Lettered p i l pl c → True (risen_from pl c l)
  letter_true letter.none pl c h = no_letter_lem pl c
  letter_true letter.Request pl c h = absurd h
  letter_true letter.Cancel pl c h = absurd h
  letter_true letter.Approve pl c h = rw (h.2, h.3) (approve h.1)
  letter_true letter.Deny pl c h = rw h.2 (deny h.1 c)
  letter_true letter.Exit pl c h = absurd h

module _ (p : Plan) (a : Accepts p) (y : Yard) (r : Record) (f : Formed p y) (i : ℕ) (low : 1 ≤ i) (used : i ≤ p.N) where
  pub heard_true :
      Says (Entered p i (up p y r i).place (up p y r i).clock) (Idle (up p y r i).place) (heard r (risen p y r) i)
  heard_true =
      let high : i ≤ 8 = omega (arith, a.devices) in
      let d : Device = device y i in
      let u : Device = up p y r i in
      on_cond (Says (Entered p i u.place u.clock) (Idle u.place)) (up_lost r i) (λ e. tt)
      (λ e.
      rw (risen_used p y r i low high used)
      (letter_true p a r i d.letter d.place d.clock (f.lettered i low high used)))
