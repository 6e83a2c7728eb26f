-- A device that has no letter, heeds no command and for which nothing falls due: only its clock moves.
use Rattle.std.proofs.Common.{Option, Some, None, is_some, ℕ, ◌+◌, ◌<◌, arith, ◌≡◌, refl, true, false, not, eqb, ne_eqb, lt-ltb, eqb-true, leb-false}
use borrow.Author.Tests.{eqb-false, not-false}
use denote.Enum.Bare.{sameb}
use Rattle.rules.specs.contracts.Place.{the_type}
use Rattle.laws.proofs.Tests.{case, or_none}
use Rattle.times.specs.Times.{time_of}
use Rattle.rules.specs.declared.Slot.{Slot}
use Rattle.rules.specs.declared.Place.{Place}
use Rattle.rules.specs.declared.Place.TheVariants as place
use Rattle.rules.specs.declared.Letter.{Letter}
use Rattle.rules.specs.Letters as letter
use Rattle.rules.specs.declared.Device.{Device}
use Rattle.rules.specs.Yard.{clock_at}
use Rattle.rules.specs.Numbers.{place_number, letter_number}
use Rattle.rules.specs.Tick.Step1.{stops_at, device_clock}
use Rattle.rules.specs.Tick.Step2.{due, heed, heed_request, moved}
use Rattle.pace.specs.Pace.{clocked_by, stirring, pace_by}

-- As the code asks: whether a letter waits, and whether a device is in Fall-Back.
pub waits_is : (l : Option Letter) → is_some l ≡ not (eqb (letter_number l) 0)
waits_is letter.none = refl
waits_is letter.Request = refl
waits_is letter.Cancel = refl
waits_is letter.Approve = refl
waits_is letter.Deny = refl
waits_is letter.Exit = refl

pub rests_is : (pl : Place) → sameb the_type pl place.FallBack ≡ eqb (place_number pl) 0
rests_is place.FallBack = refl
rests_is place.Requesting = refl
rests_is place.Entering = refl
rests_is place.Running = refl
rests_is place.Exiting1 = refl
rests_is place.Exiting2 = refl

pub no_letter_lem : (l : Option Letter) → letter_number l ≡ 0 → l ≡ letter.none
no_letter_lem letter.none e = refl
no_letter_lem letter.Request e = absurd (omega arith)
no_letter_lem letter.Cancel e = absurd (omega arith)
no_letter_lem letter.Approve e = absurd (omega arith)
no_letter_lem letter.Deny e = absurd (omega arith)
no_letter_lem letter.Exit e = absurd (omega arith)

pub number_below : (pl : Place) → place_number pl < 6
number_below place.FallBack = omega arith
number_below place.Requesting = omega arith
number_below place.Entering = omega arith
number_below place.Running = omega arith
number_below place.Exiting1 = omega arith
number_below place.Exiting2 = omega arith

in_fall_back_lem : (pl : Place) → place_number pl ≡ 0 → pl ≡ place.FallBack
in_fall_back_lem place.FallBack here = refl
in_fall_back_lem place.Requesting here = absurd (omega arith)
in_fall_back_lem place.Entering here = absurd (omega arith)
in_fall_back_lem place.Running here = absurd (omega arith)
in_fall_back_lem place.Exiting1 here = absurd (omega arith)
in_fall_back_lem place.Exiting2 here = absurd (omega arith)

module _ (Q : ℕ) (s : Slot) (command : ℕ) where
  undue :
      (d : Device) (next : ℕ) → device_clock s d.place d.clock ≡ next → due Q s d.place next ≡ false
      → heed s command (clock_at next d) ≡ clock_at next d
      → moved Q s true command (clocked_by s d) ≡ clock_at next d
  unfolding moved
  undue d next clock none unheeded = rw (clock, none) unheeded

  -- In Fall-Back the clock stops at F, nothing is due, and only a request is heeded.
  rests :
      (d : Device) → place_number d.place ≡ 0 → (command ≡ 1 → ⊥)
      → moved Q s true command (clocked_by s d) ≡ clock_at (stops_at (time_of Q s (place_number d.place)) d.clock) d
  unfolding heed time_of
  rests d here other =
      let rest : d.place ≡ place.FallBack = in_fall_back_lem d.place here in
      undue d _ (rw rest) (rw rest)
      (rw (ne_eqb command 1 other) (case (eqb command 2) (λ q. rw q (rw rest)) (λ q. rw q)))

  -- Elsewhere it adds 1, is due at the time of the place, and a request is not heeded.
  away :
      (pl : Place) (c : ℕ) (d : Device) → (place_number pl ≡ 0 → ⊥) → (c + 1 ≡ time_of Q s (place_number pl) → ⊥)
      → (device_clock s pl c ≡ c + 1) × (due Q s pl (c + 1) ≡ false) × (heed_request s pl d ≡ d)
  unfolding time_of
  away place.FallBack c d out later = absurd (out refl)
  away place.Requesting c d out later = (refl, ne_eqb _ _ later, refl)
  away place.Entering c d out later = (refl, ne_eqb _ _ later, refl)
  away place.Running c d out later = (refl, ne_eqb _ _ later, refl)
  away place.Exiting1 c d out later = (refl, ne_eqb _ _ later, refl)
  away place.Exiting2 c d out later = (refl, ne_eqb _ _ later, refl)

  goes_on :
      (d : Device) → (place_number d.place ≡ 0 → ⊥) → (command ≡ 2 → ⊥)
      → (d.clock + 1 ≡ time_of Q s (place_number d.place) → ⊥)
      → moved Q s true command (clocked_by s d) ≡ clock_at (d.clock + 1) d
  unfolding heed
  goes_on d out other later =
      let on = away d.place d.clock (clock_at (d.clock + 1) d) out later in
      undue d _ on.0 on.1 (rw (ne_eqb command 2 other) (case (eqb command 1) (λ q. rw q on.2) (λ q. rw q)))

-- Without a letter, steps 1 and 2 leave all but its clock, whatever its slot and Q are, if its clock runs to `time`.
-- A participant does what the initializer does without a command.
pub record Still (time command : ℕ) (d : Device) (clock : ℕ) : Type 0 where
  pub silent : d.letter ≡ letter.none
  pub device :
      (Q : ℕ) (s : Slot) → time ≡ time_of Q s (place_number d.place)
      → moved Q s true command (clocked_by s d) ≡ clock_at clock d

module _ (time command : ℕ) (d : Device) where
  -- What the device does leaves it still.
  abbrev pub Paced : Option ℕ → Type 0
  Paced (Some clock) = Still time command d clock
  Paced None = Unit

  still_resting :
      d.letter ≡ letter.none → place_number d.place ≡ 0 → (command ≡ 1 → ⊥)
      → Still time command d (stops_at time d.clock)
  still_resting silent here other = record {
    silent = silent;
    device = λ Q s time_is. rw time_is (rests Q s command d here other);
  }

  still_going :
      d.letter ≡ letter.none → (place_number d.place ≡ 0 → ⊥) → (command ≡ 2 → ⊥) → d.clock + 1 < time
      → Still time command d (stops_at time d.clock)
  still_going silent out other early = record {
    silent = silent;
    device = λ Q s time_is. rw (lt-ltb d.clock time (omega (arith, early))) (goes_on Q s command d out other (λ e. omega (arith, early)));
  }

  unstirred : stirring time command d ≡ false → Still time command d (stops_at time d.clock)
  unfolding stirring
  unstirred calm =
      case (eqb (place_number d.place) 0)
      (λ here.
      let none = or_none _ _ (rw here at calm) in
      still_resting (no_letter_lem d.letter (eqb-true _ _ (not-false _ none.0))) (eqb-true _ _ here) (eqb-false _ _ none.1))
      (λ out.
      let early = or_none _ _ (rw out at calm) in
      let none = or_none _ _ early.0 in
      still_going (no_letter_lem d.letter (eqb-true _ _ (not-false _ none.0))) (eqb-false _ _ out) (eqb-false _ _ none.1)
      (leb-false _ _ early.1))

  pub paced : {r : Option ℕ} → r ≡ pace_by time command d → Paced r
  paced is =
      rw is (case (stirring time command d) (λ q. rw q tt) (λ q. rw q (unstirred q)))
