-- One device's turn in a tick: what it is left as, and what is heard of it. In its place its clock runs to `time`.
use Rattle.std.specs.Prelude.{ℕ, ◌+◌, ◌*◌, cond, eqb, List, get_or, Option}
use Rattle.laws.specs.Bits.{bit}
use Rattle.rules.specs.declared.Device.{Device}
use Rattle.rules.specs.declared.Letter.{Letter}
use Rattle.rules.specs.Letters as letter
use Rattle.rules.specs.Yard.{clock_at}
use Rattle.rules.specs.Numbers.{place_number}
use Rattle.rules.specs.Tick.Step1.{stops_at}
use Rattle.rules.specs.Tick.Step2.{moved}
use Rattle.pace.specs.declared.Risen.{Risen}
use Rattle.pace.specs.declared.Turn.{Turn}
use Rattle.pace.specs.Pace.{clocked_by, stirring, went_up}

-- The time of the device at i, in a row that has six for each device.
abbrev pub time_in : List ℕ → ℕ → Device → ℕ
time_in row i d = get_or row (6 * i + place_number d.place) 0

-- As it moves, and its letter goes up.
abbrev pub rises : Turn → Device → Risen
rises t d = went_up (bit t.lost t.i) (moved t.Q t.slot t.initializer t.command (clocked_by t.slot d))

-- That, or only its clock moves.
abbrev pub turned : ℕ → Turn → Device → Device
turned time t d = cond (stirring time t.command d) (rises t d).device (clock_at (stops_at time d.clock) d)

abbrev pub heard_in : ℕ → Turn → Device → Option Letter
heard_in time t d = cond (stirring time t.command d) (rises t d).heard letter.none

-- What is heard of the device at `own`, which was `before` until this turn.
abbrev pub listened_in : ℕ → Turn → ℕ → Option Letter → Device → Option Letter
listened_in time t own before d =
    cond (stirring time t.command d) (cond (eqb t.i own) (rises t d).heard before) before
