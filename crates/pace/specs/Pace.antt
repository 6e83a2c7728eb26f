-- One device of a tick, until its letter has gone up, and the device that a down letter reaches, as the run's loop computes
-- them on the way; what a caller is promised is `tick_answer` and `run_answer` of the rules.
use Rattle.std.specs.Prelude.{ℕ, ◌+◌, Bool, not, ◌&&◌, ◌||◌, cond, leb, eqb, Option, Some, None}
use Rattle.rules.specs.declared.Slot.{Slot}
use Rattle.rules.specs.declared.Device.{Device}
use Rattle.rules.specs.declared.Letter.{Letter}
use Rattle.rules.specs.Letters as letter
use Rattle.rules.specs.declared.Down.{Down}
use Rattle.rules.specs.Yard.{writes, clock_at}
use Rattle.rules.specs.Numbers.{place_number, letter_number, down_index}
use Rattle.rules.specs.Tick.Step1.{stops_at, device_clock}
use Rattle.pace.specs.declared.Risen.{Risen}

-- Step 1 of one device.
abbrev pub clocked_by : Slot → Device → Device
clocked_by s d = clock_at (device_clock s d.place d.clock) d

-- What is heard of a letter that went up.
abbrev pub heard_of : Bool → Option Letter → Option Letter
heard_of lost l = cond lost letter.none l

-- Whether more than a device's clock moves, if it runs to `time`: a letter waits, a command is heeded (a request in Fall-Back,
-- elsewhere a cancel), or the clock comes to that time.
unfoldable pub stirring : ℕ → ℕ → Device → Bool
stirring time command d =
    let waits = not (eqb (letter_number d.letter) 0) in
    cond (eqb (place_number d.place) 0) (waits || eqb command 1) ((waits || eqb command 2) || leb time (d.clock + 1))

-- What a device does in a tick: only its clock moves, to this, or more than that.
abbrev pub pace_by : ℕ → ℕ → Device → Option ℕ
pace_by time command d = cond (stirring time command d) None (Some (stops_at time d.clock))

-- d has moved: it is left without its letter, which is heard.
abbrev pub went_up : Bool → Device → Risen
went_up lost d = record { device = writes letter.none d; heard = heard_of lost d.letter }

-- The device that a down letter reaches, of n: the one that it is for, unless it is lost. There is no device 0.
abbrev pub reached_by : ℕ → Bool → Option Down → Option ℕ
reached_by n lost l =
    cond (eqb (down_index l) 0) None
    (cond (leb (down_index l) n && not lost) (Some (down_index l)) None)
