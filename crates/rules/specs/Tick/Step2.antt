-- Document 01, "One tick", step 2: each device makes at most one move; a new place starts its clock at 0.
use Rattle.std.specs.Prelude.{ℕ, Bool, false, cond, eqb}
use Rattle.rules.specs.declared.Plan.{Plan}
use Rattle.rules.specs.declared.Slot.{Slot}
use Rattle.rules.specs.declared.Place.{Place}
use Rattle.rules.specs.declared.Place.TheVariants as place
use Rattle.rules.specs.Letters as letter
use Rattle.rules.specs.declared.Device.{Device}
use Rattle.rules.specs.declared.Yard.{Yard}
use Rattle.rules.specs.declared.Record.{Record}
use Rattle.rules.specs.Plan.{slot}
use Rattle.rules.specs.Yard.{goes_to, goes_writing}
use Rattle.rules.specs.Tick.Input.{request, cancel}
use Rattle.rules.specs.Tick.Step1.{each_device}

-- Due: Requesting at Q, Entering at E, Running at R, either Exiting at X.
abbrev pub due : ℕ → Slot → Place → ℕ → Bool
due Q s place.FallBack c = false
due Q s place.Requesting c = eqb c Q
due Q s place.Entering c = eqb c s.E
due Q s place.Running c = eqb c s.R
due Q s place.Exiting1 c = eqb c s.X
due Q s place.Exiting2 c = eqb c s.X

-- Requesting to Fall-Back; Entering to Running; Running to Exiting 1; either Exiting to Fall-Back with the letter Exit.
-- A move with no letter of its own keeps a letter that waits. Nothing is ever due in Fall-Back.
abbrev pub due_move : Place → Device → Device
due_move place.FallBack d = d
due_move place.Requesting d = goes_to place.FallBack d
due_move place.Entering d = goes_to place.Running d
due_move place.Running d = goes_to place.Exiting1 d
due_move place.Exiting1 d = goes_writing place.FallBack letter.Exit d
due_move place.Exiting2 d = goes_writing place.FallBack letter.Exit d

-- Request: from Fall-Back at clock F, to Requesting, letter Request. Elsewhere it is ignored.
abbrev pub heed_request : Slot → Place → Device → Device
heed_request s place.FallBack d = cond (eqb d.clock s.F) (goes_writing place.Requesting letter.Request d) d
heed_request s place.Requesting d = d
heed_request s place.Entering d = d
heed_request s place.Running d = d
heed_request s place.Exiting1 d = d
heed_request s place.Exiting2 d = d

-- Cancel: Requesting to Fall-Back, Entering to Exiting 2, Running to Exiting 1, each with letter Cancel. Elsewhere it is
-- ignored.
abbrev pub heed_cancel : Place → Device → Device
heed_cancel place.FallBack d = d
heed_cancel place.Requesting d = goes_writing place.FallBack letter.Cancel d
heed_cancel place.Entering d = goes_writing place.Exiting2 letter.Cancel d
heed_cancel place.Running d = goes_writing place.Exiting1 letter.Cancel d
heed_cancel place.Exiting1 d = d
heed_cancel place.Exiting2 d = d

unfoldable pub heed : Slot → ℕ → Device → Device
heed s command d =
    cond (eqb command request) (heed_request s d.place d) (cond (eqb command cancel) (heed_cancel d.place d) d)

-- One device's move, by Q, its slot, whether it is the initializer, and the command. Due time first; only if nothing was
-- due for it, the initializer heeds the command.
unfoldable pub moved : ℕ → Slot → Bool → ℕ → Device → Device
moved Q s initializer command d =
    cond (due Q s d.place d.clock) (due_move d.place d) (cond initializer (heed s command d) d)

-- Step 2 of device i.
abbrev pub moved_at : Plan → Record → ℕ → Device → Device
moved_at p r i d = moved p.Q (slot p i) (eqb i p.N) r.command d

unfoldable pub step2 : Plan → Record → Yard → Yard
step2 p r y = record { base = y.base; clock = y.clock; lease = y.lease; devices = each_device p (moved_at p r) y }
