-- Document 01, "One tick", step 4: the down letter, if not lost, arrives. A new place starts its clock at 0.
use Rattle.std.specs.Prelude.{ℕ, Bool, cond, eqb, Option}
use Rattle.rules.specs.declared.Plan.{Plan}
use Rattle.rules.specs.declared.Slot.{Slot}
use Rattle.rules.specs.declared.Place.{Place}
use Rattle.rules.specs.declared.Place.TheVariants as place
use Rattle.rules.specs.Letters as letter
use Rattle.rules.specs.declared.Down.{Down}
use Rattle.rules.specs.Downs as down
use Rattle.rules.specs.declared.Device.{Device}
use Rattle.rules.specs.declared.Yard.{Yard}
use Rattle.rules.specs.declared.Record.{Record}
use Rattle.rules.specs.Plan.{slot}
use Rattle.rules.specs.Yard.{goes_to, goes_writing}
use Rattle.rules.specs.Tick.Input.{willing, down_lost}
use Rattle.rules.specs.Tick.Step1.{each_device}
use Rattle.rules.specs.Tick.Step3.{Sent}

-- LeaseReq: a participant in Fall-Back at clock F goes to Entering with letter Approve if willing, else stays with clock 0
-- and letter Deny; below clock F it ignores the letter. Elsewhere a letter is ignored.
abbrev pub hear_lease_req : Slot → Bool → Place → Device → Device
hear_lease_req s willing place.FallBack d =
    cond (eqb d.clock s.F)
    (cond willing (goes_writing place.Entering letter.Approve d) (goes_writing place.FallBack letter.Deny d))
    d
hear_lease_req s willing place.Requesting d = d
hear_lease_req s willing place.Entering d = d
hear_lease_req s willing place.Running d = d
hear_lease_req s willing place.Exiting1 d = d
hear_lease_req s willing place.Exiting2 d = d

-- Grant: Requesting to Entering. Elsewhere a letter is ignored.
abbrev pub hear_grant : Place → Device → Device
hear_grant place.FallBack d = d
hear_grant place.Requesting d = goes_to place.Entering d
hear_grant place.Entering d = d
hear_grant place.Running d = d
hear_grant place.Exiting1 d = d
hear_grant place.Exiting2 d = d

-- Cancel and Abort: Entering to Exiting 2, Running to Exiting 1. Elsewhere a letter is ignored.
abbrev pub hear_cancel : Place → Device → Device
hear_cancel place.FallBack d = d
hear_cancel place.Requesting d = d
hear_cancel place.Entering d = goes_to place.Exiting2 d
hear_cancel place.Running d = goes_to place.Exiting1 d
hear_cancel place.Exiting1 d = d
hear_cancel place.Exiting2 d = d

-- A letter has arrived: only the device that it is for, its number i, heeds it.
unfoldable pub arrived : Slot → Bool → Option Down → ℕ → Device → Device
arrived s willing down.none i d = d
arrived s willing (down.LeaseReq k) i d = cond (eqb i k) (hear_lease_req s willing d.place d) d
arrived s willing (down.Grant k) i d = cond (eqb i k) (hear_grant d.place d) d
arrived s willing (down.Cancel k) i d = cond (eqb i k) (hear_cancel d.place d) d
arrived s willing (down.Abort k) i d = cond (eqb i k) (hear_cancel d.place d) d

-- Step 4 of device i. Lost, the letter changes nothing.
abbrev pub delivered : Plan → Record → Option Down → ℕ → Device → Device
delivered p r l i d = cond (down_lost r) d (arrived (slot p i) (willing r i) l i d)

unfoldable pub step4 : Plan → Record → Sent → Yard
step4 p r s =
    let y = s.yard in
    record { base = y.base; clock = y.clock; lease = y.lease; devices = each_device p (delivered p r s.down) y }
