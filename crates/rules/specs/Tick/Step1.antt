-- Document 01, "One tick", step 1: these clocks add 1: the place clock in Fall-Back and in Lease i with i < N, the lease
-- clock outside Fall-Back, those of devices 1 to N. Fall-Back clocks stop at B or F.
use Rattle.std.specs.Prelude.{ℕ, ◌+◌, cond, List, ltb}
use Rattle.laws.specs.Lists.{swept}
use Rattle.rules.specs.declared.Plan.{Plan}
use Rattle.rules.specs.declared.Slot.{Slot}
use Rattle.rules.specs.declared.Terms.{Terms}
use Rattle.rules.specs.declared.Base.{Base}
use Rattle.rules.specs.declared.Base.TheVariants as base
use Rattle.rules.specs.declared.Place.{Place}
use Rattle.rules.specs.declared.Place.TheVariants as place
use Rattle.rules.specs.declared.Device.{Device}
use Rattle.rules.specs.declared.Yard.{Yard}
use Rattle.rules.specs.Plan.{slot, terms}
use Rattle.rules.specs.Yard.{clock_at, device}

-- The eight devices after each of 1 to N has done f; slots above N stay as they are.
unfoldable pub each_device : Plan → (ℕ → Device → Device) → Yard → List Device
each_device p f y = swept (λ i. f i (device y i)) (device y) p.N 8

-- One more, but a clock that has reached its limit stops there.
abbrev pub stops_at : ℕ → ℕ → ℕ
stops_at limit c = cond (ltb c limit) (c + 1) c

abbrev pub place_clock : Terms → Base → ℕ → ℕ
place_clock t base.FallBack c = stops_at t.B c
place_clock t (base.Lease i) c = cond (ltb i t.N) (c + 1) c
place_clock t (base.Cancel i) c = c
place_clock t (base.Abort i) c = c

abbrev pub lease_clock : Base → ℕ → ℕ
lease_clock base.FallBack l = l
lease_clock (base.Lease i) l = l + 1
lease_clock (base.Cancel i) l = l + 1
lease_clock (base.Abort i) l = l + 1

abbrev pub device_clock : Slot → Place → ℕ → ℕ
device_clock s place.FallBack c = stops_at s.F c
device_clock s place.Requesting c = c + 1
device_clock s place.Entering c = c + 1
device_clock s place.Running c = c + 1
device_clock s place.Exiting1 c = c + 1
device_clock s place.Exiting2 c = c + 1

-- Step 1 of device i.
abbrev pub clocked : Plan → ℕ → Device → Device
clocked p i d = clock_at (device_clock (slot p i) d.place d.clock) d

unfoldable pub step1 : Plan → Yard → Yard
step1 p y =
    record {
      base = y.base;
      clock = place_clock (terms p) y.base y.clock;
      lease = lease_clock y.base y.lease;
      devices = each_device p (clocked p) y;
    }
