-- A stay: the places that belong to it, how many of its ticks are spent, and how old it is at least. What is left of it is
-- E + R + X less what is spent, and E + R less what is spent is left until Exiting 1.
use Rattle.std.proofs.Common.{ℕ, ◌+◌, ◌≤◌, ◌<◌, arith, ◌≡◌, refl, true}
use mathlib.Core.Bool.{false≢true}
use Rattle.rules.specs.declared.Plan.{Plan}
use Rattle.rules.specs.declared.Slot.{Slot}
use Rattle.rules.specs.declared.Place.{Place}
use Rattle.rules.specs.declared.Place.TheVariants as place
use Rattle.rules.specs.Plan.{slot, stay}
use Rattle.rules.specs.Yard.{engaged}
use Rattle.rules.proofs.States.Formed.{Placed}

-- A device is active from Entering to the end of its Exiting, and idle in Fall-Back and Requesting.
abbrev pub Active : Place → Type 0
Active place.FallBack = ⊥
Active place.Requesting = ⊥
Active place.Entering = Unit
Active place.Running = Unit
Active place.Exiting1 = Unit
Active place.Exiting2 = Unit

abbrev pub Idle : Place → Type 0
Idle pl = Active pl → ⊥

-- The ticks of its stay that a device has spent; one that is halted has spent all that comes before Exiting.
abbrev pub spent : Slot → Place → ℕ → ℕ
spent s place.FallBack c = 0
spent s place.Requesting c = 0
spent s place.Entering c = c
spent s place.Running c = s.E + c
spent s place.Exiting1 c = s.E + s.R + c
spent s place.Exiting2 c = s.E + s.R + c

-- So many ticks ago at least it entered; in Entering and Running it is what is spent.
abbrev pub age : Slot → Place → ℕ → ℕ
age s place.FallBack c = 0
age s place.Requesting c = 0
age s place.Entering c = c
age s place.Running c = s.E + c
age s place.Exiting1 c = s.E + c
age s place.Exiting2 c = c

pub engaged_active : (pl : Place) → engaged pl ≡ true → Active pl
unfolding engaged
engaged_active place.FallBack e = false≢true e
engaged_active place.Requesting e = false≢true e
engaged_active place.Entering e = tt
engaged_active place.Running e = tt
engaged_active place.Exiting1 e = tt
engaged_active place.Exiting2 e = tt

module _ (p : Plan) (i : ℕ) where
  -- An active device has not spent its whole stay.
  pub some_left : (pl : Place) (c : ℕ) → Placed p i pl c → Active pl → spent (slot p i) pl c < stay p i
  some_left place.FallBack c h l = absurd l
  some_left place.Requesting c h l = absurd l
  some_left place.Entering c h l = omega arith
  some_left place.Running c h l = omega arith
  some_left place.Exiting1 c h l = omega arith
  some_left place.Exiting2 c h l = omega arith

  -- An engaged device has Entering behind it.
  pub engaged_past :
      (pl : Place) (c : ℕ) → engaged pl ≡ true
      → ((slot p i).E ≤ age (slot p i) pl c) × ((slot p i).E ≤ spent (slot p i) pl c)
  unfolding engaged
  engaged_past place.FallBack c e = absurd (false≢true e)
  engaged_past place.Requesting c e = absurd (false≢true e)
  engaged_past place.Entering c e = absurd (false≢true e)
  engaged_past place.Running c e = omega arith
  engaged_past place.Exiting1 c e = omega arith
  engaged_past place.Exiting2 c e = absurd (false≢true e)

  -- And an active one that has Entering behind it and Exiting before it is engaged.
  pub engaged_between :
      (pl : Place) (c : ℕ) → Placed p i pl c → Active pl
      → (slot p i).E ≤ spent (slot p i) pl c → spent (slot p i) pl c < (slot p i).E + (slot p i).R → engaged pl ≡ true
  unfolding engaged
  engaged_between place.FallBack c h l from to = absurd l
  engaged_between place.Requesting c h l from to = absurd l
  engaged_between place.Entering c h l from to = absurd (omega arith)
  engaged_between place.Running c h l from to = refl
  engaged_between place.Exiting1 c h l from to = refl
  engaged_between place.Exiting2 c h l from to = absurd (omega arith)
