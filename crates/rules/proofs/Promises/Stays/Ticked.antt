-- One tick of a device, as its stay sees it: steps 1 and 2, then step 4.
use Rattle.std.proofs.Common.{ℕ, ◌≤◌, ◌<◌, arith, ◌≡◌, ◌∙◌}
use Rattle.rules.specs.declared.Plan.{Plan}
use Rattle.rules.specs.declared.Slot.{Slot}
use Rattle.rules.specs.declared.Yard.{Yard}
use Rattle.rules.specs.declared.Device.{Device}
use Rattle.rules.specs.declared.Record.{Record}
use Rattle.rules.specs.Plan.{slot}
use Rattle.rules.specs.Yard.{device}
use Rattle.rules.specs.Tick.{tick}
use Rattle.rules.specs.Theorems.{Accepts}
use Rattle.rules.proofs.States.Formed.{Formed}
use Rattle.rules.proofs.Ticks.Views.{turn, up, tick_used}
use Rattle.rules.proofs.Ticks.Keeps.Devices.{up_placed}
use Rattle.rules.proofs.Promises.Stays.Stay.{Idle}
use Rattle.rules.proofs.Promises.Stays.Moves.{Stays, Step, steps_up}
use Rattle.rules.proofs.Promises.Stays.Hears.{Hears, asked, called_off, hears_down, ready_idle}

-- A device whose stay ended in step 2 is not ready in step 4, since F is at least 1.
module _ (s : Slot) (some : 1 ≤ s.F) (Last Asked Off Either : Type 0) (last : Last → Either) (off : Off → Either) (d u e : Device) where
  stays_same : e.place ≡ u.place → e.clock ≡ u.clock → Stays s 1 d u → Stays s 1 d e
  stays_same pl c h =
      record { was = h.was; is = rw pl h.is; older = rw (pl, c) h.older; engages = rw pl h.engages }

  joined : Step s ⊥ Last d u → Hears s Asked Off u e → Step s Asked Either d e
  joined (Step.rests idle still) (Hears.same pl c) = Step.rests idle (rw pl still)
  joined (Step.rests idle still) (Hears.denies ask at pl c) = Step.rests idle (rw pl (λ q. q))
  joined (Step.rests idle still) (Hears.starts ask ready pl c) = Step.starts ask idle pl c
  joined (Step.rests idle still) (Hears.halted o h few all) = absurd (still h.was)
  joined (Step.starts never idle pl c) hears = absurd never
  joined (Step.goes_on h one) (Hears.same pl c) = Step.goes_on (stays_same pl c h) (rw (pl, c) one)
  joined (Step.goes_on h one) (Hears.denies ask at pl c) = absurd (rw at at h.is)
  joined (Step.goes_on h one) (Hears.starts ask ready pl c) = absurd (ready_idle s u.place u.clock ready h.is)
  joined (Step.goes_on h one) (Hears.halted o k few all) =
      Step.halted (off o)
      (record { was = h.was; is = k.is; older = omega (arith, h.older, k.older); engages = λ q. k.engages (h.engages q) })
      (omega arith) all
  joined (Step.halted o h few all) (Hears.same pl c) = Step.halted (last o) (stays_same pl c h) few (rw (pl, c) all)
  joined (Step.halted o h few all) (Hears.denies ask at pl c) = absurd (rw at at h.is)
  joined (Step.halted o h few all) (Hears.starts ask ready pl c) = absurd (ready_idle s u.place u.clock ready h.is)
  joined (Step.halted o h few all) (Hears.halted o' k few' all') = absurd (omega arith)
  joined (Step.ends was one at zero) (Hears.same pl c) = Step.ends was one (pl ∙ at) (c ∙ zero)
  joined (Step.ends was one at zero) (Hears.denies ask at' pl c) = Step.ends was one pl c
  joined (Step.ends was one at zero) (Hears.starts ask ready pl c) =
      let rested : u.clock ≡ s.F = rw at at ready in absurd (omega arith)
  joined (Step.ends was one at zero) (Hears.halted o k few all) = absurd (rw at at k.was)

module _ (p : Plan) (y : Yard) (r : Record) (i : ℕ) where
  -- The whole tick: only a device that is asked starts, and a participant is halted only if it is called off.
  abbrev pub StepOf : Type 0
  StepOf =
      Step (slot p i) (asked (turn p y r).down ≡ i) (i < p.N → called_off (turn p y r).down ≡ i)
      (device y i) (device (tick p y r) i)

  -- From the letters' going up to the tick's end.
  abbrev HearsOf : Type 0
  HearsOf =
      Hears (slot p i) (asked (turn p y r).down ≡ i) (called_off (turn p y r).down ≡ i) (up p y r i) (device (tick p y r) i)

  module _ (a : Accepts p) (f : Formed p y) (low : 1 ≤ i) (used : i ≤ p.N) where
    in_slots : i ≤ 8
    in_slots = omega (arith, a.devices)

    tick_hears : HearsOf
    tick_hears =
        rw (tick_used p y r i low in_slots used)
        (hears_down p i r (turn p y r).down (up p y r i) (up_placed p a i low used r (device y i) (f.placed i low in_slots used)))

    pub tick_steps : StepOf
    tick_steps =
        joined (slot p i) (a.device_times i low used).0.low (i ≡ p.N) _ (called_off (turn p y r).down ≡ i) _
        (λ last few. absurd (omega arith)) (λ off few. off) (device y i) (up p y r i) (device (tick p y r) i)
        (steps_up p i r (device y i) (f.placed i low in_slots used)) tick_hears

    -- A device that is idle when the letters go up, and is not asked, ends the tick idle.
    pub tick_idle : (asked (turn p y r).down ≡ i → ⊥) → Idle (up p y r i).place → Idle (device (tick p y r) i).place
    tick_idle unasked idle = stays_idle tick_hears
      where
        stays_idle : HearsOf → Idle (device (tick p y r) i).place
        stays_idle (Hears.same pl c) = rw pl idle
        stays_idle (Hears.denies q at pl c) = absurd (unasked q)
        stays_idle (Hears.starts q h pl c) = absurd (unasked q)
        stays_idle (Hears.halted o h few all) = absurd (idle h.was)

    -- One that is neither asked nor called off ends the tick as it was then.
    abbrev Same : Type 0
    Same = ((device (tick p y r) i).place ≡ (up p y r i).place) × ((device (tick p y r) i).clock ≡ (up p y r i).clock)

    pub tick_same : (asked (turn p y r).down ≡ i → ⊥) → (called_off (turn p y r).down ≡ i → ⊥) → Same
    tick_same unasked kept = stands_same tick_hears
      where
        stands_same : HearsOf → Same
        stands_same (Hears.same pl c) = (pl, c)
        stands_same (Hears.denies q at pl c) = absurd (unasked q)
        stands_same (Hears.starts q h pl c) = absurd (unasked q)
        stands_same (Hears.halted o h few all) = absurd (kept o)
