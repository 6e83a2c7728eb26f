-- What the base does in a tick, said of the devices at the tick's end: the one that it goes on from has just entered, the
-- one that it goes back from is idle.
use Rattle.std.proofs.Common.{ℕ, ◌+◌, ◌*◌, ◌≤◌, ◌<◌, arith, ◌≡◌, refl, eqb, eqb-true, lt-ltb}
use Rattle.laws.proofs.Tests.{tests, case}
use Rattle.rules.specs.declared.Plan.{Plan}
use Rattle.rules.specs.declared.Yard.{Yard}
use Rattle.rules.specs.declared.Record.{Record}
use Rattle.rules.specs.declared.Device.{Device}
use Rattle.rules.specs.declared.Base.{Base}
use Rattle.rules.specs.declared.Base.TheVariants as base
use Rattle.rules.specs.Plan.{LS, terms}
use Rattle.rules.specs.Yard.{device}
use Rattle.rules.specs.Tick.{tick}
use Rattle.rules.specs.Tick.Input.{approval}
use Rattle.rules.specs.Tick.Step1.{place_clock, lease_clock}
use Rattle.rules.specs.Numbers.{base_index}
use Rattle.rules.specs.Theorems.{Accepts}
use Rattle.rules.proofs.States.Formed.{Based, Formed}
use Rattle.rules.proofs.Ticks.Views.{turn, up, tick_base, tick_clock, tick_lease}
use Rattle.rules.proofs.Ticks.Keeps.Base.{clock_kept}
use Rattle.rules.proofs.Promises.Stays.Stay.{Active, Idle}
use Rattle.rules.proofs.Promises.Stays.Hears.{asked, called_off}
use Rattle.rules.proofs.Promises.Stays.Ticked.{tick_idle, tick_same}
use Rattle.rules.proofs.Promises.Bases.Letters.{Entered, heard_true}
use Rattle.rules.proofs.Promises.Bases.Turns.{Turn, Turned, Prompt, turned}

-- Away from Fall-Back step 1 adds a tick to the lease clock.
pub lease_runs : (b : Base) (l : ℕ) → 1 ≤ base_index b → lease_clock b l ≡ l + 1
lease_runs base.FallBack l h = absurd (omega arith)
lease_runs (base.Lease i) l h = refl
lease_runs (base.Cancel i) l h = refl
lease_runs (base.Abort i) l h = refl

base_used : (p : Plan) (b : Base) (c l : ℕ) → Based p b c l → base_index b ≤ p.N
base_used p base.FallBack c l h = omega arith
base_used p (base.Lease i) c l h = h.0.high
base_used p (base.Cancel i) c l h = h.0.high
base_used p (base.Abort i) c l h = h.0.high

-- Step 1 adds a tick to both clocks of a waiting base.
prompt_kept :
    (p : Plan) (b : Base) (c l : ℕ) → Prompt p b c l → Prompt p b (place_clock (terms p) b c) (lease_clock b l)
prompt_kept p base.FallBack c l h = tt
prompt_kept p (base.Lease i) c l h = λ few. rw (lt-ltb i p.N few) (omega (arith, h few))
prompt_kept p (base.Cancel i) c l h = tt
prompt_kept p (base.Abort i) c l h = tt

module _ (p : Plan) (y : Yard) (r : Record) where
  -- The device of the base's place when the tick begins, 0 in Fall-Back; how it stands when the letters go up, and at the end.
  abbrev index : ℕ
  index = base_index y.base

  abbrev then : Device
  then = up p y r index

  abbrev finally : Device
  finally = device (tick p y r) index

  -- What the base does, where u is the device of its place.
  abbrev TurnBy : Device → Type 0
  TurnBy u = Turn p (Entered p index u.place u.clock) (Idle u.place) index (lease_clock y.base y.lease) (turn p y r)

  abbrev TurnOf : Type 0
  TurnOf = TurnBy finally

  -- What a device that is asked may take for granted.
  pub record Asks (j : ℕ) : Type 0 where
    pub reached : j ≤ base_index (tick p y r).base
    pub early : (tick p y r).lease + p.W ≤ j * p.W
    pub after :
        (i : ℕ) → 1 ≤ i → j ≡ i + 1 → Entered p i (device (tick p y r) i).place (device (tick p y r) i).clock

  module _ (a : Accepts p) (f : Formed p y) (soon : Prompt p y.base y.clock y.lease) where
    rising :
        Turned p (Entered p index then.place then.clock) (Idle then.place) index
        (lease_clock y.base y.lease) (turn p y r)
    rising =
        turned p a _ _ (approval r) _ _ y.base _ _ (clock_kept p a y.base y.clock y.lease f.based)
        (prompt_kept p y.base y.clock y.lease soon) (heard_true p a y r f index)

    -- It calls off no device but that of its new place, and comes to each Lease in time.
    pub tick_calls : 1 ≤ called_off (turn p y r).down → called_off (turn p y r).down ≡ base_index (tick p y r).base
    tick_calls = rw (tick_base p y r) rising.calls

    pub tick_prompt : Prompt p (tick p y r).base (tick p y r).clock (tick p y r).lease
    tick_prompt = rw (tick_base p y r, tick_clock p y r, tick_lease p y r) rising.prompt

    used : index ≤ p.N
    used = base_used p y.base y.clock y.lease f.based

    settled : TurnBy then → TurnOf
    settled (Turn.rests a b c) = Turn.rests a b c
    settled (Turn.opens a b c d) = Turn.opens a b c d
    settled (Turn.goes_on came low b c d e) =
        let unheard : called_off (turn p y r).down ≡ index → ⊥ =
        λ q. omega (arith, rising.calls (omega arith)) in
        let same = tick_same p y r index a f low used (λ q. omega arith) unheard in
        Turn.goes_on (rw (same.0, same.1) came) low b c d e
    settled (Turn.holds a b c d) = Turn.holds a b c d
    settled (Turn.goes_back gone b c d) =
        Turn.goes_back (tick_idle p y r index a f (omega arith) used (λ q. omega arith) gone) b c d
    settled (Turn.expires a b c) = Turn.expires a b c

    turns : TurnOf
    turns = settled rising.kind

    -- While the base is away the lease clock adds 1 a tick.
    pub tick_runs : 1 ≤ index → 1 ≤ base_index (tick p y r).base → (tick p y r).lease ≡ y.lease + 1
    tick_runs was is = rw (tick_lease p y r) (by turns)
      where
        one : lease_clock y.base y.lease ≡ y.lease + 1
        one = lease_runs y.base y.lease was

        away : 1 ≤ base_index (turn p y r).base
        away = rw (tick_base p y r) at is

        by : TurnOf → (turn p y r).lease ≡ y.lease + 1
        by (Turn.rests a b c) = absurd (omega arith)
        by (Turn.opens a b c d) = absurd (omega arith)
        by (Turn.goes_on a b c d e f) = omega (arith, one)
        by (Turn.holds a b c d) = omega (arith, one)
        by (Turn.goes_back a b c d) = omega (arith, one, d away)
        by (Turn.expires a b c) = absurd (omega (arith, away))

    -- The base leaves a device behind only when it is out, or when the lease is over.
    pub tick_leaves :
        (j : ℕ) → 1 ≤ j → j ≤ index → Active (device (tick p y r) j).place → y.lease + 1 < LS p
        → j ≤ base_index (tick p y r).base
    tick_leaves j low reach active early = rw (tick_base p y r) (by turns)
      where
        by : TurnOf → j ≤ base_index (turn p y r).base
        by (Turn.rests a b c) = absurd (omega (arith, reach))
        by (Turn.opens a b c d) = absurd (omega (arith, reach))
        by (Turn.goes_on a b c d e f) = omega (arith, reach)
        by (Turn.holds a b c d) = omega (arith, reach)
        by (Turn.goes_back gone b c d) =
            case (eqb j index) (λ e. absurd (gone (rw (eqb-true j index e) at active))) (λ e. omega (tests, reach))
        by (Turn.expires over b c) = absurd (omega (arith, early, lease_runs y.base y.lease (omega (arith, reach))))

    -- The device that is asked is that of the base's new place, it is asked within (j-1) × W ticks of the lease, and the one
    -- below it has just entered.
    pub tick_asks : (j : ℕ) → 1 ≤ j → asked (turn p y r).down ≡ j → Asks j
    tick_asks j low ask = by turns
      where
        by : TurnOf → Asks j
        by (Turn.rests a b c) = absurd (omega arith)
        by (Turn.opens a b c d) =
            let one : j ≡ 1 = omega arith in
            record {
              reached = rw (tick_base p y r) (omega arith);
              early = rw one (omega (arith, tick_lease p y r));
              after = λ i some next. absurd (omega arith);
            }
        by (Turn.goes_on came b c d e f) =
            let one : j ≡ index + 1 = omega arith in
            record {
              reached = rw (tick_base p y r) (omega arith);
              early = rw one (omega (arith, tick_lease p y r));
              after = λ i some next. let here : index ≡ i = omega arith in rw here at came;
            }
        by (Turn.holds a b c d) = absurd (omega arith)
        by (Turn.goes_back a b c d) = absurd (omega arith)
        by (Turn.expires a b c) = absurd (omega arith)
