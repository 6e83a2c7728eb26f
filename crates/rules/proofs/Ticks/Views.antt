-- What a tick does to one device: its four steps, seen at device i. Everything about a general i goes through here.
use Rattle.std.proofs.Common.{ℕ, ◌≤◌, ◌<◌, ◌≡◌, refl, ◌∙◌, ap, cond, leb, le-leb}
use borrow.Author.Tests.{lt-leb}
use Rattle.laws.proofs.Lists.{tabulate_at}
use Rattle.rules.specs.declared.Plan.{Plan}
use Rattle.rules.specs.declared.Yard.{Yard}
use Rattle.rules.specs.declared.Record.{Record}
use Rattle.rules.specs.declared.Device.{Device}
use Rattle.rules.specs.Letters as letter
use Rattle.rules.specs.declared.BaseMove.{BaseMove}
use Rattle.rules.specs.Plan.{terms}
use Rattle.rules.specs.Yard.{at, device, fresh_device}
use Rattle.rules.specs.Tick.{sent, tick}
use Rattle.rules.specs.Tick.Input.{approval}
use Rattle.rules.specs.Tick.Step1.{each_device, place_clock, lease_clock, clocked, step1}
use Rattle.rules.specs.Tick.Step2.{moved_at, step2}
use Rattle.rules.specs.Tick.Step3.{heard, base_move, letter_gone, step3}
use Rattle.rules.specs.Numbers.{base_index}
use Rattle.rules.specs.Tick.Step4.{delivered, step4}

-- A yard whose devices have each done f.
module _ (p : Plan) (f : ℕ → Device → Device) (y z : Yard) (done : z.devices ≡ each_device p f y) (i : ℕ) (low : 1 ≤ i) (high : i ≤ 8) where
  each_view : device z i ≡ cond (leb i p.N) (f i (device y i)) (device y i)
  unfolding device each_device
  each_view = rw done (tabulate_at _ 8 i fresh_device low high)

  pub each_used : i ≤ p.N → device z i ≡ f i (device y i)
  each_used used = rw (le-leb i p.N used) at each_view

  pub each_unused : p.N < i → device z i ≡ device y i
  each_unused over = rw (lt-leb i p.N over) at each_view

module _ (p : Plan) (y : Yard) (r : Record) where
  -- The yard when the letters go up, and what the supervisor then does.
  abbrev pub risen : Yard
  risen = step2 p r (step1 p y)

  abbrev pub turn : BaseMove
  turn =
      base_move (terms p) (approval r) (heard r risen p.N) (heard r risen (base_index y.base)) y.base
      (place_clock (terms p) y.base y.clock) (lease_clock y.base y.lease)

  -- Device i when the letters go up.
  abbrev pub up : ℕ → Device
  up i = moved_at p r i (clocked p i (device y i))

  module _ (i : ℕ) (low : 1 ≤ i) (high : i ≤ 8) where
    pub risen_used : i ≤ p.N → device risen i ≡ up i
    unfolding step1 step2
    risen_used used =
        each_used p (moved_at p r) (step1 p y) risen refl i low high used
        ∙ ap (moved_at p r i) (each_used p (clocked p) y (step1 p y) refl i low high used)

    pub tick_used : i ≤ p.N → device (tick p y r) i ≡ delivered p r turn.down i (at (up i).place (up i).clock letter.none)
    unfolding tick sent step1 step2 step3 step4
    tick_used used =
        each_used p (delivered p r turn.down) (sent p y r).yard (tick p y r) refl i low high used
        ∙ ap (delivered p r turn.down i)
        (each_used p letter_gone risen (sent p y r).yard refl i low high used ∙ ap (letter_gone i) (risen_used used))

    pub tick_unused : p.N < i → device (tick p y r) i ≡ device y i
    unfolding tick sent step1 step2 step3 step4
    tick_unused over =
        each_unused p (delivered p r turn.down) (sent p y r).yard (tick p y r) refl i low high over
        ∙ each_unused p letter_gone risen (sent p y r).yard refl i low high over
        ∙ each_unused p (moved_at p r) (step1 p y) risen refl i low high over
        ∙ each_unused p (clocked p) y (step1 p y) refl i low high over

  -- Where the supervisor then stands, and what it has sent.
  pub tick_base : (tick p y r).base ≡ turn.base
  unfolding tick sent step1 step2 step3 step4
  tick_base = refl

  pub tick_clock : (tick p y r).clock ≡ turn.clock
  unfolding tick sent step1 step2 step3 step4
  tick_clock = refl

  pub tick_lease : (tick p y r).lease ≡ turn.lease
  unfolding tick sent step1 step2 step3 step4
  tick_lease = refl

  pub tick_down : (sent p y r).down ≡ turn.down
  unfolding sent step1 step2 step3
  tick_down = refl
