-- One tick as this crate computes it is the tick of document 01.
use Rattle.std.proofs.Common.{Option, ℕ, ◌+◌, ◌-◌, ◌≤◌, arith, ◌≡◌, refl, sym, ◌∙◌, ap, cond, List, leb, leb-true, leb-false, lt-ltb}
use Rattle.laws.proofs.Tests.{case}
use Rattle.laws.proofs.Lists.{tabulate_same}
use Rattle.rules.specs.declared.Plan.{Plan}
use Rattle.rules.specs.declared.Yard.{Yard}
use Rattle.rules.specs.declared.Record.{Record}
use Rattle.rules.specs.declared.Device.{Device}
use Rattle.rules.specs.declared.Letter.{Letter}
use Rattle.rules.specs.Letters as letter
use Rattle.rules.specs.declared.BaseMove.{BaseMove}
use Rattle.rules.specs.Plan.{slot, terms}
use Rattle.rules.specs.Yard.{writes, device}
use Rattle.rules.specs.Tick.{sent, tick}
use Rattle.rules.specs.Tick.Input.{approval, down_lost}
use Rattle.rules.specs.Tick.Step1.{each_device, clocked, place_clock, lease_clock, step1}
use Rattle.rules.specs.Tick.Step2.{moved_at, step2}
use Rattle.rules.specs.Tick.Step3.{base_move, letter_gone, step3}
use Rattle.rules.specs.Numbers.{base_index}
use Rattle.rules.specs.Tick.Step4.{delivered, step4}
use Rattle.rules.proofs.Ticks.Views.{each_used, each_unused, risen, turn, tick_down}
use Rattle.yard.specs.Engaged.{device_at}
use Rattle.yard.proofs.Sweeps.{sweep, risen_by, delivered_by, sweep_both}
use Rattle.yard.proofs.Pass.{Pass, Come, hears}

-- Two steps, one after the other over all devices, are one pass of both.
module _ (p : Plan) (f g : ℕ → Device → Device) (y z : Yard) (done : z.devices ≡ each_device p f y) where
  two_passes : each_device p g z ≡ sweep p.N (λ i d. g i (f i d)) y.devices
  unfolding each_device device
  two_passes = tabulate_same _ _ 8 at
    where
      at :
          (i : ℕ) → 1 ≤ i → i ≤ 8
          → cond (leb i p.N) (g i (device z i)) (device z i)
          ≡ cond (leb i p.N) (g i (f i (device_at y.devices i))) (device_at y.devices i)
      at i low high =
          case (leb i p.N)
          (λ q. rw q (ap (g i) (each_used p f y z done i low high (leb-true _ _ q))))
          (λ q. rw q (each_unused p f y z done i low high (leb-false _ _ q)))

module _ (p : Plan) (y : Yard) (r : Record) where
  -- What each device does in steps 1 and 2, and what step 4 then does to it by the down letter of the tick.
  abbrev does : ℕ → Device → Device
  does = risen_by p.Q p.N p.slots r.command

  abbrev delivers : ℕ → Device → Device
  delivers = delivered_by p.slots (down_lost r) r.willing (turn p y r).down

  -- The devices once steps 1 and 2 are done, their letters still with them: the code never holds them all.
  abbrev up : List Device
  up = sweep p.N does y.devices

  -- What the supervisor does when it hears this of the initializer and of the device of its place.
  abbrev pub hearing : Option Letter → Option Letter → BaseMove
  hearing last own =
      let t = terms p in
      base_move t (approval r) last own y.base (place_clock t y.base y.clock) (lease_clock y.base y.lease)

  rises : up ≡ (risen p y r).devices
  unfolding step1 step2 slot
  rises = sym (two_passes p (clocked p) (moved_at p r) y (step1 p y) refl)

  settles : (tick p y r).devices ≡ sweep p.N (λ i d. delivers i (writes letter.none d)) (risen p y r).devices
  unfolding tick sent step1 step2 step3 step4 slot
  settles = two_passes p letter_gone (delivered p r (turn p y r).down) (risen p y r) (sent p y r).yard refl

  -- A pass over the devices, where `last` is the initializer's index and `own` that of the supervisor's place.
  module _ (last own : ℕ) (n : last + 1 ≡ p.N) (own_is : own ≡ base_index y.base - 1) (own_in : own ≤ last) where
    abbrev o : Pass
    o = record { plan = p; input = r; last = last; own = own; start = y.devices }

    -- It is over, the supervisor has heard what it hears and has made its move, and the down letter has arrived.
    module _
        (left devices : List Device) (from_last from_own : Option Letter) (byte : ℕ) (m : BaseMove)
        (come : Come o (last + 1) left from_own byte) (from_last_is : from_last ≡ hears o last)
        (m_is : m ≡ hearing from_last from_own)
        (devices_are : devices ≡ sweep p.N (delivered_by p.slots (down_lost r) r.willing m.down) left)
      where
        m_turn : m ≡ turn p y r
        unfolding device
        m_turn =
            let at_n : last ≡ p.N - 1 = omega arith in
            let of_last = rw (n, at_n) at from_last_is in
            let of_own = rw (lt-ltb own (last + 1) (omega arith), n, own_is) at come.letter in
            m_is ∙ rw (of_last, of_own, rises)

        devices_settled : devices ≡ (tick p y r).devices
        devices_settled =
            devices_are
            ∙ rw (rw n at come.devices, m_turn) (sweep_both (λ i d. writes letter.none (does i d)) delivers p.N y.devices)
            ∙ sym (sweep_both does (λ i d. delivers i (writes letter.none d)) p.N y.devices)
            ∙ rw rises (sym settles)

        -- The yard and the down letter that the code answers.
        pub ticked : record { base = m.base; clock = m.clock; lease = m.lease; devices = devices } ≡ tick p y r
        unfolding tick sent step1 step2 step3 step4
        ticked =
            λ j.
            record {
              base = (m_turn j).base;
              clock = (m_turn j).clock;
              lease = (m_turn j).lease;
              devices = devices_settled j;
            }

        pub sends : m.down ≡ (sent p y r).down
        sends = ap (λ (z : BaseMove). z.down) m_turn ∙ sym (tick_down p y r)
