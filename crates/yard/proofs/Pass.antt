-- The pass of steps 1 and 2 over the devices, one device further: the devices, the letter that is listened for, the byte.
use Rattle.std.proofs.Common.{Option, ℕ, ◌+◌, ◌≤◌, ◌<◌, arith, ◌≡◌, refl, sym, ◌∙◌, ap, Bool, true, false, cond, List, eqb, ltb, length, get_or, set, eqb-true, eq-eqb, ne_eqb, ltb-true, ltb-false, lt-ltb, le-ltb}
use borrow.Author.Tests.{eqb-false}
use Rattle.laws.specs.Bits.{bit}
use Rattle.laws.proofs.Tests.{case}
use Rattle.times.specs.Times.{row_of}
use Rattle.times.proofs.Rows.{time_at}
use Rattle.rules.specs.declared.Plan.{Plan}
use Rattle.rules.specs.declared.Record.{Record}
use Rattle.rules.specs.declared.Slot.{Slot}
use Rattle.rules.specs.declared.Device.{Device}
use Rattle.rules.specs.declared.Letter.{Letter}
use Rattle.rules.specs.Letters as letter
use Rattle.rules.specs.Plan.{empty_slot}
use Rattle.rules.specs.Yard.{writes, fresh_device}
use Rattle.rules.specs.Numbers.{place_number}
use Rattle.rules.specs.Tick.Step2.{heed, moved}
use Rattle.rules.specs.Tick.Step1.{stops_at}
use Rattle.pace.specs.declared.Turn.{Turn}
use Rattle.pace.specs.Pace.{clocked_by, heard_of, stirring, pace_by}
use Rattle.yard.specs.Turned.{rises, time_in, turned, heard_in, listened_in}
use Rattle.yard.specs.Engaged.{bit_of, byte_of}
use Rattle.yard.proofs.Sweeps.{sweep, risen_by, back, sweep_length, sweep_start, sweep_here, sweep_next, sweep_done}
use Rattle.pace.proofs.Quiet.{number_below, Still, paced}
use Rattle.yard.proofs.Bytes.{byte_set, byte_has, byte_fits}

-- A plan and a record, where the initializer stands and the device that is listened to, and the devices as they were.
pub record Pass : Type 0 where
  pub plan : Plan
  pub input : Record
  pub last : ℕ
  pub own : ℕ
  pub start : List Device

module _ (o : Pass) where
  -- What each device does, with its letter and without it, and the devices when all have done it.
  abbrev pub does : ℕ → Device → Device
  does = risen_by o.plan.Q (o.last + 1) o.plan.slots o.input.command

  abbrev pub leaves : ℕ → Device → Device
  leaves i d = writes letter.none (does i d)

  abbrev pub all : List Device
  all = sweep (o.last + 1) does o.start

  -- What is heard of the device at k, and of the one that is listened to when the pass has come to k.
  abbrev pub hears : ℕ → Option Letter
  hears k = heard_of (bit o.input.lost k) (get_or all k fresh_device).letter

  abbrev pub sought : ℕ → Option Letter
  sought k = cond (ltb o.own k) (hears o.own) letter.none

  -- The pass has come to k.
  pub record Come (k : ℕ) (now : List Device) (from_own : Option Letter) (byte : ℕ) : Type 0 where
    pub devices : now ≡ sweep k leaves o.start
    pub letter : from_own ≡ sought k
    pub byte_is : byte ≡ byte_of (o.last + 1) now

  -- What the loop knows: the device that it comes to is within reach, and its clock may add 1.
  pub record Passed (k : ℕ) (now : List Device) (from_own : Option Letter) (byte : ℕ) : Type 0 where
    pub within : k ≤ o.last
    pub room : o.last < 8
    pub come : Come k now from_own byte
    pub eight : length now ≡ 8
    pub short : (get_or now k fresh_device).clock ≤ 36000
    pub clocks : (j : ℕ) → j < 8 → (get_or o.start j fresh_device).clock ≤ 36000

  -- The device at k, when it is told to heed `heeded`, does what it should.
  abbrev pub Heeds : ℕ → Bool → ℕ → Type 0
  Heeds k initializer heeded =
      (d : Device) → moved o.plan.Q (get_or o.plan.slots k empty_slot) initializer heeded d
      ≡ moved o.plan.Q (get_or o.plan.slots k empty_slot) (eqb (k + 1) (o.last + 1)) o.input.command d

  pub participant : (k : ℕ) → k < o.last → Heeds k false 0
  unfolding moved
  participant k h d = rw (ne_eqb (k + 1) (o.last + 1) (λ e. omega arith))

  pub without_command : (k : ℕ) → k < o.last → Heeds k true 0
  unfolding moved heed
  without_command k h d = rw (ne_eqb (k + 1) (o.last + 1) (λ e. omega arith))

  pub initializer : Heeds o.last true o.input.command
  initializer d = rw (eq-eqb (o.last + 1) (o.last + 1) refl)

  done : (k : ℕ) → k ≤ o.last → o.last < 8 → get_or all k fresh_device ≡ does (k + 1) (get_or o.start k fresh_device)
  done k h room = sweep_done does (o.last + 1) k o.start (omega arith) (omega arith)

  -- The device that the pass comes to is as it was.
  untouched :
      (k : ℕ) (now : List Device) → k < 8 → now ≡ sweep k leaves o.start
      → get_or now k fresh_device ≡ get_or o.start k fresh_device
  untouched k now few devices = rw devices (sweep_here leaves o.start k few)

  passed :
      (k : ℕ) (now : List Device) (from_own : Option Letter) (byte : ℕ) → k ≤ o.last → o.last < 8 → Come k now from_own byte
      → ((j : ℕ) → j < 8 → (get_or o.start j fresh_device).clock ≤ 36000)
      → Passed k now from_own byte
  passed k now from_own byte h room come clocks = record {
    within = h;
    room = room;
    come = come;
    eight = rw come.devices (sweep_length leaves o.start k);
    short = rw (untouched k now (omega arith) come.devices) (clocks k (omega arith));
    clocks = clocks;
  }

  pub starts :
      (byte : ℕ) → o.last < 8 → length o.start ≡ 8 → ((j : ℕ) → j < 8 → (get_or o.start j fresh_device).clock ≤ 36000)
      → byte ≡ byte_of (o.last + 1) o.start → Passed 0 o.start letter.none byte
  starts byte room eight clocks byte_is =
      let come : Come 0 o.start letter.none byte = record {
        devices = sweep_start leaves o.start eight;
        letter = rw (le-ltb o.own 0 (omega arith));
        byte_is = byte_is;
      } in
      passed 0 o.start letter.none byte (omega arith) room come clocks

module _ {o : Pass} {k : ℕ} {now : List Device} {from_own : Option Letter} {byte : ℕ} (inv : Passed o k now from_own byte) where
  abbrev s : Slot
  s = get_or o.plan.slots k empty_slot

  abbrev here : Device
  here = get_or now k fresh_device

  abbrev there : Device
  there = get_or (all o) k fresh_device

  does_here :
      (first : Bool) (heeded : ℕ) → Heeds o k first heeded → moved o.plan.Q s first heeded (clocked_by s here) ≡ there
  does_here first heeded heeds =
      heeds (clocked_by s here)
      ∙ rw (untouched o k now (omega arith) inv.come.devices) (sym (done o k inv.within inv.room ∙ rw (back k)))

  onward :
      (x : Device) (heard : Option Letter) (b : ℕ) → x ≡ writes letter.none there → heard ≡ hears o k
      → b + bit_of k here ≡ byte + bit_of k x
      → Come o (k + 1) (set now k x) (cond (eqb k o.own) heard from_own) b
  onward x heard b x_is heard_is b_is = record {
    byte_is =
        omega (arith, b_is, inv.come.byte_is, byte_set (o.last + 1) k now (omega arith) (omega (arith, inv.eight)) x);
    devices =
        rw inv.come.devices
        (sweep_next (leaves o) o.start k x (omega arith) (x_is ∙ ap (writes letter.none) (done o k inv.within inv.room)));
    letter =
        case (eqb k own)
        (λ e. rw (e, lt-ltb own (k + 1) (omega (arith, eqb-true k own e))) (heard_is ∙ ap (hears o) (eqb-true k own e)))
        (λ e.
        rw e
        (inv.come.letter
        ∙ case (ltb own k)
        (λ past. rw (past, lt-ltb own (k + 1) (omega (arith, ltb-true own k past))))
        (λ ahead. rw (ahead, le-ltb own (k + 1) (omega (arith, ltb-false own k ahead, eqb-false k own e))))));
  }
    where
      own : ℕ
      own = o.own

  abbrev pub turn_of : Bool → ℕ → Turn
  turn_of first heeded =
      record { i = k; Q = o.plan.Q; slot = s; initializer = first; command = heeded; lost = o.input.lost }

  -- It has had its turn. Where only its clock has moved, it had no letter.
  pub turns :
      (first : Bool) (heeded : ℕ) {x : Device} {heard l : Option Letter} {b : ℕ} {row : List ℕ}
      → Heeds o k first heeded → Heeds o k true heeded → row ≡ row_of o.plan.Q o.plan.slots
      → x ≡ turned (time_in row k here) (turn_of first heeded) here
      → heard ≡ heard_in (time_in row k here) (turn_of first heeded) here
      → l ≡ listened_in (time_in row k here) (turn_of first heeded) o.own from_own here
      → b + bit_of k here ≡ byte + bit_of k x
      → Come o (k + 1) (set now k x) l b × (heard ≡ hears o k)
  turns first heeded {x} {heard} {l} {b} {row} heeds alike row_is x_is heard_is l_is b_is =
      (rw listened (onward x heard b left.0 left.1 b_is), left.1)
    where
      time : ℕ
      time = time_in row k here

      listened : l ≡ cond (eqb k o.own) heard from_own
      listened =
          case (stirring time heeded here)
          (λ q.
          let up : heard ≡ (rises (turn_of first heeded) here).heard = heard_is ∙ rw q in
          l_is ∙ rw (q, up))
          (λ q.
          let none : heard ≡ letter.none = heard_is ∙ rw q in
          l_is
          ∙ rw (q, none)
          (case (eqb k o.own)
          (λ e. rw e (inv.come.letter ∙ rw (le-ltb o.own k (omega (arith, eqb-true k o.own e)))))
          (λ e. rw e)))

      left : (x ≡ writes letter.none there) × (heard ≡ hears o k)
      left =
          case (stirring time heeded here)
          (λ q.
          let same = does_here first heeded heeds in
          (x_is ∙ rw q (ap (writes letter.none) same), heard_is ∙ rw q (ap (λ (d : Device). heard_of (bit o.input.lost k) d.letter) same)))
          (λ q.
          let still : Still time heeded here (stops_at time here.clock) = rw q at (paced time heeded here {r = pace_by time heeded here} refl) in
          let of_place = time_at o.plan.Q o.plan.slots k (omega arith) (place_number here.place) (number_below here.place) in
          let same = sym (does_here true heeded alike) ∙ still.device o.plan.Q s (rw row_is of_place) in
          let quiet : letter.none ≡ hears o k =
          rw (same, still.silent) (case (bit o.input.lost k) (λ z. rw z) (λ z. rw z)) in
          (x_is ∙ rw q (rw same (rw still.silent)), heard_is ∙ rw q quiet))

  -- The next device.
  pub next_passed : {next : List Device} {l : Option Letter} {b : ℕ} → k < o.last → Come o (k + 1) next l b → Passed o (k + 1) next l b
  next_passed {next} {l} {b} low come = passed o (k + 1) next l b (omega arith) inv.room come inv.clocks

  -- The byte may change at k.
  pub rebits : (x : Device) → (bit_of k here ≤ byte) × (byte + bit_of k x < 256 + bit_of k here)
  rebits x = (
    rw inv.come.byte_is (byte_has (o.last + 1) k now (omega arith)),
    rw inv.come.byte_is (byte_fits (o.last + 1) k now (omega arith) (omega (arith, inv.eight)) x (omega arith)),
  )
