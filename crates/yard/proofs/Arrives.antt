-- Step 4 reaches one device or none, and moves none into or out of being engaged.
use Rattle.std.proofs.Common.{Option, Some, None, ℕ, ◌-◌, ◌≤◌, arith, ◌≡◌, refl, sym, ◌∙◌, ap, Bool, true, false, not, ◌&&◌, List, eqb, leb, length, set, le-leb, leb-true, ne_eqb}
use borrow.Author.Tests.{eqb-false, not-true}
use Rattle.laws.specs.Bits.{bit}
use Rattle.laws.proofs.Tests.{case, and_hold}
use Rattle.rules.specs.Numbers.{down_index}
use Rattle.rules.specs.declared.Slot.{Slot}
use Rattle.rules.specs.declared.Place.{Place}
use Rattle.rules.specs.declared.Place.TheVariants as place
use Rattle.rules.specs.declared.Letter.{Letter}
use Rattle.rules.specs.declared.Down.{Down}
use Rattle.rules.specs.Downs as down
use Rattle.rules.specs.declared.Device.{Device}
use Rattle.rules.specs.Yard.{at, engaged}
use Rattle.rules.specs.Tick.Step4.{hear_lease_req, hear_grant, hear_cancel, arrived}
use Rattle.pace.specs.Pace.{reached_by}
use Rattle.yard.specs.Engaged.{device_at, byte_of}
use Rattle.yard.proofs.Bytes.{byte_kept}
use Rattle.yard.proofs.Sweeps.{slot_at, sweep, delivered_by, sweep_still, sweep_one}

-- Only the device that a letter is for heeds it.
arrived_other :
    (s : Slot) (willing : Bool) (l : Option Down) (i : ℕ) (d : Device) → (i ≡ down_index l → ⊥) → arrived s willing l i d ≡ d
unfolding arrived
arrived_other s willing down.none i d other = refl
arrived_other s willing (down.LeaseReq k) i d other = rw (ne_eqb i k other)
arrived_other s willing (down.Grant k) i d other = rw (ne_eqb i k other)
arrived_other s willing (down.Cancel k) i d other = rw (ne_eqb i k other)
arrived_other s willing (down.Abort k) i d other = rw (ne_eqb i k other)

-- Where it reaches a device.
record Reached (n : ℕ) (lost : Bool) (l : Option Down) (i : ℕ) : Type 0 where
  pub some : 1 ≤ i
  pub in_yard : i ≤ n
  pub kept : lost ≡ false

reached_is : (n : ℕ) (lost : Bool) (l : Option Down) (i : ℕ) → Some i ≡ reached_by n lost l → Reached n lost l i
reached_is n lost l i e =
    case (eqb (down_index l) 0)
    (λ q. let f : Some i ≡ None = rw q at e in cc)
    (λ some.
    case (leb (down_index l) n && not lost)
    (λ q.
    let f : Some i ≡ Some (down_index l) = rw (some, q) at e in
    let for : i ≡ down_index l = cc in
    let both = and_hold _ _ q in
    let out = eqb-false _ _ some in
    let high : down_index l ≤ n = leb-true _ _ both.0 in
    record { some = omega arith; in_yard = omega arith; kept = not-true _ both.1 })
    (λ q. let f : Some i ≡ None = rw (some, q) at e in cc))

module _
    (slots : List Slot) (lost : Bool) (willing : ℕ) (l : Option Down) (n : ℕ) (ds : List Device) (eight : length ds ≡ 8)
  where
    abbrev delivers : ℕ → Device → Device
    delivers = delivered_by slots lost willing l

    -- A device that the letter is not for, or that it does not reach.
    passes : (j : ℕ) → 1 ≤ j → j ≤ n → (reached_by n lost l ≡ Some j → ⊥) → delivers j (device_at ds j) ≡ device_at ds j
    passes j low high other =
        case lost (λ q. rw q)
        (λ q.
        rw q
        (arrived_other (slot_at slots j) (bit willing (j - 1)) l j (device_at ds j)
        (λ for.
        let reaches : leb (down_index l) n ≡ true = le-leb (down_index l) n (rw for at high) in
        let some : eqb (down_index l) 0 ≡ false = ne_eqb (down_index l) 0 (λ z. omega arith) in
        other (rw (some, reaches, q) (ap (λ (k : ℕ). Some k) (sym for))))))

    pub unreached : None ≡ reached_by n lost l → ds ≡ sweep n delivers ds
    unreached none = sweep_still delivers n ds eight (λ j low high. passes j low high (λ e. let same : None ≡ Some j = none ∙ e in cc))

    pub reaches :
        (i : ℕ) (x : Device) → Some i ≡ reached_by n lost l → n ≤ 8
        → x ≡ arrived (slot_at slots i) (bit willing (i - 1)) l i (device_at ds i)
        → set ds (i - 1) x ≡ sweep n delivers ds
    reaches i x i_is few x_is =
        let r = reached_is n lost l i i_is in
        sweep_one delivers n ds eight i x r.some r.in_yard (omega (arith, r.in_yard)) (rw r.kept x_is)
        (λ j low high other. passes j low high (λ e. other (let same : Some j ≡ Some i = sym e ∙ sym i_is in cc)))

lease_req : (s : Slot) (willing : Bool) (pl : Place) (c : ℕ) (l : Option Letter) → engaged (hear_lease_req s willing pl (at pl c l)).place ≡ engaged pl
unfolding engaged
lease_req s willing place.FallBack c l =
    case (eqb c s.F) (λ q. rw q (case willing (λ w. rw w) (λ w. rw w))) (λ q. rw q)
lease_req s willing place.Requesting c l = refl
lease_req s willing place.Entering c l = refl
lease_req s willing place.Running c l = refl
lease_req s willing place.Exiting1 c l = refl
lease_req s willing place.Exiting2 c l = refl

grant : (pl : Place) (c : ℕ) (l : Option Letter) → engaged (hear_grant pl (at pl c l)).place ≡ engaged pl
unfolding engaged
grant place.FallBack c l = refl
grant place.Requesting c l = refl
grant place.Entering c l = refl
grant place.Running c l = refl
grant place.Exiting1 c l = refl
grant place.Exiting2 c l = refl

cancel : (pl : Place) (c : ℕ) (l : Option Letter) → engaged (hear_cancel pl (at pl c l)).place ≡ engaged pl
unfolding engaged
cancel place.FallBack c l = refl
cancel place.Requesting c l = refl
cancel place.Entering c l = refl
cancel place.Running c l = refl
cancel place.Exiting1 c l = refl
cancel place.Exiting2 c l = refl

arrival : (s : Slot) (willing : Bool) (l : Option Down) (i : ℕ) (d : Device) → engaged (arrived s willing l i d).place ≡ engaged d.place
unfolding arrived
arrival s willing down.none i d = refl
arrival s willing (down.LeaseReq k) i d =
    case (eqb i k) (λ q. rw q (lease_req s willing d.place d.clock d.letter)) (λ q. rw q)
arrival s willing (down.Grant k) i d = case (eqb i k) (λ q. rw q (grant d.place d.clock d.letter)) (λ q. rw q)
arrival s willing (down.Cancel k) i d = case (eqb i k) (λ q. rw q (cancel d.place d.clock d.letter)) (λ q. rw q)
arrival s willing (down.Abort k) i d = case (eqb i k) (λ q. rw q (cancel d.place d.clock d.letter)) (λ q. rw q)

-- So the byte stays when a letter arrives at device i.
pub arrival_byte :
    (n i : ℕ) (ds : List Device) (s : Slot) (willing : Bool) (l : Option Down) (x : Device) → length ds ≡ 8 → 1 ≤ i → i ≤ n → n ≤ 8
    → x ≡ arrived s willing l i (device_at ds i) → byte_of n (set ds (i - 1) x) ≡ byte_of n ds
arrival_byte n i ds s willing l x eight some in_n few x_is =
    byte_kept n (i - 1) ds (omega arith) (omega (arith, eight)) x
    (ap (λ (d : Device). engaged d.place) x_is ∙ arrival s willing l i (device_at ds i))
