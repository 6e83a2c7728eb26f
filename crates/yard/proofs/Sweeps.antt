-- One pass over the devices: what each does, how the pass begins, what stands where it has come to, how it goes on.
-- Device i's slot and the device itself stand at i - 1.
use Rattle.std.proofs.Common.{Option, ℕ, ◌+◌, ◌-◌, ◌≤◌, ◌<◌, arith, ◌≡◌, sym, ◌∙◌, ap, Bool, cond, List, leb, eqb, ext_get_or, get_or-set_same, get_or-set_other, eqb-true, le-leb, leb-true, length, get_or, set, length-set}
use borrow.Author.Tests.{eqb-false}
use Rattle.laws.specs.Lists.{swept}
use Rattle.laws.specs.Bits.{bit}
use Rattle.laws.proofs.Tests.{case}
use Rattle.laws.proofs.Lists.{tabulate_at, tabulate_same, tabulate_back, swept_length, swept_none, swept_rest, swept_next}
use Rattle.rules.specs.declared.Slot.{Slot}
use Rattle.rules.specs.declared.Device.{Device}
use Rattle.rules.specs.declared.Down.{Down}
use Rattle.rules.specs.Plan.{empty_slot}
use Rattle.rules.specs.Yard.{fresh_device}
use Rattle.rules.specs.Tick.Step2.{moved}
use Rattle.rules.specs.Tick.Step4.{arrived}
use Rattle.pace.specs.Pace.{clocked_by}
use Rattle.yard.specs.Engaged.{device_at}

abbrev pub slot_at : List Slot → ℕ → Slot
slot_at slots i = get_or slots (i - 1) empty_slot

-- Each of devices 1 to n does f, the rest stay.
abbrev pub sweep : ℕ → (ℕ → Device → Device) → List Device → List Device
sweep n f ds = swept (λ i. f i (device_at ds i)) (device_at ds) n 8

-- Steps 1 and 2 of device i of n.
abbrev pub risen_by : ℕ → ℕ → List Slot → ℕ → ℕ → Device → Device
risen_by Q n slots command i d = moved Q (slot_at slots i) (eqb i n) command (clocked_by (slot_at slots i) d)

-- Step 4 of device i.
abbrev pub delivered_by : List Slot → Bool → ℕ → Option Down → ℕ → Device → Device
delivered_by slots lost willing l i d = cond lost d (arrived (slot_at slots i) (bit willing (i - 1)) l i d)

-- Device k + 1 stands at k.
pub back : (k : ℕ) → k + 1 - 1 ≡ k
back k = omega arith

module _ (f : ℕ → Device → Device) (ds : List Device) where
  pub sweep_length : (n : ℕ) → length (sweep n f ds) ≡ 8
  sweep_length n = swept_length _ _ 8 n

  pub sweep_start : length ds ≡ 8 → ds ≡ sweep 0 f ds
  sweep_start e = sym (swept_none (λ i. f i (device_at ds i)) (device_at ds) 8 ∙ tabulate_back ds fresh_device 8 e)

  pub sweep_here : (k : ℕ) → k < 8 → get_or (sweep k f ds) k fresh_device ≡ get_or ds k fresh_device
  sweep_here k h =
      swept_rest (λ i. f i (device_at ds i)) (device_at ds) 8 k k fresh_device (omega arith) h
      ∙ ap (λ (j : ℕ). get_or ds j fresh_device) (back k)

  pub sweep_next :
      (k : ℕ) (x : Device) → k < 8 → x ≡ f (k + 1) (get_or ds k fresh_device) → set (sweep k f ds) k x ≡ sweep (k + 1) f ds
  sweep_next k x h e =
      swept_next (λ i. f i (device_at ds i)) (device_at ds) 8 k x fresh_device h
      (e ∙ ap (λ (j : ℕ). f (k + 1) (get_or ds j fresh_device)) (sym (back k)))

-- Two passes, one after the other, are one pass of both.
module _ (f g : ℕ → Device → Device) (n : ℕ) (ds : List Device) where
  pub sweep_at : (i : ℕ) → 1 ≤ i → i ≤ 8 → device_at (sweep n f ds) i ≡ cond (leb i n) (f i (device_at ds i)) (device_at ds i)
  sweep_at i low high = tabulate_at _ 8 i fresh_device low high

  pub sweep_both : sweep n g (sweep n f ds) ≡ sweep n (λ i d. g i (f i d)) ds
  sweep_both = tabulate_same _ _ 8 at
    where
      at :
          (i : ℕ) → 1 ≤ i → i ≤ 8
          → cond (leb i n) (g i (device_at (sweep n f ds) i)) (device_at (sweep n f ds) i)
          ≡ cond (leb i n) (g i (f i (device_at ds i))) (device_at ds i)
      at i low high =
          case (leb i n)
          (λ q. rw q (ap (g i) (sweep_at i low high ∙ rw q)))
          (λ q. rw q (sweep_at i low high ∙ rw q))

-- A device that the pass has come to.
pub sweep_done :
    (f : ℕ → Device → Device) (n k : ℕ) (ds : List Device) → k < n → k < 8
    → get_or (sweep n f ds) k fresh_device ≡ f (k + 1) (get_or ds k fresh_device)
sweep_done f n k ds h few =
    let here : device_at (sweep n f ds) (k + 1) ≡ f (k + 1) (device_at ds (k + 1)) =
    sweep_at f f n ds (k + 1) (omega arith) (omega arith) ∙ rw (le-leb (k + 1) n (omega arith)) in
    rw (back k) at here

-- A pass that leaves every device as it is, and one that changes a single one.
module _ (f : ℕ → Device → Device) (n : ℕ) (ds : List Device) (eight : length ds ≡ 8) where
  kept :
      (k : ℕ) → k < 8 → (k + 1 ≤ n → f (k + 1) (device_at ds (k + 1)) ≡ device_at ds (k + 1))
      → get_or (sweep n f ds) k fresh_device ≡ get_or ds k fresh_device
  kept k h same =
      let here : device_at (sweep n f ds) (k + 1) ≡ device_at ds (k + 1) =
      sweep_at f f n ds (k + 1) (omega arith) (omega arith)
      ∙ case (leb (k + 1) n) (λ q. rw q (same (leb-true _ _ q))) (λ q. rw q) in
      rw (back k) at here

  pub sweep_still : ((i : ℕ) → 1 ≤ i → i ≤ n → f i (device_at ds i) ≡ device_at ds i) → ds ≡ sweep n f ds
  sweep_still same =
      ext_get_or fresh_device ds _ (eight ∙ sym (sweep_length f ds n))
      (λ k h. sym (kept k (omega (arith, eight)) (λ in_n. same (k + 1) (omega arith) in_n)))

  pub sweep_one :
      (j : ℕ) (x : Device) → 1 ≤ j → j ≤ n → j ≤ 8 → x ≡ f j (device_at ds j)
      → ((i : ℕ) → 1 ≤ i → i ≤ n → (i ≡ j → ⊥) → f i (device_at ds i) ≡ device_at ds i)
      → set ds (j - 1) x ≡ sweep n f ds
  sweep_one j x low high few x_is same =
      ext_get_or fresh_device _ _ (length-set ds (j - 1) x ∙ eight ∙ sym (sweep_length f ds n))
      (λ k in_set.
      let in_8 : k < 8 = omega (arith, length-set ds (j - 1) x, eight) in
      case (eqb k (j - 1))
      (λ q.
      let here : k ≡ j - 1 = eqb-true k (j - 1) q in
      rw here
      (get_or-set_same ds (j - 1) x fresh_device (omega (arith, eight))
      ∙ x_is
      ∙ sym (sweep_at f f n ds j low few ∙ rw (le-leb j n high))))
      (λ q.
      get_or-set_other ds (j - 1) k x fresh_device (eqb-false k (j - 1) q)
      ∙ sym (kept k in_8 (λ in_n. same (k + 1) (omega arith) in_n (λ e. eqb-false k (j - 1) q (omega arith))))))
