-- What the pass over the devices keeps: each that has been looked at is well formed.
use Rattle.std.proofs.Common.{ℕ, ◌+◌, ◌-◌, ◌<◌, arith, ◌≡◌, refl, sym, ◌∙◌, ap, Bool, true, false, ◌&&◌, List, [], ◌∷◌, get_or}
use Rattle.laws.specs.Tests.{each}
use Rattle.laws.proofs.Tests.{all_is, each_next, each_broken}
use Rattle.rules.specs.declared.Plan.{Plan}
use Rattle.rules.specs.declared.Device.{Device}
use Rattle.rules.specs.declared.Yard.{Yard}
use Rattle.rules.specs.Plan.{slot, empty_slot}
use Rattle.rules.specs.Yard.{fresh_device, device, device_formed, base_formed, well_formed}
use Rattle.rules.proofs.Plans.Table.{slot_at}

-- The first k devices of a list are well formed.
unfoldable pub formed_to : Plan → List Device → ℕ → Bool
formed_to p ds = each (λ i. device_formed p i (get_or ds (i - 1) fresh_device))

-- Device k + 1 stands at place k, and so does its slot.
formed_here :
    (p : Plan) (ds : List Device) (k : ℕ)
    → device_formed p (k + 1) (get_or ds (k + 1 - 1) fresh_device) ≡ device_formed p (k + 1) (get_or ds k fresh_device)
formed_here p ds k = ap (λ (j : ℕ). device_formed p (k + 1) (get_or ds j fresh_device)) {x = k + 1 - 1} {y = k} (omega arith)

pub begun : (p : Plan) (ds : List Device) → formed_to p ds 0 ≡ true
unfolding formed_to each
begun p ds = refl

-- One more device, of which `formed` says whether it is well formed.
module _
    (p : Plan) (y : Yard) (k : ℕ) (formed : Bool)
    (is : get_or p.slots k empty_slot ≡ slot p (k + 1) → formed ≡ device_formed p (k + 1) (get_or y.devices k fresh_device))
  where
    here : device_formed p (k + 1) (get_or y.devices (k + 1 - 1) fresh_device) ≡ formed
    here = formed_here p y.devices k ∙ sym (is (slot_at p k))

    pub next : formed_to p y.devices k ≡ true → formed ≡ true → formed_to p y.devices (k + 1) ≡ true
    unfolding formed_to
    next all e = each_next (λ i. device_formed p i (get_or y.devices (i - 1) fresh_device)) k all (here ∙ e)

    pub broken : k < 8 → formed ≡ false → false ≡ well_formed p y
    unfolding well_formed device
    broken few e =
        let not_all =
        each_broken (λ i. device_formed p i (get_or y.devices (i - 1) fresh_device)) 8 (k + 1) (omega arith) (omega arith) (here ∙ e) in
        sym (all_is _ (_ ∷ []) ∙ rw not_all (and_false _))
      where
        and_false : (b : Bool) → (b && false) ≡ false
        and_false true = refl
        and_false false = refl

module _ (p : Plan) (y : Yard) where
  pub base_broken : base_formed p y.base y.clock y.lease ≡ false → false ≡ well_formed p y
  unfolding well_formed
  base_broken e = sym (all_is _ (_ ∷ []) ∙ rw e refl)

  pub all_formed : base_formed p y.base y.clock y.lease ≡ true → (k : ℕ) → k ≡ 8 → formed_to p y.devices k ≡ true → true ≡ well_formed p y
  unfolding well_formed device formed_to
  all_formed e k eight all = sym (all_is _ (_ ∷ []) ∙ rw (e, rw eight at all) refl)
