-- The byte of the devices that are engaged, when one device changes.
use Rattle.std.proofs.Common.{ℕ, zero, suc, ◌+◌, ◌^◌, ◌≤◌, ◌<◌, arith, add-one, ◌≡◌, refl, sym, ap, Bool, cond, List, eqb, length, get_or, set, take, pow_mono, get_or-set_same, get_or-set_other, eqb-true}
use Rattle.std.proofs.lemmas.List.{length-take, get_or-take}
use Rattle.laws.specs.Bits.{of_bits}
use Rattle.laws.proofs.Bits.{of_bits_below, of_bits_same}
use Rattle.laws.proofs.Tests.{case, tests}
use Rattle.rules.specs.declared.Device.{Device}
use Rattle.rules.specs.Yard.{fresh_device, engaged}
use Rattle.yard.specs.Engaged.{device_at, bit_of, byte_of}
use Rattle.yard.proofs.Sweeps.{back}

abbrev bit_if : ℕ → Bool → ℕ
bit_if k on = cond on (2 ^ k) 0

-- Two numbers made of bits that differ at k alone.
of_bits_one :
    (f g : ℕ → Bool) (n k : ℕ) → k < n → ((j : ℕ) → (j ≡ k → ⊥) → f j ≡ g j)
    → of_bits g n + bit_if k (f k) ≡ of_bits f n + bit_if k (g k)
unfolding of_bits
of_bits_one f g zero k h same = absurd (omega arith)
of_bits_one f g (suc n) k h same =
    case (eqb k n)
    (λ e.
    let rest = of_bits_same f g n (λ j low. same j (λ q. omega tests)) in
    rw (eqb-true k n e) (omega (arith, rest)))
    (λ e.
    let rest = of_bits_one f g n k (omega tests) same in
    rw (same n (λ q. omega tests)) (omega (arith, rest)))

of_bits_has : (f : ℕ → Bool) (n k : ℕ) → k < n → bit_if k (f k) ≤ of_bits f n
unfolding of_bits
of_bits_has f zero k h = absurd (omega arith)
of_bits_has f (suc n) k h =
    case (eqb k n)
    (λ e. rw (eqb-true k n e) (omega arith))
    (λ e. omega (arith, of_bits_has f n k (omega tests)))

-- It is a byte.
pub byte_small : (ds : List Device) (n : ℕ) → n ≤ 8 → byte_of n ds < 256
byte_small ds n few = omega (arith, of_bits_below (λ j. engaged (device_at ds (j + 1)).place) n, pow_mono {i = n} {j = 8} few)

module _ (n k : ℕ) (ds : List Device) (low : k < n) where
  pub byte_has : bit_of k (get_or ds k fresh_device) ≤ byte_of n ds
  byte_has = rw (back k) at (of_bits_has (λ j. engaged (device_at ds (j + 1)).place) n k low)

  module _ (in_ds : k < length ds) where
    pub byte_set : (x : Device) → byte_of n (set ds k x) + bit_of k (get_or ds k fresh_device) ≡ byte_of n ds + bit_of k x
    byte_set x =
        rw (back k, get_or-set_same ds k x fresh_device in_ds) at
        (of_bits_one (λ j. engaged (device_at ds (j + 1)).place) (λ j. engaged (device_at (set ds k x) (j + 1)).place) n k low
        (λ j other.
        let kept : device_at (set ds k x) (j + 1) ≡ device_at ds (j + 1) = rw (back j) (get_or-set_other ds k j x fresh_device other) in
        sym (ap (λ (d : Device). engaged d.place) kept)))

    -- A device that is engaged exactly where it was leaves the byte.
    pub byte_kept :
        (x : Device) → engaged x.place ≡ engaged (get_or ds k fresh_device).place → byte_of n (set ds k x) ≡ byte_of n ds
    byte_kept x same =
        let bits : bit_of k x ≡ bit_of k (get_or ds k fresh_device) = ap (bit_if k) same in
        omega (arith, byte_set x, bits)

    pub byte_fits : (x : Device) → n ≤ 8 → byte_of n ds + bit_of k x < 256 + bit_of k (get_or ds k fresh_device)
    byte_fits x few =
        omega (arith, byte_set x, byte_small (set ds k x) n few)

-- Put together from the first n devices, from none on, one bit further.
pub byte_none : (ds : List Device) → byte_of 0 ds ≡ 0
unfolding of_bits
byte_none ds = refl

pub byte_next :
    (ds : List Device) (n k : ℕ) → k < length (take n ds)
    → (k < n) × (byte_of (k + 1) ds ≡ byte_of k ds + bit_of k (get_or (take n ds) k fresh_device))
unfolding of_bits
byte_next ds n k h =
    let low : k < n = omega (arith, length-take n ds) in
    (low, rw (add-one k, back k, get_or-take n ds k fresh_device low))
