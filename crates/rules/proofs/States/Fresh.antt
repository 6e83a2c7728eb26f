-- A fresh yard is what document 01 says, field by field.
use Rattle.std.proofs.Common.{ℕ, ◌-◌, ◌≤◌, arith, ◌≡◌, refl}
use lib.ListN.{get_or-replicate}
use Rattle.rules.specs.Yard.{device, engaged, fresh_device, fresh_yard}
use Rattle.rules.specs.Theorems.{FreshExactly}

pub fresh_device_lem : (i : ℕ) → 1 ≤ i → i ≤ 8 → device fresh_yard i ≡ fresh_device
unfolding device fresh_yard
fresh_device_lem i low high = get_or-replicate 8 (i - 1) fresh_device fresh_device (omega arith)

pub fresh_exactly : FreshExactly
unfolding fresh_yard engaged
fresh_exactly =
    record {
      base = refl;
      clock = refl;
      lease = refl;
      eight = refl;
      places = λ i low high. rw (fresh_device_lem i low high);
      clocks = λ i low high. rw (fresh_device_lem i low high);
      letters = λ i low high. rw (fresh_device_lem i low high);
      nobody = λ i low high. rw (fresh_device_lem i low high);
    }
