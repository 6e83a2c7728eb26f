-- How many bytes a yard takes.
use Rattle.std.proofs.Common.{◌-◌, arith, ◌≡◌, refl, length, get_or}
use Rattle.laws.proofs.Lists.{joined_length}
use Rattle.numbers.specs.Bytes.{two_bytes, four_bytes}
use Rattle.rules.specs.declared.Device.{Device}
use Rattle.rules.specs.declared.Yard.{Yard}
use Rattle.rules.specs.Yard.{fresh_device}
use Rattle.layout_rules.specs.Bytes.{device_bytes, yard_bytes, yard_size}

pub device_wide : (d : Device) → length (device_bytes d) ≡ 4
unfolding device_bytes two_bytes
device_wide d = refl

pub yard_wide : (y : Yard) → length (yard_bytes y) ≡ yard_size
unfolding yard_bytes two_bytes four_bytes
yard_wide y =
    omega (arith, joined_length (λ i. device_bytes (get_or y.devices (i - 1) fresh_device)) 4 (λ i. device_wide _) 8)
