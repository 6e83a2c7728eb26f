-- Device i of a yard's eight, which stands at i - 1, and the byte of those that are engaged.
use Rattle.std.specs.Prelude.{ℕ, ◌+◌, ◌-◌, ◌^◌, cond, List, get_or}
use Rattle.laws.specs.Bits.{of_bits}
use Rattle.rules.specs.declared.Device.{Device}
use Rattle.rules.specs.Yard.{fresh_device, engaged}

abbrev pub device_at : List Device → ℕ → Device
device_at ds i = get_or ds (i - 1) fresh_device

-- Bit k, for the device at k, and the byte of devices 1 to n.
abbrev pub bit_of : ℕ → Device → ℕ
bit_of k d = cond (engaged d.place) (2 ^ k) 0

abbrev pub byte_of : ℕ → List Device → ℕ
byte_of n ds = of_bits (λ k. engaged (device_at ds (k + 1)).place) n
