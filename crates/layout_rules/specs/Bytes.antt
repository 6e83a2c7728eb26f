-- Yards as bytes. Numbers are little-endian.
use Rattle.std.specs.Prelude.{ℕ, ◌+◌, ◌-◌, ◌*◌, cond, List, [], ◌∷◌, ◌++◌, leb, get_or}
use Rattle.laws.specs.Lists.{joined}
use Rattle.numbers.specs.Bytes.{two_bytes, four_bytes}
use Rattle.rules.specs.declared.Device.{Device}
use Rattle.rules.specs.declared.Yard.{Yard}
use Rattle.rules.specs.Yard.{fresh_device}
use Rattle.rules.specs.Numbers.{place_number, letter_number, base_number, base_index}

-- A device: its clock (2), its place, its letter.
unfoldable pub device_bytes : Device → List ℕ
device_bytes d = two_bytes d.clock ++ (place_number d.place ∷ letter_number d.letter ∷ [])

abbrev pub devices_bytes : List Device → ℕ → List ℕ
devices_bytes ds n = joined (λ i. device_bytes (get_or ds (i - 1) fresh_device)) n

-- A yard: where the base stands, its device, the place clock (2), the lease clock (4), then the eight devices.
unfoldable pub yard_bytes : Yard → List ℕ
yard_bytes y =
    (base_number y.base ∷ base_index y.base ∷ [])
    ++ two_bytes y.clock
    ++ four_bytes y.lease
    ++ devices_bytes y.devices 8

-- So many bytes in all, and where device i's, counted from 1, start in them.
abbrev pub yard_size : ℕ
yard_size = 40

abbrev pub device_start : ℕ → ℕ
device_start i = 8 + 4 * (i - 1)

-- What is written of them into a buffer of so many bytes: all, or nothing.
unfoldable pub yard_written : Yard → ℕ → List ℕ
yard_written y room = cond (leb yard_size room) (yard_bytes y) []
