-- What a yard's bytes are read as.
use Rattle.std.specs.Prelude.{ℕ, ◌+◌, Bool, ◌&&◌, ◌||◌, cond, List, [], ◌∷◌, leb, ltb, eqb, length, get_or, replicate}
use Rattle.laws.specs.Lists.{tabulate}
use Rattle.laws.specs.Tests.{all_of, each}
use Rattle.numbers.specs.Bytes.{num16, num32}
use Rattle.rules.specs.declared.Base.TheVariants as base
use Rattle.rules.specs.declared.Device.{Device}
use Rattle.rules.specs.declared.Yard.{Yard}
use Rattle.rules.specs.Yard.{at, fresh_device}
use Rattle.rules.specs.Numbers.{place_of, letter_of, base_of}
use Rattle.layout_rules.specs.Bytes.{yard_size, device_start}

-- The numbers that stand for the base's place and for its device, and for the place and the letter of device i.
abbrev pub base_byte : List ℕ → ℕ
base_byte bytes = get_or bytes 0 0

abbrev pub index_byte : List ℕ → ℕ
index_byte bytes = get_or bytes 1 0

abbrev pub place_byte : List ℕ → ℕ → ℕ
place_byte bytes i = get_or bytes (device_start i + 2) 0

abbrev pub letter_byte : List ℕ → ℕ → ℕ
letter_byte bytes i = get_or bytes (device_start i + 3) 0

-- Bytes are a yard's when there are enough of them and each of these numbers stands for something. In Fall-Back, 0, the base
-- has no device.
abbrev pub base_stands : ℕ → ℕ → Bool
base_stands number i = leb number 3 && (ltb 0 number || eqb i 0)

abbrev pub device_stands : List ℕ → ℕ → Bool
device_stands bytes i = leb (place_byte bytes i) 5 && leb (letter_byte bytes i) 5

unfoldable pub is_yard : List ℕ → Bool
is_yard bytes =
    all_of (leb yard_size (length bytes) ∷ base_stands (base_byte bytes) (index_byte bytes) ∷ each (device_stands bytes) 8 ∷ [])

unfoldable pub device_in : List ℕ → ℕ → Device
device_in bytes i = at (place_of (place_byte bytes i)) (num16 bytes (device_start i)) (letter_of (letter_byte bytes i))

unfoldable pub yard_in : List ℕ → Yard
yard_in bytes =
    record {
      base = base_of (base_byte bytes) (index_byte bytes);
      clock = num16 bytes 2;
      lease = num32 bytes 4;
      devices = tabulate (device_in bytes) 8;
    }

-- A yard that no plan takes, whatever letters may wait: there is no device 0.
unfoldable pub no_yard : Yard
no_yard = record { base = base.Lease 0; clock = 0; lease = 0; devices = replicate 8 fresh_device }

-- The yard that the bytes start with, and that one where they start with none.
unfoldable pub yard_of : List ℕ → Yard
yard_of bytes = cond (is_yard bytes) (yard_in bytes) no_yard
