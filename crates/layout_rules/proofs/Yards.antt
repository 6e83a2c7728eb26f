-- A yard's bytes are read as that yard.
use Rattle.std.proofs.Common.{Option, ℕ, ◌+◌, ◌-◌, ◌≤◌, ◌<◌, arith, ◌≡◌, refl, ◌∙◌, true, List, [], ◌∷◌, ◌++◌, length, get_or}
use Rattle.laws.specs.Lists.{tabulate}
use Rattle.laws.proofs.Lists.{tabulate_same, tabulate_back}
use Rattle.numbers.specs.Bytes.{num16, num32, two_bytes, four_bytes}
use Rattle.numbers.proofs.Pieces.{byte_stands, first_stands}
use Rattle.numbers.proofs.Back.{two_back, four_back}
use Rattle.rules.specs.declared.Base.{Base}
use Rattle.rules.specs.declared.Base.TheVariants as base
use Rattle.rules.specs.declared.Place.{Place}
use Rattle.rules.specs.declared.Place.TheVariants as place
use Rattle.rules.specs.declared.Letter.{Letter}
use Rattle.rules.specs.Letters as letter
use Rattle.rules.specs.declared.Device.{Device}
use Rattle.rules.specs.declared.Yard.{Yard}
use Rattle.rules.specs.Yard.{fresh_device}
use Rattle.rules.specs.Numbers.{place_number, letter_number, base_number, base_index}
use Rattle.layout_rules.specs.Bytes.{device_bytes, devices_bytes, yard_bytes, device_start}
use Rattle.layout_rules.specs.Reading.{place_byte, letter_byte, is_yard, device_in, yard_in, yard_of}
use Rattle.layout_rules.specs.Theorems.{YardBack}
use Rattle.layout_rules.proofs.Widths.{device_wide, yard_wide}
use Rattle.rules.proofs.Numbers.{place_back, letter_back, base_back}
use Rattle.layout_rules.proofs.Forms.{is_readable}

-- No number stands for nothing.
place_low : (a : Place) → place_number a ≤ 5
place_low place.FallBack = omega arith
place_low place.Requesting = omega arith
place_low place.Entering = omega arith
place_low place.Running = omega arith
place_low place.Exiting1 = omega arith
place_low place.Exiting2 = omega arith

letter_low : (a : Option Letter) → letter_number a ≤ 5
letter_low letter.none = omega arith
letter_low letter.Request = omega arith
letter_low letter.Cancel = omega arith
letter_low letter.Approve = omega arith
letter_low letter.Deny = omega arith
letter_low letter.Exit = omega arith

base_low : (b : Base) → (base_number b ≤ 3) × (base_number b ≡ 0 → base_index b ≡ 0)
base_low base.FallBack = (omega arith, λ z. refl)
base_low (base.Lease i) = (omega arith, λ z. absurd (omega arith))
base_low (base.Cancel i) = (omega arith, λ z. absurd (omega arith))
base_low (base.Abort i) = (omega arith, λ z. absurd (omega arith))

module _ (y : Yard) where
  abbrev device_of : ℕ → Device
  device_of i = get_or y.devices (i - 1) fresh_device

  front : List ℕ
  front = (base_number y.base ∷ base_index y.base ∷ []) ++ two_bytes y.clock ++ four_bytes y.lease

  front_long : length front ≡ 8
  unfolding front two_bytes four_bytes
  front_long = refl

  yard_is : yard_bytes y ≡ front ++ devices_bytes y.devices 8
  unfolding yard_bytes two_bytes four_bytes front
  yard_is = refl

  module _ (i : ℕ) (low : 1 ≤ i) (high : i ≤ 8) where
    device_byte : (j : ℕ) → j < 4 → get_or (yard_bytes y) (device_start i + j) 0 ≡ get_or (device_bytes (device_of i)) j 0
    device_byte j h =
        rw yard_is
        (byte_stands front 8 front_long (λ k. device_bytes (device_of k)) 4 (λ k. device_wide (device_of k)) 8 i low high j h)

    clock_there : num16 (yard_bytes y) (device_start i) ≡ (device_of i).clock
    unfolding num16 device_bytes two_bytes
    clock_there =
        rw yard_is
        (first_stands front 8 front_long (λ k. device_bytes (device_of k)) 4 (λ k. device_wide (device_of k)) 8 i low high (omega arith))
        ∙ two_back (device_of i).clock

    place_there : place_byte (yard_bytes y) i ≡ place_number (device_of i).place
    unfolding device_bytes two_bytes
    place_there = device_byte 2 (omega arith)

    letter_there : letter_byte (yard_bytes y) i ≡ letter_number (device_of i).letter
    unfolding device_bytes two_bytes
    letter_there = device_byte 3 (omega arith)

    device_back : device_in (yard_bytes y) i ≡ device_of i
    unfolding device_in
    device_back =
        rw (clock_there, place_there, letter_there, place_back (device_of i).place, letter_back (device_of i).letter)

  devices_back : length y.devices ≡ 8 → tabulate (device_in (yard_bytes y)) 8 ≡ y.devices
  devices_back eight =
      tabulate_same _ device_of 8 device_back ∙ tabulate_back y.devices fresh_device 8 eight

  yard_again : length y.devices ≡ 8 → yard_in (yard_bytes y) ≡ y
  unfolding yard_in yard_bytes two_bytes four_bytes num16 num32
  yard_again eight =
      rw (devices_back eight, base_back y.base, two_back y.clock, four_back y.lease)

  is_yard_lem : is_yard (yard_bytes y) ≡ true
  unfolding yard_bytes
  is_yard_lem =
      is_readable (yard_bytes y)
      (record {
        room = omega (arith, yard_wide y);
        base = (base_low y.base).0;
        alone = (base_low y.base).1;
        place = λ i low high. rw (place_there i low high) (place_low (device_of i).place);
        letter = λ i low high. rw (letter_there i low high) (letter_low (device_of i).letter);
      })

pub yard_back : YardBack
unfolding yard_of
yard_back y eight = rw (is_yard_lem y) (yard_again y eight)
