-- A yard's bytes that are not malformed are given back.
use Rattle.std.proofs.Common.{ℕ, ◌+◌, ◌-◌, ◌≤◌, ◌<◌, arith, ◌≡◌, ◌∙◌, ap, List, [], ◌∷◌, ◌++◌, leb, length, take, drop, get_or, take_all, leb-true, leb-false}
use Rattle.laws.specs.Lists.{tabulate}
use Rattle.laws.proofs.Tests.{case}
use Rattle.laws.proofs.Lists.{tabulate_at, parts_join, pieces_join}
use Rattle.numbers.specs.Bytes.{num16, num32, two_bytes, four_bytes, AllBytes}
use Rattle.numbers.proofs.Back.{two_there, two_given, four_given}
use Rattle.rules.specs.Yard.{fresh_device}
use Rattle.rules.specs.Numbers.{base_number, base_index, base_of}
use Rattle.layout_rules.specs.Bytes.{device_bytes, devices_bytes, yard_bytes, yard_size, device_start}
use Rattle.layout_rules.specs.Reading.{base_byte, index_byte, place_byte, letter_byte, device_in, yard_in, yard_of}
use Rattle.layout_rules.specs.Theorems.{Malformed, no_base, fall_back_with, no_place, no_letter, BytesBack}
use Rattle.layout_rules.proofs.Numbers.{place_again, letter_again, base_again}
use Rattle.layout_rules.proofs.Forms.{Readable, is_readable}

at_most : (a b : ℕ) → (b < a → ⊥) → a ≤ b
at_most a b h = case (leb a b) (leb-true a b) (λ e. absurd (h (leb-false a b e)))

-- The bytes of a yard that was read are those that stand there, part by part.
module _ (bytes : List ℕ) (small : AllBytes bytes) (long : length bytes ≡ yard_size) (formed : Malformed bytes → ⊥) where
  readable : Readable bytes
  readable = record {
    room = omega (arith, long);
    base = at_most _ 3 (λ above. formed (no_base above));
    alone = λ z. let none = at_most (index_byte bytes) 0 (λ above. formed (fall_back_with z above)) in omega arith;
    place = λ i low high. at_most _ 5 (λ above. formed (no_place i low high above));
    letter = λ i low high. at_most _ 5 (λ above. formed (no_letter i low high above));
  }

  base_given :
      base_number (base_of (base_byte bytes) (index_byte bytes)) ∷ base_index (base_of (base_byte bytes) (index_byte bytes)) ∷ []
      ≡ take 2 (drop 0 bytes)
  base_given =
      let same = base_again _ _ readable.base readable.alone in
      rw (same.0, same.1) (two_there bytes 0 (omega arith))

  module _ (i : ℕ) (low : 1 ≤ i) (high : i ≤ 8) where
    marks_there : place_byte bytes i ∷ letter_byte bytes i ∷ [] ≡ take 2 (drop (device_start i + 2) bytes)
    marks_there =
        ap (λ (k : ℕ). place_byte bytes i ∷ get_or bytes k 0 ∷ []) {x = device_start i + 3} {y = device_start i + 2 + 1} (omega arith)
        ∙ two_there bytes (device_start i + 2) (omega arith)

    piece_given : device_bytes (device_in bytes i) ≡ take 4 (drop (device_start i) bytes)
    unfolding device_bytes device_in
    piece_given =
        rw (
          two_given bytes small (device_start i) (omega arith),
          place_again (place_byte bytes i) (readable.place i low high),
          letter_again (letter_byte bytes i) (readable.letter i low high),
          marks_there,
        )
        (parts_join bytes (device_start i) 2 2)

    device_given :
        device_bytes (get_or (tabulate (device_in bytes) 8) (i - 1) fresh_device) ≡ take 4 (drop (device_start i) bytes)
    device_given = rw (tabulate_at (device_in bytes) 8 i fresh_device low high) piece_given

  given : yard_bytes (yard_in bytes) ≡ bytes
  unfolding yard_bytes yard_in
  given =
      let devices = tabulate (device_in bytes) 8 in
      ap (λ (b : List ℕ). b ++ two_bytes (num16 bytes 2) ++ four_bytes (num32 bytes 4) ++ devices_bytes devices 8) base_given
      ∙ rw (
        two_given bytes small 2 (omega arith),
        four_given bytes small 4 (omega arith),
        pieces_join (λ i. device_bytes (get_or devices (i - 1) fresh_device)) bytes 8 4 8 device_given,
        parts_join bytes 0 2 2,
        parts_join bytes 0 4 4,
        parts_join bytes 0 8 32,
      )
      (take_all yard_size bytes (omega arith))

pub bytes_back : BytesBack
unfolding yard_of
bytes_back bytes long small formed =
    rw (is_readable bytes (readable bytes small long formed)) (given bytes small long formed)
