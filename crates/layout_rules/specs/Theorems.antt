-- What a caller may rest on between calls, each statement proved in proofs/ under the name that stands beside it.
use Rattle.std.specs.Prelude.{ℕ, ◌≤◌, ◌<◌, ◌≡◌, false, List, length}
use Rattle.numbers.specs.Bytes.{AllBytes}
use Rattle.rules.specs.declared.Plan.{Plan}
use Rattle.rules.specs.declared.Yard.{Yard}
use Rattle.rules.specs.Yard.{well_formed}
use Rattle.layout_rules.specs.Bytes.{yard_bytes, yard_size}
use Rattle.layout_rules.specs.Reading.{base_byte, index_byte, place_byte, letter_byte, no_yard, yard_of}

-- What one call leaves, the next one reads; every yard has eight devices (`yard_back`).
abbrev pub YardBack : Type 0
YardBack = (y : Yard) → length y.devices ≡ 8 → yard_of (yard_bytes y) ≡ y

-- Bytes that are not a yard's.
pub data Malformed (bytes : List ℕ) : Type 0 where
  too_few : length bytes < yard_size → Malformed bytes
  -- the base stands nowhere, or in Fall-Back with a device
  no_base : 3 < base_byte bytes → Malformed bytes
  fall_back_with : base_byte bytes ≡ 0 → 0 < index_byte bytes → Malformed bytes
  -- device i has no place, or no such letter
  no_place : (i : ℕ) → 1 ≤ i → i ≤ 8 → 5 < place_byte bytes i → Malformed bytes
  no_letter : (i : ℕ) → 1 ≤ i → i ≤ 8 → 5 < letter_byte bytes i → Malformed bytes

-- They are all read as one yard, of which nothing comes from them (`malformed_alone`).
abbrev pub MalformedAlone : Type 0
MalformedAlone = (bytes : List ℕ) → Malformed bytes → yard_of bytes ≡ no_yard

-- It is well formed under no plan (`malformed_refused`).
abbrev pub MalformedRefused : Type 0
MalformedRefused = (bytes : List ℕ) → Malformed bytes → (p : Plan) → well_formed p (yard_of bytes) ≡ false

-- All others are given back: no two of them are read as one yard (`bytes_back`).
abbrev pub BytesBack : Type 0
BytesBack =
    (bytes : List ℕ) → length bytes ≡ yard_size → AllBytes bytes → (Malformed bytes → ⊥)
    → yard_bytes (yard_of bytes) ≡ bytes
