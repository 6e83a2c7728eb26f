-- What is written is read back, and what is read is written back, each statement proved in proofs/ under the name that stands
-- beside it.
use Rattle.std.specs.Prelude.{ℕ, ◌+◌, ◌≤◌, ◌≡◌, List, length, take, drop}
use Rattle.std.proofs.lemmas.List.Edits.{sets}
use Rattle.numbers.specs.Bytes.{num16, num32, two_bytes, four_bytes, AllBytes}

-- A number that has been stored from a place on is read there (`numbers_back`).
pub record NumbersBack : Type 0 where
  pub two : (l : List ℕ) (at v : ℕ) → at + 2 ≤ length l → num16 (sets l at (two_bytes v)) at ≡ v
  pub four : (l : List ℕ) (at v : ℕ) → at + 4 ≤ length l → num32 (sets l at (four_bytes v)) at ≡ v

-- The bytes of a number that was read are those that stand there (`bytes_given`).
pub record BytesGiven : Type 0 where
  pub two : (l : List ℕ) (at : ℕ) → AllBytes l → at + 2 ≤ length l → two_bytes (num16 l at) ≡ take 2 (drop at l)
  pub four : (l : List ℕ) (at : ℕ) → AllBytes l → at + 4 ≤ length l → four_bytes (num32 l at) ≡ take 4 (drop at l)
