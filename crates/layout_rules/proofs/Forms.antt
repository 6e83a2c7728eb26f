-- Bytes that are a yard's, read as facts: what the tests of `is_yard` say, both ways.
use Rattle.std.proofs.Common.{ℕ, ◌≤◌, ◌≡◌, true, ◌||◌, List, [], ◌∷◌, leb, ltb, eqb, length, leb-true, le-leb, eqb-true, eq-eqb}
use Rattle.laws.specs.Tests.{each}
use Rattle.laws.proofs.Tests.{case, tests, and_hold, and_of, all_hold, all_of_lem, each_holds, each_of}
use Rattle.layout_rules.specs.Bytes.{yard_size}
use Rattle.layout_rules.specs.Reading.{base_byte, index_byte, place_byte, letter_byte, base_stands, device_stands, is_yard}

pub record Readable (bytes : List ℕ) : Type 0 where
  pub room : yard_size ≤ length bytes
  pub base : base_byte bytes ≤ 3
  pub alone : base_byte bytes ≡ 0 → index_byte bytes ≡ 0
  pub place : (i : ℕ) → 1 ≤ i → i ≤ 8 → place_byte bytes i ≤ 5
  pub letter : (i : ℕ) → 1 ≤ i → i ≤ 8 → letter_byte bytes i ≤ 5

base_is : (a b : ℕ) → base_stands a b ≡ true → (a ≤ 3) × (a ≡ 0 → b ≡ 0)
base_is a b t =
    let h = and_hold (leb a 3) (ltb 0 a || eqb b 0) t in
    (leb-true a 3 h.0, λ z. eqb-true b 0 (rw z at h.1))

is_base : (a b : ℕ) → a ≤ 3 → (a ≡ 0 → b ≡ 0) → base_stands a b ≡ true
is_base a b high alone =
    and_of (le-leb a 3 high) (case (ltb 0 a) (λ e. rw e) (λ e. rw e (eq-eqb b 0 (alone (omega tests)))))

module _ (bytes : List ℕ) where
  pub readable_is : is_yard bytes ≡ true → Readable bytes
  unfolding is_yard
  readable_is t =
      let parts =
      all_hold
      (leb yard_size (length bytes) ∷ base_stands (base_byte bytes) (index_byte bytes) ∷ each (device_stands bytes) 8 ∷ [])
      t in
      let base = base_is (base_byte bytes) (index_byte bytes) parts.1.0 in
      let device : (i : ℕ) → 1 ≤ i → i ≤ 8 → (leb (place_byte bytes i) 5 ≡ true) × (leb (letter_byte bytes i) 5 ≡ true) =
      λ i low high. and_hold _ _ (each_holds (device_stands bytes) 8 parts.1.1.0 i low high) in
      record {
        room = leb-true _ _ parts.0;
        base = base.0;
        alone = base.1;
        place = λ i low high. leb-true _ _ (device i low high).0;
        letter = λ i low high. leb-true _ _ (device i low high).1;
      }

  pub is_readable : Readable bytes → is_yard bytes ≡ true
  unfolding is_yard
  is_readable r =
      let device : (i : ℕ) → 1 ≤ i → i ≤ 8 → device_stands bytes i ≡ true =
      λ i low high. and_of (le-leb _ 5 (r.place i low high)) (le-leb _ 5 (r.letter i low high)) in
      all_of_lem _ (le-leb _ _ r.room, (is_base _ _ r.base r.alone, (each_of (device_stands bytes) 8 device, tt)))
