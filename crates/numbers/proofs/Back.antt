-- What is written is read back, and what is read is written back.
use Rattle.std.proofs.Common.{ℕ, ◌+◌, ◌*◌, ◌/◌, ◌%◌, ◌≤◌, ◌<◌, arith, ◌≡◌, sym, ◌∙◌, ap, List, [], ◌∷◌, ◌++◌, length, take, drop, get_or, length-append, length-drop, length-take-le, get_or-append-add, get_or-drop, get_or-take, take-suc, take_all, leb, ltb, leb-true, ltb-true}
use native.Mathlib.Nat.{mod-add-div}
use lib.ListN.{get_or-append, get_or-eq_default}
use lib.Seq.{sets, sets-eq}
use Rattle.laws.proofs.Tests.{case, tests}
use Rattle.laws.proofs.Lists.{parts_join}
use Rattle.laws.proofs.Parts.{low_part, high_part}
use Rattle.numbers.specs.Bytes.{num16, num32, two_bytes, four_bytes, AllBytes}
use Rattle.numbers.specs.Theorems.{NumbersBack, BytesGiven}

pub two_back : (v : ℕ) → v % 256 + 256 * (v / 256) ≡ v
two_back v = mod-add-div v 256

pub four_back : (v : ℕ) → v % 65536 % 256 + 256 * (v % 65536 / 256) + 65536 * (v / 65536 % 256 + 256 * (v / 65536 / 256)) ≡ v
four_back v = rw (two_back (v % 65536), two_back (v / 65536)) (mod-add-div v 65536)

-- Past the end there are zeros.
pub nothing_there : (l : List ℕ) (at : ℕ) → length l ≤ at → 0 ≡ num32 l at
unfolding num16 num32
nothing_there l at h =
    rw (none at (omega arith), none (at + 1) (omega arith), none (at + 2) (omega arith), none (at + 2 + 1) (omega arith))
  where
    none : (k : ℕ) → length l ≤ k → get_or l k 0 ≡ 0
    none k past = get_or-eq_default l 0 past

-- A text that stands somewhere in a list.
module _ (a b c : List ℕ) where
  byte_in : (k : ℕ) → k < length b → get_or (a ++ b ++ c) (length a + k) 0 ≡ get_or b k 0
  byte_in k h =
      get_or-append (a ++ b) c 0 (length a + k) (omega (arith, length-append a b)) ∙ get_or-append-add a b k 0

  pub number_in : (k : ℕ) → k + 1 < length b → num16 (a ++ b ++ c) (length a + k) ≡ num16 b k
  unfolding num16
  number_in k h =
      let second : get_or (a ++ b ++ c) (length a + k + 1) 0 ≡ get_or b (k + 1) 0 =
      ap (λ (j : ℕ). get_or (a ++ b ++ c) j 0) {x = length a + k + 1} {y = length a + (k + 1)} (omega arith)
      ∙ byte_in (k + 1) h in
      rw (byte_in k (omega arith), second)

stored : (l text : List ℕ) (at k : ℕ) → at + length text ≤ length l → k + 1 < length text
    → num16 (sets l at text) (at + k) ≡ num16 text k
stored l text at k room h =
    let front : length (take at l) ≡ at = length-take-le at l (omega arith) in
    rw (sets-eq text l at room)
    (ap (num16 (take at l ++ text ++ drop (at + length text) l)) {x = at + k} {y = length (take at l) + k} (omega arith)
    ∙ number_in (take at l) text (drop (at + length text) l) k h)

stored_two : (l : List ℕ) (at v : ℕ) → at + 2 ≤ length l → num16 (sets l at (two_bytes v)) at ≡ v
unfolding num16 two_bytes
stored_two l at v room =
    ap (num16 (sets l at (two_bytes v))) {x = at} {y = at + 0} (omega arith)
    ∙ stored l (two_bytes v) at 0 room (omega arith)
    ∙ two_back v

stored_four : (l : List ℕ) (at v : ℕ) → at + 4 ≤ length l → num32 (sets l at (four_bytes v)) at ≡ v
unfolding num16 num32 two_bytes four_bytes
stored_four l at v room =
    let low =
    ap (num16 (sets l at (four_bytes v))) {x = at} {y = at + 0} (omega arith) ∙ stored l (four_bytes v) at 0 room (omega arith) in
    rw (low, stored l (four_bytes v) at 2 room (omega arith)) (four_back v)

pub numbers_back : NumbersBack
numbers_back = record { two = stored_two; four = stored_four }

-- A part of bytes is bytes.
module _ (l : List ℕ) (small : AllBytes l) where
  pub drop_small : (at : ℕ) → AllBytes (drop at l)
  drop_small at k = rw (get_or-drop at l k 0) (small (at + k))

  take_small : (n : ℕ) → AllBytes (take n l)
  take_small n k =
      case (leb (length l) n)
      (λ e. rw (take_all n l (leb-true _ _ e)) (small k))
      (λ e.
      let long : length (take n l) ≡ n = length-take-le n l (omega tests) in
      case (ltb k n)
      (λ q. rw (get_or-take n l k 0 (ltb-true _ _ q)) (small k))
      (λ q. rw (get_or-eq_default (take n l) 0 {n = k} (omega (tests, long))) (omega arith)))

pub part_small : (l : List ℕ) → AllBytes l → (at n : ℕ) → AllBytes (take n (drop at l))
part_small l small at n = take_small (drop at l) (drop_small l small at) n

-- Two bytes that stand behind one another.
pub two_there : (l : List ℕ) (at : ℕ) → at + 2 ≤ length l → get_or l at 0 ∷ get_or l (at + 1) 0 ∷ [] ≡ take 2 (drop at l)
two_there l at room =
    let rest : List ℕ = drop at l in
    let long : 2 ≤ length rest = rw (length-drop at l) (omega arith) in
    let first : get_or rest 0 0 ≡ get_or l at 0 =
    get_or-drop at l 0 0 ∙ ap (λ (k : ℕ). get_or l k 0) {x = at + 0} {y = at} (omega arith) in
    sym (take-suc rest 1 0 (omega arith) ∙ rw (take-suc rest 0 0 (omega arith), first, get_or-drop at l 1 0))

module _ (l : List ℕ) (small : AllBytes l) where
  pub two_given : (at : ℕ) → at + 2 ≤ length l → two_bytes (num16 l at) ≡ take 2 (drop at l)
  unfolding num16 two_bytes
  two_given at room =
      rw (low_part 256 (get_or l at 0) (get_or l (at + 1) 0) (small at), high_part 256 (get_or l at 0) (get_or l (at + 1) 0) (small at))
      (two_there l at room)

  number_small : (at : ℕ) → num16 l at < 65536
  unfolding num16
  number_small at = omega (arith, small at, small (at + 1))

  pub four_given : (at : ℕ) → at + 4 ≤ length l → four_bytes (num32 l at) ≡ take 4 (drop at l)
  unfolding num32 four_bytes
  four_given at room =
      rw (
        low_part 65536 (num16 l at) (num16 l (at + 2)) (number_small at),
        high_part 65536 (num16 l at) (num16 l (at + 2)) (number_small at),
        two_given at (omega arith),
        two_given (at + 2) (omega arith),
      )
      (parts_join l at 2 2)

pub bytes_given : BytesGiven
bytes_given = record { two = λ l at small room. two_given l small at room; four = λ l at small room. four_given l small at room }
