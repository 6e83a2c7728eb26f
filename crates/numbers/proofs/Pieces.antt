-- Pieces of one width, one behind the other: what is read in each.
use Rattle.std.proofs.Common.{ℕ, ◌+◌, ◌-◌, ◌*◌, ◌≤◌, ◌<◌, arith, ◌≡◌, ◌∙◌, ap, List, ◌++◌, length, take, drop, get_or, get_or-append-add, get_or-take, get_or-drop}
use Rattle.laws.specs.Lists.{joined}
use Rattle.laws.proofs.Lists.{joined_at}
use Rattle.numbers.specs.Bytes.{num16}

-- Pieces of one width behind a front: what stands in piece i.
module _
    (front : List ℕ)
    (start : ℕ)
    (long : length front ≡ start)
    (f : ℕ → List ℕ)
    (w : ℕ)
    (wide : (i : ℕ) → length (f i) ≡ w)
    (n i : ℕ)
    (low : 1 ≤ i)
    (high : i ≤ n)
  where
    pub byte_stands :
        (j : ℕ) → j < w → get_or (front ++ joined f n) (start + w * (i - 1) + j) 0 ≡ get_or (f i) j 0
    byte_stands j h =
        ap (λ (k : ℕ). get_or (front ++ joined f n) k 0) {x = start + w * (i - 1) + j} {y = length front + (w * (i - 1) + j)}
        (omega arith)
        ∙ get_or-append-add front (joined f n) (w * (i - 1) + j) 0
        ∙ joined_at f w wide n i j 0 low high h

    pub number_stands :
        (j : ℕ) → j + 1 < w → num16 (front ++ joined f n) (start + w * (i - 1) + j) ≡ num16 (f i) j
    unfolding num16
    number_stands j h =
        let second : get_or (front ++ joined f n) (start + w * (i - 1) + j + 1) 0 ≡ get_or (f i) (j + 1) 0 =
        ap (λ (k : ℕ). get_or (front ++ joined f n) k 0) {x = start + w * (i - 1) + j + 1} {y = start + w * (i - 1) + (j + 1)}
        (omega arith)
        ∙ byte_stands (j + 1) h in
        rw (byte_stands j (omega arith), second)

    -- The first of them, where the code adds nothing.
    pub first_stands : 1 < w → num16 (front ++ joined f n) (start + w * (i - 1)) ≡ num16 (f i) 0
    first_stands h =
        ap (num16 (front ++ joined f n)) {x = start + w * (i - 1)} {y = start + w * (i - 1) + 0} (omega arith)
        ∙ number_stands 0 (omega arith)

-- What is read in a part of a list is what stands there.
pub number_part : (l : List ℕ) (at w j : ℕ) → j + 1 < w → num16 (take w (drop at l)) j ≡ num16 l (at + j)
unfolding num16
number_part l at w j h =
    let second : get_or (take w (drop at l)) (j + 1) 0 ≡ get_or l (at + j + 1) 0 =
    get_or-take w (drop at l) (j + 1) 0 h
    ∙ get_or-drop at l (j + 1) 0
    ∙ ap (λ (k : ℕ). get_or l k 0) {x = at + (j + 1)} {y = at + j + 1} (omega arith) in
    rw (get_or-take w (drop at l) j 0 (omega arith), get_or-drop at l j 0, second)
