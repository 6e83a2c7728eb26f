-- Laws of lists that are given by what stands at each number from 1.
use Rattle.std.proofs.Common.{ℕ, zero, suc, ◌+◌, ◌-◌, ◌*◌, ◌≤◌, ◌<◌, arith, mul-suc, mul-le-mul_left, add-one, ◌≡◌, refl, sym, ◌∙◌, ap, List, [], ◌∷◌, ◌++◌, Bool, false, cond, leb, eqb, eqb-true, le-leb, length, get_or, set, take, drop, length-set, length-append, drop-cons, take-add, drop-drop, ext_get_or, get_or-append-add, get_or-set_same, get_or-set_other}
use borrow.Author.Tests.{eqb-false, lt-leb}
use lib.ListN.{get_or-append}
use lib.Seq.{get_or_at, set_at, append_snoc}
use Rattle.laws.specs.Lists.{tabulate, swept, joined}
use Rattle.laws.proofs.Tests.{case, tests}

module _ {A : Type 0} (f : ℕ → A) where
  pub tabulate_length : (n : ℕ) → length (tabulate f n) ≡ n
  unfolding tabulate
  tabulate_length zero = refl
  tabulate_length (suc n) = length-append (tabulate f n) _ ∙ rw (tabulate_length n) (omega arith)

  -- What stands at i, counted from 1, is f i.
  pub tabulate_at : (n i : ℕ) (d : A) → 1 ≤ i → i ≤ n → get_or (tabulate f n) (i - 1) d ≡ f i
  unfolding tabulate
  tabulate_at zero i d low high = absurd (omega arith)
  tabulate_at (suc n) i d low high =
      case (eqb i (suc n))
      (λ e. rw (eqb-true i (suc n) e)
      (get_or_at (tabulate f n) (f (suc n)) [] d (suc n - 1) (tabulate_length n ∙ omega arith)))
      (λ e.
      get_or-append (tabulate f n) (f (suc n) ∷ []) d (i - 1) (omega (tests, tabulate_length n))
      ∙ tabulate_at n i d low (omega tests))

-- It depends on f's values at 1 to n alone.
pub tabulate_same :
    {A : Type 0} (f g : ℕ → A) (n : ℕ) → ((i : ℕ) → 1 ≤ i → i ≤ n → f i ≡ g i) → tabulate f n ≡ tabulate g n
unfolding tabulate
tabulate_same f g zero h = refl
tabulate_same f g (suc n) h =
    rw (tabulate_same f g n (λ i low high. h i low (omega arith)), h (suc n) (omega arith) (omega arith))

-- A list is given by what stands in it.
pub tabulate_back : {A : Type 0} (l : List A) (d : A) (n : ℕ) → length l ≡ n → tabulate (λ i. get_or l (i - 1) d) n ≡ l
tabulate_back l d n e =
    ext_get_or d _ l (tabulate_length _ n ∙ sym e)
    (λ k h.
    let k_in : k < n = omega (arith, tabulate_length (λ i. get_or l (i - 1) d) n) in
    ap (λ (j : ℕ). get_or (tabulate (λ i. get_or l (i - 1) d) n) j d) {x = k} {y = k + 1 - 1} (omega arith)
    ∙ tabulate_at (λ i. get_or l (i - 1) d) n (k + 1) d (omega arith) (omega arith)
    ∙ ap (λ (j : ℕ). get_or l j d) {x = k + 1 - 1} {y = k} (omega arith))

-- Going through a list from the front, one more each time.
module _ {A : Type 0} (f g : ℕ → A) (m : ℕ) where
  pub swept_length : (n : ℕ) → length (swept f g n m) ≡ m
  swept_length n = tabulate_length _ m

  pub swept_none : swept f g 0 m ≡ tabulate g m
  swept_none = tabulate_same _ g m (λ i low high. rw (lt-leb i 0 low))

  pub swept_all : swept f g m m ≡ tabulate f m
  swept_all = tabulate_same _ f m (λ i low high. rw (le-leb i m high))

  swept_at : (n k : ℕ) (d : A) → k < m → get_or (swept f g n m) k d ≡ cond (leb (k + 1) n) (f (k + 1)) (g (k + 1))
  swept_at n k d in_m =
      ap (λ (j : ℕ). get_or (swept f g n m) j d) {x = k} {y = k + 1 - 1} (omega arith)
      ∙ tabulate_at _ m (k + 1) d (omega arith) (omega arith)

  pub swept_rest : (n k : ℕ) (d : A) → n ≤ k → k < m → get_or (swept f g n m) k d ≡ g (k + 1)
  swept_rest n k d h in_m = swept_at n k d in_m ∙ rw (lt-leb (k + 1) n (omega arith))

  pub swept_next : (n : ℕ) (x d : A) → n < m → x ≡ f (n + 1) → set (swept f g n m) n x ≡ swept f g (n + 1) m
  swept_next n x d h e =
      ext_get_or d _ _ (length-set (swept f g n m) n x ∙ swept_length n ∙ sym (swept_length (n + 1)))
      (λ j in_set.
      let in_m : j < m = omega (arith, length-set (swept f g n m) n x, swept_length n) in
      case (eqb j n)
      (λ q.
      let same : j ≡ n = eqb-true j n q in
      rw same
      (get_or-set_same (swept f g n m) n x d (omega (arith, swept_length n))
      ∙ e
      ∙ sym (swept_at (n + 1) n d h ∙ rw (le-leb (n + 1) (n + 1) (omega arith)))))
      (λ q.
      get_or-set_other (swept f g n m) n j x d (eqb-false j n q)
      ∙ swept_at n j d in_m
      ∙ ap (λ (b : Bool). cond b (f (j + 1)) (g (j + 1))) (same_side j q)
      ∙ sym (swept_at (n + 1) j d in_m)))
    where
      same_side : (j : ℕ) → eqb j n ≡ false → leb (j + 1) n ≡ leb (j + 1) (n + 1)
      same_side j q =
          case (leb (j + 1) n)
          (λ l. l ∙ sym (le-leb (j + 1) (n + 1) (omega tests)))
          (λ l. l ∙ sym (lt-leb (j + 1) (n + 1) (omega tests)))

-- A buffer that is filled from the front: what was written, and the rest as it was. One more is written.
pub write_next :
    {A : Type 0} (done buffer : List A) (k : ℕ) (x d : A) → length done ≡ k → k < length buffer
    → set (done ++ drop k buffer) k x ≡ done ++ (x ∷ []) ++ drop (k + 1) buffer
write_next done buffer k x d e h =
    rw (drop-cons buffer k d h, add-one k)
    (set_at done (get_or buffer k d) (drop (suc k) buffer) x k e ∙ sym (append_snoc done x (drop (suc k) buffer)))

-- Two parts of a list, one behind the other.
pub parts_join :
    {A : Type 0} (l : List A) (at m n : ℕ) → take m (drop at l) ++ take n (drop (at + m) l) ≡ take (m + n) (drop at l)
parts_join l at m n = sym (take-add m n (drop at l) ∙ rw (drop-drop m at l))

-- Parts of a list that stand one behind the other are one part of it.
pub pieces_join :
    {A : Type 0} (f : ℕ → List A) (l : List A) (start w n : ℕ)
    → ((i : ℕ) → 1 ≤ i → i ≤ n → f i ≡ take w (drop (start + w * (i - 1)) l)) → joined f n ≡ take (w * n) (drop start l)
unfolding joined
pieces_join f l start w zero is =
    ap (λ (k : ℕ). take k (drop start l)) {x = 0} {y = w * 0} (omega arith)
pieces_join f l start w (suc n) is =
    let last : f (suc n) ≡ take w (drop (start + w * n) l) =
    is (suc n) (omega arith) (omega arith)
    ∙ ap (λ (k : ℕ). take w (drop (start + w * k) l)) {x = suc n - 1} {y = n} (omega arith) in
    rw (pieces_join f l start w n (λ i low high. is i low (omega arith)), last)
    (parts_join l start (w * n) w ∙ ap (λ (k : ℕ). take k (drop start l)) (sym (mul-suc w n)))

-- Pieces of one length, one behind the other.
module _ {A : Type 0} (f : ℕ → List A) (w : ℕ) (wide : (i : ℕ) → length (f i) ≡ w) where
  pub joined_length : (n : ℕ) → length (joined f n) ≡ w * n
  unfolding joined
  joined_length zero = omega arith
  joined_length (suc n) =
      length-append (joined f n) (f (suc n)) ∙ rw (joined_length n, wide (suc n)) (sym (mul-suc w n))

  -- Piece i, counted from 1, stands behind those before it.
  pub joined_at :
      (n i j : ℕ) (d : A) → 1 ≤ i → i ≤ n → j < w → get_or (joined f n) (w * (i - 1) + j) d ≡ get_or (f i) j d
  unfolding joined
  joined_at zero i j d low high h = absurd (omega arith)
  joined_at (suc n) i j d low high h =
      case (eqb i (suc n))
      (λ e.
      let last : i ≡ suc n = eqb-true i (suc n) e in
      let start : w * (i - 1) ≡ length (joined f n) =
      ap (λ (k : ℕ). w * k) {x = i - 1} {y = n} (omega arith) ∙ sym (joined_length n) in
      rw (start, last) (get_or-append-add (joined f n) (f (suc n)) j d))
      (λ e.
      let fits : w * suc (i - 1) ≤ w * n = mul-le-mul_left w (omega tests) in
      get_or-append (joined f n) (f (suc n)) d (w * (i - 1) + j) (omega (arith, mul-suc w (i - 1), joined_length n))
      ∙ joined_at n i j d low (omega tests) h)
