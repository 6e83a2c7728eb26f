-- Laws of tests: a test decides, tests joined, a test tried at one index after another.
use Rattle.std.proofs.Common.{ℕ, zero, suc, ◌+◌, ◌≤◌, ◌<◌, zero-le, add-one, arith, ◌≡◌, refl, sym, ◌∙◌, Bool, true, false, ◌&&◌, ◌||◌, cond, true≢false, List, [], ◌∷◌, ltb, eqb, get_or, ltb-true, ltb-false, leb-true, leb-false, eqb-true}
use mathlib.Core.Bool.{false≢true}
use borrow.Author.Tests.{eqb-false}
use Rattle.laws.specs.Tests.{all_of, any_of, each, lowest}

-- What `omega` reads of tests and may show of them.
pub ruleset tests = (arith, ltb-true, ltb-false, leb-true, leb-false, eqb-true, eqb-false)

-- A test holds or fails.
module _ {ℓ} {A : Type ℓ} where
  pub case : (b : Bool) → (b ≡ true → A) → (b ≡ false → A) → A
  case true this that = this refl
  case false this that = that refl

  pub clash : {b : Bool} → b ≡ true → b ≡ false → A
  clash t f = absurd (true≢false (sym t ∙ f))

-- What holds of both choices holds of the choice.
pub on_cond {ℓ κ} :
    {A : Type ℓ} (P : A → Type κ) (b : Bool) {x y : A} → (b ≡ true → P x) → (b ≡ false → P y) → P (cond b x y)
on_cond P true this that = this refl
on_cond P false this that = that refl

-- A test that cannot fail holds, and the other way round.
pub holds : {b : Bool} → (b ≡ false → ⊥) → b ≡ true
holds {b = true} h = refl
holds {b = false} h = absurd (h refl)

pub fails : {b : Bool} → (b ≡ true → ⊥) → b ≡ false
fails {b = true} h = absurd (h refl)
fails {b = false} h = refl

-- Each test of a list holds; none does.
abbrev pub Hold : List Bool → Type 0
Hold [] = Unit
Hold (b ∷ bs) = (b ≡ true) × Hold bs

abbrev pub NoneHolds : List Bool → Type 0
NoneHolds [] = Unit
NoneHolds (b ∷ bs) = (b ≡ false) × NoneHolds bs

pub and_hold : (a b : Bool) → (a && b) ≡ true → (a ≡ true) × (b ≡ true)
and_hold true b e = (refl, e)
and_hold false b e = absurd (false≢true e)

pub and_of : {a b : Bool} → a ≡ true → b ≡ true → (a && b) ≡ true
and_of {a = true} p q = q
and_of {a = false} p q = p

pub or_none : (a b : Bool) → (a || b) ≡ false → (a ≡ false) × (b ≡ false)
or_none true b e = absurd (true≢false e)
or_none false b e = (refl, e)

pub or_of : {a b : Bool} → a ≡ false → b ≡ false → (a || b) ≡ false
or_of {a = true} p q = p
or_of {a = false} p q = q

pub all_hold : (bs : List Bool) → all_of bs ≡ true → Hold bs
unfolding all_of
all_hold [] e = tt
all_hold (b ∷ bs) e = let h = and_hold b (all_of bs) e in (h.0, all_hold bs h.1)

pub all_of_lem : (bs : List Bool) → Hold bs → all_of bs ≡ true
unfolding all_of
all_of_lem [] h = refl
all_of_lem (b ∷ bs) h = and_of h.0 (all_of_lem bs h.1)

-- A list of tests joined as code joins them, from the left.
abbrev pub and_all : Bool → List Bool → Bool
and_all a [] = a
and_all a (b ∷ bs) = and_all (a && b) bs

abbrev pub or_all : Bool → List Bool → Bool
or_all a [] = a
or_all a (b ∷ bs) = or_all (a || b) bs

pub all_is : (a : Bool) (bs : List Bool) → all_of (a ∷ bs) ≡ and_all a bs
unfolding all_of
all_is true [] = refl
all_is false [] = refl
all_is true (b ∷ bs) = all_is b bs
all_is false (b ∷ bs) = all_is false bs

pub any_is : (a : Bool) (bs : List Bool) → any_of (a ∷ bs) ≡ or_all a bs
unfolding any_of
any_is true [] = refl
any_is false [] = refl
any_is true (b ∷ bs) = any_is true bs
any_is false (b ∷ bs) = any_is b bs

pub none_hold : (bs : List Bool) → any_of bs ≡ false → NoneHolds bs
unfolding any_of
none_hold [] e = tt
none_hold (b ∷ bs) e = let h = or_none b (any_of bs) e in (h.0, none_hold bs h.1)

pub none_of : (bs : List Bool) → NoneHolds bs → any_of bs ≡ false
unfolding any_of
none_of [] h = refl
none_of (b ∷ bs) h = or_of h.0 (none_of bs h.1)

-- No test of a list holds, at whichever place one looks.
pub none_at : (bs : List Bool) → NoneHolds bs → (k : ℕ) → get_or bs k false ≡ false
none_at [] h k = refl
none_at (b ∷ bs) h zero = h.0
none_at (b ∷ bs) h (suc k) = none_at bs h.1 k

-- The test holds at each of 1 to n.
module _ (test : ℕ → Bool) where
  pub each_holds : (n : ℕ) → each test n ≡ true → (i : ℕ) → 1 ≤ i → i ≤ n → test i ≡ true
  unfolding each
  each_holds zero e i low high = absurd (omega arith)
  each_holds (suc n) e i low high =
      let h = and_hold (each test n) (test (suc n)) e in
      case (eqb i (suc n))
      (λ s. rw (eqb-true i (suc n) s) h.1)
      (λ s. each_holds n h.0 i low (omega tests))

  pub each_of : (n : ℕ) → ((i : ℕ) → 1 ≤ i → i ≤ n → test i ≡ true) → each test n ≡ true
  unfolding each
  each_of zero h = refl
  each_of (suc n) h =
      and_of (each_of n (λ i low high. h i low (omega arith))) (h (suc n) (omega arith) (omega arith))

  pub each_next : (n : ℕ) → each test n ≡ true → test (n + 1) ≡ true → each test (n + 1) ≡ true
  unfolding each
  each_next n all here = rw add-one (and_of all (rw add-one at here))

  pub each_broken : (n i : ℕ) → 1 ≤ i → i ≤ n → test i ≡ false → each test n ≡ false
  each_broken n i low high e = fails (λ all. clash (each_holds n all i low high) e)

  -- What is found below n is at most n; it holds there if it is below n, and nowhere before.
  pub lowest_most : (n : ℕ) → lowest test n ≤ n
  unfolding lowest
  lowest_most zero = zero-le
  lowest_most (suc n) =
      let h = lowest_most n in
      case (ltb (lowest test n) n)
      (λ s. rw s (omega arith))
      (λ s. case (test n) (λ t. rw (s, t) (omega arith)) (λ t. rw (s, t) (omega arith)))

  pub lowest_none : (n i : ℕ) → i < lowest test n → test i ≡ false
  unfolding lowest
  lowest_none zero i = λ h. absurd (omega arith)
  lowest_none (suc n) i =
      case (ltb (lowest test n) n)
      (λ s. rw s (λ h. lowest_none n i h))
      (λ s.
      let le : n ≤ lowest test n = ltb-false _ _ s in
      case (test n)
      (λ t. rw (s, t) (λ h. lowest_none n i (omega arith)))
      (λ t. rw (s, t) (λ h.
      case (eqb i n) (λ e. rw (eqb-true i n e) t) (λ e. lowest_none n i (omega tests)))))

  pub lowest_holds : (n : ℕ) → lowest test n < n → test (lowest test n) ≡ true
  unfolding lowest
  lowest_holds zero = λ h. absurd (omega arith)
  lowest_holds (suc n) =
      case (ltb (lowest test n) n)
      (λ s. rw s (λ h. lowest_holds n (ltb-true _ _ s)))
      (λ s. case (test n) (λ t. rw (s, t) (λ h. t)) (λ t. rw (s, t) (λ h. absurd (omega arith))))

  -- The index at which it holds and before which it does not is what is found.
  pub lowest_is : (n i : ℕ) → i < n → test i ≡ true → ((j : ℕ) → j < i → test j ≡ false) → lowest test n ≡ i
  lowest_is n i below here before =
      let k : ℕ = lowest test n in
      let most : k ≤ n = lowest_most n in
      case (ltb i k)
      (λ s. clash here (lowest_none n i (ltb-true _ _ s)))
      (λ s. case (ltb k i)
      (λ u. clash (lowest_holds n (omega tests)) (before k (ltb-true _ _ u)))
      (λ u. omega tests))

  -- Where it holds nowhere, n is found.
  pub lowest_is_none : (n : ℕ) → ((j : ℕ) → j < n → test j ≡ false) → lowest test n ≡ n
  lowest_is_none n none =
      let k : ℕ = lowest test n in
      let most : k ≤ n = lowest_most n in
      case (ltb k n) (λ s. clash (lowest_holds n (ltb-true _ _ s)) (none k (ltb-true _ _ s))) (λ s. omega tests)

-- What is fixed by an equation is fixed: two answers that one definition gives are the same.
pub determined {ℓ} : {A : Type ℓ} {x r s : A} → r ≡ x → s ≡ x → r ≡ s
determined p q = p ∙ sym q
