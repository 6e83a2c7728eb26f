-- Tests joined, and a test tried at one index after another.
use Rattle.std.specs.Prelude.{ℕ, zero, suc, Bool, true, false, ◌&&◌, ◌||◌, cond, List, [], ◌∷◌, ltb}

-- Every test of the list holds.
unfoldable pub all_of : List Bool → Bool
all_of [] = true
all_of (b ∷ bs) = b && all_of bs

-- Some test of the list holds.
unfoldable pub any_of : List Bool → Bool
any_of [] = false
any_of (b ∷ bs) = b || any_of bs

-- The test holds at each of 1 to n.
unfoldable pub each : (ℕ → Bool) → ℕ → Bool
each test zero = true
each test (suc n) = each test n && test (suc n)

-- The lowest of the indices below n, from 0, at which the test holds; n where it holds at none.
unfoldable pub lowest : (ℕ → Bool) → ℕ → ℕ
lowest test zero = zero
lowest test (suc n) = cond (ltb (lowest test n) n) (lowest test n) (cond (test n) n (suc n))
