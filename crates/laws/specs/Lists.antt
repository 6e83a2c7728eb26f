-- Lists that are given by what stands at each number from 1.
use Rattle.std.specs.Prelude.{ℕ, zero, suc, cond, List, [], ◌∷◌, ◌++◌, leb}

-- f 1, f 2, .. , f n.
unfoldable pub tabulate {ℓ} : {A : Type ℓ} → (ℕ → A) → ℕ → List A
tabulate f zero = []
tabulate f (suc n) = tabulate f n ++ (f (suc n) ∷ [])

-- f i at the first n numbers, g i at the rest, m in all.
abbrev pub swept {ℓ} : {A : Type ℓ} → (ℕ → A) → (ℕ → A) → ℕ → ℕ → List A
swept f g n m = tabulate (λ i. cond (leb i n) (f i) (g i)) m

-- The pieces f 1, f 2, .. , f n, one behind the other.
unfoldable pub joined {ℓ} : {A : Type ℓ} → (ℕ → List A) → ℕ → List A
joined f zero = []
joined f (suc n) = joined f n ++ f (suc n)
