-- A number as text. The character of a byte stands beside it.
use Rattle.std.specs.Prelude.{ℕ, zero, suc, ◌+◌, ◌-◌, ◌*◌, ◌/◌, ◌%◌, cond, List, [], ◌∷◌, ◌++◌, ltb}

-- The digit d, from '0'.
abbrev pub digit : ℕ → ℕ
digit d = 48 + d

-- The digits of n, the last one taken off at each turn.
unfoldable pub digits : ℕ → ℕ → List ℕ
digits zero n = []
digits (suc turns) n = cond (ltb n 10) (digit n ∷ []) (digits turns (n / 10) ++ (digit (n % 10) ∷ []))

-- A number in decimal, with no zero in front; 0 is "0". No number n has more than n + 1 digits.
unfoldable pub decimal : ℕ → List ℕ
decimal n = digits (suc n) n

-- The number that digits stand for, behind those that stand for `before`.
unfoldable pub read_on : ℕ → List ℕ → ℕ
read_on before [] = before
read_on before (d ∷ ds) = read_on (10 * before + (d - digit 0)) ds

unfoldable pub number_of : List ℕ → ℕ
number_of text = read_on 0 text
