-- The bytes whose bits k and up are zero are those below a bound.
use Rattle.std.specs.Prelude.{ℕ, ◌<◌, ◌≡◌, ltb}
use Rattle.laws.specs.Bits.{clear_from}

abbrev pub Bound : ℕ → ℕ → Type 0
Bound k bound = (b : ℕ) → b < 256 → ltb b bound ≡ clear_from k b
