-- Which slot comes next, and which of two lines stands first. What a caller of this crate is promised is `plan_verdict` of the rules.
use Rattle.std.specs.Prelude.{ℕ, ◌+◌, Bool, true, false, cond, ltb, Option, None, Some}

-- The place of the slot after the one at place k, 0 to 7; the last has none, and stands for itself.
abbrev pub place_after : ℕ → ℕ
place_after k = cond (ltb k 7) (k + 1) 7

-- A line that was found stands before another; none stands behind all.
abbrev pub lower : Option ℕ → Option ℕ → Bool
lower None line = false
lower (Some a) None = true
lower (Some a) (Some b) = ltb a b
