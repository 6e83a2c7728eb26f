use Rattle.std.proofs.Common.{ℕ, ◌<◌, ◌≡◌, Bool, false, not, List}
use Rattle.rules.specs.declared.Plan.{Plan}
use Rattle.rules.specs.Tick.Input.{valid_record}
use Rattle.rules.specs.Run.{record_at}
use Rattle.rolls.proofs.first_bad.Given as goal

-- The record at k is not valid.
abbrev pub bad : Plan → List ℕ → ℕ → Bool
bad p roll k = not (valid_record p (record_at roll k))

abbrev pub invariant-loop-k : goal.invariant-loop-k
invariant-loop-k l = (j : ℕ) → j < l.k → bad l.fn.p l.roll j ≡ false
