-- The time that a device's clock runs to, by the number of its place: F, Q, E, R, X, X; and the row of all of them, six for
-- each slot.
use Rattle.std.specs.Prelude.{ℕ, ◌-◌, ◌/◌, ◌%◌, cond, List, eqb, get_or}
use Rattle.laws.specs.Lists.{tabulate}
use Rattle.rules.specs.declared.Slot.{Slot}
use Rattle.rules.specs.Plan.{empty_slot}

unfoldable pub time_of : ℕ → Slot → ℕ → ℕ
time_of Q s number =
    cond (eqb number 0) s.F
    (cond (eqb number 1) Q
    (cond (eqb number 2) s.E
    (cond (eqb number 3) s.R s.X)))

unfoldable pub row_of : ℕ → List Slot → List ℕ
row_of Q slots = tabulate (λ i. time_of Q (get_or slots ((i - 1) / 6) empty_slot) ((i - 1) % 6)) 48
