-- The down letter of the last of k ticks; none before the first.
use Rattle.std.specs.Prelude.{ℕ, zero, suc, List, Option}
use Rattle.rules.specs.declared.Plan.{Plan}
use Rattle.rules.specs.declared.Yard.{Yard}
use Rattle.rules.specs.declared.Down.{Down}
use Rattle.rules.specs.Downs as down
use Rattle.rules.specs.Tick.{sent}
use Rattle.rules.specs.Run.{record_at, after}

unfoldable pub last_down : Plan → Yard → List ℕ → ℕ → Option Down
last_down p y roll zero = down.none
last_down p y roll (suc k) = (sent p (after p y roll k) (record_at roll k)).down
