-- After a tick no device is active above that of the base's place.
use Rattle.std.proofs.Common.{◌+◌, ◌<◌, arith}
use Rattle.rules.specs.declared.Plan.{Plan}
use Rattle.rules.specs.declared.Yard.{Yard}
use Rattle.rules.specs.declared.Record.{Record}
use Rattle.rules.specs.Plan.{stay, LS}
use Rattle.rules.specs.Yard.{device}
use Rattle.rules.specs.Tick.{tick}
use Rattle.rules.specs.Theorems.{Accepts}
use Rattle.rules.proofs.States.Formed.{Formed}
use Rattle.rules.proofs.Ticks.Keeps.{keeps}
use Rattle.rules.proofs.Promises.Stays.Stay.{some_left}
use Rattle.rules.proofs.Promises.Stays.Ticked.{tick_steps}
use Rattle.rules.proofs.Promises.Stays.Steps.{on_active}
use Rattle.rules.proofs.Promises.Bases.Turns.{Prompt}
use Rattle.rules.proofs.Promises.Bases.Ticked.{tick_asks, tick_leaves}
use Rattle.rules.proofs.Promises.Safe.Clauses.{spent_at, Reached, Covered}

-- A device that starts was asked, and the base has gone to it. One that was active before has some of its stay left, so the
-- lease is not over, and the base leaves it behind only if it is out.
pub reached_kept :
    (p : Plan) (a : Accepts p) (y : Yard) (r : Record) → Formed p y → Prompt p y.base y.clock y.lease
    → Reached p y → Covered p y → Reached p (tick p y r)
reached_kept p a y r f soon reached covered j low used active =
    on_active (tick_steps p y r j a f low used) active (λ ask new young. (tick_asks p y r a f soon j low ask).reached)
    (λ h more.
    let left : spent_at p (tick p y r) j < stay p j =
    some_left p j (device (tick p y r) j).place _ ((keeps p a y r f).placed j low (omega (arith, a.devices)) used) active in
    let early : y.lease + 1 < LS p = omega (arith, covered j low used h.was) in
    tick_leaves p y r a f soon j low (reached j low used h.was) active early)
