use Rattle.std.proofs.Common.{ℕ, List}
use Rattle.rules.specs.declared.BaseMove.{BaseMove}
use Rattle.rules.specs.declared.Device.{Device}
use Rattle.rules.specs.declared.Plan.{Plan}
use Rattle.rules.specs.declared.Record.{Record}
use Rattle.rules.specs.declared.Yard.{Yard}
use Rattle.yard.proofs.Pass.{Pass, Passed}
use Rattle.yard.proofs.Loop.{Rolled}
use Rattle.yard.proofs.engine.roll_on.Given as goal

abbrev pub yard_of : BaseMove → List Device → Yard
yard_of s devices = record { base = s.base; clock = s.clock; lease = s.lease; devices = devices }

abbrev pub pass_of : Plan → Record → ℕ → ℕ → List Device → Pass
pass_of p r last own devices = record { plan = p; input = r; last = last; own = own; start = devices }

abbrev pub invariant-loop-i : goal.invariant-loop-i
invariant-loop-i l =
    Passed (pass_of l.p l.r l.last l.own l.initial.devices) l.i l.devices l.noted.from_own l.noted.byte

abbrev pub invariant-loop-k : goal.invariant-loop-k
invariant-loop-k l =
    Rolled l.p (yard_of l.initial.supervisor l.initial.devices) l.roll l.initial.kept-items l.last l.k (yard_of l.supervisor l.devices) l.supervisor.down l.kept-items l.noted.byte
