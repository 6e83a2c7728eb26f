use Rattle.std.proofs.Common.{◌+◌, ◌-◌, ◌*◌, get_or}
use Rattle.laws.specs.Lists.{joined}
use Rattle.laws.specs.Written.{Written}
use Rattle.rules.specs.Plan.{empty_slot}
use Rattle.planfile_rules.specs.Writing.{slot_bytes}
use Rattle.bodies.proofs.put_slots.Given as goal

abbrev pub invariant-loop-j : goal.invariant-loop-j
invariant-loop-j l =
    Written l.initial.out 8 (joined (λ i. slot_bytes (get_or l.slots (i - 1) empty_slot)) l.j) l.out (8 + 12 * l.j)
