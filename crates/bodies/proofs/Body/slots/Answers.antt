use Rattle.std.proofs.Common.{◌+◌, ◌*◌, ◌∙◌, arith}
use Rattle.planfile_rules.proofs.Slots.{none_read, slot_part, next_read}
use Rattle.bodies.proofs.Body.slots.Goals as goal

pub loop-k-init : goal.loop-k-init
loop-k-init c = rw c.empty_plan.ensures (none_read c.args.self.now.bytes.now)

pub loop-k-preserved : goal.loop-k-preserved
loop-k-preserved c =
    let body = c.args.self.now.bytes.now in
    let k = c.loop-k.k in
    rw c.loop-k.invariant
    (next_read body k c.slot_in.result (omega arith) (c.slot_in.ensures ∙ slot_part body (8 + 12 * k)))
