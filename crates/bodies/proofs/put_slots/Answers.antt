use Rattle.std.proofs.Common.{◌+◌, ◌*◌, ◌≤◌, length, get_or, arith}
use Rattle.laws.proofs.Writes.{no_piece, next_member, length_kept, as_end, into_part}
use Rattle.rules.specs.Plan.{empty_slot}
use Rattle.planfile_rules.specs.Writing.{slot_bytes}
use Rattle.planfile_rules.proofs.Bodies.{slot_wide}
use Rattle.bodies.proofs.put_slots.Goals as goal

pub loop-j-init : goal.loop-j-init
loop-j-init c = no_piece _ _ _

pub loop-j-preserved : goal.loop-j-preserved
loop-j-preserved c =
    let loop = c.loop-j in
    let start = 8 + 12 * loop.j in
    let slots = c.args.slots in
    let wide = slot_wide (get_or slots loop.j empty_slot) in
    let room : start + 12 ≤ length loop.out = omega (arith, length_kept loop.invariant) in
    let one = into_part loop.out start (start + 12) (rw wide) room c.put_slot.ensures in
    as_end _ (next_member slot_bytes slots empty_slot loop.j loop.invariant one) (omega arith)
