use Rattle.laws.proofs.Writes.{and_then}
use Rattle.planfile_rules.specs.Writing.{body_bytes, body_written}
use Rattle.bodies.proofs.put_body.Goals as goal

pub returns-clause-written : goal.returns-clause-written
unfolding body_bytes body_written
returns-clause-written c =
    let one = c.put_two.ensures in
    let two = and_then one c.put_two-2.ensures in
    let three = and_then two c.put_two-3.ensures in
    let four = and_then three c.put_two-4.ensures in
    rw (← c.has_room.ensures, c.if-not-has_room.false) (and_then four c.put_slots.ensures.0)
