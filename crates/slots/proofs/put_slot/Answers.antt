use Rattle.laws.proofs.Writes.{and_then}
use Rattle.planfile_rules.specs.Writing.{slot_bytes}
use Rattle.slots.proofs.put_slot.Goals as goal

pub returns : goal.returns
unfolding slot_bytes
returns c =
    let one = c.put_two.ensures in
    let two = and_then one c.put_two-2.ensures in
    let three = and_then two c.put_two-3.ensures in
    let four = and_then three c.put_two-4.ensures in
    let five = and_then four c.put_two-5.ensures in
    and_then five c.put_two-6.ensures
