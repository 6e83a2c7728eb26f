use Rattle.std.proofs.Common.{arith}
use Rattle.laws.proofs.Writes.{and_then, as_end}
use Rattle.layout_rules.specs.Bytes.{device_bytes}
use Rattle.layout.proofs.yard.put_device.Goals as goal

pub returns : goal.returns
unfolding device_bytes
returns c =
    let clock = c.put_two.ensures in
    let marks = c.put_bytes.ensures in
    let place = c.place_number.ensures in
    let letter = c.letter_number.ensures in
    let start = c.device_start-at.ensures in
    as_end _ (rw (place, letter, start) at (and_then clock marks)) (omega arith)
