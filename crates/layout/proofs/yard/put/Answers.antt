use Rattle.std.proofs.Common.{arith, le-leb}
use Rattle.laws.proofs.Writes.{and_then, at_front}
use Rattle.layout_rules.specs.Bytes.{yard_size, yard_bytes, yard_written}
use Rattle.layout_rules.proofs.Widths.{yard_wide}
use Rattle.layout.proofs.yard.put.Goals as goal

pub returns : goal.returns
unfolding yard_written yard_bytes
returns c =
    let y = c.args.y in
    let room = c.if-out-lt-YARD_SIZE.false in
    let number = c.base_number.ensures in
    let index = c.base_index.ensures in
    let base = rw (number, index) at c.put_bytes.ensures in
    let clock = c.put_two.ensures in
    let front = and_then (and_then base clock) c.put_four.ensures in
    let all = and_then front c.put_devices.ensures in
    let written = at_front all (omega (arith, room, yard_wide y)) in
    rw (le-leb yard_size _ room) record { value = written.0; out_after = written.1 }
