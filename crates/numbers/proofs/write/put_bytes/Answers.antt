use Rattle.std.proofs.Common.{◌+◌, arith, get_or}
use lib.Seq.{set_out}
use Rattle.laws.proofs.Writes.{next_byte, length_kept}
use Rattle.numbers.proofs.write.put_bytes.Goals as goal
use Rattle.numbers.proofs.write.put_bytes.Goals.{then-k-room, else-k-room}

pub loop-k-preserved : goal.loop-k-preserved
loop-k-preserved g c =
    let loop = c.loop-k in
    let next = next_byte c.args.bytes loop.k (omega (arith, c.loop-k-test.true)) loop.invariant in
    elim c.if-k-room.branch [
      | then-k-room w ↦ rw w.out-is next
      | else-k-room w ↦
          rw w.out-is
          (rw (set_out loop.out (c.args.at + loop.k) (get_or c.args.bytes loop.k 0) (omega (arith, w.if-k-room.false, c.saturating_sub-room.ensures, length_kept loop.invariant)))
          at next)
    ]
