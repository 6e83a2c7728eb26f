use Rattle.text.proofs.Pens.{next_byte}
use Rattle.text.proofs.Pen.word.Goals as goal

pub loop-b-preserved : goal.loop-b-preserved
loop-b-preserved c = next_byte c.args.text.now c.loop-b.b-index c.loop-b-test.true c.loop-b.invariant c.byte.ensures
