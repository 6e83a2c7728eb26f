use Rattle.text.proofs.Pens.{and_then}
use Rattle.fields.proofs.marked.Goals as goal

pub returns-then-lost : goal.returns-then-lost
returns-then-lost c = rw c.if-lost.true (and_then c.with_index.ensures c.byte.ensures)
