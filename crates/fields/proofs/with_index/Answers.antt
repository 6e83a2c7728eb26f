use Rattle.text.proofs.Pens.{and_then}
use Rattle.fields.proofs.with_index.Goals as goal

pub returns : goal.returns
returns c = and_then c.short.ensures (rw c.from.ensures at c.number.ensures)
