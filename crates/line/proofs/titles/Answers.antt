use Rattle.std.proofs.Common.{◌∷◌}
use Rattle.text_rules.specs.Decimal.{decimal}
use Rattle.text.proofs.Pens.{and_then}
use Rattle.fields.proofs.Rows.{no_field, one_more}
use Rattle.line.proofs.titles.Goals as goal

pub loop-k-init : goal.loop-k-init
loop-k-init c = no_field _ _

pub loop-k-preserved : goal.loop-k-preserved
loop-k-preserved c =
    one_more (λ i. 100 ∷ decimal i) c.loop-k.k c.loop-k.invariant (and_then c.short.ensures c.number.ensures)
