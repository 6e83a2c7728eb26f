use Rattle.std.proofs.Common.{◌∷◌}
use Rattle.laws.specs.Lists.{tabulate}
use Rattle.text_rules.specs.Decimal.{decimal}
use Rattle.text.specs.Lays.{Lays}
use Rattle.listing_rules.specs.Text.{spaced}
use Rattle.line.proofs.titles.Given as goal

abbrev pub invariant-loop-k : goal.invariant-loop-k
invariant-loop-k l = Lays l.initial.pen (spaced (tabulate (λ i. 100 ∷ decimal i) l.k)) l.pen
