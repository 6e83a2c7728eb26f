use Rattle.std.proofs.Common.{sym}
use Rattle.text.proofs.Pens.{and_then, as_text}
use Rattle.rules.specs.Yard.{device}
use Rattle.listing_rules.proofs.Fields.{line_in_order}
use Rattle.line.proofs.line.Goals as goal

pub returns : goal.returns
unfolding device
returns c =
    let a = c.args in
    let rest = and_then c.places.ensures (and_then c.letter.ensures c.byte.ensures) in
    as_text _ (and_then c.number.ensures (and_then c.supervisor.ensures rest))
    (sym (line_in_order a.tick a.n a.y a.down a.lost))
