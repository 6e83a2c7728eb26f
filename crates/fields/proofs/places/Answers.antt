use Rattle.listing_rules.proofs.Fields.{next_place}
use Rattle.fields.proofs.Rows.{no_field, one_more}
use Rattle.fields.proofs.places.Goals as goal

pub loop-k-init : goal.loop-k-init
loop-k-init c = no_field _ _

pub loop-k-preserved : goal.loop-k-preserved
loop-k-preserved c =
    let is = rw c.place_at.ensures at c.place_byte.ensures in
    let place = next_place c.args.devices c.loop-k.k c.place_byte.result is in
    one_more _ c.loop-k.k c.loop-k.invariant (rw place at c.short.ensures)
