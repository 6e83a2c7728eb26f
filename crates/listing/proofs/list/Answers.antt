use Rattle.listing_rules.proofs.Rolls.{list_refused}
use Rattle.listing.proofs.list.Goals as goal

pub returns-in_default : goal.returns-in_default
returns-in_default c =
    let v = c.roll_verdict-verdict in
    let a = c.args in
    let both = list_refused a.p a.y a.roll.now a.first a.out.now v.result _ _ v.ensures c.in_default.is in
    record { value = both.0; out_after = both.1 }
