use Rattle.std.proofs.Common.{arith, rules}
use Rattle.listing_rules.proofs.Headers.{written}
use Rattle.listing.proofs.header.Goals as goal

pub returns : goal.returns
returns c =
    let a = c.args in
    let pen = c.new-pen.ensures in
    let both = written a.n a.out.now a.at (omega arith) (omega arith) (rw (pen.as_lent, pen.place) at c.header_line.ensures.laid) in
    record { value = both.0; out_after = search (rules, both.1) }
