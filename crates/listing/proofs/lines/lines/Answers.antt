use Rattle.std.proofs.Common.{refl, ◌∙◌, arith, rules}
use Rattle.listing_rules.proofs.Standing.{goes_on, start, next, done}
use Rattle.listing.proofs.lines.lines.Goals as goal

pub loop-k-init : goal.loop-k-init
loop-k-init c =
    let pen = c.new-pen.ensures in
    record { same_buffer = refl; standing = rw (pen.as_lent, pen.place) (start _ _ _ _ _) }

pub loop-k-preserved : goal.loop-k-preserved
loop-k-preserved c =
    let test = c.loop-k-test.true in
    let go = goes_on c.loop-k.k _ _ c.loop-k.pen.at test in
    record {
      same_buffer = c.line.ensures.same_buffer ∙ c.loop-k.invariant.same_buffer;
      standing =
          rw c.new-pen.ensures.as_lent
          (next c.args.p c.args.y c.args.roll.now c.args.first c.args.out.now c.requires c.records-count.result
          c.records-count.ensures (rw c.new-pen.ensures.as_lent at c.loop-k.invariant.standing) test c.record_at-r.result c.tick-a.result c.args.first
          c.down_lost.result c.record_at-r.ensures c.tick-a.ensures refl c.down_lost.ensures
          (omega (arith, go.0)) c.line.ensures.laid);
    }

pub returns : goal.returns
returns c =
    let pen = c.new-pen.ensures in
    let name = c.loop-k.invariant.same_buffer ∙ pen.same_buffer in
    let both =
    done c.args.p c.args.y c.args.roll.now c.args.first c.args.out.now c.requires c.records-count.result
    c.records-count.ensures (rw pen.as_lent at c.loop-k.invariant.standing) c.loop-k-test.false in
    record { value = both.0; out_after = search (rules, name, both.1) }
