use Rattle.std.proofs.Common.{◌≡◌, ◌-◌}
use Rattle.listing_rules.proofs.Standing.{Standing}
use Rattle.listing.proofs.lines.lines.Given as goal

abbrev pub invariant-loop-k : goal.invariant-loop-k
invariant-loop-k l = record {
  same_buffer : l.pen.out.ghost_name ≡ l.initial.pen.out.ghost_name;
  standing : Standing l.p l.initial.yard l.roll l.first l.initial.pen.out.now l.yard l.k l.pen.out.now l.pen.at;
}

abbrev pub decreases-loop-k : goal.decreases-loop-k
decreases-loop-k l = l.count - l.k
