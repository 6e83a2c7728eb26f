use Rattle.finder_rules.proofs.Within.{found_within}
use Rattle.finder.proofs.find.Goals as goal

pub part-requires : goal.part-requires
part-requires c = found_within _ _ c.locate.ensures c.in-InFile.is

pub part-requires-in-InRoll : goal.part-requires-in-InRoll
part-requires-in-InRoll c = found_within _ _ c.locate.ensures c.in-InRoll.is
