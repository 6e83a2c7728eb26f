use Rattle.laws.proofs.Writes.{at_front}
use Rattle.planfile_rules.specs.Writing.{body_written, plan_written}
use Rattle.bodies.proofs.Rooms.{within}
use Rattle.bodies.proofs.put_whole_plan.Goals as goal

pub returns-clause-out_after : goal.returns-clause-out_after
unfolding plan_written body_written
returns-clause-out_after c = (at_front c.put_body.ensures.written (within _ 8 _).0).1
