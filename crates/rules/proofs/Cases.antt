-- The starred cases, computed.
use Rattle.std.proofs.Common.{refl}
use Rattle.laws.specs.Tests.{all_of, any_of, each, lowest}
use Rattle.laws.specs.Lists.{tabulate}
use Rattle.laws.specs.Bits.{bit}
use Rattle.rules.specs.Verdict.{first_refusal}
use Rattle.rules.specs.Plan.{slot, is_time, is_device, is_pair, is_above}
use Rattle.rules.specs.Table.{fails, line1, line2, line3, line4, line5, line6, line7, line8, line9, table, broken, line_verdict, plan_verdict}
use Rattle.rules.specs.Yard.{fresh_yard, device}
use Rattle.rules.specs.Tick.{sent, tick}
use Rattle.rules.specs.Tick.Step1.{each_device, step1}
use Rattle.rules.specs.Tick.Step2.{heed, moved, step2}
use Rattle.rules.specs.Tick.Step3.{in_fall_back, in_lease, in_lease_n, leasing, cancelling, aborting, base_move, step3}
use Rattle.rules.specs.Tick.Step4.{arrived, step4}
use Rattle.rules.specs.Run.{record_at, after}
use Rattle.rules.specs.Worked.{times, two, P, laser, quiet, nothing_lost, exit_lost, lease_req_lost, yard_at, printed, answer, plans, first_listing, second_listing, third_listing, starred}
use Rattle.rules.specs.Theorems.{WorkedYards}

pub worked_yards : WorkedYards
unfolding all_of any_of each lowest tabulate bit first_refusal slot is_time is_device is_pair is_above fails line1 line2 line3 line4 line5 line6 line7 line8 line9 table broken line_verdict plan_verdict fresh_yard device sent tick each_device step1 heed moved step2 in_fall_back in_lease in_lease_n leasing cancelling aborting base_move step3 arrived step4 record_at after times two P laser quiet nothing_lost exit_lost lease_req_lost yard_at printed answer plans first_listing second_listing third_listing starred
worked_yards = refl
