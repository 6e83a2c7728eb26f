-- The listings of document 01, computed.
use Rattle.std.proofs.Common.{refl}
use Rattle.laws.specs.Tests.{all_of, any_of, each, lowest}
use Rattle.laws.specs.Lists.{tabulate}
use Rattle.laws.specs.Bits.{bit}
use Rattle.text_rules.specs.Decimal.{digits, decimal}
use Rattle.rules.specs.Verdict.{first_refusal}
use Rattle.rules.specs.Plan.{slot, is_time, is_device, is_pair, is_above}
use Rattle.rules.specs.Yard.{fresh_yard, device}
use Rattle.rules.specs.Tick.{sent, tick}
use Rattle.rules.specs.Tick.Step1.{each_device, step1}
use Rattle.rules.specs.Tick.Step2.{heed, moved, step2}
use Rattle.rules.specs.Tick.Step3.{in_fall_back, in_lease, in_lease_n, leasing, cancelling, aborting, base_move, step3}
use Rattle.rules.specs.Tick.Step4.{arrived, step4}
use Rattle.rules.specs.Run.{record_at, after}
use Rattle.rules.specs.Worked.{times, two, P, quiet, nothing_lost, exit_lost, lease_req_lost}
use Rattle.listing_rules.specs.Text.{spaced, line_text, header_text}
use Rattle.listing_rules.specs.Listing.{tick_line, lines_text}
use Rattle.listing_rules.specs.Printed.{first_printed, second_printed, third_printed, listed, printed}
use Rattle.listing_rules.specs.Theorems.{AsPrinted}

pub as_printed : AsPrinted
unfolding all_of any_of each lowest tabulate bit first_refusal slot is_time is_device is_pair is_above fresh_yard device sent
    tick each_device step1 heed moved step2 in_fall_back in_lease in_lease_n leasing
    cancelling aborting base_move step3 arrived step4 record_at after times two P quiet nothing_lost exit_lost lease_req_lost
    digits decimal spaced line_text header_text tick_line lines_text first_printed second_printed
    third_printed listed printed
as_printed = refl
