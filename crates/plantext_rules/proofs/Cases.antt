-- The worked texts, computed.
use Rattle.std.proofs.Common.{◌≡◌, refl, map}
use Rattle.laws.specs.Tests.{all_of, any_of, lowest}
use Rattle.laws.specs.Lists.{tabulate, joined}
use Rattle.rules.specs.Verdict.{first_refusal}
use Rattle.rules.specs.Plan.{slot, is_time, is_device, is_pair, is_above}
use Rattle.rules.specs.Table.{fails, line1, line2, line3, line4, line5, line6, line7, line8, line9, table, broken, line_verdict, plan_verdict}
use Rattle.rules.specs.Worked.{times, two, P}
use Rattle.planfile_rules.specs.File.{empty_plan}
use Rattle.text_rules.specs.Decimal.{digits, decimal}
use Rattle.plantext_rules.specs.Text.{yard_text, device_text, plan_text}
use Rattle.plantext_rules.specs.Reading.{letter_of, complete, line_ends, field_ends, field_starts, line_starts, with_time, with_number, with_yard_number, with_device_number, reads, read_on, text_ends, lines_verdict, text_answer}
use Rattle.plantext_rules.specs.Worked.{Case, verdict_on, plan_p, cases}
use Rattle.plantext_rules.specs.Theorems.{WorkedTexts}

written_p : plan_text P ≡ plan_p.text
unfolding joined slot times two P digits decimal yard_text device_text plan_text
written_p = refl

read_as_told : map verdict_on cases ≡ map (λ (c : Case). c.says) cases
unfolding all_of any_of lowest tabulate first_refusal slot is_time is_device is_pair is_above fails line1 line2 line3 line4 line5 line6 line7 line8
    line9 table broken line_verdict plan_verdict empty_plan letter_of complete line_ends field_ends field_starts line_starts
    with_time with_number with_yard_number with_device_number reads read_on text_ends lines_verdict text_answer
read_as_told = refl

pub worked_texts : WorkedTexts
worked_texts = record { written = written_p; read = read_as_told }
