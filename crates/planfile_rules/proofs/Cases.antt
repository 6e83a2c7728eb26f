-- The worked files, computed.
use Rattle.std.proofs.Common.{refl}
use Rattle.laws.specs.Tests.{all_of, any_of, lowest}
use Rattle.laws.specs.Lists.{tabulate, joined}
use Rattle.rules.specs.Verdict.{first_refusal}
use Rattle.rules.specs.Plan.{slot, is_time, is_device, is_pair, is_above}
use Rattle.rules.specs.Table.{fails, line1, line2, line3, line4, line5, line6, line7, line8, line9, table, broken, line_verdict, plan_verdict}
use Rattle.rules.specs.Worked.{times, two, P, laser}
use Rattle.numbers.specs.Bytes.{num16, num32, two_bytes, four_bytes}
use Rattle.planfile_rules.specs.File.{trailer_in, devices_for, is_body_size, slot_in, slots_in, plan_in, trailer_verdict, body_verdict, answer_of, read_answer}
use Rattle.planfile_rules.specs.Writing.{slot_bytes, body_bytes, trailer_bytes, trailer_for, file_bytes}
use Rattle.planfile_rules.specs.Worked.{body_p, bare, noted, laser_file}
use Rattle.planfile_rules.specs.Theorems.{WorkedFiles}

pub worked_files : WorkedFiles
unfolding all_of any_of lowest tabulate joined first_refusal slot is_time is_device is_pair is_above fails line1 line2 line3 line4 line5 line6 line7 line8 line9 table broken line_verdict plan_verdict times two P laser num16 num32 two_bytes four_bytes trailer_in devices_for is_body_size slot_in slots_in plan_in trailer_verdict body_verdict answer_of read_answer slot_bytes body_bytes trailer_bytes trailer_for file_bytes body_p bare noted laser_file
worked_files = record { read = (refl, refl, refl); written = (refl, refl) }
