use Rattle.std.proofs.Common.{◌≡◌, ◌∙◌, ap, arith}
use Rattle.std.specs.Prelude.{Err}
use Rattle.rules.specs.declared.Plan.{Plan}
use Rattle.rules.proofs.Answers.{not_both}
use Rattle.planfile_rules.specs.declared.ReadAnswer.{ReadAnswer}
use Rattle.planfile_rules.specs.File.{answer_of, read_answer}
use Rattle.planfile_rules.proofs.GivenBack.{given_back_of}
use Rattle.planfile.proofs.Places.{place_within, place_near, place_short, place_fits, place_taken, place_refused}
use Rattle.planfile.proofs.read.Goals as goal

pub overflow_add-start : goal.overflow_add-start
overflow_add-start c = omega (arith, place_near c.args.file.now c.body_place.ensures c.in-Ok.is)

pub slice_bounds-read_body-end : goal.slice_bounds-read_body-end
slice_bounds-read_body-end c = omega (arith, place_within c.args.file.now c.body_place.ensures c.in-Ok.is)

pub overflow_cast-len : goal.overflow_cast-len
overflow_cast-len c = omega (arith, place_short c.args.file.now c.body_place.ensures c.in-Ok.is)

pub read_body-requires : goal.read_body-requires
read_body-requires c = place_fits c.args.file.now c.body_place.ensures c.in-Ok.is c.devices_for.ensures

pub returns-in-Ok : goal.returns-in-Ok
returns-in-Ok c =
    let file = c.args.file.now in
    let same : c.read_body.result ≡ read_answer file =
    c.read_body.ensures ∙ place_taken file c.body_place.ensures c.in-Ok.is c.devices_for.ensures in
    record { value = same; written_back = given_back_of file _ same c.type_inv.file }

pub returns-in-Err : goal.returns-in-Err
unfolding answer_of
returns-in-Err c =
    let file = c.args.file.now in
    let same : c.answer.result ≡ read_answer file =
    c.answer.ensures ∙ ap (λ (p : Plan). answer_of (Err c.in-Err.refused) p) c.empty_plan.ensures ∙ place_refused file c.body_place.ensures c.in-Err.is in
    record {
      value = same;
      written_back = λ taken. not_both taken (ap (λ (a : ReadAnswer). a.verdict) c.answer.ensures);
    }
