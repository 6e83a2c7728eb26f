-- What one call leaves, the next one reads.
use Rattle.std.proofs.Common.{ℕ, zero, suc, ◌≡◌, refl, sym, true, ◌&&◌, List, ◌++◌, length, take, drop, Err}
use lib.Seq.{take-append_seam}
use Rattle.laws.proofs.Tests.{case}
use Rattle.laws.proofs.Lists.{tabulate_length}
use Rattle.numbers.specs.Bytes.{AllBytes}
use Rattle.rules.specs.declared.Plan.{Plan}
use Rattle.rules.specs.declared.Yard.{Yard}
use Rattle.rules.specs.declared.Record.{Record}
use Rattle.rules.specs.Downs as down
use Rattle.rules.specs.declared.FreshAnswer.{FreshAnswer}
use Rattle.rules.specs.declared.TickAnswer.{TickAnswer}
use Rattle.rules.specs.declared.RunAnswer.{RunAnswer}
use Rattle.rules.specs.Verdict.{Verdict}
use Rattle.rules.specs.Verdict.{Accepted, Refused}
use Rattle.rules.specs.Verdict.{if_accepted}
use Rattle.rules.specs.Table.{plan_verdict}
use Rattle.rules.specs.Yard.{fresh_yard, fresh_answer}
use Rattle.rules.specs.Tick.{tick, tick_verdict, tick_answer}
use Rattle.rules.specs.Tick.Step1.{each_device}
use Rattle.rules.specs.Tick.Step4.{step4}
use Rattle.rules.specs.Run.{after, run_answer}
use Rattle.rules.proofs.Answers.{by_verdict}
use Rattle.planfile_rules.specs.declared.ReadAnswer.{ReadAnswer}
use Rattle.planfile_rules.specs.File.{plan_in, slots_in, empty_plan, whole_plan, file_verdict, answer_of, read_answer}
use Rattle.planfile_rules.specs.Writing.{file_bytes, write_answer, write_buffer, WithoutNotes, plan_bytes}
use Rattle.planfile_rules.proofs.Bodies.{plan_back}
use Rattle.planfile_rules.proofs.GivenBack.{read_then_write}
use Rattle.listing_rules.specs.declared.Listed.{Listed}
use Rattle.listing_rules.specs.Listing.{ticks_listed, list_answer}
use Rattle.layout_rules.specs.Bytes.{yard_bytes}
use Rattle.layout_rules.specs.Reading.{is_yard, yard_in, no_yard, yard_of}
use Rattle.layout_rules.proofs.Yards.{yard_back}
use Rattle.exports_rules.specs.Asked.{size_verdict, fits_plan, fits_yard, sizes, fresh_for, tick_for, run_for, read_for, write_for, file_for, list_for}
use Rattle.exports_rules.specs.Calls.{Freshened, Ticked, Ran, Taken, Wrote, Lined}
use Rattle.exports_rules.specs.Theorems.{Chained}
use Rattle.exports_rules.proofs.Zero.{sized_for, plan_taken, file_taken, write_taken}

-- Every yard that is read or reached has eight devices.
pub eight_read : (bytes : List ℕ) → length (yard_of bytes).devices ≡ 8
unfolding yard_of yard_in no_yard
eight_read bytes =
    case (is_yard bytes) (λ e. rw e (tabulate_length _ 8)) (λ e. rw e)

eight_ticked : (p : Plan) (y : Yard) (x : Record) → length (tick p y x).devices ≡ 8
unfolding tick step4 each_device
eight_ticked p y x = tabulate_length _ 8

eight_after : (p : Plan) (y : Yard) (roll : List ℕ) (k : ℕ) → length y.devices ≡ 8 → length (after p y roll k).devices ≡ 8
unfolding after
eight_after p y roll zero e = e
eight_after p y roll (suc k) e = eight_ticked p _ _

-- The yard that stands in a buffer after a call: the answer's, or the one that was lent, where that is the answer's too.
chain :
    (v : Verdict) (y : Yard) (yard left : List ℕ) → length y.devices ≡ 8
    → ((k i : ℕ) → v ≡ Refused k i → y ≡ yard_of yard) → left ≡ if_accepted v (yard_bytes y) yard → yard_of left ≡ y
chain Accepted y yard left eight kept e = rw e (yard_back y eight)
chain (Err r) y yard left eight kept e = rw e (sym (kept r.number r.index refl))

eight_slots : (file : List ℕ) → length (read_answer file).plan.slots ≡ 8
unfolding read_answer answer_of plan_in slots_in empty_plan
eight_slots file =
    by_verdict (file_verdict file) (λ e. rw e (tabulate_length _ 8)) (λ k i e. rw e (tabulate_length _ 8))

module _ (p : Plan) (y : Yard) (eight : length y.devices ≡ 8) where
  eight_tick : (x : Record) → length (tick_answer p y x).yard.devices ≡ 8
  unfolding tick_answer
  eight_tick x = by_verdict (tick_verdict p y x) (λ e. rw e (eight_ticked p y x)) (λ k i e. rw e eight)

  eight_run : (roll : List ℕ) (budget : ℕ) (engaged : List ℕ) → length (run_answer p y roll budget engaged).yard.devices ≡ 8
  unfolding run_answer
  eight_run roll budget engaged = eight_after p y roll _ eight

  eight_list : (roll : List ℕ) (first room : ℕ) → length (list_answer p y roll first room).yard.devices ≡ 8
  unfolding list_answer
  eight_list roll first room = eight_after p y roll _ eight

-- A refusal answers the yard that it was given.
module _ (p : Plan) (y : Yard) where
  tick_kept : (x : Record) (k i : ℕ) → (tick_answer p y x).verdict ≡ Refused k i → (tick_answer p y x).yard ≡ y
  unfolding tick_answer
  tick_kept x k i e = rw e

  run_kept :
      (roll : List ℕ) (budget : ℕ) (engaged : List ℕ) (k i : ℕ) → (run_answer p y roll budget engaged).verdict ≡ Refused k i
      → (run_answer p y roll budget engaged).yard ≡ y
  unfolding run_answer after
  run_kept roll budget engaged k i e = rw e

  list_kept :
      (roll : List ℕ) (first room k i : ℕ) → (list_answer p y roll first room).verdict ≡ Refused k i
      → (list_answer p y roll first room).yard ≡ y
  unfolding list_answer ticks_listed after
  list_kept roll first room k i e = rw e

eight_fresh : length fresh_yard.devices ≡ 8
unfolding fresh_yard
eight_fresh = refl

module _ (plan yard : List ℕ) where
  fresh_chained : (left : List ℕ) (i : ℕ) → Freshened plan yard left 0 i → yard_of left ≡ fresh_yard
  unfolding fresh_for fresh_answer size_verdict
  fresh_chained left i a =
      let both = fits_plan (length plan) && fits_yard (length yard) in
      let fits : both ≡ true =
      sized_for (λ (r : FreshAnswer). r.verdict) both (fresh_answer (whole_plan plan))
      (record { verdict = size_verdict both; yard = fresh_yard }) refl a.answer.no in
      let taken : plan_verdict (whole_plan plan) ≡ Accepted = plan_taken (whole_plan plan) (rw fits at a.answer.no) in
      let same : left ≡ yard_bytes fresh_yard = rw (fits, taken) at a.bytes in
      rw same (yard_back fresh_yard eight_fresh)

  tick_chained :
      (x : Record) (left : List ℕ) (letter device i : ℕ) → Ticked plan yard x left 0 letter device i
      → yard_of left ≡ (tick_answer (whole_plan plan) (yard_of yard) x).yard
  unfolding tick_for size_verdict
  tick_chained x left letter device i a =
      let answer : TickAnswer = tick_answer (whole_plan plan) (yard_of yard) x in
      let fits : sizes plan yard ≡ true =
      sized_for (λ (r : TickAnswer). r.verdict) (sizes plan yard) answer
      (record { verdict = size_verdict (sizes plan yard); yard = yard_of yard; down = down.none }) refl a.answer.no in
      chain answer.verdict answer.yard yard left
      (eight_tick (whole_plan plan) (yard_of yard) (eight_read yard) x)
      (tick_kept (whole_plan plan) (yard_of yard) x)
      (rw fits at a.bytes)

  run_chained :
      (roll : List ℕ) (budget : ℕ) (engaged left shown : List ℕ) (ticks i : ℕ)
      → Ran plan yard roll budget engaged left shown 0 ticks i
      → yard_of left ≡ (run_answer (whole_plan plan) (yard_of yard) roll budget engaged).yard
  unfolding run_for size_verdict
  run_chained roll budget engaged left shown ticks i a =
      let answer : RunAnswer = run_answer (whole_plan plan) (yard_of yard) roll budget engaged in
      let fits : sizes plan yard ≡ true =
      sized_for (λ (r : RunAnswer). r.verdict) (sizes plan yard) answer
      (record { verdict = size_verdict (sizes plan yard); yard = yard_of yard; ticks = 0 }) refl a.answer.no in
      chain answer.verdict answer.yard yard left
      (eight_run (whole_plan plan) (yard_of yard) (eight_read yard) roll budget engaged)
      (run_kept (whole_plan plan) (yard_of yard) roll budget engaged)
      (rw fits at a.bytes)

  list_chained :
      (roll : List ℕ) (first : ℕ) (out left text : List ℕ) (ticks n i : ℕ)
      → Lined plan yard roll first out left text 0 ticks n i
      → yard_of left ≡ (list_answer (whole_plan plan) (yard_of yard) roll first (length out)).yard
  unfolding list_for size_verdict
  list_chained roll first out left text ticks n i a =
      let answer : Listed = list_answer (whole_plan plan) (yard_of yard) roll first (length out) in
      let fits : sizes plan yard ≡ true =
      sized_for (λ (r : Listed). r.verdict) (sizes plan yard) answer
      (record { verdict = size_verdict (sizes plan yard); yard = yard_of yard; ticks = 0; length = 0 }) refl a.answer.no in
      chain answer.verdict answer.yard yard left
      (eight_list (whole_plan plan) (yard_of yard) (eight_read yard) roll first (length out))
      (list_kept (whole_plan plan) (yard_of yard) roll first (length out))
      (rw fits at a.bytes)

module _ (file plan left : List ℕ) (i : ℕ) (a : Taken file plan left 0 i) where
  plan_fits : fits_plan (length plan) ≡ true
  unfolding read_for
  plan_fits =
      sized_for (λ (r : ReadAnswer). r.verdict) (fits_plan (length plan)) (read_answer file)
      (record { verdict = size_verdict (fits_plan (length plan)); plan = (read_answer file).plan }) refl a.answer.no

  read_taken : (read_answer file).verdict ≡ Accepted
  unfolding read_for size_verdict
  read_taken = file_taken file (rw plan_fits at a.answer.no)

read_chained : (file plan left : List ℕ) (i : ℕ) → Taken file plan left 0 i → whole_plan left ≡ (read_answer file).plan
unfolding read_for size_verdict
read_chained file plan left i a =
    let same : left ≡ plan_bytes (read_answer file).plan =
    rw (plan_fits file plan left i a, read_taken file plan left i a) at a.bytes in
    rw same (plan_back (read_answer file).plan (eight_slots file))

copied :
    (file plan left : List ℕ) (i : ℕ) → AllBytes file → WithoutNotes file → Taken file plan left 0 i
    → (out after : List ℕ) (n j : ℕ) → Wrote left out after 0 n j → take n after ≡ file
unfolding write_for file_for size_verdict write_answer write_buffer
copied file plan left i small bare a out after n j w =
    let same : whole_plan left ≡ (read_answer file).plan = read_chained file plan left i a in
    let fits = write_taken left (length out) w.answer.no in
    let q : Plan = whole_plan left in
    let long : n ≡ length (file_bytes q) = rw (fits.0, fits.1) at w.long in
    let text : after ≡ file_bytes q ++ drop (length (file_bytes q)) out = rw (fits.0, fits.1) at w.buffer in
    rw (text, long, take-append_seam (file_bytes q) (drop (length (file_bytes q)) out), same)
    (read_then_write file small bare (read_taken file plan left i a))

pub chained : Chained
chained = record {
  fresh = fresh_chained;
  tick = tick_chained;
  run = run_chained;
  read = read_chained;
  write = λ plan file after n i w. w.back refl;
  copy = copied;
  list = list_chained;
}
