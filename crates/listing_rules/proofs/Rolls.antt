-- A roll that is not refused: none of its ticks is, and each gives its line.
use Rattle.std.proofs.Common.{ℕ, suc, ◌+◌, ◌≤◌, ◌<◌, arith, add-one, ◌≡◌, sym, ◌∙◌, Bool, true, not, List, length, ltb-false}
use borrow.Author.Tests.{not-false}
use Rattle.laws.proofs.Tests.{lowest_none}
use Rattle.rules.specs.declared.Plan.{Plan}
use Rattle.rules.specs.declared.Yard.{Yard}
use Rattle.rules.specs.declared.Record.{Record}
use Rattle.rules.specs.Verdict.{Verdict}
use Rattle.rules.specs.Verdict.{Accepted, Refused}
use Rattle.rules.specs.declared.TickAnswer.{TickAnswer}
use Rattle.rules.specs.Verdict.{first_refusal}
use Rattle.rules.specs.Table.{plan_verdict}
use Rattle.rules.specs.Yard.{state_verdict, well_formed}
use Rattle.rules.specs.Tick.{sent, tick, tick_verdict, tick_answer}
use Rattle.rules.specs.Tick.Input.{valid_record, record_verdict, down_lost}
use Rattle.rules.specs.Run.{records, record_at, after, length_verdict, first_bad, records_verdict, roll_verdict}
use Rattle.rules.proofs.Plans.Accepted.{accepted_exactly}
use Rattle.rules.proofs.Answers.{first_accepted, accepted_if}
use Rattle.rules.proofs.Runs.Formed.{after_keeps_form}
use Rattle.listing_rules.specs.Text.{line_text}
use Rattle.listing_rules.specs.Theorems.{TickFits}
use Rattle.listing_rules.specs.Listing.{tick_line, lines_text, ticks_listed, list_answer, list_buffer}
use Rattle.listing_rules.proofs.Letters.{sent_own, base_own}
use Rattle.listing_rules.proofs.Theorems.{line_fits}

pub record Taken (p : Plan) (y : Yard) (roll : List ℕ) : Type 0 where
  pub plan : plan_verdict p ≡ Accepted
  pub formed : well_formed p y ≡ true
  pub valid : (k : ℕ) → k < records roll → valid_record p (record_at roll k) ≡ true

pub taken : (p : Plan) (y : Yard) (roll : List ℕ) → roll_verdict p y roll ≡ Accepted → Taken p y roll
unfolding roll_verdict first_refusal state_verdict records_verdict
taken p y roll e =
    let h = first_accepted (plan_verdict p) _ e in
    let s = first_accepted (state_verdict p y) _ h.1 in
    let l = first_accepted (length_verdict roll) _ s.1 in
    let r = first_accepted (records_verdict p roll) _ l.1 in
    let all : records roll ≤ first_bad p roll = ltb-false _ _ (accepted_if _ 10 _ r.0) in
    record {
      plan = h.0;
      formed = not-false _ (accepted_if _ 11 0 s.0);
      valid = λ k in_roll. not-false _ (lowest_none (λ k. not (valid_record p (record_at roll k))) (records roll) k (omega arith));
    }

ticked :
    (p : Plan) (y : Yard) (r : Record) → plan_verdict p ≡ Accepted → well_formed p y ≡ true → valid_record p r ≡ true
    → ((tick_answer p y r).yard ≡ tick p y r) × ((tick_answer p y r).down ≡ (sent p y r).down)
unfolding tick_answer tick_verdict first_refusal state_verdict record_verdict
ticked p y r a w v = (rw (a, w, v), rw (a, w, v))

pub tick_fits : TickFits
unfolding tick_line after
tick_fits p y roll first accepted k small =
    let t = taken p y roll accepted in
    let few = ((accepted_exactly p).0 t.plan).devices.1 in
    let now = after p y roll k in
    let sup = base_own p (after p y roll (suc k)) (after_keeps_form p y roll t.plan t.formed (suc k)) in
    let letter = sent_own p now (record_at roll k) in
    line_fits (first + k + 1) p.N (after p y roll (suc k)) (sent p now (record_at roll k)).down (down_lost (record_at roll k))
    small few (omega arith) (omega arith)

module _ (p : Plan) (y : Yard) (roll : List ℕ) (first : ℕ) (accepted : roll_verdict p y roll ≡ Accepted) where
  -- The tick after k, as the code does it.
  module _ (k : ℕ) (in_roll : k < records roll) (now : Yard) (r : Record) (a : TickAnswer)
      (now_is : now ≡ after p y roll k) (r_is : r ≡ record_at roll k) (a_is : a ≡ tick_answer p now r) where
    goes : ((tick_answer p now r).yard ≡ tick p now r) × ((tick_answer p now r).down ≡ (sent p now r).down)
    goes =
        let t = taken p y roll accepted in
        ticked p now r t.plan (rw now_is (after_keeps_form p y roll t.plan t.formed k)) (rw r_is (t.valid k in_roll))

    pub next_yard : a.yard ≡ after p y roll (k + 1)
    unfolding after
    next_yard = rw a_is (goes.0 ∙ rw (now_is, r_is, add-one k))

    next_down : a.down ≡ (sent p (after p y roll k) (record_at roll k)).down
    next_down = rw a_is (goes.1 ∙ rw (now_is, r_is))

    pub next_line_lem :
        (f : ℕ) (lost : Bool) → f ≡ first → lost ≡ down_lost r
        → line_text (f + k + 1) p.N a.yard a.down lost ≡ tick_line p y roll first k
    unfolding tick_line
    next_line_lem f lost f_is lost_is = rw (f_is, lost_is, next_yard, next_down, r_is, add-one k)

-- A roll that is refused: no tick is done and no byte is written.
pub list_refused :
    (p : Plan) (y : Yard) (roll : List ℕ) (first : ℕ) (buffer : List ℕ) (v : Verdict) (k i : ℕ) → v ≡ roll_verdict p y roll
    → v ≡ Refused k i
    → (record { verdict = v; yard = y; ticks = 0; length = 0 } ≡ list_answer p y roll first (length buffer))
    × (buffer ≡ list_buffer p y roll first buffer)
unfolding list_answer list_buffer ticks_listed after lines_text
list_refused p y roll first buffer v k i v_is e =
    let q : roll_verdict p y roll ≡ Refused k i = sym v_is ∙ e in
    (rw (e, q), rw q)
