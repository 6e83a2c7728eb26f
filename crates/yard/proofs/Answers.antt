-- What an answer that is no refusal tells, and what the answers then are.
use Rattle.std.proofs.Common.{Option, Err, ℕ, ◌≤◌, ◌≡◌, sym, ◌∙◌, true, List, [], ◌∷◌, ◌++◌, ltb, length, drop, ltb-false}
use borrow.Author.Tests.{not-false}
use Rattle.rules.specs.declared.Plan.{Plan}
use Rattle.rules.specs.declared.Yard.{Yard}
use Rattle.rules.specs.declared.Record.{Record}
use Rattle.rules.specs.declared.Down.{Down}
use Rattle.rules.specs.Downs as down
use Rattle.rules.specs.Verdict.{Verdict}
use Rattle.rules.specs.Verdict.{Accepted}
use Rattle.rules.specs.declared.Refusal.{Refusal}
use Rattle.rules.specs.declared.RunAnswer.{RunAnswer}
use Rattle.rules.specs.Verdict.{refused_if, first_refusal}
use Rattle.rules.specs.Table.{plan_verdict}
use Rattle.rules.specs.Yard.{fresh_yard, state_verdict, well_formed}
use Rattle.rules.specs.Tick.{tick_verdict, tick_answer}
use Rattle.rules.specs.Run.{record_at, after, engaged_bytes, roll_verdict, run_verdict, ticks_to_do, run_answer, run_buffer}
use Rattle.rules.proofs.Answers.{first_accepted, accepted_if}
use Rattle.rules.specs.Promises.{Kept, shown}
use Rattle.rules.proofs.Promises.Bytes.{bytes_kept}
use Rattle.yard.specs.Sent.{last_down}

-- A state that is not refused is well formed.
formed : (p : Plan) (y : Yard) → state_verdict p y ≡ Accepted → well_formed p y ≡ true
unfolding state_verdict
formed p y e = not-false _ (accepted_if _ 11 0 e)

module _ (p : Plan) (y : Yard) (r : Record) (taken : tick_verdict p y r ≡ Accepted) where
  pub tick_taken : (plan_verdict p ≡ Accepted) × (well_formed p y ≡ true)
  unfolding tick_verdict first_refusal
  tick_taken =
      let h = first_accepted (plan_verdict p) _ taken in
      let s = first_accepted (state_verdict p y) _ h.1 in
      (h.0, formed p y s.0)

module _ (p : Plan) (y : Yard) (r : Record) (v : Verdict) (v_is : v ≡ tick_verdict p y r) where
  pub tick_refused :
      (why : Refusal) → v ≡ Err why → record { verdict = v; yard = y; down = down.none } ≡ tick_answer p y r
  unfolding tick_answer
  tick_refused why e =
      let q : tick_verdict p y r ≡ Err why = sym v_is ∙ e in
      rw (e, q)

  -- The single tick goes through the loop with a roll of its one record.
  pub tick_accepted :
      v ≡ Accepted → (end : Yard) (l : Option Down)
      → end ≡ after p y (r.command ∷ r.flags ∷ r.willing ∷ r.lost ∷ []) 1
      → l ≡ last_down p y (r.command ∷ r.flags ∷ r.willing ∷ r.lost ∷ []) 1
      → record { verdict = v; yard = end; down = l } ≡ tick_answer p y r
  unfolding tick_answer after last_down record_at
  tick_accepted e end l end_is l_is =
      let q : tick_verdict p y r ≡ Accepted = sym v_is ∙ e in
      rw (e, q, end_is, l_is)

-- The run. By ticks to do and room its refusals are those by budget and buffer.
module _ (p : Plan) (y : Yard) (roll : List ℕ) (budget : ℕ) (buffer : List ℕ) (ticks : ℕ) (ticks_is : ticks ≡ ticks_to_do roll budget) where
  abbrev refused : Verdict
  refused = first_refusal (roll_verdict p y roll ∷ refused_if (ltb (length buffer) ticks) 13 0 ∷ [])

  same_verdict : refused ≡ run_verdict p y roll budget buffer
  unfolding run_verdict
  same_verdict = rw ticks_is

  module _ (v : Verdict) (v_is : v ≡ refused) where
    pub run_refused :
        (why : Refusal) → v ≡ Err why
        → (record { verdict = v; yard = y; ticks = 0 } ≡ run_answer p y roll budget buffer)
        × (buffer ≡ run_buffer p y roll budget buffer)
    unfolding run_answer run_buffer after engaged_bytes
    run_refused why e =
        let q : run_verdict p y roll budget buffer ≡ Err why = sym same_verdict ∙ sym v_is ∙ e in
        (rw (e, q), rw q)

    pub run_taken : v ≡ Accepted → (plan_verdict p ≡ Accepted) × (well_formed p y ≡ true) × (ticks ≤ length buffer)
    unfolding first_refusal roll_verdict
    run_taken e =
        let r = first_accepted (roll_verdict p y roll) _ (sym v_is ∙ e) in
        let h = first_accepted (plan_verdict p) _ r.0 in
        let s = first_accepted (state_verdict p y) _ h.1 in
        let b = first_accepted (refused_if (ltb (length buffer) ticks) 13 0) _ r.1 in
        (h.0, formed p y s.0, ltb-false _ _ (accepted_if _ 13 0 b.0))

    pub run_accepted :
        v ≡ Accepted → (end : Yard) (filled : List ℕ)
        → end ≡ after p y roll ticks
        → filled ≡ engaged_bytes p y roll ticks ++ drop ticks buffer
        → (record { verdict = v; yard = end; ticks = ticks } ≡ run_answer p y roll budget buffer)
        × (filled ≡ run_buffer p y roll budget buffer)
    unfolding run_answer run_buffer
    run_accepted e end filled end_is Filled_is =
        let q : run_verdict p y roll budget buffer ≡ Accepted = sym same_verdict ∙ sym v_is ∙ e in
        (rw (e, q, end_is, ticks_is), rw (q, ← ticks_is) Filled_is)

-- Promises 1 to 3 travel with the answer: they hold of the bytes that the run leaves, from a fresh yard.
pub run_keeps :
    (p : Plan) (y : Yard) (roll : List ℕ) (budget : ℕ) (buffer exit : List ℕ) (a : RunAnswer)
    → a ≡ run_answer p y roll budget buffer → exit ≡ run_buffer p y roll budget buffer
    → plan_verdict p ≡ Accepted → y ≡ fresh_yard → Kept p (shown exit) a.ticks
unfolding run_answer run_buffer
run_keeps p y roll budget buffer exit a a_is exit_is taken fresh =
    rw (a_is, exit_is, fresh) (bytes_kept p roll _ _ taken)
