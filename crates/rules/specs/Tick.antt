-- Document 01, "One tick": the record, the four steps, the tick composed of them, and the single tick's answer.
pub mod Input
pub mod Step1
pub mod Step2
pub mod Step3
pub mod Step4
use Rattle.std.specs.Prelude.{[], ◌∷◌}
use Rattle.rules.specs.declared.Plan.{Plan}
use Rattle.rules.specs.declared.Yard.{Yard}
use Rattle.rules.specs.declared.Record.{Record}
use Rattle.rules.specs.Verdict.{Verdict}
use Rattle.rules.specs.Downs as down
use Rattle.rules.specs.declared.TickAnswer.{TickAnswer}
use Rattle.rules.specs.Verdict.{first_refusal, if_accepted}
use Rattle.rules.specs.Table.{plan_verdict}
use Rattle.rules.specs.Yard.{state_verdict}

-- Steps 1 to 3: the yard with the down letter that it has just sent.
unfoldable pub sent : Plan → Yard → Record → Step3.Sent
sent p y r = Step3.step3 p r (Step2.step2 p r (Step1.step1 p y))

-- The yard at the tick's end.
unfoldable pub tick : Plan → Yard → Record → Yard
tick p y r = Step4.step4 p r (sent p y r)

-- A single tick is refused for its plan (1 to 9), then its state (11), then its record (10, index 1).
unfoldable pub tick_verdict : Plan → Yard → Record → Verdict
tick_verdict p y r = first_refusal (plan_verdict p ∷ state_verdict p y ∷ Input.record_verdict p r 1 ∷ [])

-- Refused, it answers number, index and the state it was given, and no down letter; otherwise the moved state and the
-- down letter it sent, lost or not.
unfoldable pub tick_answer : Plan → Yard → Record → TickAnswer
tick_answer p y r =
    let v = tick_verdict p y r in
    record { verdict = v; yard = if_accepted v (tick p y r) y; down = if_accepted v (sent p y r).down down.none }
