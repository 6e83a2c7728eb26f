-- What keeps the definitions honest, each statement proved in proofs/ under the name that stands beside it.
use Rattle.std.specs.Prelude.{◌≡◌, map, length}
use Rattle.rules.specs.declared.Plan.{Plan}
use Rattle.rules.specs.Verdict.{Accepted}
use Rattle.rules.specs.Table.{plan_verdict}
use Rattle.rules.specs.Worked.{P}
use Rattle.plantext_rules.specs.Text.{plan_text}
use Rattle.plantext_rules.specs.Reading.{text_answer}
use Rattle.plantext_rules.specs.Worked.{Case, verdict_on, plan_p, cases}

-- The text of an accepted plan is read back as that plan (`text_back`).
abbrev pub TextBack : Type 0
TextBack =
    (p : Plan) → length p.slots ≡ 8 → plan_verdict p ≡ Accepted
    → text_answer (plan_text p) ≡ record { verdict = Accepted; plan = p }

-- Plan P's text is what a crew would write, and each worked text is read as it says (`worked_texts`).
pub record WorkedTexts : Type 0 where
  pub written : plan_text P ≡ plan_p.text
  pub read : map verdict_on cases ≡ map (λ (c : Case). c.says) cases
