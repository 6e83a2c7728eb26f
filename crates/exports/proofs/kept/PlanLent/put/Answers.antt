use Rattle.exports_rules.proofs.Sizes.{plan_fills}
use Rattle.exports.proofs.kept.PlanLent.put.Goals as goal

pub returns : goal.returns
returns c =
    let put = c.put_whole_plan.ensures in
    plan_fills c.args.self c.args.out.now _ _ c.requires put.value put.out_after
