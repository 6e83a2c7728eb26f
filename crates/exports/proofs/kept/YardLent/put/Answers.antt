use Rattle.exports_rules.proofs.Sizes.{yard_fills}
use Rattle.exports.proofs.kept.YardLent.put.Goals as goal

pub returns : goal.returns
returns c =
    let put = c.put.ensures in
    yard_fills c.args.self c.args.out.now _ _ c.requires put.value put.out_after
