use Rattle.std.proofs.Common.{rules, sym, [], ◌∷◌}
use Rattle.laws.proofs.Tests.{all_is}
use Rattle.rules.specs.Tick.Input.{valid_record}
use Rattle.rolls.proofs.Bounds.{flags_clear}
use Rattle.rolls.proofs.within.Goals as goal

pub returns : goal.returns
unfolding valid_record
returns c =
    let r = c.args.r in
    λ p willing lost.
    rw (c.from.ensures, c.from-2.ensures, willing r.willing (search rules), lost r.lost (search rules), flags_clear r.flags)
    (sym (all_is _ (_ ∷ _ ∷ _ ∷ [])))
