-- A record is taken exactly when its command is one of three and all other bits are zero.
use Rattle.std.proofs.Common.{leb-true, le-leb}
use Rattle.laws.proofs.Tests.{all_hold, all_of_lem}
use Rattle.laws.proofs.Bits.{clear_exactly}
use Rattle.rules.specs.Tick.Input.{valid_record}
use Rattle.rules.specs.Theorems.{ValidExactly}

pub valid_exactly : ValidExactly
unfolding valid_record
valid_exactly p r = (
  λ e.
      let h = all_hold _ e in
      record {
        command = leb-true _ _ h.0;
        flags = (clear_exactly _ _).0 h.1.0;
        willing = (clear_exactly _ _).0 h.1.1.0;
        lost = (clear_exactly _ _).0 h.1.1.1.0;
      },
  λ v.
      all_of_lem _ (
        le-leb _ _ v.command,
        ((clear_exactly _ _).1 v.flags, ((clear_exactly _ _).1 v.willing, ((clear_exactly _ _).1 v.lost, tt))),
      ),
)
