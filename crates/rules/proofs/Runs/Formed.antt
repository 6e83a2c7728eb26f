-- A run keeps a well-formed state well formed, and gives a byte a tick.
use Rattle.std.proofs.Common.{ℕ, zero, suc, arith, ◌≡◌, refl, ◌∙◌, true, List, length, length-append}
use Rattle.rules.specs.declared.Plan.{Plan}
use Rattle.rules.specs.declared.Yard.{Yard}
use Rattle.rules.specs.Verdict.{Accepted}
use Rattle.rules.specs.Table.{plan_verdict}
use Rattle.rules.specs.Yard.{well_formed}
use Rattle.rules.specs.Run.{record_at, after, engaged_bytes}
use Rattle.rules.proofs.Ticks.Keeps.{tick_keeps_form}

module _ (p : Plan) (y : Yard) (roll : List ℕ) where
  pub after_keeps_form :
      plan_verdict p ≡ Accepted → well_formed p y ≡ true → (k : ℕ) → well_formed p (after p y roll k) ≡ true
  unfolding after
  after_keeps_form a w zero = w
  after_keeps_form a w (suc k) =
      tick_keeps_form p (after p y roll k) (record_at roll k) a (after_keeps_form a w k)

  pub bytes_length : (k : ℕ) → length (engaged_bytes p y roll k) ≡ k
  unfolding engaged_bytes
  bytes_length zero = refl
  bytes_length (suc k) = length-append (engaged_bytes p y roll k) _ ∙ rw (bytes_length k) (omega arith)
