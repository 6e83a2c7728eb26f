-- Fields f 1, f 2, .. that a pen lays one behind the other.
use Rattle.std.proofs.Common.{ℕ, ◌+◌, refl, ◌∙◌, List, ◌∷◌}
use Rattle.laws.specs.Lists.{tabulate}
use Rattle.text.specs.declared.Pen.{Pen}
use Rattle.text.specs.Lays.{Lays}
use Rattle.listing_rules.specs.Text.{spaced}
use Rattle.listing_rules.proofs.Fields as rows

module _ (f : ℕ → List ℕ) where
  pub no_field : (p : Pen) → Lays p (spaced (tabulate f 0)) p
  no_field p = record { same_buffer = refl; laid = rows.no_field f p.out.now p.at }

  pub one_more :
      (k : ℕ) {p q r : Pen} → Lays p (spaced (tabulate f k)) q → Lays q (32 ∷ f (k + 1)) r → Lays p (spaced (tabulate f (k + 1))) r
  one_more k v w = record { same_buffer = w.same_buffer ∙ v.same_buffer; laid = rows.one_more f k v.laid w.laid }
