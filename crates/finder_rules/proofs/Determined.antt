-- Two parts that are the same piece have the same bytes at the same place.
use Rattle.std.proofs.Common.{ℕ, ◌≡◌, List, Bor}
use Rattle.laws.proofs.Tests.{determined}
use Rattle.finder_rules.specs.declared.Piece.TheVariants.{InFile, InRoll}
use Rattle.finder_rules.specs.Piece.{PartOf}
use Rattle.finder_rules.specs.Theorems.{FindDetermined}

same_part :
    (r s whole : Bor (List ℕ)) (start n : ℕ) → PartOf r whole start n → PartOf s whole start n
    → (r.now ≡ s.now) × (r.ref_ptr.0 ≡ s.ref_ptr.0) × (r.ref_ptr.1 ≡ s.ref_ptr.1)
same_part r s whole start n a b =
    (determined a.bytes b.bytes, determined a.block b.block, determined a.place b.place)

pub find_determined : FindDetermined
find_determined r s file roll (InFile start n) a b = same_part r s file start n a b
find_determined r s file roll (InRoll start n) a b = same_part r s roll start n a b
