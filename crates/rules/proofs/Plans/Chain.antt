-- c6 along the chain gives c4.
use Rattle.std.proofs.Common.{ℕ, zero, suc, ◌+◌, ◌-◌, ◌*◌, ◌≤◌, ◌<◌, arith, suc-mul, zero-mul, add-one, ◌≡◌}
use Rattle.rules.specs.declared.Plan.{Plan}
use Rattle.rules.specs.Plan.{slot, stay, LS}
use Rattle.rules.specs.Theorems.{C6GivesC4}

module _ (p : Plan) (c6 : (i : ℕ) → 1 ≤ i → i < p.N → p.W + stay p (i + 1) < (slot p i).E + (slot p i).R) where
  -- From each device to the next the stay falls by more than W.
  chain : (k : ℕ) → k < p.N → k * p.W + stay p (suc k) ≤ LS p
  chain zero h = rw zero-mul (omega arith)
  chain (suc k) h =
      let before : k * p.W + stay p (suc k) ≤ LS p = chain k (omega arith) in
      let pair : p.W + stay p (suc (suc k)) < (slot p (suc k)).E + (slot p (suc k)).R =
      rw add-one at (c6 (suc k) (omega arith) h) in
      rw suc-mul (omega arith)

pub c6_gives_c4 : C6GivesC4
c6_gives_c4 p c6 zero low high = absurd (omega arith)
c6_gives_c4 p c6 (suc k) low high =
    let same : suc k - 1 ≡ k = omega arith in
    rw same (chain p c6 k high)
