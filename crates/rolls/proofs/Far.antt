-- Beyond the last record, and beyond the bytes left over, all is zero.
use Rattle.std.proofs.Common.{ℕ, ◌+◌, ◌≤◌, ◌<◌, ◌≡◌, List, length, get_or, arith}
use lib.ListN.{get_or-eq_default}
use Rattle.rules.specs.Run.{records, record_start, record_at}

pub far_record :
    (roll : List ℕ) (k : ℕ) → records roll < k
    → record_at roll k ≡ record { command = 0; flags = 0; willing = 0; lost = 0 }
unfolding record_at
far_record roll k far =
    let at : ℕ = record_start k in
    let none : (i : ℕ) → length roll ≤ i → get_or roll i 0 ≡ 0 = λ i high. get_or-eq_default roll 0 high in
    rw (none at (omega arith), none (at + 1) (omega arith), none (at + 2) (omega arith), none (at + 3) (omega arith))
