-- What the base does on the way to the blade: it opens the lease, goes on to the next device, and holds at the last.
use Rattle.std.proofs.Common.{Option, ℕ, ◌≤◌, ◌<◌, ◌≡◌, Bool, true, eq-eqb, ne_eqb, lt-ltb, le-ltb}
use Rattle.rules.specs.declared.Base.{Base}
use Rattle.rules.specs.declared.Base.TheVariants as base
use Rattle.rules.specs.declared.Terms.{Terms}
use Rattle.rules.specs.declared.Letter.{Letter}
use Rattle.rules.specs.Letters as letter
use Rattle.rules.specs.Downs as down
use Rattle.rules.specs.Tick.Step3.{goes, stays, leases, in_fall_back, in_lease, in_lease_n, leasing, base_move}

module _ (t : Terms) (approved : Bool) (last own : Option Letter) (b : Base) (c l : ℕ) (granted : approved ≡ true) where
  pub opens :
      b ≡ base.FallBack → last ≡ letter.Request → c ≡ t.B
      → base_move t approved last own b c l ≡ goes (base.Lease 1) 0 (down.LeaseReq 1)
  unfolding base_move in_fall_back
  opens here asks rested = rw (here, asks, granted, eq-eqb c t.B rested)

  pub goes_on :
      (i : ℕ) → b ≡ base.Lease i → i < t.N → (l ≡ t.LS → ⊥) → last ≡ letter.none → own ≡ letter.Approve
      → base_move t approved last own b c l ≡ leases t i l
  unfolding base_move leasing in_lease
  goes_on i here few early silent approves =
      rw (here, ne_eqb l t.LS early, lt-ltb i t.N few, granted, silent, approves)

  pub holds :
      (i : ℕ) → b ≡ base.Lease i → t.N ≤ i → (l ≡ t.LS → ⊥) → last ≡ letter.none → own ≡ letter.none
      → base_move t approved last own b c l ≡ stays (base.Lease i) c l
  unfolding base_move leasing in_lease_n
  holds i here top early silent quiet = rw (here, ne_eqb l t.LS early, le-ltb i t.N top, granted, silent, quiet)
