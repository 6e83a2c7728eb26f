-- The devices that a line names: under an accepted plan there is none above N.
use Rattle.std.proofs.Common.{Option, ℕ, ◌+◌, ◌-◌, ◌≤◌, arith, Bool, true, not, ◌&&◌, ◌≡◌, ltb, eqb}
use Rattle.laws.proofs.Tests.{on_cond}
use Rattle.rules.specs.declared.Plan.{Plan}
use Rattle.rules.specs.declared.Yard.{Yard}
use Rattle.rules.specs.declared.Record.{Record}
use Rattle.rules.specs.declared.Base.{Base}
use Rattle.rules.specs.declared.Base.TheVariants as base
use Rattle.rules.specs.declared.Letter.{Letter}
use Rattle.rules.specs.Letters as letter
use Rattle.rules.specs.declared.Down.{Down}
use Rattle.rules.specs.declared.Terms.{Terms}
use Rattle.rules.specs.declared.BaseMove.{BaseMove}
use Rattle.rules.specs.Yard.{same_letter, well_formed}
use Rattle.rules.specs.Numbers.{base_index, down_index}
use Rattle.rules.specs.Tick.{sent, tick}
use Rattle.rules.specs.Tick.Step3.{cancels, aborts, below, leases, in_fall_back, in_lease, in_lease_n, leasing, cancelling, aborting, base_move}
use Rattle.rules.proofs.States.Formed.{Based, formed_is}
use Rattle.rules.proofs.Ticks.Views.{tick_base, tick_down}

-- A letter that is sent is for the device of the place that the supervisor goes to.
abbrev Own : BaseMove → Type 0
Own m = down_index m.down ≤ base_index m.base

below_own : (kind : ℕ → ℕ → BaseMove) → ((i l : ℕ) → Own (kind i l)) → (i l : ℕ) → Own (below kind i l)
below_own kind own i l = on_cond Own (eqb i 1) (λ e. omega arith) (λ e. own (i - 1) l)

cancels_own : (i l : ℕ) → Own (cancels i l)
cancels_own i l = omega arith

aborts_own : (i l : ℕ) → Own (aborts i l)
aborts_own i l = omega arith

module _ (t : Terms) (approved : Bool) (last own : Option Letter) where
  leases_own : (i l : ℕ) → Own (leases t i l)
  leases_own i l =
      on_cond (λ (d : Option Down). down_index d ≤ i + 1) (eqb (i + 1) t.N) (λ e. omega arith) (λ e. omega arith)

  lease_own : (i c l : ℕ) → Own (in_lease t approved last own i c l)
  unfolding in_lease
  lease_own i c l =
      on_cond Own (not approved) (λ e. aborts_own i l)
      (λ e. on_cond Own (same_letter last letter.Cancel) (λ e. cancels_own i l)
      (λ e. on_cond Own (same_letter own letter.Approve) (λ e. leases_own i l)
      (λ e. on_cond Own (same_letter own letter.Deny) (λ e. below_own cancels cancels_own i l)
      (λ e. on_cond Own (eqb c t.W) (λ e. cancels_own i l) (λ e. omega arith)))))

  last_own : (i c l : ℕ) → Own (in_lease_n approved last own i c l)
  unfolding in_lease_n
  last_own i c l =
      on_cond Own (same_letter own letter.Exit) (λ e. cancels_own (i - 1) l)
      (λ e. on_cond Own (not approved) (λ e. aborts_own i l)
      (λ e. on_cond Own (same_letter last letter.Cancel) (λ e. cancels_own i l) (λ e. omega arith)))

  move_own : (b : Base) (c l : ℕ) → Own (base_move t approved last own b c l)
  unfolding base_move in_fall_back leasing cancelling aborting
  move_own base.FallBack c l =
      on_cond Own (same_letter last letter.Request && eqb c t.B && approved) (λ e. omega arith) (λ e. omega arith)
  move_own (base.Lease i) c l =
      on_cond Own (eqb l t.LS) (λ e. omega arith)
      (λ e. on_cond Own (ltb i t.N) (λ e. lease_own i c l) (λ e. last_own i c l))
  move_own (base.Cancel i) c l =
      on_cond Own (eqb l t.LS) (λ e. omega arith)
      (λ e. on_cond Own (same_letter own letter.Exit) (λ e. below_own cancels cancels_own i l) (λ e. omega arith))
  move_own (base.Abort i) c l =
      on_cond Own (eqb l t.LS) (λ e. omega arith)
      (λ e. on_cond Own (same_letter own letter.Exit) (λ e. below_own aborts aborts_own i l) (λ e. omega arith))

pub sent_own : (p : Plan) (y : Yard) (r : Record) → down_index (sent p y r).down ≤ base_index (tick p y r).base
sent_own p y r = rw (tick_down p y r, tick_base p y r) (move_own _ _ _ _ y.base _ _)

based_own : (p : Plan) (b : Base) (c l : ℕ) → Based p b c l → base_index b ≤ p.N
based_own p base.FallBack c l h = omega arith
based_own p (base.Lease i) c l h = h.0.high
based_own p (base.Cancel i) c l h = h.0.high
based_own p (base.Abort i) c l h = h.0.high

pub base_own : (p : Plan) (y : Yard) → well_formed p y ≡ true → base_index y.base ≤ p.N
base_own p y w = based_own p y.base y.clock y.lease (formed_is p y w).based
