-- What the base does in a tick, in terms of stays: it rests, opens a lease, goes on to the next device, holds, goes back
-- from a device that is out, or the lease expires. It calls off no device but that of its new place.
use Rattle.std.proofs.Common.{Option, ℕ, ◌+◌, ◌-◌, ◌*◌, ◌≤◌, ◌<◌, arith, ◌≡◌, refl, subst, Bool, true, not, ◌&&◌, cond, ltb, eqb, eqb-true, ltb-true, ltb-false}
use Rattle.laws.proofs.Tests.{tests, on_cond}
use Rattle.rules.specs.declared.Plan.{Plan}
use Rattle.rules.specs.declared.Base.{Base}
use Rattle.rules.specs.declared.Base.TheVariants as base
use Rattle.rules.specs.declared.Letter.{Letter}
use Rattle.rules.specs.Letters as letter
use Rattle.rules.specs.declared.Down.{Down}
use Rattle.rules.specs.declared.BaseMove.{BaseMove}
use Rattle.rules.specs.Plan.{LS, terms}
use Rattle.rules.specs.Yard.{same_letter}
use Rattle.rules.specs.Tick.Step3.{stays, cancels, aborts, below, leases, in_fall_back, in_lease, in_lease_n, leasing, cancelling, aborting, unless_over, base_move}
use Rattle.rules.specs.Numbers.{base_index}
use Rattle.rules.specs.Theorems.{Accepts}
use Rattle.rules.proofs.States.Formed.{same_letter_lem}
use Rattle.rules.proofs.Ticks.Keeps.Base.{Clocked}
use Rattle.rules.proofs.Promises.Stays.Hears.{asked, called_off}
use Rattle.rules.proofs.Promises.Bases.Letters.{Says}

-- From the device k of the base's place, 0 in Fall-Back, and lease clock l to where move m leads. `Came` says that
-- device k has just entered, `Gone` that it is idle.
pub data Turn (p : Plan) (Came Gone : Type 0) (k l : ℕ) (m : BaseMove) : Type 0 where
  rests : k ≡ 0 → base_index m.base ≡ 0 → asked m.down ≡ 0 → Turn p Came Gone k l m
  opens : k ≡ 0 → base_index m.base ≡ 1 → asked m.down ≡ 1 → m.lease ≡ 0 → Turn p Came Gone k l m
  goes_on :
      Came → 1 ≤ k → base_index m.base ≡ k + 1 → asked m.down ≡ k + 1 → m.lease ≡ l → l ≤ k * p.W
      → Turn p Came Gone k l m
  holds : 1 ≤ k → base_index m.base ≡ k → asked m.down ≡ 0 → m.lease ≡ l → Turn p Came Gone k l m
  goes_back :
      Gone → k ≡ base_index m.base + 1 → asked m.down ≡ 0 → (1 ≤ base_index m.base → m.lease ≡ l)
      → Turn p Came Gone k l m
  expires : l ≡ LS p → base_index m.base ≡ 0 → asked m.down ≡ 0 → Turn p Came Gone k l m

-- The base comes to Lease i within (i-1) × W ticks, and waits for one device at a time.
abbrev pub Prompt : Plan → Base → ℕ → ℕ → Type 0
Prompt p base.FallBack c l = Unit
Prompt p (base.Lease i) c l = i < p.N → l + p.W ≤ i * p.W + c
Prompt p (base.Cancel i) c l = Unit
Prompt p (base.Abort i) c l = Unit

pub record Turned (p : Plan) (Came Gone : Type 0) (k l : ℕ) (m : BaseMove) : Type 0 where
  pub kind : Turn p Came Gone k l m
  pub calls : 1 ≤ called_off m.down → called_off m.down ≡ base_index m.base
  pub prompt : Prompt p m.base m.clock m.lease

-- A move that sends Cancel j or Abort j, and goes to the place of that name.
record Off (p : Plan) (j l : ℕ) (m : BaseMove) : Type 0 where
  index : base_index m.base ≡ j
  asks : asked m.down ≡ 0
  off : called_off m.down ≡ j
  runs : m.lease ≡ l
  prompt : Prompt p m.base m.clock m.lease

module _ (p : Plan) (a : Accepts p) (Came Gone : Type 0) where
  cancels_off : (j l : ℕ) → Off p j l (cancels j l)
  cancels_off j l = record { index = refl; asks = refl; off = refl; runs = refl; prompt = tt }

  aborts_off : (j l : ℕ) → Off p j l (aborts j l)
  aborts_off j l = record { index = refl; asks = refl; off = refl; runs = refl; prompt = tt }

  -- The lease expires; the base calls off the device of its place; it goes back to the device below, or to Fall-Back.
  module _ (k l : ℕ) where
    abbrev At : BaseMove → Type 0
    At m = Turned p Came Gone k l m

    unless_over_lem : (m : BaseMove) → At m → At (unless_over (terms p) l m)
    unless_over_lem m on =
        on_cond At (eqb l (LS p))
        (λ e. record { kind = expires (eqb-true _ _ e) refl refl; calls = λ q. absurd (omega arith); prompt = tt }) (λ e. on)

    called : (m : BaseMove) → Off p k l m → 1 ≤ k → At m
    called m o low =
        record {
          kind = holds low o.index o.asks o.runs;
          calls = λ q. omega (arith, o.off, o.index);
          prompt = o.prompt;
        }

    called_below : (m : BaseMove) → Off p (k - 1) l m → 2 ≤ k → Gone → At m
    called_below m o high out =
        record {
          kind = goes_back out (omega (arith, o.index)) o.asks (λ q. o.runs);
          calls = λ q. omega (arith, o.off, o.index);
          prompt = o.prompt;
        }

    back : (kind : ℕ → ℕ → BaseMove) → ((j l : ℕ) → Off p j l (kind j l)) → 1 ≤ k → Gone → At (below kind k l)
    back kind o low out =
        on_cond At (eqb k 1)
        (λ e.
        record {
          kind = goes_back out (omega tests) refl (λ q. absurd (omega arith));
          calls = λ q. absurd (omega arith);
          prompt = tt;
        })
        (λ e. called_below (kind (k - 1) l) (o (k - 1) l) (omega tests) out)

    -- It stays where it is.
    held : (b : Base) (c : ℕ) → 1 ≤ k → base_index b ≡ k → Prompt p b c l → At (stays b c l)
    held b c low here soon =
        record { kind = holds low here refl refl; calls = λ q. absurd (omega arith); prompt = soon }

    -- It goes on to the next device, in time.
    onward : (c : ℕ) → 1 ≤ k → c ≤ p.W → l + p.W ≤ k * p.W + c → Came → At (leases (terms p) k l)
    onward c low wait soon entered =
        let last : Bool = eqb (k + 1) p.N in
        record {
          kind =
              goes_on entered low refl (on_cond (λ (d : Option Down). asked d ≡ k + 1) last (λ e. refl) (λ e. refl)) refl
              (omega arith);
          calls =
              on_cond (λ (d : Option Down). 1 ≤ called_off d → called_off d ≡ k + 1) last (λ e q. absurd (omega arith))
              (λ e q. absurd (omega arith));
          prompt = λ few. omega arith;
        }

  module _ (approved : Bool) (last own : Option Letter) where
    in_fall_back_lem : (c l : ℕ) → At 0 l (in_fall_back (terms p) approved last c l)
    unfolding in_fall_back
    in_fall_back_lem c l =
        on_cond (At 0 l) (same_letter last letter.Request && eqb c p.B && approved)
        (λ e. record { kind = opens refl refl refl refl; calls = λ q. absurd (omega arith); prompt = λ few. omega arith })
        (λ e. record { kind = rests refl refl refl; calls = λ q. absurd (omega arith); prompt = tt })

    module _ (told : Says Came Gone own) where
      told_approve : same_letter own letter.Approve ≡ true → Came
      told_approve e = subst (Says Came Gone) (same_letter_lem own letter.Approve e) told

      told_deny : same_letter own letter.Deny ≡ true → Gone
      told_deny e = subst (Says Came Gone) (same_letter_lem own letter.Deny e) told

      told_exit : same_letter own letter.Exit ≡ true → Gone
      told_exit e = subst (Says Came Gone) (same_letter_lem own letter.Exit e) told

      in_lease_lem :
          (i c l : ℕ) → 1 ≤ i → i < p.N → c ≤ p.W → Prompt p (base.Lease i) c l
          → At i l (in_lease (terms p) approved last own i c l)
      unfolding in_lease
      in_lease_lem i c l low few wait soon =
          on_cond (At i l) (not approved) (λ e. called i l _ (aborts_off i l) low)
          (λ e. on_cond (At i l) (same_letter last letter.Cancel) (λ e. called i l _ (cancels_off i l) low)
          (λ e. on_cond (At i l) (same_letter own letter.Approve) (λ e. onward i l c low wait (soon few) (told_approve e))
          (λ e. on_cond (At i l) (same_letter own letter.Deny) (λ e. back i l cancels cancels_off low (told_deny e))
          (λ e. on_cond (At i l) (eqb c p.W) (λ e. called i l _ (cancels_off i l) low)
          (λ e. held i l (base.Lease i) c low refl soon)))))

      in_lease_last : (i c l : ℕ) → 2 ≤ i → p.N ≤ i → At i l (in_lease_n approved last own i c l)
      unfolding in_lease_n
      in_lease_last i c l low top =
          on_cond (At i l) (same_letter own letter.Exit)
          (λ e. called_below i l _ (cancels_off (i - 1) l) low (told_exit e))
          (λ e. on_cond (At i l) (not approved) (λ e. called i l _ (aborts_off i l) (omega arith))
          (λ e. on_cond (At i l) (same_letter last letter.Cancel) (λ e. called i l _ (cancels_off i l) (omega arith))
          (λ e. held i l (base.Lease i) c (omega arith) refl (λ few. absurd (omega arith)))))

      -- Cancel i or Abort i, whichever kind it is.
      calling :
          (kind : ℕ → ℕ → BaseMove) → ((j l : ℕ) → Off p j l (kind j l)) → (b : Base) (c l : ℕ) → 1 ≤ base_index b
          → Prompt p b c l → At (base_index b) l (cond (same_letter own letter.Exit) (below kind (base_index b) l) (stays b c l))
      calling kind o b c l low soon =
          on_cond (At (base_index b) l) (same_letter own letter.Exit) (λ e. back (base_index b) l kind o low (told_exit e))
          (λ e. held (base_index b) l b c low refl soon)

    pub turned :
        (b : Base) (c l : ℕ) → Clocked p a b c l → Prompt p b c l
        → (1 ≤ base_index b → base_index b ≤ p.N → Says Came Gone own)
        → At (base_index b) l (base_move (terms p) approved last own b c l)
    unfolding base_move leasing cancelling aborting
    turned base.FallBack c l h soon told = in_fall_back_lem c l
    turned (base.Lease i) c l h soon told =
        let true : Says Came Gone own = told h.0.low h.0.high in
        unless_over_lem i l _
        (on_cond (At i l) (ltb i p.N)
        (λ q. in_lease_lem true i c l h.0.low (ltb-true _ _ q) (h.1 (ltb-true _ _ q)) soon)
        (λ q. in_lease_last true i c l (omega (tests, a.devices)) (ltb-false _ _ q)))
    turned (base.Cancel i) c l h soon told =
        unless_over_lem i l _
        (calling (told h.0.low h.0.high) cancels cancels_off (base.Cancel i) c l h.0.low tt)
    turned (base.Abort i) c l h soon told =
        unless_over_lem i l _ (calling (told h.0.low h.0.high) aborts aborts_off (base.Abort i) c l h.0.low tt)
