-- Steps 1 and 3 keep the supervisor well formed, under an accepted plan.
use Rattle.std.proofs.Common.{Option, ℕ, ◌+◌, ◌-◌, ◌≤◌, ◌<◌, arith, ◌≡◌, refl, Bool, false, not, ◌&&◌, ltb, eqb, ltb-true, ltb-false, ne_eqb}
use Rattle.laws.proofs.Tests.{tests, on_cond}
use Rattle.rules.specs.declared.Plan.{Plan}
use Rattle.rules.specs.declared.Base.{Base}
use Rattle.rules.specs.declared.Base.TheVariants as base
use Rattle.rules.specs.declared.Letter.{Letter}
use Rattle.rules.specs.Letters as letter
use Rattle.rules.specs.declared.BaseMove.{BaseMove}
use Rattle.rules.specs.Plan.{slot, LS, terms}
use Rattle.rules.specs.Yard.{same_letter}
use Rattle.rules.specs.Tick.Step1.{place_clock, lease_clock}
use Rattle.rules.specs.Tick.Step3.{falls_back, cancels, aborts, below, leases, in_fall_back, in_lease, in_lease_n, leasing, cancelling, aborting, base_move}
use Rattle.rules.specs.Theorems.{Accepts}
use Rattle.rules.proofs.States.Formed.{Leased, Based}
use Rattle.rules.proofs.Ticks.Keeps.Devices.{stopped, ForParticipant}

module _ (p : Plan) (a : Accepts p) where
  -- After step 1 a clock may stand at its limit; step 3 then moves the supervisor on.
  pub record Late (i lease : ℕ) : Type 0 where
    pub low : 1 ≤ i
    pub high : i ≤ p.N
    pub long : lease ≤ LS p

  abbrev pub Clocked : Base → ℕ → ℕ → Type 0
  Clocked base.FallBack c l = (c ≤ p.B) × (l ≡ 0)
  Clocked (base.Lease i) c l = Late i l × (i < p.N → c ≤ p.W) × (p.N ≤ i → c ≡ 0)
  Clocked (base.Cancel i) c l = Late i l × (c ≡ 0)
  Clocked (base.Abort i) c l = Late i l × (c ≡ 0)

  later : (i l : ℕ) → Leased p i l → Late i (l + 1)
  later i l h = record { low = h.low; high = h.high; long = omega (arith, h.short) }

  pub clock_kept : (b : Base) (c l : ℕ) → Based p b c l → Clocked b (place_clock (terms p) b c) (lease_clock b l)
  clock_kept base.FallBack c l h = (stopped p.B c h.0, h.1)
  clock_kept (base.Lease i) c l h = (
    later i l h.0,
    λ few.
        on_cond (λ (x : ℕ). x ≤ p.W) (ltb i p.N) (λ q. omega (arith, h.1 few)) (λ q. absurd (omega tests)),
    λ last. on_cond (λ (x : ℕ). x ≡ 0) (ltb i p.N) (λ q. absurd (omega tests)) (λ q. h.2 last),
  )
  clock_kept (base.Cancel i) c l h = (later i l h.0, h.1)
  clock_kept (base.Abort i) c l h = (later i l h.0, h.1)

  -- What the supervisor does leaves it well formed, and sends a LeaseReq to participants alone.
  abbrev pub Sound : BaseMove → Type 0
  Sound m = Based p m.base m.clock m.lease × ForParticipant p m.down

  falls_sound : Sound falls_back
  falls_sound = ((omega arith, refl), tt)

  -- The two kinds of calling off, at i and at i-1.
  module _ (i l : ℕ) (h : Leased p i l) where
    cancels_sound : Sound (cancels i l)
    cancels_sound = ((h, refl), tt)

    aborts_sound : Sound (aborts i l)
    aborts_sound = ((h, refl), tt)

  under : (i l : ℕ) → Leased p i l → eqb i 1 ≡ false → Leased p (i - 1) l
  under i l h e = record { low = omega (tests, h.low); high = omega (arith, h.high); short = h.short }

  below_sound :
      (kind : ℕ → ℕ → BaseMove) → ((i l : ℕ) → Leased p i l → Sound (kind i l))
      → (i l : ℕ) → Leased p i l → Sound (below kind i l)
  below_sound kind ok i l h = on_cond Sound (eqb i 1) (λ e. falls_sound) (λ e. ok (i - 1) l (under i l h e))

  leases_sound : (i l : ℕ) → i < p.N → Leased p i l → Sound (leases (terms p) i l)
  leases_sound i l few h = (
    (record { low = omega arith; high = omega arith; short = h.short }, λ q. a.yard_times.0.low, λ q. refl),
    on_cond (ForParticipant p) (eqb (i + 1) p.N) (λ e. tt) (λ e. omega tests),
  )

  module _ (approved : Bool) (last own : Option Letter) where
    fall_back_sound : (c l : ℕ) → Clocked base.FallBack c l → Sound (in_fall_back (terms p) approved last c l)
    unfolding in_fall_back
    fall_back_sound c l h =
        on_cond Sound (same_letter last letter.Request && eqb c p.B && approved)
        (λ e. (
          (
            record { low = omega arith; high = omega (arith, a.devices); short = omega (arith, first) },
            λ q. a.yard_times.0.low,
            λ q. absurd (omega (arith, a.devices)),
          ),
          omega (arith, a.devices),
        ))
        (λ e. (h, tt))
      where
        first : 1 ≤ (slot p 1).E
        first = (a.device_times 1 (omega arith) (omega (arith, a.devices))).1.low

    lease_sound :
        (i c l : ℕ) → i < p.N → Clocked (base.Lease i) c l → Leased p i l → Sound (in_lease (terms p) approved last own i c l)
    unfolding in_lease
    lease_sound i c l few h d =
        on_cond Sound (not approved) (λ e. aborts_sound i l d)
        (λ e. on_cond Sound (same_letter last letter.Cancel) (λ e. cancels_sound i l d)
        (λ e. on_cond Sound (same_letter own letter.Approve) (λ e. leases_sound i l few d)
        (λ e. on_cond Sound (same_letter own letter.Deny) (λ e. below_sound cancels cancels_sound i l d)
        (λ e. on_cond Sound (eqb c p.W) (λ e. cancels_sound i l d)
        (λ e. ((d, λ q. omega (tests, h.1 few), λ q. absurd (omega arith)), tt))))))

    last_sound :
        (i c l : ℕ) → p.N ≤ i → Clocked (base.Lease i) c l → Leased p i l → Sound (in_lease_n approved last own i c l)
    unfolding in_lease_n
    last_sound i c l top h d =
        on_cond Sound (same_letter own letter.Exit) (λ e. cancels_sound (i - 1) l (under i l d (ne_eqb i 1 several)))
        (λ e. on_cond Sound (not approved) (λ e. aborts_sound i l d)
        (λ e. on_cond Sound (same_letter last letter.Cancel) (λ e. cancels_sound i l d)
        (λ e. ((d, λ q. absurd (omega arith), λ q. h.2 top), tt))))
      where
        several : i ≡ 1 → ⊥
        several e = omega (arith, a.devices)

    in_time : (i l : ℕ) → Late i l → eqb l (LS p) ≡ false → Leased p i l
    in_time i l h e = record { low = h.low; high = h.high; short = omega (tests, h.long) }

    pub move_sound : (b : Base) (c l : ℕ) → Clocked b c l → Sound (base_move (terms p) approved last own b c l)
    unfolding base_move leasing cancelling aborting
    move_sound base.FallBack c l h = fall_back_sound c l h
    move_sound (base.Lease i) c l h =
        on_cond Sound (eqb l (LS p)) (λ e. falls_sound)
        (λ e.
        let d : Leased p i l = in_time i l h.0 e in
        on_cond Sound (ltb i p.N) (λ q. lease_sound i c l (ltb-true _ _ q) h d)
        (λ q. last_sound i c l (ltb-false _ _ q) h d))
    move_sound (base.Cancel i) c l h =
        on_cond Sound (eqb l (LS p)) (λ e. falls_sound)
        (λ e.
        let d : Leased p i l = in_time i l h.0 e in
        on_cond Sound (same_letter own letter.Exit) (λ q. below_sound cancels cancels_sound i l d)
        (λ q. ((d, h.1), tt)))
    move_sound (base.Abort i) c l h =
        on_cond Sound (eqb l (LS p)) (λ e. falls_sound)
        (λ e.
        let d : Leased p i l = in_time i l h.0 e in
        on_cond Sound (same_letter own letter.Exit) (λ q. below_sound aborts aborts_sound i l d)
        (λ q. ((d, h.1), tt)))
