-- Document 01, "One tick", step 3: all letters go up and are then gone; those not lost are heard. The supervisor does the
-- first that applies.
use Rattle.std.specs.Prelude.{ℕ, ◌+◌, ◌-◌, Bool, not, ◌&&◌, cond, ltb, eqb, Option}
use Rattle.rules.specs.declared.Plan.{Plan}
use Rattle.rules.specs.declared.Base.{Base}
use Rattle.rules.specs.declared.Base.TheVariants as base
use Rattle.rules.specs.declared.Letter.{Letter}
use Rattle.rules.specs.Letters as letter
use Rattle.rules.specs.declared.Down.{Down}
use Rattle.rules.specs.Downs as down
use Rattle.rules.specs.declared.Device.{Device}
use Rattle.rules.specs.declared.Yard.{Yard}
use Rattle.rules.specs.declared.Record.{Record}
use Rattle.rules.specs.declared.Terms.{Terms}
use Rattle.rules.specs.declared.BaseMove.{BaseMove}
use Rattle.rules.specs.Plan.{terms}
use Rattle.rules.specs.Yard.{writes, device, same_letter}
use Rattle.rules.specs.Numbers.{base_index}
use Rattle.rules.specs.Tick.Input.{approval, up_lost}
use Rattle.rules.specs.Tick.Step1.{each_device}

-- What the supervisor hears from device i: its letter, unless that is lost.
abbrev pub heard : Record → Yard → ℕ → Option Letter
heard r y i = cond (up_lost r i) letter.none (device y i).letter

-- Every change of place sets the place clock to 0.
abbrev pub goes : Base → ℕ → Option Down → BaseMove
goes b lease d = record { base = b; clock = 0; lease = lease; down = d }

-- On Fall-Back the lease clock is 0.
abbrev pub falls_back : BaseMove
falls_back = goes base.FallBack 0 down.none

abbrev pub stays : Base → ℕ → ℕ → BaseMove
stays b clock lease = record { base = b; clock = clock; lease = lease; down = down.none }

-- Cancel i, sent; Abort i, sent.
abbrev pub cancels : ℕ → ℕ → BaseMove
cancels i lease = goes (base.Cancel i) lease (down.Cancel i)

abbrev pub aborts : ℕ → ℕ → BaseMove
aborts i lease = goes (base.Abort i) lease (down.Abort i)

-- The same kind at i-1, sent, or Fall-Back when i = 1.
abbrev pub below : (ℕ → ℕ → BaseMove) → ℕ → ℕ → BaseMove
below kind i lease = cond (eqb i 1) falls_back (kind (i - 1) lease)

-- Lease i+1, send LeaseReq i+1, or Grant N when i+1 = N.
abbrev pub leases : Terms → ℕ → ℕ → BaseMove
leases t i lease = goes (base.Lease (i + 1)) lease (cond (eqb (i + 1) t.N) (down.Grant (i + 1)) (down.LeaseReq (i + 1)))

-- In what follows `last` is what is heard from the initializer, `own` what is heard from the device i of the supervisor's
-- place.

-- Fall-Back: Request heard, clock at B, approval holds: to Lease 1, both clocks 0, send LeaseReq 1.
unfoldable pub in_fall_back : Terms → Bool → Option Letter → ℕ → ℕ → BaseMove
in_fall_back t approved last clock lease =
    cond (same_letter last letter.Request && eqb clock t.B && approved)
    (goes (base.Lease 1) 0 (down.LeaseReq 1))
    (stays base.FallBack clock lease)

-- Lease i, i < N: approval fails: Abort i, send Abort i. Cancel heard: Cancel i, send Cancel i. Approve from i: on to i+1.
-- Deny from i: Cancel i-1 and send it, or Fall-Back when i = 1. Place clock at W: Cancel i, send Cancel i.
unfoldable pub in_lease : Terms → Bool → Option Letter → Option Letter → ℕ → ℕ → ℕ → BaseMove
in_lease t approved last own i clock lease =
    cond (not approved) (aborts i lease)
    (cond (same_letter last letter.Cancel) (cancels i lease)
    (cond (same_letter own letter.Approve) (leases t i lease)
    (cond (same_letter own letter.Deny) (below cancels i lease)
    (cond (eqb clock t.W) (cancels i lease)
    (stays (base.Lease i) clock lease)))))

-- Lease N: Exit from N: Cancel N-1, sent. Approval fails: Abort N, sent. Cancel heard: Cancel N, sent.
unfoldable pub in_lease_n : Bool → Option Letter → Option Letter → ℕ → ℕ → ℕ → BaseMove
in_lease_n approved last own i clock lease =
    cond (same_letter own letter.Exit) (cancels (i - 1) lease)
    (cond (not approved) (aborts i lease)
    (cond (same_letter last letter.Cancel) (cancels i lease)
    (stays (base.Lease i) clock lease)))

-- Lease i.
unfoldable pub leasing : Terms → Bool → Option Letter → Option Letter → ℕ → ℕ → ℕ → BaseMove
leasing t approved last own i clock lease =
    cond (ltb i t.N) (in_lease t approved last own i clock lease) (in_lease_n approved last own i clock lease)

-- Cancel i or Abort i: Exit from i: the same kind at i-1, sent, or Fall-Back when i = 1. Otherwise it stays.
unfoldable pub cancelling : Option Letter → ℕ → ℕ → ℕ → BaseMove
cancelling own i clock lease =
    cond (same_letter own letter.Exit) (below cancels i lease) (stays (base.Cancel i) clock lease)

unfoldable pub aborting : Option Letter → ℕ → ℕ → ℕ → BaseMove
aborting own i clock lease =
    cond (same_letter own letter.Exit) (below aborts i lease) (stays (base.Abort i) clock lease)

-- Anywhere else than in Fall-Back: lease clock at LS: to Fall-Back. This comes before approval and before every letter.
abbrev pub unless_over : Terms → ℕ → BaseMove → BaseMove
unless_over t lease m = cond (eqb lease t.LS) falls_back m

unfoldable pub base_move : Terms → Bool → Option Letter → Option Letter → Base → ℕ → ℕ → BaseMove
base_move t approved last own base.FallBack clock lease = in_fall_back t approved last clock lease
base_move t approved last own (base.Lease i) clock lease = unless_over t lease (leasing t approved last own i clock lease)
base_move t approved last own (base.Cancel i) clock lease = unless_over t lease (cancelling own i clock lease)
base_move t approved last own (base.Abort i) clock lease = unless_over t lease (aborting own i clock lease)

-- A device whose letter has gone up.
abbrev pub letter_gone : ℕ → Device → Device
letter_gone i d = writes letter.none d

-- A yard and the down letter that it has just sent.
pub record Sent : Type 0 where
  pub yard : Yard
  pub down : Option Down

unfoldable pub step3 : Plan → Record → Yard → Sent
step3 p r y =
    let m = base_move (terms p) (approval r) (heard r y p.N) (heard r y (base_index y.base)) y.base y.clock y.lease in
    record {
      yard = record { base = m.base; clock = m.clock; lease = m.lease; devices = each_device p letter_gone y };
      down = m.down;
    }
