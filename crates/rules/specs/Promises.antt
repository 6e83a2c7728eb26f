-- Demand 3: what an accepted plan promises, whatever the radio loses, whoever denies and whoever cancels.
-- Each promise is about the yard at the ends of the ticks of a roll, from a fresh yard. A roll may hold any bytes, and past
-- its end records of zeros follow: what holds for every t holds for every tick that a run has done.
use Rattle.std.specs.Prelude.{ℕ, ◌+◌, ◌-◌, ◌≤◌, ◌<◌, ◌≡◌, Bool, true, false, List, [], ◌∷◌, ◌++◌, leb, get_or}
use Rattle.laws.specs.Tests.{all_of}
use Rattle.laws.specs.Bits.{bit}
use Rattle.rules.specs.declared.Plan.{Plan}
use Rattle.rules.specs.declared.Yard.{Yard}
use Rattle.rules.specs.declared.Record.{Record}
use Rattle.rules.specs.declared.Base.TheVariants as base
use Rattle.rules.specs.declared.Place.{Place}
use Rattle.rules.specs.declared.Place.TheVariants as place
use Rattle.rules.specs.Letters as letter
use Rattle.rules.specs.Downs as down
use Rattle.rules.specs.Verdict.{Accepted}
use Rattle.rules.specs.Plan.{slot, LS}
use Rattle.rules.specs.Table.{plan_verdict}
use Rattle.rules.specs.Yard.{device, engaged, fresh_yard}
use Rattle.rules.specs.Tick.{sent}
use Rattle.rules.specs.Tick.Input.{request, cancel, approval, down_lost, willing, up_lost}
use Rattle.rules.specs.Tick.Step1.{step1}
use Rattle.rules.specs.Tick.Step2.{step2}
use Rattle.rules.specs.Run.{record_at, after, engaged_bytes}

-- The yard at the end of tick t of a roll, ticks counted from 1; at 0 it is the fresh yard.
abbrev pub yard_after : Plan → List ℕ → ℕ → Yard
yard_after p roll t = after p fresh_yard roll t

-- Where device i then stands, and whether it is engaged.
abbrev pub place_at : Plan → List ℕ → ℕ → ℕ → Place
place_at p roll i t = (device (yard_after p roll t) i).place

abbrev pub engaged_at : Plan → List ℕ → ℕ → ℕ → Bool
engaged_at p roll i t = engaged (place_at p roll i t)

-- Promises 1 to 3, of a history that has gone n ticks: `H i t` says that device i is engaged at the end of tick t.
pub record Kept (p : Plan) (H : ℕ → ℕ → Bool) (n : ℕ) : Type 0 where
  -- no device is engaged for more than R + X ticks in a row
  pub stays :
      (i t : ℕ) → 1 ≤ i → i ≤ p.N → t + ((slot p i).R + (slot p i).X) ≤ n
      → ((k : ℕ) → k ≤ (slot p i).R + (slot p i).X → H i (t + k) ≡ true) → ⊥
  -- where device i+1 is engaged, device i is engaged at that tick and at each of the G + 2 ticks before it, none of which
  -- lies before tick 1
  pub before :
      (i t k : ℕ) → 1 ≤ i → i < p.N → t ≤ n → H (i + 1) t ≡ true → k ≤ (slot p i).G + 2 → (k < t) × (H i (t - k) ≡ true)
  -- and at each of the S + 1 ticks after it, as far as the run has gone
  pub after :
      (i t k : ℕ) → 1 ≤ i → i < p.N → H (i + 1) t ≡ true → k ≤ (slot p i).S + 1 → t + k ≤ n → H i (t + k) ≡ true

-- Promises 1 to 3 hold of every accepted plan and every roll, from a fresh yard, however far it goes (`stays_and_spacing`).
abbrev pub StaysAndSpacing : Type 0
StaysAndSpacing = (p : Plan) (roll : List ℕ) (n : ℕ) → plan_verdict p ≡ Accepted → Kept p (engaged_at p roll) n

-- Document 01's spacing, in its own numbers: device i enters at least G ticks before device i+1 and leaves at least S ticks
-- after it.
pub record Spaced (p : Plan) (H : ℕ → ℕ → Bool) (n : ℕ) : Type 0 where
  -- from G ticks before device i+1 is first engaged
  pub enters :
      (i t k : ℕ) → 1 ≤ i → i < p.N → t + 1 ≤ n → H (i + 1) t ≡ false → H (i + 1) (t + 1) ≡ true
      → k ≤ (slot p i).G → (k < t + 1) × (H i (t + 1 - k) ≡ true)
  -- to S ticks after it is last engaged
  pub leaves :
      (i t k : ℕ) → 1 ≤ i → i < p.N → H (i + 1) t ≡ true → H (i + 1) (t + 1) ≡ false
      → k ≤ (slot p i).S → t + k ≤ n → H i (t + k) ≡ true

-- It follows from promises 2 and 3 (`spaced`).
abbrev pub SpacedAsPlanned : Type 0
SpacedAsPlanned = (p : Plan) (roll : List ℕ) (n : ℕ) → plan_verdict p ≡ Accepted → Spaced p (engaged_at p roll) n

-- The same of the bytes that a run leaves in its buffer: bit i-1 of byte t shows device i at tick t.
abbrev pub shown : List ℕ → ℕ → ℕ → Bool
shown bytes i t = all_of (leb 1 t ∷ bit (get_or bytes (t - 1) 0) (i - 1) ∷ [])

-- Promises 1 to 3 as facts about those bytes, whatever stands behind them in the buffer (`bytes_kept`).
abbrev pub BytesKept : Type 0
BytesKept =
    (p : Plan) (roll : List ℕ) (n : ℕ) (rest : List ℕ) → plan_verdict p ≡ Accepted
    → Kept p (shown (engaged_bytes p fresh_yard roll n ++ rest)) n

-- Promise 4: the base is away from Fall-Back for at most LS ticks in a row (`leases_end`).
abbrev pub LeasesEnd : Type 0
LeasesEnd =
    (p : Plan) (roll : List ℕ) (t : ℕ) → plan_verdict p ≡ Accepted
    → ((k : ℕ) → k ≤ LS p → (yard_after p roll (t + k)).base ≡ base.FallBack → ⊥) → ⊥

-- Rested: all in Fall-Back with clocks at B and F, once step 1 of the request's tick is done.
pub record Rested (p : Plan) (y : Yard) : Type 0 where
  pub base : y.base ≡ base.FallBack
  pub clock : y.clock ≡ p.B
  pub devices : (i : ℕ) → 1 ≤ i → i ≤ p.N → ((device y i).place ≡ place.FallBack) × ((device y i).clock ≡ (slot p i).F)

-- In the tick of record r from yard y nothing is lost, cancelled, unapproved or unwilling: no letter that was written is
-- lost, and the participant that is asked is willing. A loss bit without a letter is harmless.
pub record Undisturbed (p : Plan) (y : Yard) (r : Record) : Type 0 where
  pub not_cancelled : r.command ≡ cancel → ⊥
  pub approved : approval r ≡ true
  pub up_kept :
      (i : ℕ) → 1 ≤ i → i ≤ p.N → ((device (step2 p r (step1 p y)) i).letter ≡ letter.none → ⊥) → up_lost r i ≡ false
  pub down_kept : ((sent p y r).down ≡ down.none → ⊥) → down_lost r ≡ false
  pub willing : (k : ℕ) → (sent p y r).down ≡ down.LeaseReq k → willing r k ≡ true

-- How long the blade takes from its request's tick: N - 1 + E of device N.
abbrev pub way_to_blade : Plan → ℕ
way_to_blade p = p.N - 1 + (slot p p.N).E

-- Promise 5: base and devices are rested at a request in tick t + 1, and from that tick on nothing is lost, cancelled,
-- unapproved or unwilling. Then the initializer enters Running in exactly the tick that comes N - 1 + E(N) after the
-- request's, and in no tick between (`blade_starts`).
abbrev pub BladeStarts : Type 0
BladeStarts =
    (p : Plan) (roll : List ℕ) (t : ℕ) → plan_verdict p ≡ Accepted
    → Rested p (step1 p (yard_after p roll t))
    → (record_at roll t).command ≡ request
    → ((u : ℕ) → t ≤ u → u ≤ t + way_to_blade p → Undisturbed p (yard_after p roll u) (record_at roll u))
    → (place_at p roll p.N (t + 1 + way_to_blade p) ≡ place.Running)
    × ((u : ℕ) → t < u → u < t + 1 + way_to_blade p → place_at p roll p.N u ≡ place.Running → ⊥)

-- Promise 6, the paper's Lemma 1: while the base is in Fall-Back no device is in Entering, Running, Exiting 1 or Exiting 2
-- (`rest_is_safe`).
abbrev pub RestIsSafe : Type 0
RestIsSafe =
    (p : Plan) (roll : List ℕ) (t i : ℕ) → plan_verdict p ≡ Accepted → 1 ≤ i → i ≤ p.N
    → (yard_after p roll t).base ≡ base.FallBack
    → (place_at p roll i t ≡ place.Entering → ⊥)
    × (place_at p roll i t ≡ place.Running → ⊥)
    × (place_at p roll i t ≡ place.Exiting1 → ⊥)
    × (place_at p roll i t ≡ place.Exiting2 → ⊥)
