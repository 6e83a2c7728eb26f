-- A well-formed state under an accepted plan is ready for a tick.
use Rattle.std.proofs.Common.{ℕ, ◌+◌, ◌-◌, ◌≤◌, ◌<◌, arith, ◌≡◌, true, leb, ltb, get_or, ltb-true, ltb-false, leb-true, leb-false}
use Rattle.laws.proofs.Tests.{case}
use Rattle.rules.specs.declared.Plan.{Plan}
use Rattle.rules.specs.declared.Yard.{Yard}
use Rattle.rules.specs.declared.Base.{Base}
use Rattle.rules.specs.declared.Base.TheVariants as base
use Rattle.rules.specs.declared.Place.{Place}
use Rattle.rules.specs.declared.Place.TheVariants as place
use Rattle.rules.specs.Verdict.{Accepted}
use Rattle.rules.specs.Plan.{LS}
use Rattle.rules.specs.Table.{plan_verdict}
use Rattle.rules.specs.Yard.{device, fresh_device, well_formed}
use Rattle.rules.specs.Numbers.{base_index}
use Rattle.rules.specs.Theorems.{Accepts}
use Rattle.rules.proofs.Plans.Accepted.{accepted_exactly}
use Rattle.rules.proofs.States.Formed.{Based, Placed, Formed, formed_is}

-- What a tick needs of a state so that no clock runs over: less than that it is well formed.
pub record Ready (p : Plan) (y : Yard) : Type 0 where
  pub some : 1 ≤ p.N
  pub few : p.N ≤ 8
  pub index : base_index y.base ≤ p.N
  pub clock : y.clock ≤ 36000
  pub lease : y.lease ≤ 108000
  pub clocks : (k : ℕ) → k < 8 → (get_or y.devices k fresh_device).clock ≤ 36000

module _ (p : Plan) (a : Accepts p) where
  long : LS p ≤ 108000
  long =
      let s = a.device_times 1 (omega arith) (omega (arith, a.devices)) in
      omega (arith, s.1.high, s.2.high, s.3.high)

  based_ready : (b : Base) (c l : ℕ) → Based p b c l → (base_index b ≤ p.N) × (c ≤ 36000) × (l ≤ 108000)
  based_ready base.FallBack c l h = (omega arith, omega (arith, a.yard_times.1.high), omega arith)
  based_ready (base.Lease i) c l h = (
    h.0.high,
    case (ltb i p.N)
        (λ q. omega (arith, h.1 (ltb-true _ _ q), a.yard_times.0.high))
        (λ q. omega (arith, h.2 (ltb-false _ _ q))),
    omega (arith, h.0.short, long),
  )
  based_ready (base.Cancel i) c l h = (h.0.high, omega arith, omega (arith, h.0.short, long))
  based_ready (base.Abort i) c l h = (h.0.high, omega arith, omega (arith, h.0.short, long))

  placed_ready : (i : ℕ) → 1 ≤ i → i ≤ p.N → (pl : Place) (c : ℕ) → Placed p i pl c → c ≤ 36000
  placed_ready i low high place.FallBack c h = omega (arith, (a.device_times i low high).0.high)
  placed_ready i low high place.Requesting c h = omega (arith, a.yard_times.2.high)
  placed_ready i low high place.Entering c h = omega (arith, (a.device_times i low high).1.high)
  placed_ready i low high place.Running c h = omega (arith, (a.device_times i low high).2.high)
  placed_ready i low high place.Exiting1 c h = omega (arith, (a.device_times i low high).3.high)
  placed_ready i low high place.Exiting2 c h = omega (arith, (a.device_times i low high).3.high)

  module _ (y : Yard) (f : Formed p y) where
    clock_ready : (i : ℕ) → 1 ≤ i → i ≤ 8 → (device y i).clock ≤ 36000
    clock_ready i low high =
        case (leb i p.N)
        (λ q. placed_ready i low (leb-true _ _ q) (device y i).place (device y i).clock (f.placed i low high (leb-true _ _ q)))
        (λ q. rw (f.unused i low high (leb-false _ _ q)) (omega arith))

    at_place : (k : ℕ) → k < 8 → (get_or y.devices k fresh_device).clock ≤ 36000
    unfolding device
    at_place k h =
        let same : k + 1 - 1 ≡ k = omega arith in
        rw same at (clock_ready (k + 1) (omega arith) (omega arith))

pub ready : (p : Plan) (y : Yard) → plan_verdict p ≡ Accepted → well_formed p y ≡ true → Ready p y
ready p y e w =
    let a = (accepted_exactly p).0 e in
    let f = formed_is p y w in
    let b = based_ready p a y.base y.clock y.lease f.based in
    record {
      some = omega (arith, a.devices.0);
      few = a.devices.1;
      index = b.0;
      clock = b.1;
      lease = b.2;
      clocks = at_place p a y f;
    }
