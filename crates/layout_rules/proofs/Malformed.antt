-- Bytes that are not a yard's are read as one yard, which is well formed under no plan.
use Rattle.std.proofs.Common.{ℕ, arith, ◌≡◌, false, List}
use Rattle.laws.proofs.Tests.{fails}
use Rattle.rules.specs.declared.Plan.{Plan}
use Rattle.rules.specs.declared.Base.TheVariants as base
use Rattle.rules.specs.Yard.{well_formed}
use Rattle.rules.proofs.States.Formed.{Based, formed_is}
use Rattle.layout_rules.specs.Reading.{no_yard, yard_of}
use Rattle.layout_rules.specs.Theorems.{Malformed, too_few, no_base, fall_back_with, no_place, no_letter}
use Rattle.layout_rules.specs.Theorems.{MalformedAlone, MalformedRefused}
use Rattle.layout_rules.proofs.Forms.{Readable, readable_is}

unreadable : (bytes : List ℕ) → Malformed bytes → Readable bytes → ⊥
unreadable bytes (too_few h) r = omega (arith, r.room)
unreadable bytes (no_base h) r = omega (arith, r.base)
unreadable bytes (fall_back_with zero h) r = omega (arith, r.alone zero)
unreadable bytes (no_place i low high h) r = omega (arith, r.place i low high)
unreadable bytes (no_letter i low high h) r = omega (arith, r.letter i low high)

pub malformed_alone : MalformedAlone
unfolding yard_of
malformed_alone bytes bad = rw (fails (λ t. unreadable bytes bad (readable_is bytes t)))

no_plan : (p : Plan) → well_formed p no_yard ≡ false
unfolding no_yard
no_plan p =
    fails (λ t.
    let leased : Based p (base.Lease 0) 0 0 = (formed_is p no_yard t).based in
    omega (arith, leased.0.low))

pub malformed_refused : MalformedRefused
malformed_refused bytes bad p = rw (malformed_alone bytes bad) (no_plan p)
