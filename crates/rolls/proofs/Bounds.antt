-- The bytes whose bits k and up are zero are those below 2 ^ k, which from 8 on are all of them.
use Rattle.std.proofs.Common.{ℕ, zero, suc, ◌-◌, ◌/◌, ◌^◌, ◌≤◌, ◌<◌, ◌≡◌, sym, ◌∙◌, refl, arith, lt_of_lt_of_le, leb, ltb, pow_mono, lt-ltb, leb-true, leb-false}
use Rattle.laws.proofs.Tests.{case}
use Rattle.laws.specs.Bits.{clear_from}
use Rattle.rolls.specs.Bounds.{Bound}

halved : (k : ℕ) → k < 8 → 256 / 2 ^ (8 - k) ≡ 2 ^ k
halved zero h = refl
halved (suc zero) h = refl
halved (suc (suc zero)) h = refl
halved (suc (suc (suc zero))) h = refl
halved (suc (suc (suc (suc zero)))) h = refl
halved (suc (suc (suc (suc (suc zero))))) h = refl
halved (suc (suc (suc (suc (suc (suc zero)))))) h = refl
halved (suc (suc (suc (suc (suc (suc (suc zero))))))) h = refl
halved (suc (suc (suc (suc (suc (suc (suc (suc k)))))))) h = absurd (omega arith)

pub is_bound : (k m : ℕ) → m ≡ 8 - k → Bound k (256 / 2 ^ m)
unfolding clear_from
is_bound k m m_is b small =
    case (leb 8 k)
    (λ q.
    let high : 8 ≤ k = leb-true 8 k q in
    let none : m ≡ 0 = omega arith in
    rw none (lt-ltb b 256 small ∙ sym (lt-ltb b (2 ^ k) (lt_of_lt_of_le small (pow_mono {i = 8} {j = k} high)))))
    (λ q. rw (m_is, halved k (leb-false 8 k q)))

pub flags_clear : (b : ℕ) → ltb b 4 ≡ clear_from 2 b
unfolding clear_from
flags_clear b = refl
