-- Room for a body, as code finds it, and that what is written has it.
use Rattle.std.proofs.Common.{ℕ, ◌+◌, ◌*◌, ◌≤◌, ◌<◌, arith, ◌≡◌, true, false, List, leb, length, le-leb, leb-true}
use borrow.Author.Tests.{lt-leb}
use Rattle.laws.specs.Written.{Written}
use Rattle.laws.proofs.Tests.{and_hold, case}
use Rattle.rules.specs.declared.Plan.{Plan}
use Rattle.planfile_rules.specs.File.{plan_in, body_fits, plan_for}
use Rattle.planfile_rules.specs.Writing.{body_bytes, body_written}
use Rattle.planfile_rules.proofs.Bodies.{body_wide}

pub too_many : (n room : ℕ) → 8 < n → false ≡ body_fits n room
too_many n room h = rw (lt-leb n 8 h)

pub few : (n room : ℕ) → n ≤ 8 → leb (8 + 12 * n) room ≡ body_fits n room
few n room h = rw (le-leb n 8 h)

pub enough : (n room : ℕ) → body_fits n room ≡ true → (n ≤ 8) × (8 + 12 * n ≤ room)
enough n room e =
    let both = and_hold (leb n 8) (leb (8 + 12 * n) room) e in
    (leb-true n 8 both.0, leb-true (8 + 12 * n) room both.1)

-- What is written lies within the buffer, and has the bytes of eight devices at most.
pub within : (p : Plan) (n room : ℕ) → (length (body_written p n room) ≤ room) × (length (body_written p n room) ≤ 104)
unfolding body_written
within p n room =
    case (body_fits n room)
    (λ e. rw e (omega (arith, enough n room e, body_wide p n), omega (arith, enough n room e, body_wide p n)))
    (λ e. rw e (omega arith, omega arith))

pub ends_soon : (p : Plan) (n room : ℕ) {end : ℕ} {l x : List ℕ} → Written l 0 (body_written p n room) x end → end ≤ 104
ends_soon p n room w = omega (arith, w.stands, within p n room)

-- Where there is room, the plan is the body's, and the whole body is written.
module _ (n room : ℕ) (most : n ≤ 8) (long : 8 + 12 * n ≤ room) where
  fits : body_fits n room ≡ true
  fits = rw (le-leb n 8 most) (le-leb (8 + 12 * n) room long)

  pub is_read : (body : List ℕ) → length body ≡ room → plan_for n body ≡ plan_in n body
  unfolding plan_for
  is_read body e = rw (e, fits)

  pub is_written : (p : Plan) → body_written p n room ≡ body_bytes p n
  unfolding body_written
  is_written p = rw fits
