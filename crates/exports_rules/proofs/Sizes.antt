-- What is not refused for its size has the size asked for.
use Rattle.std.proofs.Common.{ℕ, ◌≡◌, refl, sym, ◌∙◌, ap, Bool, true, false, ◌&&◌, List, [], ◌++◌, append-nil, length, drop, arith, eqb-true, le-leb}
use lib.Seq.{drop-length}
use Rattle.laws.proofs.Tests.{and_hold}
use Rattle.rules.specs.declared.Plan.{Plan}
use Rattle.rules.specs.declared.Yard.{Yard}
use Rattle.rules.specs.Verdict.{Verdict}
use Rattle.rules.specs.Verdict.{Accepted}
use Rattle.rules.specs.Verdict.{if_accepted}
use Rattle.rules.proofs.Answers.{not_both}
use Rattle.planfile_rules.specs.Writing.{plan_bytes, plan_written}
use Rattle.planfile_rules.proofs.Bodies.{body_wide}
use Rattle.layout_rules.specs.Bytes.{yard_bytes, yard_size, yard_written}
use Rattle.layout_rules.proofs.Widths.{yard_wide}
use Rattle.rules.specs.Run.{engaged_bytes}
use Rattle.rules.proofs.Promises.Bytes.{bytes_kept}
use Rattle.planfile_rules.specs.File.{plan_size, whole_plan}
use Rattle.exports_rules.specs.Asked.{KeptBy, size_verdict, fits_yard}

-- An answer that takes its verdict from the size where that refuses.
pub sized :
    {A : Type 0} (verdict : A → Verdict) (fits : Bool) (taken refused : A) → verdict refused ≡ size_verdict fits
    → verdict (if_accepted (size_verdict fits) taken refused) ≡ Accepted → fits ≡ true
unfolding size_verdict
sized verdict true taken refused e h = refl
sized verdict false taken refused e h = not_both h e

pub yard_sized : (a : Bool) (n : ℕ) → (a && fits_yard n) ≡ true → n ≡ yard_size
yard_sized a n h = eqb-true n yard_size (and_hold a (fits_yard n) h).1

-- What is written at the front of a buffer of just its length is all that stands there.
fills : (text l : List ℕ) (n : ℕ) → n ≡ length text → length l ≡ length text → text ++ drop n l ≡ text
fills text l n n_is long =
    ap (λ (r : List ℕ). text ++ r) (ap (λ (k : ℕ). drop k l) (n_is ∙ sym long) ∙ drop-length l) ∙ append-nil text

pub yard_fills :
    (y : Yard) (l x : List ℕ) (n : ℕ) → length l ≡ yard_size
    → n ≡ length (yard_written y (length l)) → x ≡ yard_written y (length l) ++ drop n l → x ≡ yard_bytes y
unfolding yard_written
yard_fills y l x n long n_is x_is =
    let room = le-leb yard_size (length l) (omega arith) in
    (rw room at x_is) ∙ fills (yard_bytes y) l n (rw room at n_is) (long ∙ sym (yard_wide y))

pub plan_fills :
    (p : Plan) (l x : List ℕ) (n : ℕ) → length l ≡ plan_size
    → n ≡ length (plan_written p (length l)) → x ≡ plan_written p (length l) ++ drop n l → x ≡ plan_bytes p
unfolding plan_written
plan_fills p l x n long n_is x_is =
    let room = le-leb plan_size (length l) (omega arith) in
    (rw room at x_is) ∙ fills (plan_bytes p) l n (rw room at n_is) (long ∙ sym (body_wide p 8))

-- Where nothing has been done, the promises ask nothing of the engaged bytes.
pub nothing_done : (plan yard engaged : List ℕ) → KeptBy plan yard engaged 0
unfolding engaged_bytes
nothing_done plan yard engaged taken fresh = bytes_kept (whole_plan plan) [] 0 engaged taken
