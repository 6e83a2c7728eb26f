-- A body: how long it is, that it is read as the plan that was written, and that the plan that was read is written as it.
use Rattle.std.proofs.Common.{ℕ, ◌+◌, ◌-◌, ◌*◌, ◌≤◌, ◌<◌, arith, ◌≡◌, refl, sym, ◌∙◌, List, ◌++◌, leb, length, take, drop, get_or, take_all, leb-true, leb-false, eq-eqb}
use Rattle.laws.proofs.Tests.{case}
use Rattle.laws.proofs.Lists.{tabulate_same, tabulate_back, joined_length, parts_join, pieces_join}
use Rattle.numbers.specs.Bytes.{num16, two_bytes, AllBytes}
use Rattle.numbers.proofs.Pieces.{number_stands, first_stands}
use Rattle.numbers.proofs.Back.{two_back, two_given}
use Rattle.rules.specs.declared.Plan.{Plan}
use Rattle.rules.specs.declared.Slot.{Slot}
use Rattle.rules.specs.Plan.{slot, empty_slot}
use Rattle.planfile_rules.specs.File.{slot_in, slots_in, plan_in, plan_size, whole_plan}
use Rattle.planfile_rules.specs.Writing.{slot_bytes, slots_bytes, body_bytes, plan_bytes}
use Rattle.planfile_rules.specs.Theorems.{PlanBack}
use Rattle.planfile_rules.proofs.Slots.{slots_read}

pub slot_wide : (s : Slot) → length (slot_bytes s) ≡ 12
unfolding slot_bytes two_bytes
slot_wide s = refl

pub body_wide : (p : Plan) (n : ℕ) → length (body_bytes p n) ≡ 8 + 12 * n
unfolding body_bytes two_bytes
body_wide p n =
    omega (arith, joined_length (λ i. slot_bytes (get_or p.slots (i - 1) empty_slot)) 12 (λ i. slot_wide _) n)

slot_again : (s : Slot) → slot_in (slot_bytes s) 0 ≡ s
unfolding slot_in slot_bytes two_bytes num16
slot_again s =
    rw (two_back s.F, two_back s.E, two_back s.R, two_back s.X, two_back s.G, two_back s.S)

-- The body of a plan's first n devices; the plan has no other.
module _ (p : Plan) (n : ℕ) where
  front : List ℕ
  front = two_bytes p.N ++ two_bytes p.W ++ two_bytes p.B ++ two_bytes p.Q

  front_long : length front ≡ 8
  unfolding front two_bytes
  front_long = refl

  body_is : body_bytes p n ≡ front ++ slots_bytes p.slots n
  unfolding body_bytes two_bytes front
  body_is = refl

  module _ (i : ℕ) (low : 1 ≤ i) (high : i ≤ n) where
    field : (j : ℕ) → j + 1 < 12 → num16 (body_bytes p n) (8 + 12 * (i - 1) + j) ≡ num16 (slot_bytes (slot p i)) j
    unfolding slot
    field j h =
        rw body_is
        (number_stands front 8 front_long (λ k. slot_bytes (slot p k)) 12 (λ k. slot_wide (slot p k)) n i low high j h)

    first_field : num16 (body_bytes p n) (8 + 12 * (i - 1)) ≡ num16 (slot_bytes (slot p i)) 0
    unfolding slot
    first_field =
        rw body_is
        (first_stands front 8 front_long (λ k. slot_bytes (slot p k)) 12 (λ k. slot_wide (slot p k)) n i low high (omega arith))

    slot_back : slot_in (body_bytes p n) (8 + 12 * (i - 1)) ≡ slot p i
    unfolding slot_in
    slot_back =
        rw (first_field, field 2 (omega arith), field 4 (omega arith), field 6 (omega arith), field 8 (omega arith), field 10 (omega arith))
        (slot_again (slot p i))

  module _ (eight : length p.slots ≡ 8) (unused : (i : ℕ) → n < i → i ≤ 8 → slot p i ≡ empty_slot) where
    slots_back : slots_in n (body_bytes p n) ≡ p.slots
    unfolding slots_in slot
    slots_back =
        tabulate_same _ (slot p) 8
        (λ i low high.
        case (leb i n)
        (λ e. rw e (slot_back i low (leb-true i n e)))
        (λ e. rw e (sym (unused i (leb-false i n e) high))))
        ∙ tabulate_back p.slots empty_slot 8 eight

    pub plan_again : plan_in n (body_bytes p n) ≡ p
    unfolding plan_in body_bytes two_bytes num16
    plan_again = rw (slots_back, two_back p.N, two_back p.W, two_back p.B, two_back p.Q)

pub plan_back : PlanBack
unfolding whole_plan
plan_back p eight =
    rw (eq-eqb (length (plan_bytes p)) plan_size (body_wide p 8)) (plan_again p 8 eight (λ i above high. absurd (omega arith)))

-- Bytes that are a body for n devices.
module _ (n : ℕ) (most : n ≤ 8) (body : List ℕ) (small : AllBytes body) (long : length body ≡ 8 + 12 * n) where
  slot_given : (at : ℕ) → at + 12 ≤ length body → slot_bytes (slot_in body at) ≡ take 12 (drop at body)
  unfolding slot_in slot_bytes
  slot_given at room =
      rw (
        two_given body small at (omega arith),
        two_given body small (at + 2) (omega arith),
        two_given body small (at + 4) (omega arith),
        two_given body small (at + 6) (omega arith),
        two_given body small (at + 8) (omega arith),
        two_given body small (at + 10) (omega arith),
      )
      (rw (parts_join body at 2 2, parts_join body at 4 2, parts_join body at 6 2, parts_join body at 8 2)
      (parts_join body at 10 2))

  slot_read : (i : ℕ) → 1 ≤ i → i ≤ n → get_or (slots_in n body) (i - 1) empty_slot ≡ slot_in body (8 + 12 * (i - 1))
  unfolding slot plan_in
  slot_read i low high = (slots_read n body i low (omega arith)).0 high

  slots_given : slots_bytes (slots_in n body) n ≡ take (12 * n) (drop 8 body)
  slots_given =
      pieces_join (λ i. slot_bytes (get_or (slots_in n body) (i - 1) empty_slot)) body 8 12 n
      (λ i low high. rw (slot_read i low high) (slot_given (8 + 12 * (i - 1)) (omega arith)))

  pub body_given : body_bytes (plan_in n body) n ≡ body
  unfolding body_bytes plan_in
  body_given =
      rw (
        slots_given,
        two_given body small 0 (omega arith),
        two_given body small 2 (omega arith),
        two_given body small 4 (omega arith),
        two_given body small 6 (omega arith),
        parts_join body 0 2 2,
        parts_join body 0 4 2,
        parts_join body 0 6 2,
        parts_join body 0 8 (12 * n),
      )
      (take_all (8 + 12 * n) body (omega arith))
