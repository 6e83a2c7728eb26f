-- The slots of a body: where each stands, and how they are read one after the other, at a general slot.
use Rattle.std.proofs.Common.{ℕ, ◌+◌, ◌-◌, ◌*◌, ◌<◌, arith, ◌≡◌, sym, ◌∙◌, ap, List, set, take, drop, le-leb}
use borrow.Author.Tests.{lt-leb}
use Rattle.laws.proofs.Lists.{tabulate_at, swept_none, swept_next}
use Rattle.numbers.proofs.Pieces.{number_part}
use Rattle.rules.specs.declared.Slot.{Slot}
use Rattle.rules.specs.Plan.{slot, empty_slot}
use Rattle.planfile_rules.specs.File.{slot_in, slots_in, plan_in, empty_plan}
use Rattle.planfile_rules.specs.Theorems.{SlotsRead}

pub slots_read : SlotsRead
unfolding slot plan_in slots_in
slots_read n body i low high =
    let here = tabulate_at _ 8 i empty_slot low high in
    (λ h. here ∙ rw (le-leb i n h), λ h. here ∙ rw (lt-leb i n h))

-- A slot is read from its own twelve bytes as from the body.
pub slot_part : (body : List ℕ) (at : ℕ) → slot_in (take (at + 12 - at) (drop at body)) 0 ≡ slot_in body at
unfolding slot_in
slot_part body at =
    let twelve : at + 12 - at ≡ 12 = omega arith in
    let none : at + 0 ≡ at = omega arith in
    rw (
      twelve,
      number_part body at 12 0 (omega arith),
      number_part body at 12 2 (omega arith),
      number_part body at 12 4 (omega arith),
      number_part body at 12 6 (omega arith),
      number_part body at 12 8 (omega arith),
      number_part body at 12 10 (omega arith),
      none,
    )

module _ (body : List ℕ) where
  pub none_read : empty_plan.slots ≡ slots_in 0 body
  unfolding empty_plan slots_in
  none_read = sym (swept_none (λ i. slot_in body (8 + 12 * (i - 1))) (λ i. empty_slot) 8)

  pub next_read :
      (k : ℕ) (s : Slot) → k < 8 → s ≡ slot_in body (8 + 12 * k) → set (slots_in k body) k s ≡ slots_in (k + 1) body
  unfolding slots_in
  next_read k s h e =
      swept_next (λ i. slot_in body (8 + 12 * (i - 1))) (λ i. empty_slot) 8 k s empty_slot h
      (e ∙ ap (λ (j : ℕ). slot_in body (8 + 12 * j)) {x = k} {y = k + 1 - 1} (omega arith))
