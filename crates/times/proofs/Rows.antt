-- What stands in the row of a plan's times, and how it is written.
use Rattle.std.proofs.Common.{ℕ, ◌+◌, ◌-◌, ◌*◌, ◌/◌, ◌%◌, ◌<◌, arith, ◌≡◌, refl, sym, ◌∙◌, ap, List, get_or, set, replicate}
use Rattle.laws.specs.Lists.{swept, tabulate}
use Rattle.laws.proofs.Lists.{tabulate_at, swept_next, swept_none, swept_all}
use Rattle.rules.specs.declared.Slot.{Slot}
use Rattle.rules.specs.Plan.{empty_slot}
use Rattle.times.specs.Times.{time_of, row_of}

module _ (Q : ℕ) (slots : List Slot) where
  -- The number at j, counted from 1, and the row whose first n numbers stand, the rest being zero.
  abbrev pub time_of_lem : ℕ → ℕ
  time_of_lem j = time_of Q (get_or slots ((j - 1) / 6) empty_slot) ((j - 1) % 6)

  abbrev pub row_to : ℕ → List ℕ
  row_to n = swept time_of_lem (λ j. 0) n 48

  module _ (k : ℕ) (few : k < 8) where
    pub time_at : (n : ℕ) → n < 6 → get_or (row_of Q slots) (6 * k + n) 0 ≡ time_of Q (get_or slots k empty_slot) n
    unfolding row_of
    time_at n low =
        let i : 6 * k + n + 1 - 1 ≡ 6 * k + n = omega arith in
        let slot : (6 * k + n + 1 - 1) / 6 ≡ k = omega arith in
        let which : (6 * k + n + 1 - 1) % 6 ≡ n = omega arith in
        ap (λ (j : ℕ). get_or (row_of Q slots) j 0) (sym i)
        ∙ tabulate_at time_of_lem 48 (6 * k + n + 1) 0 (omega arith) (omega arith)
        ∙ rw (slot, which)

    next_time :
        (l : List ℕ) (n i next x : ℕ) → n < 6 → i ≡ 6 * k + n → next ≡ i + 1 → x ≡ time_of Q (get_or slots k empty_slot) n
        → l ≡ row_to i → set l i x ≡ row_to next
    next_time l n i next x low i_is next_is x_is l_is =
        let slot : (i + 1 - 1) / 6 ≡ k = omega arith in
        let which : (i + 1 - 1) % 6 ≡ n = omega arith in
        rw (l_is, next_is) (swept_next time_of_lem (λ j. 0) 48 i x 0 (omega arith) (rw (slot, which) x_is))

    -- All six numbers of one slot.
    abbrev pub with_slot_lem : List ℕ → Slot → List ℕ
    with_slot_lem l s =
        let at : ℕ = 6 * k in
        let rest = set (set (set l at s.F) (at + 1) Q) (at + 2) s.E in
        set (set (set rest (at + 3) s.R) (at + 4) s.X) (at + 5) s.X

    pub slot_written :
        (l : List ℕ) (s : Slot) → s ≡ get_or slots k empty_slot → l ≡ row_to (6 * k) → with_slot_lem l s ≡ row_to (6 * (k + 1))
    unfolding time_of
    slot_written l s s_is l_is =
        next_time _ 5 (6 * k + 5) _ _ (omega arith) refl (omega arith) (ap (λ (z : Slot). z.X) s_is)
        (next_time _ 4 (6 * k + 4) _ _ (omega arith) refl (omega arith) (ap (λ (z : Slot). z.X) s_is)
        (next_time _ 3 (6 * k + 3) _ _ (omega arith) refl (omega arith) (ap (λ (z : Slot). z.R) s_is)
        (next_time _ 2 (6 * k + 2) _ _ (omega arith) refl (omega arith) (ap (λ (z : Slot). z.E) s_is)
        (next_time _ 1 (6 * k + 1) _ _ (omega arith) refl (omega arith) refl
        (next_time l 0 (6 * k) _ _ (omega arith) (omega arith) (omega arith) (ap (λ (z : Slot). z.F) s_is) l_is)))))

  pub begun : replicate 48 0 ≡ row_to 0
  unfolding tabulate
  begun = sym (swept_none time_of_lem (λ j. 0) 48)

  pub ended : (row : List ℕ) (k : ℕ) → row ≡ row_to (6 * k) → k ≡ 8 → row ≡ row_of Q slots
  unfolding row_of
  ended row k row_is eight =
      let all : 6 * k ≡ 48 = omega arith in
      rw all at row_is ∙ swept_all time_of_lem (λ j. 0) 48
