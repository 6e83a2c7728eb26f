-- From the least line over all indices to the verdict on the plan.
use Rattle.std.proofs.Common.{ℕ, zero, suc, ◌+◌, ◌≤◌, ◌<◌, arith, add-one, ◌≡◌, refl, sym, ◌∙◌, ap, Bool, true, false, List, [], ◌∷◌, length, get_or, Option, None, Some, Err, ltb, lt-ltb, ltb-true}
use Rattle.laws.proofs.Tests.{case}
use Rattle.rules.specs.declared.Plan.{Plan}
use Rattle.rules.specs.declared.Slot.{Slot}
use Rattle.rules.specs.Verdict.{Accepted, Refused}
use Rattle.rules.specs.Plan.{slot, LS, empty_slot}
use Rattle.rules.specs.Table.{table, broken, line_verdict, plan_verdict}
use Rattle.rules.proofs.Answers.{none_refused, refused_at}
use Rattle.rules.proofs.Plans.Table.{slot_at, accepted_line, refused_line}
use Rattle.conditions.specs.Lines.{size_holds, yard_line, slot_line}
use Rattle.rules.specs.declared.Refusal.{Refusal}
use Rattle.plan.specs.Places.{place_after}
use Rattle.plan.proofs.Least.{Least, IsLowest, lowest_of, lowest_is, refusal_at}
use Rattle.plan.proofs.Lines.{first_of, first_line, as_line, InTable, yard_first, slot_first, yard_in_table, not_first, wrong_size, few}

-- The first of a list that holds, counted from k: it holds there, and nothing before it does.
first_low : (k : ℕ) (bs : List Bool) → k ≤ first_of k bs
unfolding first_of
first_low k [] = omega arith
first_low k (true ∷ bs) = omega arith
first_low k (false ∷ bs) = omega (arith, first_low (suc k) bs)

first_high : (k : ℕ) (bs : List Bool) → first_of k bs ≤ k + length bs
unfolding first_of
first_high k [] = omega arith
first_high k (true ∷ bs) = omega arith
first_high k (false ∷ bs) = omega (arith, first_high (suc k) bs)

first_none : (k : ℕ) (bs : List Bool) (m : ℕ) → k + m < first_of k bs → get_or bs m false ≡ false
unfolding first_of
first_none k [] m h = refl
first_none k (true ∷ bs) m h = absurd (omega arith)
first_none k (false ∷ bs) zero h = refl
first_none k (false ∷ bs) (suc m) h = first_none (suc k) bs m (omega arith)

first_holds : (k : ℕ) (bs : List Bool) (m : ℕ) → k + m ≡ first_of k bs → m < length bs → get_or bs m false ≡ true
unfolding first_of
first_holds k [] m e h = absurd (omega arith)
first_holds k (true ∷ bs) zero e h = refl
first_holds k (true ∷ bs) (suc m) e h = absurd (omega arith)
first_holds k (false ∷ bs) zero e h = absurd (omega (arith, first_low (suc k) bs))
first_holds k (false ∷ bs) (suc m) e h = first_holds (suc k) bs m (omega arith) (omega arith)

module _ (p : Plan) where
  line_range : (i : ℕ) → (1 ≤ first_line p i) × (first_line p i ≤ 10)
  unfolding table
  line_range i = (first_low 1 (table p i), first_high 1 (table p i))

  none_before : (i m : ℕ) → m < first_line p i → broken p m i ≡ false
  unfolding broken
  none_before i zero h = refl
  none_before i (suc m) h = first_none 1 (table p i) m (omega arith)

  broken_there : (i m : ℕ) → first_line p i ≡ m → m ≤ 9 → broken p m i ≡ true
  unfolding broken table
  broken_there i zero e h = absurd (omega (arith, line_range i))
  broken_there i (suc m) e h = first_holds 1 (table p i) m (omega arith) (omega arith)

  -- The verdict, from the least line and the lowest index that has it.
  module _ (l a : ℕ) (h : Least (first_line p) 8 l a) where
    pub none_is_accepted : l ≡ 10 → plan_verdict p ≡ Accepted
    unfolding plan_verdict
    none_is_accepted e =
        none_refused (line_verdict p) 9
        (λ k low high. accepted_line p k (λ i inside. none_before i k (omega (arith, h.most i (omega arith)))))

    pub some_is_refused : (l ≡ 10 → ⊥) → plan_verdict p ≡ Refused l a
    unfolding plan_verdict
    some_is_refused ne =
        let range = line_range a in
        let has : first_line p a ≡ l = h.has in
        let inside : a ≤ 8 = h.within in
        refused_at (line_verdict p) 9 l a (omega arith) (omega arith)
        (refused_line p l a (omega arith) (broken_there a l has (omega arith)) (λ j lt. none_before j l (h.first j lt)))
        (λ m low lt. accepted_line p m (λ j inside. none_before j m (omega (arith, h.most j (omega arith)))))

-- What the check finds at index 0, and at index j + 1.
unfoldable pub found : Plan → ℕ → ℕ → Option ℕ
found p ls zero = yard_line p.N p.W p.B p.Q ls
found p ls (suc j) = slot_line j p.N p.W ls (get_or p.slots j empty_slot) (get_or p.slots (place_after j) empty_slot)

-- The next slot matters only to a pair.
next_matters :
    (k N W LS : ℕ) (s next other : Slot) → (k + 1 < N → next ≡ other) → slot_line k N W LS s next ≡ slot_line k N W LS s other
unfolding slot_line
next_matters k N W LS s next other h =
    case (ltb (k + 1) N) (λ q. rw (h (ltb-true _ _ q))) (λ q. rw q)

module _ (p : Plan) where
  abbrev pub finds : ℕ → Option ℕ
  finds = found p (LS p)

  abbrev lines : ℕ → ℕ
  lines j = as_line (finds j)

  all_in_table : (j : ℕ) → InTable (finds j)
  unfolding found
  all_in_table zero = yard_in_table p.N p.W p.B p.Q (LS p)
  all_in_table (suc j) = (not_first j p.N p.W (LS p) _ _).1

  -- At a plan of the right size the check finds at each index the first line that is broken there.
  finds_first : size_holds p.N ≡ true → (j : ℕ) → j ≤ 8 → lines j ≡ first_line p j
  unfolding found
  finds_first size zero h = sym (yard_first p size)
  finds_first size (suc j) h =
      ap as_line slots_are ∙ sym (slot_first p size j (omega arith)) ∙ ap (first_line p) (add-one j)
    where
      at_place : (k : ℕ) → get_or p.slots k empty_slot ≡ slot p (k + 1)
      at_place k = slot_at p k

      next_is : j + 1 < p.N → get_or p.slots (place_after j) empty_slot ≡ slot p (j + 1 + 1)
      next_is pair = rw (lt-ltb j 7 (omega (arith, few p size))) (slot_at p (j + 1))

      slots_are :
          slot_line j p.N p.W (LS p) (get_or p.slots j empty_slot) (get_or p.slots (place_after j) empty_slot)
          ≡ slot_line j p.N p.W (LS p) (slot p (j + 1)) (slot p (j + 1 + 1))
      slots_are = rw (at_place j) (next_matters j p.N p.W (LS p) (slot p (j + 1)) _ _ next_is)

  as_first : size_holds p.N ≡ true → (l a : ℕ) → Least lines 8 l a → Least (first_line p) 8 l a
  as_first size l a h =
      record {
        has = sym (finds_first size a h.within) ∙ h.has;
        within = h.within;
        most = λ j low. omega (arith, h.most j low, finds_first size j low);
        first = λ j low. omega (arith, h.first j low, finds_first size j (omega (arith, h.within)));
      }

  -- At a plan of the wrong size it finds line 1 at index 0, and no line 1 elsewhere.
  finds_size : size_holds p.N ≡ false → (l a : ℕ) → Least lines 8 l a → (l ≡ 1) × (a ≡ 0)
  unfolding found
  finds_size size l zero h =
      let one : lines 0 ≡ 1 = ap as_line ((wrong_size p size).1 p.W p.B p.Q (LS p)) in
      (sym h.has ∙ one, refl)
  finds_size size l (suc a) h =
      let one : lines 0 ≡ 1 = ap as_line ((wrong_size p size).1 p.W p.B p.Q (LS p)) in
      let two : 2 ≤ lines (suc a) = (not_first a p.N p.W (LS p) _ _).0 in
      absurd (omega (arith, h.has, h.most 0 (omega arith)))

  wrong_size_refused : size_holds p.N ≡ false → plan_verdict p ≡ Refused 1 0
  unfolding plan_verdict
  wrong_size_refused size =
      refused_at (line_verdict p) 9 1 0 (omega arith) (omega arith)
      (refused_line p 1 0 (omega arith) (wrong_size p size).0 (λ j lt. absurd (omega arith)))
      (λ m low lt. absurd (omega arith))

  -- What the check answers.
  found_none : IsLowest lines 8 None → Accepted ≡ plan_verdict p
  found_none h =
      sym
      (case (size_holds p.N)
      (λ size. none_is_accepted p 10 0 (as_first size 10 0 h) refl)
      (λ size. absurd (omega (arith, finds_size size 10 0 h))))

  found_some : (r : Refusal) → IsLowest lines 8 (Some r) → Err r ≡ plan_verdict p
  found_some r h =
      sym
      (case (size_holds p.N)
      (λ size. some_is_refused p r.number r.index (as_first size r.number r.index h.1) (λ e. omega (arith, h.0)))
      (λ size.
      let one = finds_size size r.number r.index h.1 in
      let it_is : Refused 1 0 ≡ Refused r.number r.index = rw (one.0, one.1) refl in
      wrong_size_refused size ∙ it_is))

  -- The same, said of what the check holds when its loop has ended.
  module _ (ls k : ℕ) (ls_is : ls ≡ LS p) (all : k ≡ 8) where
    same : (r : Option Refusal) → r ≡ lowest_of (found p ls) k → IsLowest lines 8 r
    same r e = rw (e, ls_is, all) (lowest_is finds all_in_table 8)

    pub ends_accepted : (line : Option ℕ) (at : ℕ) → refusal_at line at ≡ lowest_of (found p ls) k → line ≡ None → Accepted ≡ plan_verdict p
    ends_accepted line at e n = found_none (rw n at (same (refusal_at line at) e))

    pub ends_refused :
        (line : Option ℕ) (at number : ℕ)
        → refusal_at line at ≡ lowest_of (found p ls) k → line ≡ Some number → Refused number at ≡ plan_verdict p
    ends_refused line at number e s = found_some (record { number = number; index = at }) (rw s at (same (refusal_at line at) e))
