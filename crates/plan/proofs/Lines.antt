-- The lines that are tried at an index are those of the table that are asked there.
use Rattle.std.proofs.Common.{ℕ, suc, ◌+◌, ◌-◌, ◌*◌, ◌≤◌, ◌<◌, arith, ◌≡◌, refl, ◌∙◌, sym, ap, ap₂, Bool, true, false, not, ◌&&◌, cond, List, [], ◌∷◌, Option, None, Some, leb, ltb, eqb, ltb-true, eq-eqb, ne_eqb, eqb-true}
use Rattle.laws.specs.Tests.{any_of}
use Rattle.laws.proofs.Tests.{tests, case, fails, on_cond, and_hold, all_is}
use Rattle.rules.specs.declared.Plan.{Plan}
use Rattle.rules.specs.declared.Slot.{Slot}
use Rattle.rules.specs.Plan.{slot, stay, LS, is_device, is_pair, is_above}
use Rattle.rules.specs.Table as rules_table
use Rattle.rules.specs.Table.{line1, line2, line3, line4, line5, line6, line7, line8, line9, table, broken}
use Rattle.rules.proofs.Plans.Table.{is_device_lem, is_pair_lem, is_above_lem, device_is, pair_is, above_is}
use Rattle.conditions.specs.Lines.{size_holds, yard_times, device_times, pair_times, no_spacing, all_zero, c2_holds, c3_holds, c4_holds, c5_holds, c6_holds, c7_holds, yard_line, pair_line, last_line, unused_line, slot_line}

-- The number, from k, of the first test of a list that holds.
unfoldable pub first_of : ℕ → List Bool → ℕ
first_of k [] = k
first_of k (b ∷ bs) = cond b k (first_of (suc k) bs)

-- A line that was found, and 10 where none was. The table has nine.
abbrev pub as_line : Option ℕ → ℕ
as_line None = 10
as_line (Some k) = k

abbrev pub InTable : Option ℕ → Type 0
InTable None = Unit
InTable (Some k) = k ≤ 9

-- The first of some tests that holds, by its line.
one_test : (a : Bool) (i : ℕ) → as_line (cond a (Some i) None) ≡ cond a i 10
one_test true i = refl
one_test false i = refl

three_tests :
    (a b c : Bool) (i j k : ℕ)
    → as_line (cond a (Some i) (cond b (Some j) (cond c (Some k) None))) ≡ cond a i (cond b j (cond c k 10))
three_tests true b c i j k = refl
three_tests false true c i j k = refl
three_tests false false c i j k = one_test c k

four_tests :
    (a b c d : Bool) (i j k l : ℕ)
    → as_line (cond a (Some i) (cond b (Some j) (cond c (Some k) (cond d (Some l) None))))
    ≡ cond a i (cond b j (cond c k (cond d l 10)))
four_tests true b c d i j k l = refl
four_tests false b c d i j k l = three_tests b c d j k l

five_tests :
    (a b c d e : Bool) (i j k l m : ℕ)
    → as_line (cond a (Some i) (cond b (Some j) (cond c (Some k) (cond d (Some l) (cond e (Some m) None)))))
    ≡ cond a i (cond b j (cond c k (cond d l (cond e m 10))))
five_tests true b c d e i j k l m = refl
five_tests false b c d e i j k l m = four_tests b c d e j k l m

-- The first line that is broken at index i, 10 where none is.
abbrev pub first_line : Plan → ℕ → ℕ
first_line p i = first_of 1 (table p i)

-- A line that is not asked at an index, and one that is.
not_asked : (a h : Bool) → a ≡ false → rules_table.fails a h ≡ false
unfolding rules_table.fails
not_asked a h e = rw e

asked : (a h : Bool) → a ≡ true → rules_table.fails a h ≡ not h
unfolding rules_table.fails
asked a h e = rw e

both : (a b : Bool) → any_of (false ∷ not a ∷ not b ∷ []) ≡ not (a && b)
unfolding any_of
both true true = refl
both true false = refl
both false b = refl

only_first : (a : Bool) → any_of (a ∷ false ∷ []) ≡ a
unfolding any_of
only_first true = refl
only_first false = refl

only_first_of : (a : Bool) → any_of (a ∷ false ∷ false ∷ []) ≡ a
unfolding any_of
only_first_of true = refl
only_first_of false = refl

only_second : (a : Bool) → any_of (false ∷ a ∷ false ∷ []) ≡ a
unfolding any_of
only_second true = refl
only_second false = refl

only_last : (a : Bool) → any_of (false ∷ a ∷ []) ≡ a
unfolding any_of
only_last true = refl
only_last false = refl

-- Lines that are asked elsewhere: not at this index of the yard, of a device, of a pair.
module _ (p : Plan) (i : ℕ) where
  not_yard : eqb i 0 ≡ false → (line1 p i ≡ false) × (line4 p i ≡ false) × (line5 p i ≡ false)
  unfolding line1 line4 line5
  not_yard e = (not_asked (eqb i 0) _ e, not_asked (eqb i 0) _ e, not_asked (eqb i 0) _ e)

  not_device : is_device p i ≡ false → line6 p i ≡ false
  unfolding line6
  not_device e = not_asked (is_device p i) _ e

  not_pair : is_pair p i ≡ false → (line7 p i ≡ false) × (line8 p i ≡ false) × (line9 p i ≡ false)
  unfolding line7 line8 line9
  not_pair e = (not_asked (is_pair p i) _ e, not_asked (is_pair p i) _ e, not_asked (is_pair p i) _ e)

module _ (p : Plan) where
  -- The yard's index.
  yard_size_lem : line1 p 0 ≡ not (size_holds p.N)
  unfolding line1
  yard_size_lem = asked (eqb 0 0) _ refl ∙ ap not (all_is _ (_ ∷ []))

  -- A plan of the wrong size breaks line 1, whatever else.
  pub wrong_size : size_holds p.N ≡ false → (broken p 1 0 ≡ true) × ((W B Q LS : ℕ) → yard_line p.N W B Q LS ≡ Some 1)
  unfolding broken table yard_line
  wrong_size e = (yard_size_lem ∙ rw e, λ W B Q LS. rw e)

  module _ (size : size_holds p.N ≡ true) where
    pub few : (2 ≤ p.N) × (p.N ≤ 8)
    few = let h = and_hold (leb 2 p.N) (leb p.N 8) size in omega tests

    no_device : is_device p 0 ≡ false
    no_device = fails (λ e. omega (arith, device_is p 0 e))

    no_pair : is_pair p 0 ≡ false
    no_pair = fails (λ e. omega (arith, pair_is p 0 e))

    yard_line2 : line2 p 0 ≡ not (yard_times p.W p.B p.Q)
    unfolding line2
    yard_line2 =
        rw (asked (eqb 0 0) _ refl, not_asked (is_device p 0) _ no_device, not_asked (is_pair p 0) _ no_pair)
        (only_first_of _ ∙ ap not (all_is _ (_ ∷ _ ∷ [])))

    yard_line3 : line3 p 0 ≡ false
    unfolding line3 any_of
    yard_line3 =
        rw (
          not_asked (eqb 0 p.N) _ (ne_eqb 0 p.N (λ e. omega (arith, few))),
          not_asked (is_above p 0) _ (fails (λ e. omega (arith, above_is p 0 e, few))),
        )

    yard_c2 : line4 p 0 ≡ not (c2_holds p.N p.W (LS p))
    unfolding line4
    yard_c2 = asked (eqb 0 0) _ refl

    yard_c3 : line5 p 0 ≡ not (c3_holds p.N p.W p.Q (LS p))
    unfolding line5
    yard_c3 = asked (eqb 0 0) _ refl ∙ ap not (all_is _ (_ ∷ []))

    pub yard_first : first_line p 0 ≡ as_line (yard_line p.N p.W p.B p.Q (LS p))
    unfolding first_of table yard_line
    yard_first =
        let off = not_pair p 0 no_pair in
        rw (yard_size_lem, yard_line2, yard_line3, yard_c2, yard_c3, not_device p 0 no_device, off.0, off.1, off.2)
        (sym (four_tests _ _ _ _ 1 2 4 5))

    -- A slot's index, which is no yard's.
    module _ (k : ℕ) where
      off : (line1 p (k + 1) ≡ false) × (line4 p (k + 1) ≡ false) × (line5 p (k + 1) ≡ false)
      off = not_yard p (k + 1) (ne_eqb (k + 1) 0 (λ e. omega arith))

      yard_off : (h : Bool) → rules_table.fails (eqb (k + 1) 0) h ≡ false
      yard_off h = not_asked (eqb (k + 1) 0) h (ne_eqb (k + 1) 0 (λ e. omega arith))

      c4_line : is_device p (k + 1) ≡ true → line6 p (k + 1) ≡ not (c4_holds k p.W (LS p) (slot p (k + 1)))
      unfolding line6
      c4_line e =
          asked (is_device p (k + 1)) _ e
          ∙ ap (λ (n : ℕ). not (leb (n * p.W + stay p (k + 1)) (LS p))) {x = k + 1 - 1} {y = k} (omega arith)

      -- A device that makes a pair with the next.
      module _ (pair : k + 1 < p.N) where
        its_device : is_device p (k + 1) ≡ true
        its_device = is_device_lem p (k + 1) (omega arith) (omega arith)

        its_pair : is_pair p (k + 1) ≡ true
        its_pair = is_pair_lem p (k + 1) (omega arith) pair

        pair_line2 : line2 p (k + 1) ≡ not (device_times (slot p (k + 1)) && pair_times (slot p (k + 1)))
        unfolding line2
        pair_line2 =
            let s : Slot = slot p (k + 1) in
            rw (yard_off _, asked (is_device p (k + 1)) _ its_device, asked (is_pair p (k + 1)) _ its_pair)
            (both (rules_table.all_times (s.F ∷ s.E ∷ s.R ∷ s.X ∷ [])) (rules_table.all_times (s.G ∷ s.S ∷ []))
            ∙ ap₂ (λ (a b : Bool). not (a && b)) (all_is _ (_ ∷ _ ∷ _ ∷ [])) (all_is _ (_ ∷ [])))

        pair_line3 : line3 p (k + 1) ≡ false
        unfolding line3 any_of
        pair_line3 =
            rw (
              not_asked (eqb (k + 1) p.N) _ (ne_eqb (k + 1) p.N (λ e. omega arith)),
              not_asked (is_above p (k + 1)) _ (fails (λ e. omega (arith, above_is p (k + 1) e))),
            )

        pair_c5_c6_c7 :
            (line7 p (k + 1) ≡ not (c5_holds (slot p (k + 1)) (slot p (k + 1 + 1))))
            × (line8 p (k + 1) ≡ not (c6_holds p.W (slot p (k + 1)) (slot p (k + 1 + 1))))
            × (line9 p (k + 1) ≡ not (c7_holds (slot p (k + 1))))
        unfolding line7 line8 line9
        pair_c5_c6_c7 =
            (asked (is_pair p (k + 1)) _ its_pair, asked (is_pair p (k + 1)) _ its_pair, asked (is_pair p (k + 1)) _ its_pair)

        pair_first : first_line p (k + 1) ≡ as_line (pair_line k p.W (LS p) (slot p (k + 1)) (slot p (k + 1 + 1)))
        unfolding first_of table pair_line
        pair_first =
            let c = pair_c5_c6_c7 in
            rw (off.0, pair_line2, pair_line3, off.1, off.2, c4_line its_device, c.0, c.1, c.2)
            (sym (five_tests _ _ _ _ _ 2 6 7 8 9))

      -- Device N.
      module _ (last : k + 1 ≡ p.N) where
        last_pair : is_pair p (k + 1) ≡ false
        last_pair = fails (λ e. omega (arith, pair_is p (k + 1) e))

        last_device : is_device p (k + 1) ≡ true
        last_device = is_device_lem p (k + 1) (omega arith) (omega arith)

        last_line2 : line2 p (k + 1) ≡ not (device_times (slot p (k + 1)))
        unfolding line2
        last_line2 =
            rw (yard_off _, asked (is_device p (k + 1)) _ last_device, not_asked (is_pair p (k + 1)) _ last_pair)
            (only_second _ ∙ ap not (all_is _ (_ ∷ _ ∷ _ ∷ [])))

        last_line3 : line3 p (k + 1) ≡ not (no_spacing (slot p (k + 1)))
        unfolding line3
        last_line3 =
            rw (
              asked (eqb (k + 1) p.N) _ (eq-eqb (k + 1) p.N last),
              not_asked (is_above p (k + 1)) _ (fails (λ e. omega (arith, above_is p (k + 1) e))),
            )
            (only_first _ ∙ ap not (all_is _ (_ ∷ [])))

        last_first : first_line p (k + 1) ≡ as_line (last_line k p.W (LS p) (slot p (k + 1)))
        unfolding first_of table last_line
        last_first =
            let no = not_pair p (k + 1) last_pair in
            rw (off.0, last_line2, last_line3, off.1, off.2, c4_line last_device, no.0, no.1, no.2)
            (sym (three_tests _ _ _ 2 3 6))

      -- A slot above N.
      module _ (over : p.N < k + 1) (high : k < 8) where
        over_device : is_device p (k + 1) ≡ false
        over_device = fails (λ e. omega (arith, device_is p (k + 1) e))

        over_pair : is_pair p (k + 1) ≡ false
        over_pair = fails (λ e. omega (arith, pair_is p (k + 1) e))

        over_line2 : line2 p (k + 1) ≡ false
        unfolding line2 any_of
        over_line2 =
            rw (yard_off _, not_asked (is_device p (k + 1)) _ over_device, not_asked (is_pair p (k + 1)) _ over_pair)

        over_line3 : line3 p (k + 1) ≡ not (all_zero (slot p (k + 1)))
        unfolding line3
        over_line3 =
            rw (
              not_asked (eqb (k + 1) p.N) _ (ne_eqb (k + 1) p.N (λ e. omega arith)),
              asked (is_above p (k + 1)) _ (is_above_lem p (k + 1) over (omega arith)),
            )
            (only_last _ ∙ ap not (all_is _ (_ ∷ _ ∷ _ ∷ _ ∷ _ ∷ [])))

        over_first : first_line p (k + 1) ≡ as_line (unused_line (slot p (k + 1)))
        unfolding first_of table unused_line
        over_first =
            let no = not_pair p (k + 1) over_pair in
            rw (off.0, over_line2, over_line3, off.1, off.2, not_device p (k + 1) over_device, no.0, no.1, no.2)
            (sym (one_test _ 3))

      pub slot_first :
          k < 8
          → first_line p (k + 1) ≡ as_line (slot_line k p.N p.W (LS p) (slot p (k + 1)) (slot p (k + 1 + 1)))
      unfolding slot_line
      slot_first high =
          case (ltb (k + 1) p.N)
          (λ q. rw q (pair_first (ltb-true _ _ q)))
          (λ q. rw q
          (case (eqb (k + 1) p.N)
          (λ e. rw e (last_first (eqb-true _ _ e)))
          (λ e. rw e (over_first (omega tests) high))))

-- What is found is a line of the table, above the yard's index not line 1.
pub yard_in_table : (N W B Q LS : ℕ) → InTable (yard_line N W B Q LS)
unfolding yard_line
yard_in_table N W B Q LS =
    on_cond InTable (not (size_holds N)) (λ q. omega arith)
    (λ q. on_cond InTable (not (yard_times W B Q)) (λ q. omega arith)
    (λ q. on_cond InTable (not (c2_holds N W LS)) (λ q. omega arith)
    (λ q. on_cond InTable (not (c3_holds N W Q LS)) (λ q. omega arith) (λ q. tt))))

pub not_first : (k N W LS : ℕ) (s next : Slot) → (2 ≤ as_line (slot_line k N W LS s next)) × InTable (slot_line k N W LS s next)
unfolding slot_line pair_line last_line unused_line
not_first k N W LS s next =
    let P : Option ℕ → Type 0 = λ o. (2 ≤ as_line o) × InTable o in
    on_cond P (ltb (k + 1) N)
    (λ q.
    on_cond P (not (device_times s && pair_times s)) (λ q. (omega arith, omega arith))
    (λ q. on_cond P (not (c4_holds k W LS s)) (λ q. (omega arith, omega arith))
    (λ q. on_cond P (not (c5_holds s next)) (λ q. (omega arith, omega arith))
    (λ q. on_cond P (not (c6_holds W s next)) (λ q. (omega arith, omega arith))
    (λ q. on_cond P (not (c7_holds s)) (λ q. (omega arith, omega arith)) (λ q. (omega arith, tt)))))))
    (λ q.
    on_cond P (eqb (k + 1) N)
    (λ q.
    on_cond P (not (device_times s)) (λ q. (omega arith, omega arith))
    (λ q. on_cond P (not (no_spacing s)) (λ q. (omega arith, omega arith))
    (λ q. on_cond P (not (c4_holds k W LS s)) (λ q. (omega arith, omega arith)) (λ q. (omega arith, tt)))))
    (λ q. on_cond P (not (all_zero s)) (λ q. (omega arith, omega arith)) (λ q. (omega arith, tt))))
