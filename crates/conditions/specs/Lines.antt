-- The lines of the table that are asked at one index, in its order: the number of the first that is broken, if one is.
-- These are what the plan check computes on the way; what its caller is promised is `plan_verdict` of the rules.
use Rattle.std.specs.Prelude.{ℕ, ◌+◌, ◌-◌, ◌*◌, Bool, not, ◌&&◌, cond, leb, ltb, eqb, Option, None, Some}
use Rattle.rules.specs.declared.Slot.{Slot}
use Rattle.rules.specs.Plan.{stay_of, is_time}

-- N is 2 to 8.
abbrev pub size_holds : ℕ → Bool
size_holds N = leb 2 N && leb N 8

-- c1 of the yard, of a device, of a pair.
abbrev pub yard_times : ℕ → ℕ → ℕ → Bool
yard_times W B Q = is_time W && is_time B && is_time Q

abbrev pub device_times : Slot → Bool
device_times s = is_time s.F && is_time s.E && is_time s.R && is_time s.X

abbrev pub pair_times : Slot → Bool
pair_times s = is_time s.G && is_time s.S

-- What line 3 asks of device N, and of a slot above N.
abbrev pub no_spacing : Slot → Bool
no_spacing s = eqb s.G 0 && eqb s.S 0

abbrev pub all_zero : Slot → Bool
all_zero s = eqb s.F 0 && eqb s.E 0 && eqb s.R 0 && eqb s.X 0 && eqb s.G 0 && eqb s.S 0

-- c2 to c7; c4 at a device with k devices before it.
abbrev pub c2_holds : ℕ → ℕ → ℕ → Bool
c2_holds N W LS = ltb (N * W) LS

abbrev pub c3_holds : ℕ → ℕ → ℕ → ℕ → Bool
c3_holds N W Q LS = ltb ((N - 1) * W) Q && ltb Q LS

abbrev pub c4_holds : ℕ → ℕ → ℕ → Slot → Bool
c4_holds k W LS s = leb (k * W + stay_of s) LS

abbrev pub c5_holds : Slot → Slot → Bool
c5_holds s next = ltb (s.E + s.G) next.E

abbrev pub c6_holds : ℕ → Slot → Slot → Bool
c6_holds W s next = ltb (W + stay_of next) (s.E + s.R)

abbrev pub c7_holds : Slot → Bool
c7_holds s = ltb s.S s.X

-- At the yard's index: lines 1, 2, 4 and 5.
unfoldable pub yard_line : ℕ → ℕ → ℕ → ℕ → ℕ → Option ℕ
yard_line N W B Q LS =
    cond (not (size_holds N)) (Some 1)
    (cond (not (yard_times W B Q)) (Some 2) (cond (not (c2_holds N W LS)) (Some 4) (cond (not (c3_holds N W Q LS)) (Some 5) None)))

-- At a device that makes a pair with the next: lines 2, 6, 7, 8 and 9.
unfoldable pub pair_line : ℕ → ℕ → ℕ → Slot → Slot → Option ℕ
pair_line k W LS s next =
    cond (not (device_times s && pair_times s)) (Some 2)
    (cond (not (c4_holds k W LS s)) (Some 6)
    (cond (not (c5_holds s next)) (Some 7) (cond (not (c6_holds W s next)) (Some 8) (cond (not (c7_holds s)) (Some 9) None))))

-- At device N: lines 2, 3 and 6.
unfoldable pub last_line : ℕ → ℕ → ℕ → Slot → Option ℕ
last_line k W LS s =
    cond (not (device_times s)) (Some 2) (cond (not (no_spacing s)) (Some 3) (cond (not (c4_holds k W LS s)) (Some 6) None))

-- At a slot above N: line 3.
unfoldable pub unused_line : Slot → Option ℕ
unused_line s = cond (not (all_zero s)) (Some 3) None

-- At the slot with k slots before it.
unfoldable pub slot_line : ℕ → ℕ → ℕ → ℕ → Slot → Slot → Option ℕ
slot_line k N W LS s next =
    cond (ltb (k + 1) N) (pair_line k W LS s next) (cond (eqb (k + 1) N) (last_line k W LS s) (unused_line s))
