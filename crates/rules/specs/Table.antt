-- Document 01, "The plan": its table of refusals, line by line, over a general index, and the verdict on a plan.
-- Index 0 is the yard's, index i from 1 device i's, pair i's or slot i's. A line asks nothing at an index that is not its own.
use Rattle.std.specs.Prelude.{ℕ, zero, suc, ◌+◌, ◌-◌, ◌*◌, Bool, false, not, ◌&&◌, List, [], ◌∷◌, map, leb, ltb, eqb, get_or}
use Rattle.laws.specs.Tests.{all_of, any_of, lowest}
use Rattle.laws.specs.Lists.{tabulate}
use Rattle.rules.specs.declared.Plan.{Plan}
use Rattle.rules.specs.Verdict.{Verdict}
use Rattle.rules.specs.Verdict.{refused_if, first_refusal}
use Rattle.rules.specs.Plan.{slot, stay, LS, is_time, is_device, is_pair, is_above}

-- Asked at an index of its own, a condition does not hold.
unfoldable pub fails : Bool → Bool → Bool
fails asked holds = asked && not holds

-- Each of these is a time, 1 to 36,000.
abbrev pub all_times : List ℕ → Bool
all_times ts = all_of (map is_time ts)

-- Each of these is zero.
abbrev pub all_zero : List ℕ → Bool
all_zero ts = all_of (map (λ t. eqb t 0) ts)

-- 1: N outside 2..8; index 0.
unfoldable pub line1 : Plan → ℕ → Bool
line1 p i = fails (eqb i 0) (all_of (leb 2 p.N ∷ leb p.N 8 ∷ []))

-- 2: c1: a time (G, S of device N excepted) is 0 or above 36,000; index 0 for W, B, Q, else the device.
unfoldable pub line2 : Plan → ℕ → Bool
line2 p i =
    let s = slot p i in
    any_of
    (fails (eqb i 0) (all_times (p.W ∷ p.B ∷ p.Q ∷ []))
    ∷ fails (is_device p i) (all_times (s.F ∷ s.E ∷ s.R ∷ s.X ∷ []))
    ∷ fails (is_pair p i) (all_times (s.G ∷ s.S ∷ []))
    ∷ [])

-- 3: G or S of device N, or a slot above N, not zero; index the slot.
unfoldable pub line3 : Plan → ℕ → Bool
line3 p i =
    let s = slot p i in
    any_of
    (fails (eqb i p.N) (all_zero (s.G ∷ s.S ∷ []))
    ∷ fails (is_above p i) (all_zero (s.F ∷ s.E ∷ s.R ∷ s.X ∷ s.G ∷ s.S ∷ []))
    ∷ [])

-- 4: c2: not LS > N × W; index 0.
unfoldable pub line4 : Plan → ℕ → Bool
line4 p i = fails (eqb i 0) (ltb (p.N * p.W) (LS p))

-- 5: c3: not (N-1) × W < Q < LS; index 0.
unfoldable pub line5 : Plan → ℕ → Bool
line5 p i = fails (eqb i 0) (all_of (ltb ((p.N - 1) * p.W) p.Q ∷ ltb p.Q (LS p) ∷ []))

-- 6: c4: not (i-1) × W + E + R + X of i ≤ LS; index i, 1..N.
unfoldable pub line6 : Plan → ℕ → Bool
line6 p i = fails (is_device p i) (leb ((i - 1) * p.W + stay p i) (LS p))

-- 7: c5: not E of i + G of i < E of i+1; index i.
unfoldable pub line7 : Plan → ℕ → Bool
line7 p i = fails (is_pair p i) (ltb ((slot p i).E + (slot p i).G) (slot p (i + 1)).E)

-- 8: c6: not E + R of i > W + E + R + X of i+1; index i.
unfoldable pub line8 : Plan → ℕ → Bool
line8 p i = fails (is_pair p i) (ltb (p.W + stay p (i + 1)) ((slot p i).E + (slot p i).R))

-- 9: c7: not X of i > S of i; index i.
unfoldable pub line9 : Plan → ℕ → Bool
line9 p i = fails (is_pair p i) (ltb (slot p i).S (slot p i).X)

-- The table's lines at index i, in its order.
unfoldable pub table : Plan → ℕ → List Bool
table p i =
    line1 p i ∷ line2 p i ∷ line3 p i ∷ line4 p i ∷ line5 p i ∷ line6 p i ∷ line7 p i ∷ line8 p i ∷ line9 p i ∷ []

-- Line k is broken at index i. There is no line 0, and none above 9.
unfoldable pub broken : Plan → ℕ → ℕ → Bool
broken p zero i = false
broken p (suc k) i = get_or (table p i) k false

-- Line k of the table, with its lowest index. No line has an index above 8.
unfoldable pub line_verdict : Plan → ℕ → Verdict
line_verdict p k = let i = lowest (broken p k) 9 in refused_if (ltb i 9) k i

-- Numbers are tried in this order, each with its lowest index.
unfoldable pub plan_verdict : Plan → Verdict
plan_verdict p = first_refusal (tabulate (line_verdict p) 9)
