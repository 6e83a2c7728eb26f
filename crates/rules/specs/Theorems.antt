-- What keeps the definitions honest: statements for a reader to hold against document 01, each proved in proofs/ under the
-- name that stands beside it.
use Rattle.std.specs.Prelude.{ℕ, ◌+◌, ◌-◌, ◌*◌, ◌≤◌, ◌<◌, ◌≡◌, ◌↔◌, ◌⊎◌, true, false, List, map, ◌++◌, length, drop, Option}
use Rattle.laws.specs.Bits.{bit}
use Rattle.rules.specs.declared.Plan.{Plan}
use Rattle.rules.specs.declared.Yard.{Yard}
use Rattle.rules.specs.declared.Record.{Record}
use Rattle.rules.specs.declared.Base.{Base}
use Rattle.rules.specs.declared.Base.TheVariants as base
use Rattle.rules.specs.declared.Place.{Place}
use Rattle.rules.specs.declared.Place.TheVariants as place
use Rattle.rules.specs.declared.Letter.{Letter}
use Rattle.rules.specs.Letters as letter
use Rattle.rules.specs.Verdict.{Accepted, Refused}
use Rattle.rules.specs.Plan.{slot, stay, LS, empty_slot}
use Rattle.rules.specs.Table.{broken, plan_verdict}
use Rattle.rules.specs.Numbers.{place_number, place_of, letter_number, letter_of, base_number, base_index, base_of}
use Rattle.rules.specs.Yard.{device, engaged, fresh_yard, well_formed}
use Rattle.rules.specs.Tick.{tick}
use Rattle.rules.specs.Tick.Input.{valid_record}
use Rattle.rules.specs.Run.{record_start, after, engaged_byte, engaged_bytes}
use Rattle.rules.specs.Worked.{Case, answer, starred}

-- All times are whole ticks, 1 to 36,000.
pub record Time (t : ℕ) : Type 0 where
  pub low : 1 ≤ t
  pub high : t ≤ 36000

-- What the table asks of a plan, in its order.
pub record Accepts (p : Plan) : Type 0 where
  -- 1: N is 2 to 8
  pub devices : (2 ≤ p.N) × (p.N ≤ 8)
  -- 2: c1: W, B, Q; F, E, R, X of each device; G, S of each but device N
  pub yard_times : Time p.W × Time p.B × Time p.Q
  pub device_times :
      (i : ℕ) → 1 ≤ i → i ≤ p.N → Time (slot p i).F × Time (slot p i).E × Time (slot p i).R × Time (slot p i).X
  pub pair_times : (i : ℕ) → 1 ≤ i → i < p.N → Time (slot p i).G × Time (slot p i).S
  -- 3: device N has G = S = 0; the slots above N are all zero
  pub last_spacing : ((slot p p.N).G ≡ 0) × ((slot p p.N).S ≡ 0)
  pub unused : (i : ℕ) → p.N < i → i ≤ 8 → slot p i ≡ empty_slot
  -- 4: LS > N × W
  pub c2 : p.N * p.W < LS p
  -- 5: (N-1) × W < Q < LS
  pub c3 : ((p.N - 1) * p.W < p.Q) × (p.Q < LS p)
  -- 6: (i-1) × W + E + R + X of i ≤ LS
  pub c4 : (i : ℕ) → 1 ≤ i → i ≤ p.N → (i - 1) * p.W + stay p i ≤ LS p
  -- 7: E of i + G of i < E of i+1
  pub c5 : (i : ℕ) → 1 ≤ i → i < p.N → (slot p i).E + (slot p i).G < (slot p (i + 1)).E
  -- 8: E + R of i > W + E + R + X of i+1
  pub c6 : (i : ℕ) → 1 ≤ i → i < p.N → p.W + stay p (i + 1) < (slot p i).E + (slot p i).R
  -- 9: X of i > S of i
  pub c7 : (i : ℕ) → 1 ≤ i → i < p.N → (slot p i).S < (slot p i).X

-- Accepted exactly when the table asks nothing in vain (`accepted_exactly`).
abbrev pub AcceptedExactly : Type 0
AcceptedExactly = (p : Plan) → (plan_verdict p ≡ Accepted) ↔ Accepts p

-- Line k is broken at i, no line before it is broken at any index, and line k at no lower index.
pub record FirstBroken (p : Plan) (k i : ℕ) : Type 0 where
  pub here : broken p k i ≡ true
  pub no_line_before : (m j : ℕ) → m < k → broken p m j ≡ false
  pub no_lower_index : (j : ℕ) → j < i → broken p k j ≡ false

-- Refused with number k at index i exactly when line k is the first that is broken, and i its lowest index (`refused_exactly`).
abbrev pub RefusedExactly : Type 0
RefusedExactly = (p : Plan) (k i : ℕ) → (plan_verdict p ≡ Refused k i) ↔ FirstBroken p k i

-- Each starred case is answered as document 01 says (`worked_yards`).
abbrev pub WorkedYards : Type 0
WorkedYards = map (λ (c : Case). answer c.question) starred ≡ map (λ (c : Case). c.says) starred

-- A fresh yard, field by field: base and devices in Fall-Back, every clock 0, no letter waits, nobody is engaged
-- (`fresh_exactly`).
pub record FreshExactly : Type 0 where
  pub base : fresh_yard.base ≡ base.FallBack
  pub clock : fresh_yard.clock ≡ 0
  pub lease : fresh_yard.lease ≡ 0
  pub eight : length fresh_yard.devices ≡ 8
  pub places : (i : ℕ) → 1 ≤ i → i ≤ 8 → (device fresh_yard i).place ≡ place.FallBack
  pub clocks : (i : ℕ) → 1 ≤ i → i ≤ 8 → (device fresh_yard i).clock ≡ 0
  pub letters : (i : ℕ) → 1 ≤ i → i ≤ 8 → (device fresh_yard i).letter ≡ letter.none
  pub nobody : (i : ℕ) → 1 ≤ i → i ≤ 8 → engaged (device fresh_yard i).place ≡ false

-- Nothing is lost in the numbers of places, letters and bases: each is had back (`vocabulary_back`).
pub record VocabularyBack : Type 0 where
  pub places : (a : Place) → place_of (place_number a) ≡ a
  pub letters : (a : Option Letter) → letter_of (letter_number a) ≡ a
  pub bases : (b : Base) → base_of (base_number b) (base_index b) ≡ b

-- Under an accepted plan a tick keeps a well-formed state well formed: any such state, not only a reachable one, and on
-- any record, valid or not (`tick_keeps_form`).
abbrev pub TickKeepsForm : Type 0
TickKeepsForm =
    (p : Plan) (y : Yard) (r : Record) → plan_verdict p ≡ Accepted → well_formed p y ≡ true → well_formed p (tick p y r) ≡ true

-- A run over the first a ticks and then over the rest is one run over all: states and bytes (`run_splits`).
abbrev pub RunSplits : Type 0
RunSplits =
    (p : Plan) (y : Yard) (roll : List ℕ) (a b : ℕ)
    → (after p y roll (a + b) ≡ after p (after p y roll a) (drop (record_start a) roll) b)
    × (engaged_bytes p y roll (a + b)
    ≡ engaged_bytes p y roll a ++ engaged_bytes p (after p y roll a) (drop (record_start a) roll) b)

-- Bit i-1 of a tick's byte is set exactly when device i stands in Running or in Exiting 1; bits N and up are not set
-- (`engaged_exactly`).
abbrev pub EngagedExactly : Type 0
EngagedExactly =
    (p : Plan) (y : Yard)
    → ((i : ℕ) → 1 ≤ i → i ≤ p.N
    → (bit (engaged_byte p y) (i - 1) ≡ true) ↔ (((device y i).place ≡ place.Running) ⊎ ((device y i).place ≡ place.Exiting1)))
    × ((k : ℕ) → p.N ≤ k → bit (engaged_byte p y) k ≡ false)

-- What document 01 asks of a record.
pub record Valid (p : Plan) (r : Record) : Type 0 where
  -- byte 0: command 0, 1 or 2
  pub command : r.command ≤ 2
  -- byte 1: bits 2 and up zero
  pub flags : (k : ℕ) → 2 ≤ k → bit r.flags k ≡ false
  -- byte 2: bits N-1 and up zero
  pub willing : (k : ℕ) → p.N - 1 ≤ k → bit r.willing k ≡ false
  -- byte 3: bits N and up zero
  pub lost : (k : ℕ) → p.N ≤ k → bit r.lost k ≡ false

-- A record is taken exactly when it meets that (`valid_exactly`).
abbrev pub ValidExactly : Type 0
ValidExactly = (p : Plan) (r : Record) → (valid_record p r ≡ true) ↔ Valid p r

-- c6 along the chain gives c4: line 6 never decides whether a plan is accepted, only which number is named (`c6_gives_c4`).
abbrev pub C6GivesC4 : Type 0
C6GivesC4 =
    (p : Plan)
    → ((i : ℕ) → 1 ≤ i → i < p.N → p.W + stay p (i + 1) < (slot p i).E + (slot p i).R)
    → (i : ℕ) → 1 ≤ i → i ≤ p.N → (i - 1) * p.W + stay p i ≤ LS p
