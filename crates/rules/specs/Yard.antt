-- Document 01, "Yard and places": engaged, fresh, well formed.
use Rattle.std.specs.Prelude.{ℕ, ◌-◌, Bool, true, false, not, cond, [], ◌∷◌, leb, ltb, eqb, get_or, replicate, Option}
use Rattle.laws.specs.Tests.{all_of, each}
use Rattle.rules.specs.declared.Plan.{Plan}
use Rattle.rules.specs.Verdict.{Verdict}
use Rattle.rules.specs.declared.Base.{Base}
use Rattle.rules.specs.declared.Base.TheVariants as base
use Rattle.rules.specs.declared.Place.{Place}
use Rattle.rules.specs.declared.Place.TheVariants as place
use Rattle.rules.specs.declared.Letter.{Letter}
use Rattle.rules.specs.Letters as letter
use Rattle.rules.specs.declared.Device.{Device}
use Rattle.rules.specs.declared.Yard.{Yard}
use Rattle.rules.specs.declared.FreshAnswer.{FreshAnswer}
use Rattle.rules.specs.Verdict.{refused_if}
use Rattle.rules.specs.Numbers.{place_number, letter_number}
use Rattle.rules.specs.Plan.{slot, LS, is_device, is_participant}
use Rattle.rules.specs.Table.{plan_verdict}

abbrev pub same_place : Place → Place → Bool
same_place a b = eqb (place_number a) (place_number b)

abbrev pub same_letter : Option Letter → Option Letter → Bool
same_letter a b = eqb (letter_number a) (letter_number b)

-- Each device holds its place, its clock and at most one letter waiting to go up.
abbrev pub at : Place → ℕ → Option Letter → Device
at place clock letter = record { place = place; clock = clock; letter = letter }

-- A device changes in these ways and keeps the rest of itself. It goes to a place, where its clock starts at 0; it writes a
-- letter; it does both; its clock comes to a count. Where nothing changes it stays `d`.
abbrev pub goes_to : Place → Device → Device
goes_to place d = record { place = place; clock = 0; letter = d.letter }

abbrev pub writes : Option Letter → Device → Device
writes letter d = record { place = d.place; clock = d.clock; letter = letter }

abbrev pub goes_writing : Place → Option Letter → Device → Device
goes_writing place letter d = writes letter (goes_to place d)

abbrev pub clock_at : ℕ → Device → Device
clock_at clock d = record { place = d.place; clock = clock; letter = d.letter }

abbrev pub fresh_device : Device
fresh_device = at place.FallBack 0 letter.none

-- Fresh: all in Fall-Back, clocks 0, no letters.
unfoldable pub fresh_yard : Yard
fresh_yard = record { base = base.FallBack; clock = 0; lease = 0; devices = replicate 8 fresh_device }

-- A fresh yard for a refused plan answers the refusal and the same fresh state.
unfoldable pub fresh_answer : Plan → FreshAnswer
fresh_answer p = record { verdict = plan_verdict p; yard = fresh_yard }

-- Device i, counted from 1.
unfoldable pub device : Yard → ℕ → Device
device y i = get_or y.devices (i - 1) fresh_device

-- A device is engaged in Running and Exiting 1.
unfoldable pub engaged : Place → Bool
engaged place.FallBack = false
engaged place.Requesting = false
engaged place.Entering = false
engaged place.Running = true
engaged place.Exiting1 = true
engaged place.Exiting2 = false

-- Every i is 1..N.
unfoldable pub index_formed : Plan → Base → Bool
index_formed p base.FallBack = true
index_formed p (base.Lease i) = is_device p i
index_formed p (base.Cancel i) = is_device p i
index_formed p (base.Abort i) = is_device p i

-- The place clock is at most B in Fall-Back, below W in Lease i with i < N, else 0.
unfoldable pub clock_formed : Plan → Base → ℕ → Bool
clock_formed p base.FallBack c = leb c p.B
clock_formed p (base.Lease i) c = cond (ltb i p.N) (ltb c p.W) (eqb c 0)
clock_formed p (base.Cancel i) c = eqb c 0
clock_formed p (base.Abort i) c = eqb c 0

-- The lease clock is 0 in Fall-Back, else below LS.
unfoldable pub lease_formed : Plan → Base → ℕ → Bool
lease_formed p base.FallBack l = eqb l 0
lease_formed p (base.Lease i) l = ltb l (LS p)
lease_formed p (base.Cancel i) l = ltb l (LS p)
lease_formed p (base.Abort i) l = ltb l (LS p)

-- Device clocks are at most F in Fall-Back and below Q, E, R, X in the other places; Requesting stands only at device N.
unfoldable pub place_formed : Plan → ℕ → Place → ℕ → Bool
place_formed p i place.FallBack c = leb c (slot p i).F
place_formed p i place.Requesting c = all_of (eqb i p.N ∷ ltb c p.Q ∷ [])
place_formed p i place.Entering c = ltb c (slot p i).E
place_formed p i place.Running c = ltb c (slot p i).R
place_formed p i place.Exiting1 c = ltb c (slot p i).X
place_formed p i place.Exiting2 c = ltb c (slot p i).X

-- Only participants hold a letter, Approve only in Entering with clock 0, Deny only in Fall-Back with clock 0.
-- No other letter waits between ticks.
unfoldable pub letter_formed : Plan → ℕ → Option Letter → Place → ℕ → Bool
letter_formed p i letter.none pl c = true
letter_formed p i letter.Approve pl c = all_of (is_participant p i ∷ same_place pl place.Entering ∷ eqb c 0 ∷ [])
letter_formed p i letter.Deny pl c = all_of (is_participant p i ∷ same_place pl place.FallBack ∷ eqb c 0 ∷ [])
letter_formed p i letter.Request pl c = false
letter_formed p i letter.Cancel pl c = false
letter_formed p i letter.Exit pl c = false

abbrev pub is_fresh : Device → Bool
is_fresh d = all_of (same_place d.place place.FallBack ∷ eqb d.clock 0 ∷ same_letter d.letter letter.none ∷ [])

-- Slots above N are fresh.
unfoldable pub device_formed : Plan → ℕ → Device → Bool
device_formed p i d =
    cond (leb i p.N)
    (all_of (place_formed p i d.place d.clock ∷ letter_formed p i d.letter d.place d.clock ∷ []))
    (is_fresh d)

unfoldable pub base_formed : Plan → Base → ℕ → ℕ → Bool
base_formed p b clock lease = all_of (index_formed p b ∷ clock_formed p b clock ∷ lease_formed p b lease ∷ [])

-- A state is well formed when all of these hold, at each of its eight devices.
unfoldable pub well_formed : Plan → Yard → Bool
well_formed p y =
    all_of (base_formed p y.base y.clock y.lease ∷ each (λ i. device_formed p i (device y i)) 8 ∷ [])

-- Otherwise refusal 11, index 0.
unfoldable pub state_verdict : Plan → Yard → Verdict
state_verdict p y = refused_if (not (well_formed p y)) 11 0
