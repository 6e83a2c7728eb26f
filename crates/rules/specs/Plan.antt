-- Document 01, "The plan": the slots, LS, and which indices are those of a device, a pair, an unused slot.
-- Devices, pairs and slots are counted from 1. A time is a whole number of ticks, 1 to 36,000.
use Rattle.std.specs.Prelude.{ℕ, ◌+◌, ◌-◌, Bool, [], ◌∷◌, leb, ltb, get_or}
use Rattle.laws.specs.Tests.{all_of}
use Rattle.rules.specs.declared.Plan.{Plan}
use Rattle.rules.specs.declared.Slot.{Slot}
use Rattle.rules.specs.declared.Terms.{Terms}

-- A slot that is all zero.
abbrev pub empty_slot : Slot
empty_slot = record { F = 0; E = 0; R = 0; X = 0; G = 0; S = 0 }

-- The slot of device i.
unfoldable pub slot : Plan → ℕ → Slot
slot p i = get_or p.slots (i - 1) empty_slot

-- E + R + X of a slot, and of device i.
abbrev pub stay_of : Slot → ℕ
stay_of s = s.E + s.R + s.X

abbrev pub stay : Plan → ℕ → ℕ
stay p i = stay_of (slot p i)

-- LS = E1 + R1 + X1.
abbrev pub LS : Plan → ℕ
LS p = stay p 1

-- What the supervisor goes by: N, W, B and LS.
abbrev pub terms : Plan → Terms
terms p = record { N = p.N; W = p.W; B = p.B; LS = LS p }

-- A time that the plan may hold: 1 to 36,000.
unfoldable pub is_time : ℕ → Bool
is_time t = all_of (leb 1 t ∷ leb t 36000 ∷ [])

-- i is a device, 1 to N.
unfoldable pub is_device : Plan → ℕ → Bool
is_device p i = all_of (leb 1 i ∷ leb i p.N ∷ [])

-- i and i+1 are a pair: i is 1 to N-1.
unfoldable pub is_pair : Plan → ℕ → Bool
is_pair p i = all_of (leb 1 i ∷ ltb i p.N ∷ [])

-- Participants are 1 to N-1: each is the first of a pair.
abbrev pub is_participant : Plan → ℕ → Bool
is_participant p i = is_pair p i

-- i is a slot above N.
unfoldable pub is_above : Plan → ℕ → Bool
is_above p i = all_of (ltb p.N i ∷ leb i 8 ∷ [])
