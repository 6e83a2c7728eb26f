-- A plan as text: one line for the yard and one for each device, in document 01's letters.
use Rattle.std.specs.Prelude.{ℕ, cond, List, [], ◌∷◌, ◌++◌, eqb}
use Rattle.laws.specs.Lists.{joined}
use Rattle.text_rules.specs.Decimal.{decimal}
use Rattle.rules.specs.declared.Plan.{Plan}
use Rattle.rules.specs.Plan.{slot}

-- A blank, the field's letter, a blank and its number.
abbrev pub field_text : ℕ → ℕ → List ℕ
field_text letter n = 32 ∷ letter ∷ 32 ∷ decimal n

-- Pieces of text, one behind the other.
abbrev pub together : List (List ℕ) → List ℕ
together [] = []
together (t ∷ ts) = t ++ together ts

abbrev pub line_feed : List ℕ
line_feed = 10 ∷ []

-- The yard's line: N 2 W 1 B 1 Q 3
unfoldable pub yard_text : Plan → List ℕ
yard_text p =
    together ((78 ∷ 32 ∷ decimal p.N) ∷ field_text 87 p.W ∷ field_text 66 p.B ∷ field_text 81 p.Q ∷ line_feed ∷ [])

-- Device i's line: 1 F 1 E 1 R 7 X 2 G 1 S 1; the last device's has no G and no S.
unfoldable pub device_text : Plan → ℕ → List ℕ
device_text p i =
    let s = slot p i in
    together
    (decimal i ∷ field_text 70 s.F ∷ field_text 69 s.E ∷ field_text 82 s.R ∷ field_text 88 s.X
    ∷ cond (eqb i p.N) (line_feed ∷ []) (field_text 71 s.G ∷ field_text 83 s.S ∷ line_feed ∷ []))

unfoldable pub plan_text : Plan → List ℕ
plan_text p = yard_text p ++ joined (device_text p) p.N
