-- Document 01, "Worked yards": the header and a line a tick, as bytes. The character of a byte stands beside it.
use Rattle.std.specs.Prelude.{ℕ, Bool, cond, List, [], ◌∷◌, ◌++◌, Option}
use Rattle.laws.specs.Lists.{tabulate}
use Rattle.text_rules.specs.Decimal.{decimal}
use Rattle.rules.specs.declared.Base.{Base}
use Rattle.rules.specs.declared.Base.TheVariants as base
use Rattle.rules.specs.declared.Place.{Place}
use Rattle.rules.specs.declared.Place.TheVariants as place
use Rattle.rules.specs.declared.Down.{Down}
use Rattle.rules.specs.Downs as down
use Rattle.rules.specs.declared.Yard.{Yard}
use Rattle.rules.specs.Yard.{device}

-- The supervisor: F, or L, C, A with i.
abbrev pub sup_text : Base → List ℕ
-- 'F'
sup_text base.FallBack = 70 ∷ []
-- 'L'
sup_text (base.Lease i) = 76 ∷ decimal i
-- 'C'
sup_text (base.Cancel i) = 67 ∷ decimal i
-- 'A'
sup_text (base.Abort i) = 65 ∷ decimal i

-- A device: F, Q, E, R, X for Exiting 1, Y for Exiting 2.
abbrev pub place_sign : Place → ℕ
-- 'F'
place_sign place.FallBack = 70
-- 'Q'
place_sign place.Requesting = 81
-- 'E'
place_sign place.Entering = 69
-- 'R'
place_sign place.Running = 82
-- 'X'
place_sign place.Exiting1 = 88
-- 'Y'
place_sign place.Exiting2 = 89

abbrev pub place_text : Place → List ℕ
place_text pl = place_sign pl ∷ []

-- '!' if lost.
abbrev pub mark : Bool → List ℕ
mark lost = cond lost (33 ∷ []) []

-- The down letter: Q LeaseReq, G Grant, C, A with i, marked if lost; '-' none, and then there is nothing to mark.
abbrev pub down_text : Option Down → Bool → List ℕ
-- '-'
down_text down.none lost = 45 ∷ []
-- 'Q'
down_text (down.LeaseReq i) lost = 81 ∷ decimal i ++ mark lost
-- 'G'
down_text (down.Grant i) lost = 71 ∷ decimal i ++ mark lost
-- 'C'
down_text (down.Cancel i) lost = 67 ∷ decimal i ++ mark lost
-- 'A'
down_text (down.Abort i) lost = 65 ∷ decimal i ++ mark lost

-- ' ' before each field but the first, and the newline at the line's end.
unfoldable pub spaced : List (List ℕ) → List ℕ
spaced [] = []
spaced (field ∷ fields) = 32 ∷ field ++ spaced fields

abbrev pub line_of : List ℕ → List (List ℕ) → List ℕ
line_of first others = first ++ spaced others ++ (10 ∷ [])

-- A line: tick number, supervisor, each of n devices, down letter.
unfoldable pub line_text : ℕ → ℕ → Yard → Option Down → Bool → List ℕ
line_text t n y l lost =
    line_of (decimal t)
    (sup_text y.base ∷ tabulate (λ i. place_text (device y i).place) n ++ (down_text l lost ∷ []))

-- The header: "tick", "sup", 'd' with i for each of n devices, "down".
unfoldable pub header_text : ℕ → List ℕ
header_text n =
    line_of (116 ∷ 105 ∷ 99 ∷ 107 ∷ [])
    ((115 ∷ 117 ∷ 112 ∷ []) ∷ tabulate (λ i. 100 ∷ decimal i) n ++ ((100 ∷ 111 ∷ 119 ∷ 110 ∷ []) ∷ []))
