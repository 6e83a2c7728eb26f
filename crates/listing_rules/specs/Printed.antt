-- Document 01, "Worked yards": the three listings that it prints for plan P, byte for byte.
use Rattle.std.specs.Prelude.{ℕ, List, [], ◌∷◌, ◌++◌, length, drop}
use Rattle.rules.specs.Yard.{fresh_yard}
use Rattle.rules.specs.Worked.{P, nothing_lost, exit_lost, lease_req_lost}
use Rattle.listing_rules.specs.Text.{header_text}
use Rattle.listing_rules.specs.Listing.{lines_text}

-- Nothing lost: the header and every line.
unfoldable pub first_printed : List ℕ
first_printed =
    -- tick sup d1 d2 down
    116 ∷ 105 ∷ 99 ∷ 107 ∷ 32 ∷ 115 ∷ 117 ∷ 112 ∷ 32 ∷ 100 ∷ 49 ∷ 32 ∷ 100 ∷ 50 ∷ 32 ∷ 100 ∷ 111 ∷ 119 ∷ 110 ∷ 10
    -- 1 L1 E Q Q1
    ∷ 49 ∷ 32 ∷ 76 ∷ 49 ∷ 32 ∷ 69 ∷ 32 ∷ 81 ∷ 32 ∷ 81 ∷ 49 ∷ 10
    -- 2 L2 R E G2
    ∷ 50 ∷ 32 ∷ 76 ∷ 50 ∷ 32 ∷ 82 ∷ 32 ∷ 69 ∷ 32 ∷ 71 ∷ 50 ∷ 10
    -- 3 L2 R E -
    ∷ 51 ∷ 32 ∷ 76 ∷ 50 ∷ 32 ∷ 82 ∷ 32 ∷ 69 ∷ 32 ∷ 45 ∷ 10
    -- 4 L2 R E -
    ∷ 52 ∷ 32 ∷ 76 ∷ 50 ∷ 32 ∷ 82 ∷ 32 ∷ 69 ∷ 32 ∷ 45 ∷ 10
    -- 5 L2 R R -
    ∷ 53 ∷ 32 ∷ 76 ∷ 50 ∷ 32 ∷ 82 ∷ 32 ∷ 82 ∷ 32 ∷ 45 ∷ 10
    -- 6 L2 R R -
    ∷ 54 ∷ 32 ∷ 76 ∷ 50 ∷ 32 ∷ 82 ∷ 32 ∷ 82 ∷ 32 ∷ 45 ∷ 10
    -- 7 L2 R X -
    ∷ 55 ∷ 32 ∷ 76 ∷ 50 ∷ 32 ∷ 82 ∷ 32 ∷ 88 ∷ 32 ∷ 45 ∷ 10
    -- 8 C1 X F C1
    ∷ 56 ∷ 32 ∷ 67 ∷ 49 ∷ 32 ∷ 88 ∷ 32 ∷ 70 ∷ 32 ∷ 67 ∷ 49 ∷ 10
    -- 9 C1 X F -
    ∷ 57 ∷ 32 ∷ 67 ∷ 49 ∷ 32 ∷ 88 ∷ 32 ∷ 70 ∷ 32 ∷ 45 ∷ 10
    -- 10 F F F -
    ∷ 49 ∷ 48 ∷ 32 ∷ 70 ∷ 32 ∷ 70 ∷ 32 ∷ 70 ∷ 32 ∷ 45 ∷ 10
    ∷ []

-- Exit lost at tick 8: lines 8 to 11.
unfoldable pub second_printed : List ℕ
second_printed =
    -- 8 L2 R F -
    56 ∷ 32 ∷ 76 ∷ 50 ∷ 32 ∷ 82 ∷ 32 ∷ 70 ∷ 32 ∷ 45 ∷ 10
    -- 9 L2 X F -
    ∷ 57 ∷ 32 ∷ 76 ∷ 50 ∷ 32 ∷ 88 ∷ 32 ∷ 70 ∷ 32 ∷ 45 ∷ 10
    -- 10 L2 X F -
    ∷ 49 ∷ 48 ∷ 32 ∷ 76 ∷ 50 ∷ 32 ∷ 88 ∷ 32 ∷ 70 ∷ 32 ∷ 45 ∷ 10
    -- 11 F F F -
    ∷ 49 ∷ 49 ∷ 32 ∷ 70 ∷ 32 ∷ 70 ∷ 32 ∷ 70 ∷ 32 ∷ 45 ∷ 10
    ∷ []

-- LeaseReq lost at tick 1: lines 1 to 4.
unfoldable pub third_printed : List ℕ
third_printed =
    -- 1 L1 F Q Q1!
    49 ∷ 32 ∷ 76 ∷ 49 ∷ 32 ∷ 70 ∷ 32 ∷ 81 ∷ 32 ∷ 81 ∷ 49 ∷ 33 ∷ 10
    -- 2 C1 F Q C1
    ∷ 50 ∷ 32 ∷ 67 ∷ 49 ∷ 32 ∷ 70 ∷ 32 ∷ 81 ∷ 32 ∷ 67 ∷ 49 ∷ 10
    -- 3 C1 F Q -
    ∷ 51 ∷ 32 ∷ 67 ∷ 49 ∷ 32 ∷ 70 ∷ 32 ∷ 81 ∷ 32 ∷ 45 ∷ 10
    -- 4 C1 F F -
    ∷ 52 ∷ 32 ∷ 67 ∷ 49 ∷ 32 ∷ 70 ∷ 32 ∷ 70 ∷ 32 ∷ 45 ∷ 10
    ∷ []

-- The same by the definitions. Lines 8 to 11 are what the first 11 lines have behind the first 7.
unfoldable pub listed : List (List ℕ)
listed =
    (header_text 2 ++ lines_text P fresh_yard nothing_lost 0 10)
    ∷ drop (length (lines_text P fresh_yard exit_lost 0 7)) (lines_text P fresh_yard exit_lost 0 11)
    ∷ lines_text P fresh_yard lease_req_lost 0 4
    ∷ []

unfoldable pub printed : List (List ℕ)
printed = first_printed ∷ second_printed ∷ third_printed ∷ []
