-- Places, letters, bases and down letters by number, 0 for Fall-Back and for no letter: the vocabulary that comparisons, bytes
-- and text share. A number that none of them has is read as 0 is.
use Rattle.std.specs.Prelude.{ℕ, cond, eqb, Option}
use Rattle.rules.specs.declared.Base.{Base}
use Rattle.rules.specs.declared.Base.TheVariants as base
use Rattle.rules.specs.declared.Place.{Place}
use Rattle.rules.specs.declared.Place.TheVariants as place
use Rattle.rules.specs.declared.Letter.{Letter}
use Rattle.rules.specs.Letters as letter
use Rattle.rules.specs.declared.Down.{Down}
use Rattle.rules.specs.Downs as down

-- Places.
abbrev pub place_number : Place → ℕ
place_number place.FallBack = 0
place_number place.Requesting = 1
place_number place.Entering = 2
place_number place.Running = 3
place_number place.Exiting1 = 4
place_number place.Exiting2 = 5

unfoldable pub place_of : ℕ → Place
place_of number =
    cond (eqb number 1) place.Requesting
    (cond (eqb number 2) place.Entering
    (cond (eqb number 3) place.Running
    (cond (eqb number 4) place.Exiting1
    (cond (eqb number 5) place.Exiting2 place.FallBack))))

-- Letters that wait to go up.
abbrev pub letter_number : Option Letter → ℕ
letter_number letter.none = 0
letter_number letter.Request = 1
letter_number letter.Cancel = 2
letter_number letter.Approve = 3
letter_number letter.Deny = 4
letter_number letter.Exit = 5

unfoldable pub letter_of : ℕ → Option Letter
letter_of number =
    cond (eqb number 1) letter.Request
    (cond (eqb number 2) letter.Cancel
    (cond (eqb number 3) letter.Approve
    (cond (eqb number 4) letter.Deny
    (cond (eqb number 5) letter.Exit letter.none))))

-- Where the base stands, and the device i of Lease i, Cancel i and Abort i; Fall-Back has none, and 0 stands for it.
abbrev pub base_number : Base → ℕ
base_number base.FallBack = 0
base_number (base.Lease i) = 1
base_number (base.Cancel i) = 2
base_number (base.Abort i) = 3

abbrev pub base_index : Base → ℕ
base_index base.FallBack = 0
base_index (base.Lease i) = i
base_index (base.Cancel i) = i
base_index (base.Abort i) = i

unfoldable pub base_of : ℕ → ℕ → Base
base_of number i =
    cond (eqb number 1) (base.Lease i)
    (cond (eqb number 2) (base.Cancel i)
    (cond (eqb number 3) (base.Abort i) base.FallBack))

-- Down letters, and the device that one is for; 0 for none.
abbrev pub down_number : Option Down → ℕ
down_number down.none = 0
down_number (down.LeaseReq i) = 1
down_number (down.Grant i) = 2
down_number (down.Cancel i) = 3
down_number (down.Abort i) = 4

abbrev pub down_index : Option Down → ℕ
down_index down.none = 0
down_index (down.LeaseReq i) = i
down_index (down.Grant i) = i
down_index (down.Cancel i) = i
down_index (down.Abort i) = i
