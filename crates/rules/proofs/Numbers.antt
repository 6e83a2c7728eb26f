-- Places, letters and bases are had back from their numbers, and numbers from what they stand for.
use Rattle.std.proofs.Common.{Option, ◌≡◌, refl}
use Rattle.rules.specs.declared.Base.{Base}
use Rattle.rules.specs.declared.Base.TheVariants as base
use Rattle.rules.specs.declared.Place.{Place}
use Rattle.rules.specs.declared.Place.TheVariants as place
use Rattle.rules.specs.declared.Letter.{Letter}
use Rattle.rules.specs.Letters as letter
use Rattle.rules.specs.Numbers.{place_number, place_of, letter_number, letter_of, base_number, base_index, base_of}
use Rattle.rules.specs.Theorems.{VocabularyBack}

pub place_back : (a : Place) → place_of (place_number a) ≡ a
unfolding place_of
place_back place.FallBack = refl
place_back place.Requesting = refl
place_back place.Entering = refl
place_back place.Running = refl
place_back place.Exiting1 = refl
place_back place.Exiting2 = refl

pub letter_back : (a : Option Letter) → letter_of (letter_number a) ≡ a
unfolding letter_of
letter_back letter.none = refl
letter_back letter.Request = refl
letter_back letter.Cancel = refl
letter_back letter.Approve = refl
letter_back letter.Deny = refl
letter_back letter.Exit = refl

pub base_back : (b : Base) → base_of (base_number b) (base_index b) ≡ b
unfolding base_of
base_back base.FallBack = refl
base_back (base.Lease i) = refl
base_back (base.Cancel i) = refl
base_back (base.Abort i) = refl

pub vocabulary_back : VocabularyBack
vocabulary_back = record { places = place_back; letters = letter_back; bases = base_back }
