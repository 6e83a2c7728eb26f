-- Places that are the same, as the numbers of the vocabulary say it.
use Rattle.std.proofs.Common.{◌≡◌, refl}
use Rattle.rules.specs.declared.Place.{Place}
use Rattle.rules.specs.declared.Place.TheVariants as place
use Rattle.rules.specs.contracts.Place.{the_type}
use denote.Enum.Bare.{sameb}
use denote.Enum.Declared.{tag_of}
use Rattle.rules.specs.Numbers.{place_number}
use Rattle.rules.specs.Yard.{same_place}

tag_is : (a : Place) → tag_of the_type a ≡ place_number a
tag_is place.FallBack = refl
tag_is place.Requesting = refl
tag_is place.Entering = refl
tag_is place.Running = refl
tag_is place.Exiting1 = refl
tag_is place.Exiting2 = refl

pub same_is : (a b : Place) → sameb the_type a b ≡ same_place a b
same_is a b = rw (tag_is a, tag_is b) refl
