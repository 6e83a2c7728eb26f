-- A letter and a piece are had back from their numbers.
use Rattle.std.proofs.Common.{Option, ◌≡◌, refl}
use Rattle.rules.specs.declared.Down.{Down}
use Rattle.rules.specs.Downs as down
use Rattle.finder_rules.specs.declared.Piece.{Piece}
use Rattle.finder_rules.specs.declared.Piece.TheVariants.{InFile, InRoll}
use Rattle.rules.specs.Numbers.{down_number, down_index}
use Rattle.exports_rules.specs.Calls.{which_of, start_of, length_of}
use Rattle.exports_rules.specs.Theorems.{letter_told, piece_told, ToldApart}

letter_told_lem : (l : Option Down) → letter_told (down_number l) (down_index l) ≡ l
unfolding letter_told
letter_told_lem down.none = refl
letter_told_lem (down.LeaseReq i) = refl
letter_told_lem (down.Grant i) = refl
letter_told_lem (down.Cancel i) = refl
letter_told_lem (down.Abort i) = refl

piece_told_lem : (x : Piece) → piece_told (which_of x) (start_of x) (length_of x) ≡ x
unfolding piece_told
piece_told_lem (InFile s n) = refl
piece_told_lem (InRoll s n) = refl

pub told_apart : ToldApart
told_apart = record { letter = letter_told_lem; piece = piece_told_lem }
