use Rattle.std.proofs.Common.{◌-◌, get_or}
use Rattle.laws.specs.Lists.{tabulate}
use Rattle.text.specs.Lays.{Lays}
use Rattle.rules.specs.Yard.{fresh_device}
use Rattle.listing_rules.specs.Text.{place_text, spaced}
use Rattle.fields.proofs.places.Given as goal

abbrev pub invariant-loop-k : goal.invariant-loop-k
invariant-loop-k l =
    Lays l.initial.pen (spaced (tabulate (λ i. place_text (get_or l.devices (i - 1) fresh_device).place) l.k)) l.pen
