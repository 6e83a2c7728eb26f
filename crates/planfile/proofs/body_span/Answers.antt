use Rattle.std.proofs.Common.{◌∙◌}
use Rattle.planfile.proofs.Places.{place_else}
use Rattle.planfile.proofs.body_span.Goals as goal

pub returns : goal.returns
returns c = c.unwrap_or.ensures ∙ place_else c.args.file.now c.body_place.ensures
