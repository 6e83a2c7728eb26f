use Rattle.std.proofs.Common.{sym}
use Rattle.text.proofs.Pens.{and_then, as_text}
use Rattle.listing_rules.proofs.Fields.{header_in_order}
use Rattle.line.proofs.header_line.Goals as goal

pub returns : goal.returns
returns c =
    let text = and_then c.word.ensures (and_then c.titles.ensures c.word-2.ensures) in
    as_text _ text (sym (header_in_order _))
