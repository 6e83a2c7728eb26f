use Rattle.std.proofs.Common.{sym}
use Rattle.text_rules.proofs.Laying.{as_text, and_then}
use Rattle.text_rules.proofs.Decimals.{one_digit, last_digit}
use Rattle.text.proofs.+digits.Goals as goal

pub returns-then-n-lt10 : goal.returns-then-n-lt10
returns-then-n-lt10 t c = as_text _ c.lay.ensures (sym (one_digit _ c.if-n-lt10.true))

pub returns : goal.returns
returns t c =
    let whole = and_then c.digits-e.ensures c.lay-2.ensures in as_text _ whole (sym (last_digit _ c.if-n-lt10.false))
