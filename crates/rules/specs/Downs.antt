-- The letter that goes down in a tick: one of document 01's four with the device that it is for, or none.
use Rattle.std.specs.Prelude.{ℕ, Option, Some, None}
use Rattle.rules.specs.declared.Down.{Down}
use Rattle.rules.specs.declared.Down.TheVariants as sent

pattern abbrev pub none : Option Down
none = None

pattern abbrev pub LeaseReq : ℕ → Option Down
LeaseReq i = Some (sent.LeaseReq i)

pattern abbrev pub Grant : ℕ → Option Down
Grant i = Some (sent.Grant i)

pattern abbrev pub Cancel : ℕ → Option Down
Cancel i = Some (sent.Cancel i)

pattern abbrev pub Abort : ℕ → Option Down
Abort i = Some (sent.Abort i)
