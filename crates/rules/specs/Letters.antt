-- The letter that waits at a device, or is heard of it: one of document 01's five, or none.
use Rattle.std.specs.Prelude.{Option, Some, None}
use Rattle.rules.specs.declared.Letter.{Letter}
use Rattle.rules.specs.declared.Letter.TheVariants as written

pattern abbrev pub none : Option Letter
none = None

pattern abbrev pub Request : Option Letter
Request = Some written.Request

pattern abbrev pub Cancel : Option Letter
Cancel = Some written.Cancel

pattern abbrev pub Approve : Option Letter
Approve = Some written.Approve

pattern abbrev pub Deny : Option Letter
Deny = Some written.Deny

pattern abbrev pub Exit : Option Letter
Exit = Some written.Exit
