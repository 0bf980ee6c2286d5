use Rattle.std.proofs.Common.{arith}
use Rattle.version_pages.proofs.Tables.{IsReached-found, IsReached-done}
use Rattle.version_pages.proofs.table.next_after.Goals as goal

pub returns-in-Some-clause-found : goal.returns-in-Some-clause-found
returns-in-Some-clause-found g c =
    let e = c.in-Some.ensures in
    IsReached-found _ _ _ _ _ c.loop-page.invariant (omega arith) e.range e.found e.least

pub returns-clause-none : goal.returns-clause-none
returns-clause-none g c = IsReached-done _ _ _ _ c.loop-page.invariant (omega arith)
