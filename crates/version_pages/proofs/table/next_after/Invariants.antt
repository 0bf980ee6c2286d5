use Rattle.version_pages.proofs.Tables.{IsReached}
use Rattle.version_pages.proofs.table.next_after.Given as goal

abbrev pub invariant-loop-page : goal.invariant-loop-page
invariant-loop-page g l = IsReached l.table l.fn.after l.page l.from
