-- The number that the program ends with. Only clauses of private functions use what stands here.
use Rattle.std.specs.Prelude.{ℕ}
use Rattle.loda_mine.specs.declared.status.Status.{Status}
use Rattle.loda_mine.specs.declared.status.Status.TheVariants as statuses

-- by its status: 0 where all was read and written, and another number for each other status
abbrev pub exit_number : Status → ℕ
exit_number statuses.Done = 0
exit_number statuses.Usage = 2
exit_number (statuses.ReadFault file) = 3
exit_number statuses.WriteFault = 4
exit_number (statuses.FileTooLarge file size) = 5
exit_number (statuses.LineTooLong file line) = 6
exit_number (statuses.BadTerms line kind) = 7
exit_number (statuses.BadStore line kind) = 8
exit_number (statuses.BadCandidates line kind) = 9
exit_number (statuses.Unsound reason) = 10
exit_number statuses.Memory = 11
exit_number (statuses.Absent name) = 12
