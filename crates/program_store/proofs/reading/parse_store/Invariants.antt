use Rattle.std.proofs.Common.{◌≡◌, ◌+◌, ◌<◌, ◌^◌, ℕ, [], List, length}
use Rattle.program_store.specs.Store.{Store}
use Rattle.program_store.specs.Sections.{cut_from}
use Rattle.program_store.specs.Files.{store_read, entries_read}
use Rattle.program_store.proofs.ReadLoops.{puts}
use Rattle.program_store.proofs.reading.parse_store.Given as goal

-- what was read so far, and what is still read
pub record SoFar (bytes : List ℕ) (sign line : ℕ) (rest : List ℕ) (store : Store) (last : ℕ) : Type 0 where
  pub sign_is : sign ≡ 61
  pub fits : line + length rest < 2 ^ 64
  pub at_header : (cut_from sign line rest).before ≡ []
  pub read : puts store (entries_read last (cut_from sign line rest).sections) ≡ store_read bytes

abbrev pub invariant-loop-section : goal.invariant-loop-section
invariant-loop-section l = SoFar l.bytes l.file.sign l.file.line l.file.rest.now l.store l.last

abbrev pub decreases-loop-section : goal.decreases-loop-section
decreases-loop-section l = length l.file.rest.now
