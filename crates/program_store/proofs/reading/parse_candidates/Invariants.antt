use Rattle.std.proofs.Common.{◌≡◌, ◌+◌, ◌<◌, ◌^◌, ℕ, [], List, length}
use Rattle.program_store.specs.declared.published.Proposal.{Proposal}
use Rattle.program_store.specs.Sections.{cut_from}
use Rattle.program_store.specs.Files.{candidates_read, proposals_read}
use Rattle.program_store.proofs.ReadLoops.{with_front}
use Rattle.program_store.proofs.reading.parse_candidates.Given as goal

-- what was read so far, and what is still read
pub record SoFar (bytes : List ℕ) (sign line : ℕ) (rest : List ℕ) (list : List Proposal) : Type 0 where
  pub sign_is : sign ≡ 63
  pub fits : line + length rest < 2 ^ 64
  pub at_header : (cut_from sign line rest).before ≡ []
  pub read : with_front list (proposals_read (length list + 1) (cut_from sign line rest).sections) ≡ candidates_read bytes

abbrev pub invariant-loop-section : goal.invariant-loop-section
invariant-loop-section l = SoFar l.bytes l.file.sign l.file.line l.file.rest.now l.candidates

abbrev pub decreases-loop-section : goal.decreases-loop-section
decreases-loop-section l = length l.file.rest.now
