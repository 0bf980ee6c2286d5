-- Which findings are accepted. Only clauses of private functions use what stands here.
use Rattle.std.specs.Prelude.{ℕ, ◌≡◌}
use Rattle.program_store.specs.declared.published.Proposal.{Proposal}
use Rattle.judge.specs.declared.answer.Answer.TheVariants.{Accepted}
use Rattle.evidence.specs.declared.finding.Finding.{Finding}
use Rattle.evidence.specs.declared.finding.Finding.TheVariants.{Judged}

-- a proposal was judged and accepted
abbrev pub IsAcceptedFinding : Finding → Type 0
IsAcceptedFinding f = (p : Proposal) × (checked : ℕ) × (f ≡ Judged p (Accepted checked))
