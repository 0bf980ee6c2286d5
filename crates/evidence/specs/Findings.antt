-- What a finding says, and what it makes of a store.
use Rattle.std.specs.Prelude.{ℕ, ◌≡◌, List, []}
use Rattle.std.specs.declared.option.Option.{Option}
use Rattle.std.specs.declared.option.Option.TheVariants.{Some, None}
use Rattle.program_store.specs.declared.published.Proposal.{Proposal}
use Rattle.program_store.specs.Store.{Store, put_in, IsProposal}
use Rattle.seq_calls.specs.declared.outcomes.NodeRun.{NodeRun}
use Rattle.judge.specs.declared.answer.Answer.{Answer}
use Rattle.judge.specs.declared.answer.Answer.TheVariants.{Accepted, Unlisted, Cycle, WrongTerm, BrokenDependant, Costlier, NoGain}
use Rattle.judge.specs.Passed.{Terms}
use Rattle.judge.specs.Judged.{IsJudged}
use Rattle.demand_table.specs.Replaceable.{AreRuns}
use Rattle.evidence.specs.declared.finding.Finding.{Finding}
use Rattle.evidence.specs.declared.finding.Finding.TheVariants.{Nothing, Judged}

-- the checked count that an answer accepts
abbrev pub accepted_count : Answer → Option ℕ
accepted_count (Accepted checked) = Some checked
accepted_count Unlisted = None
accepted_count (Cycle through) = None
accepted_count (WrongTerm index got) = None
accepted_count (BrokenDependant at caller index was now) = None
accepted_count (Costlier at was now) = None
accepted_count NoGain = None

-- the next store, where a proposal was accepted
abbrev pub put_if : Store → Proposal → Option ℕ → Option Store
put_if s proposal None = None
put_if s proposal (Some checked) = Some (put_in s proposal.name proposal.program checked)

-- the store that a finding makes, where it accepts
abbrev pub next_store : Store → Finding → Option Store
next_store s Nothing = None
next_store s (Judged proposal answer) = put_if s proposal (accepted_count answer)

-- the finished runs that belong to a finding: those of an accepted program, and else none
abbrev pub AreRunsFor : Store → Proposal → Option ℕ → List NodeRun → Type 0
AreRunsFor s proposal None runs = runs ≡ []
AreRunsFor s proposal (Some checked) runs = AreRuns s proposal.name proposal.program checked runs

-- the runs are those of the finding: none where nothing was proposed
abbrev pub AreItsRuns : Store → Finding → List NodeRun → Type 0
AreItsRuns s Nothing runs = runs ≡ []
AreItsRuns s (Judged proposal answer) runs = AreRunsFor s proposal (accepted_count answer) runs

-- what is judged has a name and a well-formed program
abbrev pub IsNamed : Finding → Type 0
IsNamed Nothing = Unit {0}
IsNamed (Judged proposal answer) = IsProposal proposal

-- nothing was proposed, or the answer is that of judging
abbrev pub IsTrueFinding : Store → Terms → ℕ → Finding → Type 0
IsTrueFinding s terms limit Nothing = Unit {0}
IsTrueFinding s terms limit (Judged proposal answer) = IsJudged s terms limit proposal.name proposal.program answer

-- there are terms and a limit for which it is so
abbrev pub IsTrueForSome : Store → Finding → Type 0
IsTrueForSome s f = (terms : Terms) × (limit : ℕ) × IsTrueFinding s terms limit f

-- it is about this proposal, and nothing where there is none
abbrev pub IsAbout : Option Proposal → Finding → Type 0
IsAbout None f = f ≡ Nothing
IsAbout (Some p) f = (a : Answer) × (f ≡ Judged p a)
