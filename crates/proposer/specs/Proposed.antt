-- Which proposal of a list is made: the first that is accepted, else the first, else none.
use Rattle.std.specs.Prelude.{ℕ, ◌≡◌, ◌⊎◌, List, [], ◌∷◌}
use Rattle.std.specs.declared.option.Option.{Option}
use Rattle.std.specs.declared.option.Option.TheVariants.{Some, None}
use Rattle.oeis_terms.specs.Table.{Table, row_of}
use Rattle.program_store.specs.declared.published.Proposal.{Proposal}
use Rattle.program_store.specs.Store.{Store}
use Rattle.judge.specs.declared.answer.Answer.TheVariants.{Accepted}
use Rattle.judge.specs.Passed.{Terms}
use Rattle.judge.specs.Judged.{IsJudged}
use Rattle.proposer.specs.Short.{short}

-- judging accepts the proposal in the store
abbrev pub IsAccepted : Store → Terms → ℕ → Proposal → Type 0
IsAccepted s terms limit p = (checked : ℕ) × IsJudged s terms limit p.name p.program (Accepted checked)

-- the first on the list that is accepted, else the default
abbrev pub IsFirstAccepted : Store → Terms → ℕ → Option Proposal → List Proposal → Option Proposal → Type 0
IsFirstAccepted s terms limit default [] o = o ≡ default
IsFirstAccepted s terms limit default (p ∷ ps) o =
    (IsAccepted s terms limit p × (o ≡ Some p)) ⊎ ((IsAccepted s terms limit p → ⊥) × IsFirstAccepted s terms limit default ps o)

-- the first of a list, or none
abbrev pub first_of_list : List Proposal → Option Proposal
first_of_list [] = None
first_of_list (p ∷ ps) = Some p

-- the first that is accepted, else the first, else none
abbrev pub IsChosen : Store → Terms → ℕ → List Proposal → Option Proposal → Type 0
IsChosen s terms limit list o = IsFirstAccepted s terms limit (first_of_list list) list o

-- what a job proposes in a store
abbrev pub IsProposed : Table → ℕ → ℕ → ℕ → Store → Option Proposal → Type 0
IsProposed table limit seed job s o = IsChosen s (row_of table) limit (short s table limit seed job) o

-- A job and a store have one proposal at most.
abbrev pub HasOneProposal : Table → ℕ → ℕ → ℕ → Store → Type 0
HasOneProposal table limit seed job s = (a b : Option Proposal) → IsProposed table limit seed job s a → IsProposed table limit seed job s b → a ≡ b
