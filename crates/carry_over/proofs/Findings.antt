-- What is true of a finding in one store is true in a later one, where no change touches its reach.
use Rattle.std.proofs.Common.{ℕ, List}
use Rattle.std.specs.declared.option.Option.{Option}
use Rattle.std.specs.declared.option.Option.TheVariants.{Some, None}
use Rattle.program_store.specs.declared.published.Proposal.{Proposal}
use Rattle.program_store.specs.Store.{Store}
use Rattle.seq_calls.specs.declared.outcomes.NodeRun.{NodeRun}
use Rattle.judge.specs.Passed.{Terms}
use Rattle.evidence.specs.declared.change.Change.{Change}
use Rattle.evidence.specs.declared.finding.Finding.{Finding}
use Rattle.evidence.specs.declared.finding.Finding.TheVariants.{Nothing, Judged}
use Rattle.evidence.specs.Findings.{accepted_count, AreRunsFor, AreItsRuns, IsTrueFinding}
use Rattle.carry_over.specs.Stores.{NoneHas}
use Rattle.carry_over.specs.Carries.{MeetsTheSame}
use Rattle.carry_over.specs.Changed.{changed_names}
use Rattle.carry_over.specs.Carrying.{AreFitting, IsInReachOf}
use Rattle.carry_over.proofs.Wide.{carries}
use Rattle.carry_over.proofs.Frames.{runs_carry}

module _ (terms : Terms) (limit : ℕ) (older newer : Store) (changes : List Change) where
  pub true_there : (f : Finding) → AreFitting terms limit older newer changes f → NoneHas (IsInReachOf older newer f) (changed_names changes) → IsTrueFinding newer terms limit f
  true_there Nothing fits none = tt
  true_there (Judged p a) fits none = (carries older terms limit (changed_names changes) newer p.name p.program fits.successor none).1 a fits.finding

  runs_of : (p : Proposal) (o : Option ℕ) (runs : List NodeRun) → MeetsTheSame older newer p.name p.program → AreRunsFor older p o runs → AreRunsFor newer p o runs
  runs_of p None runs meets h = h
  runs_of p (Some checked) runs meets h = runs_carry older newer p.name p.program checked runs meets h

  pub runs_there : (f : Finding) (runs : List NodeRun) → AreFitting terms limit older newer changes f → NoneHas (IsInReachOf older newer f) (changed_names changes) → AreItsRuns older f runs → AreItsRuns newer f runs
  runs_there Nothing runs fits none h = h
  runs_there (Judged p a) runs fits none h = runs_of p (accepted_count a) runs (carries older terms limit (changed_names changes) newer p.name p.program fits.successor none).0 h
