-- The frames of a dossier whose proposal was accepted fit the demand table of its snapshot.
use Rattle.std.proofs.Common.{ℕ, ◌≤◌, ◌≡◌, sym, subst, List}
use Rattle.loda_syntax.specs.Programs.{Text}
use Rattle.program_store.specs.declared.published.Proposal.{Proposal}
use Rattle.program_store.specs.Store.{Store}
use Rattle.seq_calls.specs.declared.outcomes.NodeRun.{NodeRun}
use Rattle.seq_calls.specs.Demand.{ample}
use Rattle.judge.specs.declared.answer.Answer.TheVariants.{Accepted}
use Rattle.judge.specs.Passed.{Terms}
use Rattle.judge.specs.Sound.{Sound}
use Rattle.judge.specs.Judged.{IsJudged}
use Rattle.demand_table.specs.Drawn.{CheckedRanges}
use Rattle.demand_table.specs.Loaded.{Folders, node_at, checks_of}
use Rattle.demand_table.specs.Mended.{Fits, runs_of}
use Rattle.demand_table.specs.Replaceable.{AreRuns}
use Rattle.demand_table.specs.Table.{from_zero, checks_in_store, IsDemandTable}
use Rattle.demand_table.proofs.Bridge.{gives_fits}
use Rattle.demand_table.proofs.May.{may_replace, frames_of}
use Rattle.evidence.proofs.Replaceable.{replaceable}

pub frames_fit : (s : Store) (terms : Terms) (limit : ℕ) → limit ≤ ample → Sound s terms limit → (folders : Folders) → ((name : ℕ) → checks_of folders name ≡ checks_in_store s name)
    → IsDemandTable s (node_at folders) → (q : ℕ) (p : Text) (checked : ℕ) → IsJudged s terms limit q p (Accepted checked) → (runs : List NodeRun) → AreRuns s q p checked runs
    → Fits (checks_of folders) (runs_of (node_at folders)) q (from_zero checked) runs
frames_fit s terms limit le sound folders checks table q p checked judged runs are =
    let can = replaceable s terms limit q p checked le sound judged in
    let same : checks_of folders ≡ checks_in_store s = (λ i name. checks name i) in
    subst (λ (C : CheckedRanges). Fits C (runs_of (node_at folders)) q (from_zero checked) runs) (sym same)
    (gives_fits s q p checked (node_at folders) runs table (may_replace s q p checked can) (frames_of s q p checked runs are))
