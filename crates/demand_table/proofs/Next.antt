-- The condition of a store, as the mending of its table asks it, and the table that comes of it.
use Rattle.std.proofs.Common.{ℕ, ◌≡◌, sym, ap, subst, ◌∙◌, List}
use Rattle.loda_syntax.specs.Programs.{Text}
use Rattle.program_store.specs.Store.{Store, programs_of, put_in}
use Rattle.seq_calls.specs.declared.outcomes.NodeRun.{NodeRun}
use Rattle.demand_table.specs.Drawn.{CheckedRanges, with_range, Drawing, IsDrawn}
use Rattle.demand_table.specs.Loaded.{Folders, node_at, checks_of}
use Rattle.demand_table.specs.Mended.{mended, Fits, runs_of}
use Rattle.demand_table.specs.Replaceable.{AreRuns, IsReplaceable}
use Rattle.demand_table.specs.Table.{from_zero, checks_in_store, IsDemandTable, MayReplace, AreFramesOf, IsWanted}
use Rattle.demand_table.specs.Tabled.{IsTabled}
use Rattle.demand_table.proofs.Bridge.{gives_fits, gives_table, checks_follow}
use Rattle.demand_table.proofs.May.{may_replace, frames_of}

module _ (s : Store) (folders : Folders) (held : IsTabled s folders) (q : ℕ) (text : Text) (checked : ℕ) (runs : List NodeRun)
    (can : IsReplaceable s q text checked) (are : AreRuns s q text checked runs) where
  same_checks : checks_of folders ≡ checks_in_store s
  same_checks = λ i name. held.checks name i

  may : MayReplace s q text checked
  may = may_replace s q text checked can

  frames : AreFramesOf (programs_of (put_in s q text checked)) (IsWanted s q checked) runs
  frames = frames_of s q text checked runs are

  pub fits_now : Fits (checks_of folders) (runs_of (node_at folders)) q (from_zero checked) runs
  fits_now =
      subst (λ (C : CheckedRanges). Fits C (runs_of (node_at folders)) q (from_zero checked) runs) (sym same_checks)
      (gives_fits s q text checked (node_at folders) runs held.table may frames)

  pub table_next : (E : Drawing) → IsDrawn (with_range (checks_of folders) q (from_zero checked)) (mended (runs_of (node_at folders)) q runs) E → IsDemandTable (put_in s q text checked) E
  table_next E drawn =
      gives_table s q text checked (node_at folders) runs held.table may frames E
      (subst (λ (C : CheckedRanges). IsDrawn (with_range C q (from_zero checked)) (mended (runs_of (node_at folders)) q runs) E) same_checks drawn)

  pub checks_next : (name : ℕ) → with_range (checks_of folders) q (from_zero checked) name ≡ checks_in_store (put_in s q text checked) name
  checks_next name = ap (λ (C : CheckedRanges). with_range C q (from_zero checked) name) same_checks ∙ checks_follow s q text checked name
