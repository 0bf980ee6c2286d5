-- The folders and the index after a replacement hold the mended table.
use Rattle.std.proofs.Common.{ℕ, ◌≡◌, ◌⊎◌, inl, inr, refl, sym, subst, ◌∙◌, Bool, true, false, List, Contains, if◌then◌else◌, ◌==◌}
use Rattle.std.specs.Prelude.{IsSome}
use Rattle.std.specs.declared.option.Option.{Option}
use Rattle.std.specs.declared.option.Option.TheVariants.{Some, None}
use Rattle.std.specs.Option.{option_and_then, option_map}
use Rattle.std.specs.FinMap as map
use Rattle.std.proofs.lemmas.Bool.{cases_eq}
use Rattle.text_parts.specs.Names.{IsName}
use Rattle.version_pages.specs.Names.{HasNamesOnly}
use Rattle.loda_semantics.specs.declared.kinds.Pair.{Pair}
use Rattle.seq_calls.specs.declared.outcomes.NodeRun.{NodeRun}
use Rattle.demand_table.specs.declared.entry.Entry.{Entry}
use Rattle.demand_table.specs.declared.node.Node.{Node}
use Rattle.demand_table.specs.declared.node.Folder.{Folder}
use Rattle.demand_table.specs.declared.range.Range.{Range}
use Rattle.demand_table.specs.Counts.{IsCount}
use Rattle.demand_table.specs.Drawn.{CheckedRanges, Runs, IsClosed, Drawing, node_entry, IsDrawn, with_range}
use Rattle.demand_table.specs.Loaded.{Folders, node_in, node_at, checks_of}
use Rattle.demand_table.specs.Mended.{run_of, run_at, either, apart_from, mended, runs_of, Fits}
use Rattle.demand_table.specs.Upward.{names_filed_under}
use Rattle.demand_table.specs.Reaching.{Index, Grows, HasRuns}
use Rattle.demand_table.specs.Held.{Covers, IsHeld}
use Rattle.demand_table.proofs.Drawings.{live_stands}
use Rattle.demand_table.proofs.Agreeing.{own_drawn}
use Rattle.demand_table.proofs.Whole.{frame_at, map_some}
use Rattle.demand_table.proofs.Filing.{range_off, range_of, has_folder}

no_range : (o : Option Range) → o ≡ None → IsSome o → ⊥
no_range None e h = cc
no_range (Some r) e h = cc

a_node : (o : Option Node) (n : Node) → o ≡ Some n → IsSome o
a_node None n e = cc
a_node (Some m) n e = refl

a_range : (o : Option Range) (r : Range) → o ≡ Some r → IsSome o
a_range None r e = cc
a_range (Some m) r e = refl

no_folder : (o : Option Folder) (p : Pair) → option_map range_of o ≡ None → option_and_then (λ (f : Folder). node_in f.nodes p.arg) o ≡ None
no_folder None p e = refl
no_folder (Some f) p e = cc

module _ (C : CheckedRanges) (R : Runs) (E : Drawing) (closed : IsClosed C R) (drawn : IsDrawn C R E) where
  none_drawn : (p : Pair) → C p.name ≡ None → E p ≡ None
  none_drawn p none = by (E p) refl
    where
      by : (o : Option Node) → E p ≡ o → E p ≡ None
      by None e = e
      by (Some n) e = absurd (no_range (C p.name) none (closed.named p (live_stands C R p closed ((drawn.live p).0 (a_node (E p) n e)))))

  module _ (next : Folders) (checks : (q : ℕ) → checks_of next q ≡ C q) (nodes : (p : Pair) → IsSome (C p.name) → node_at next p ≡ E p) where
    pub all_nodes : (p : Pair) → node_at next p ≡ E p
    all_nodes p = by (C p.name) refl
      where
        by : (o : Option Range) → C p.name ≡ o → node_at next p ≡ E p
        by (Some r) e = nodes p (a_range (C p.name) r e)
        by None e = no_folder (map.get next p.name) p (checks p.name ∙ e) ∙ sym (none_drawn p e)

    pub drawn_next : IsDrawn C R (node_at next)
    drawn_next = subst (λ (D : Drawing). IsDrawn C R D) (λ i p. sym (all_nodes p) i) drawn

    pub drawn_own : IsDrawn (checks_of next) (runs_of (node_at next)) (node_at next)
    drawn_own = own_drawn (checks_of next) R (node_at next) (subst (λ (K : CheckedRanges). IsDrawn K R (node_at next)) (λ i q. sym (checks q) i) drawn_next)

    pub count_next : (many : ℕ) → IsCount (λ (p : Pair). IsSome (E p)) many → IsCount (λ (p : Pair). IsSome (node_at next p)) many
    count_next many count = subst (λ (D : Drawing). IsCount (λ (p : Pair). IsSome (D p)) many) (λ i p. sym (all_nodes p) i) count

-- ---- the index

module _ (old : Folders) (callers grown : Index) (nodes name : ℕ) (range : Range) (runs : List NodeRun) (held : IsHeld old callers nodes) (is_name : IsName name) (named : HasNamesOnly old)
    (fits : Fits (checks_of old) (runs_of (node_at old)) name range runs) (grows : Grows callers grown) (has : HasRuns grown runs) where
  stands_name : (q : ℕ) → IsSome (with_range (checks_of old) name range q) → IsName q
  stands_name q there = by (cases_eq q name)
    where
      by : (q ≡ name) ⊎ (q ≡ name → ⊥) → IsName q
      by (inl e) = subst IsName (sym e) is_name
      by (inr other) = named q (has_folder (map.get old q) (subst (λ (o : Option Range). IsSome o) (range_off (checks_of old) name range q other) there))

  some_entry : (a b : Entry) → Some a ≡ Some b → a ≡ b
  some_entry a b e = cc

  covers_run : (p to : Pair) (e : Entry) → mended (runs_of (node_at old)) name runs p ≡ Some e → Contains e.calls to → IsName to.name → Contains (names_filed_under grown to.name) p.name
  covers_run p to e is at to_name = by (run_at runs p) refl is
    where
      old_run : (b : Bool) → (if b then None else runs_of (node_at old) p) ≡ Some e → Contains (names_filed_under grown to.name) p.name
      old_run true f = cc
      old_run false f =
          let there = map_some (node_at old p) e f in
          grows to.name p.name (held.covers p to there.0 there.1 (subst (λ (k : Entry). Contains k.calls to) (sym there.2) at))

      by : (o : Option Entry) → run_at runs p ≡ o → either o (apart_from name (runs_of (node_at old)) p) ≡ Some e → Contains (names_filed_under grown to.name) p.name
      by (Some k) found same =
          let frame = frame_at runs p k found in
          let calls : run_of frame.0 ≡ e = frame.3 ∙ some_entry k e same in
          subst (λ (r : Pair). Contains (names_filed_under grown to.name) r.name) frame.2
          (has frame.0 frame.1 to (subst (λ (k : Entry). Contains k.calls to) (sym calls) at) to_name)
      by None found same = old_run (p.name == name) same

  pub covers_next : (next : Folders) → IsDrawn (with_range (checks_of old) name range) (mended (runs_of (node_at old)) name runs) (node_at next) → Covers grown next
  covers_next next drawn p to n is at =
      let run = drawn.runs p n is in
      covers_run p to (node_entry n) run at (stands_name to.name (fits.closed.named to (fits.closed.called p to (node_entry n, run, at))))

-- a name of the list is followed by those that may call it
pub covered : (old : Folders) (callers grown : Index) (nodes : ℕ) (names : List ℕ) → IsHeld old callers nodes → Grows callers grown
    → ((to from : ℕ) → Contains names to → Contains (names_filed_under grown to) from → Contains names from)
    → (p to : Pair) (n : Node) → node_at old p ≡ Some n → Contains n.calls to → Contains names to.name → Contains names p.name
covered old callers grown nodes names held grows up p to n is at in' = up to.name p.name in' (grows to.name p.name (held.covers p to n is at))
