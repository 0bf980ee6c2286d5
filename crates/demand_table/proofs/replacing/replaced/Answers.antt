use Rattle.std.proofs.Common.{ℕ, ◌≡◌, sym, subst, List, Contains}
use Rattle.std.specs.Prelude.{IsSome}
use Rattle.version_pages.specs.Names.{HasNamesOnly}
use Rattle.loda_semantics.specs.declared.kinds.Pair.{Pair}
use Rattle.demand_table.specs.Drawn.{with_range}
use Rattle.demand_table.specs.Loaded.{Folders, slots_of, node_at, checks_of}
use Rattle.demand_table.specs.Mended.{mended, runs_of, drawing_of}
use Rattle.demand_table.specs.Ascending.{AllAscend}
use Rattle.demand_table.specs.Upward.{names_filed_under}
use Rattle.demand_table.proofs.Holds.{covered, covers_next, drawn_next, drawn_own, count_next}
use Rattle.demand_table.proofs.replacing.replaced.Goals as goal

pub mended-requires-clause-covers : goal.mended-requires-clause-covers
mended-requires-clause-covers c =
    covered c.args.parts.now.folders c.args.parts.now.callers c.in_ok-callers.callers c.args.parts.now.nodes c.deref.result.now c.requires.held c.in_ok-callers.ensures.grows
    (subst (λ (l : List ℕ). (to from : ℕ) → Contains l to → Contains (names_filed_under c.in_ok-callers.callers to) from → Contains l from) (sym c.deref.ensures.value) c.in_ok-names.ensures.closed)

pub returns-clause-drawn : goal.returns-clause-drawn
returns-clause-drawn c =
    let old = c.args.parts.now.folders in
    let C = with_range (checks_of old) c.args.name c.args.range in
    let R = mended (runs_of (node_at old)) c.args.name c.args.runs.now in
    let E = drawing_of (slots_of old c.in_ok-made.made.work) in
    let checks = subst (λ (f : Folders). (q : ℕ) → checks_of c.in_ok-next.next q ≡ with_range (checks_of f) c.args.name c.args.range q) c.of-known.ensures c.in_ok-next.ensures.checks in
    let nodes = subst (λ (f : Folders). (p : Pair) → IsSome (with_range (checks_of f) c.args.name c.args.range p.name) → node_at c.in_ok-next.next p ≡ drawing_of (slots_of f c.in_ok-made.made.work) p) c.of-known.ensures c.in_ok-next.ensures.nodes in
    drawn_next C R E c.requires.fits.closed c.in_ok-made.ensures.drawn c.in_ok-next.next checks nodes

pub returns-clause-held : goal.returns-clause-held
returns-clause-held c =
    let old = c.args.parts.now.folders in
    let next = c.in_ok-next.next in
    let C = with_range (checks_of old) c.args.name c.args.range in
    let R = mended (runs_of (node_at old)) c.args.name c.args.runs.now in
    let E = drawing_of (slots_of old c.in_ok-made.made.work) in
    let checks = subst (λ (f : Folders). (q : ℕ) → checks_of next q ≡ with_range (checks_of f) c.args.name c.args.range q) c.of-known.ensures c.in_ok-next.ensures.checks in
    let nodes = subst (λ (f : Folders). (p : Pair) → IsSome (with_range (checks_of f) c.args.name c.args.range p.name) → node_at next p ≡ drawing_of (slots_of f c.in_ok-made.made.work) p) c.of-known.ensures c.in_ok-next.ensures.nodes in
    let names = subst HasNamesOnly c.of-known.ensures c.of-known.result.names in
    let drawn = drawn_next C R E c.requires.fits.closed c.in_ok-made.ensures.drawn next checks nodes in
    record {
      drawn = drawn_own C R E c.requires.fits.closed c.in_ok-made.ensures.drawn next checks nodes;
      ascend = subst (λ (f : Folders). AllAscend f → AllAscend next) c.of-known.ensures c.in_ok-next.ensures.ascend c.requires.held.ascend;
      count = count_next C R E c.requires.fits.closed c.in_ok-made.ensures.drawn next checks nodes c.in_ok-made.made.nodes c.in_ok-made.ensures.count;
      covers = covers_next old c.args.parts.now.callers c.in_ok-callers.callers c.args.parts.now.nodes c.args.name c.args.range c.args.runs.now c.requires.held c.requires.name names
          c.requires.fits c.in_ok-callers.ensures.grows c.in_ok-callers.ensures.runs next drawn;
    }
