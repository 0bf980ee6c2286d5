use Rattle.std.proofs.Common.{◌∙◌, sym, subst, List, Contains}
use Rattle.std.specs.Prelude.{IsSome}
use Rattle.loda_semantics.specs.declared.kinds.Pair.{Pair}
use Rattle.demand_table.specs.declared.work.Work.{Work}
use Rattle.demand_table.specs.Counts.{IsCount}
use Rattle.demand_table.specs.Drawn.{Runs, IsDrawn, with_range, HasNoCycle}
use Rattle.demand_table.specs.Loaded.{Folders, slots_of, node_at, checks_of}
use Rattle.demand_table.specs.Work.{runs_in, IsDropping, IsDropped}
use Rattle.demand_table.specs.Mended.{mended, run_at, runs_of, drawing_of}
use Rattle.demand_table.specs.Mending.{IsCleared}
use Rattle.demand_table.proofs.Drawings.{drawn_from}
use Rattle.demand_table.proofs.Whole.{counted_first, mended_all, dropping_starts, none_unsettled, settling_starts, slots_first, many_first, settled_dropped, forgotten_from, dropped_same, many_last}
use Rattle.demand_table.proofs.remade.mended.Goals as goal

pub clear-requires-clause-counted : goal.clear-requires-clause-counted
clear-requires-clause-counted c =
    let w : Work = record { touched = c.new.result } in
    counted_first (checks_of c.args.folders.now) (node_at c.args.folders.now) c.requires.drawn (slots_of c.of-known.result.pages.now w) (slots_first w c.of-known.result.pages.now c.args.folders.now c.new.ensures.empty c.of-known.ensures)

pub clear-requires-clause-many : goal.clear-requires-clause-many
clear-requires-clause-many c =
    let w : Work = record { touched = c.new.result } in
    many_first (node_at c.args.folders.now) (slots_of c.of-known.result.pages.now w) c.args.nodes (slots_first w c.of-known.result.pages.now c.args.folders.now c.new.ensures.empty c.of-known.ensures) c.requires.count

pub drop_dead-requires-clause-no_cycle : goal.drop_dead-requires-clause-no_cycle
drop_dead-requires-clause-no_cycle c =
    let w : Work = record { touched = c.new.result } in
    let fresh = slots_first w c.of-known.result.pages.now c.args.folders.now c.new.ensures.empty c.of-known.ensures in
    let cleared = subst (λ (l : List Pair). IsCleared (slots_of c.of-known.result.pages.now w) (slots_of c.of-known.result.pages.now c.clear.new.work) c.args.name l c.clear.new.pending.items c.in_ok-left.left) c.new-pending.ensures.items c.in_ok-left.ensures in
    let all = mended_all (checks_of c.args.folders.now) (node_at c.args.folders.now) c.requires.drawn (slots_of c.of-known.result.pages.now w) fresh c.args.name c.args.range c.args.runs.now c.requires.fits
    (slots_of c.of-known.result.pages.now c.clear.new.work) (slots_of c.of-known.result.pages.now c.put_all.new.work) c.clear.new.pending.items c.put_all.new.pending.items c.in_ok-left.left c.in_ok-stand.stand cleared c.in_ok-stand.ensures in
    subst HasNoCycle (sym all) c.requires.fits.closed.no_cycle

pub drop_dead-requires-clause-dropping : goal.drop_dead-requires-clause-dropping
drop_dead-requires-clause-dropping c =
    let w : Work = record { touched = c.new.result } in
    let fresh = slots_first w c.of-known.result.pages.now c.args.folders.now c.new.ensures.empty c.of-known.ensures in
    let cleared = subst (λ (l : List Pair). IsCleared (slots_of c.of-known.result.pages.now w) (slots_of c.of-known.result.pages.now c.clear.new.work) c.args.name l c.clear.new.pending.items c.in_ok-left.left) c.new-pending.ensures.items c.in_ok-left.ensures in
    let starts = dropping_starts (checks_of c.args.folders.now) (node_at c.args.folders.now) c.requires.drawn (slots_of c.of-known.result.pages.now w) fresh c.args.name c.args.range c.args.runs.now c.requires.fits
    (slots_of c.of-known.result.pages.now c.clear.new.work) (slots_of c.of-known.result.pages.now c.put_all.new.work) c.clear.new.pending.items c.put_all.new.pending.items c.in_ok-left.left c.in_ok-stand.stand cleared c.in_ok-stand.ensures in
    subst (λ (f : Folders). IsDropping (with_range (checks_of f) c.args.name c.args.range) (runs_in (slots_of c.of-known.result.pages.now c.put_all.new.work)) (slots_of c.of-known.result.pages.now c.put_all.new.work) c.put_all.new.pending.items c.in_ok-stand.stand) (sym c.of.ensures) starts

pub forget_all-requires-clause-settled : goal.forget_all-requires-clause-settled
forget_all-requires-clause-settled c =
    let w : Work = record { touched = c.new.result } in
    let fresh = slots_first w c.of-known.result.pages.now c.args.folders.now c.new.ensures.empty c.of-known.ensures in
    let cleared = subst (λ (l : List Pair). IsCleared (slots_of c.of-known.result.pages.now w) (slots_of c.of-known.result.pages.now c.clear.new.work) c.args.name l c.clear.new.pending.items c.in_ok-left.left) c.new-pending.ensures.items c.in_ok-left.ensures in
    let none = none_unsettled (checks_of c.args.folders.now) (node_at c.args.folders.now) c.requires.drawn (slots_of c.of-known.result.pages.now w) fresh c.args.name c.args.range c.args.runs.now c.requires.fits
    (slots_of c.of-known.result.pages.now c.clear.new.work) (slots_of c.of-known.result.pages.now c.put_all.new.work) c.clear.new.pending.items c.put_all.new.pending.items c.in_ok-left.left c.in_ok-stand.stand cleared c.in_ok-stand.ensures in
    settled_dropped (with_range (checks_of c.of.result.pages.now) c.args.name c.args.range) (slots_of c.of-known.result.pages.now c.put_all.new.work) (slots_of c.of-known.result.pages.now c.drop_dead.new.work) c.in_ok-nodes.nodes c.in_ok-nodes.ensures.dropped c.in_ok-nodes.ensures.totals none

pub settle_all-requires-clause-settling : goal.settle_all-requires-clause-settling
settle_all-requires-clause-settling c =
    let D = node_at c.args.folders.now in
    let C = checks_of c.args.folders.now in
    let w : Work = record { touched = c.new.result } in
    let w2 = slots_of c.of-known.result.pages.now c.put_all.new.work in
    let w3 = slots_of c.of-known.result.pages.now c.drop_dead.new.work in
    let w4 = slots_of c.of-known.result.pages.now c.forget_all.new.work in
    let fresh = slots_first w c.of-known.result.pages.now c.args.folders.now c.new.ensures.empty c.of-known.ensures in
    let cleared = subst (λ (l : List Pair). IsCleared (slots_of c.of-known.result.pages.now w) (slots_of c.of-known.result.pages.now c.clear.new.work) c.args.name l c.clear.new.pending.items c.in_ok-left.left) c.new-pending.ensures.items c.in_ok-left.ensures in
    let dropped = subst (λ (f : Folders). IsDropped (with_range (checks_of f) c.args.name c.args.range) (runs_in w2) w3 c.in_ok-nodes.nodes) c.of.ensures c.in_ok-nodes.ensures.dropped in
    let frames = subst (λ (l : List Pair). (p : Pair) → IsSome (run_at c.args.runs.now p) → Contains l p) (sym c.deref.ensures.value) c.in_ok-pairs.ensures.frames in
    let by_known = subst (λ (l : List Pair). (p : Pair) → Contains c.args.names.now p.name → IsSome (node_at c.of.result.pages.now p) → Contains l p) (sym c.deref.ensures.value) c.in_ok-pairs.ensures.named in
    let named = subst (λ (f : Folders). (p : Pair) → Contains c.args.names.now p.name → IsSome (node_at f p) → Contains c.deref.result.now p) c.of.ensures by_known in
    let forgotten = forgotten_from w3 w4 D c.args.names.now c.args.runs.now c.deref.result.now c.forget_all.new.unsettled.items c.in_ok-waiting.waiting c.in_ok-waiting.ensures frames named in
    record {
      can = settling_starts C D c.requires.drawn (slots_of c.of-known.result.pages.now w) fresh c.args.name c.args.range c.args.runs.now c.requires.fits
          (slots_of c.of-known.result.pages.now c.clear.new.work) w2 c.clear.new.pending.items c.put_all.new.pending.items c.in_ok-left.left c.in_ok-stand.stand cleared c.in_ok-stand.ensures
          w3 w4 c.args.names.now c.in_ok-nodes.nodes dropped c.in_ok-nodes.ensures.totals forgotten c.requires.has c.requires.covers;
      many = c.in_ok-waiting.ensures.count;
    }

pub settle_all-requires-clause-stand : goal.settle_all-requires-clause-stand
settle_all-requires-clause-stand c = λ q at. c.in_ok-waiting.ensures.stand q (subst (λ (l : List Pair). Contains l q) c.deref-2.ensures.value at)

pub returns-clause-drawn : goal.returns-clause-drawn
returns-clause-drawn c =
    let C = with_range (checks_of c.args.folders.now) c.args.name c.args.range in
    let w2 = slots_of c.of-known.result.pages.now c.put_all.new.work in
    let w3 = slots_of c.of-known.result.pages.now c.drop_dead.new.work in
    let w4 = slots_of c.of-known.result.pages.now c.forget_all.new.work in
    let w5 = slots_of c.of-known.result.pages.now c.settle_all.new.work in
    let settles = c.in_ok-settle_all.ensures.settles in
    let forgot = c.in_ok-waiting.ensures in
    let dropped = subst (λ (f : Folders). IsDropped (with_range (checks_of f) c.args.name c.args.range) (runs_in w2) w3 c.in_ok-nodes.nodes) c.of.ensures c.in_ok-nodes.ensures.dropped in
    let last = dropped_same C (runs_in w2) w3 w5 c.in_ok-nodes.nodes (λ q. settles.entry q ∙ forgot.entry q) (λ q. settles.callers q ∙ forgot.callers q) dropped in
    let w : Work = record { touched = c.new.result } in
    let fresh = slots_first w c.of-known.result.pages.now c.args.folders.now c.new.ensures.empty c.of-known.ensures in
    let cleared = subst (λ (l : List Pair). IsCleared (slots_of c.of-known.result.pages.now w) (slots_of c.of-known.result.pages.now c.clear.new.work) c.args.name l c.clear.new.pending.items c.in_ok-left.left) c.new-pending.ensures.items c.in_ok-left.ensures in
    let all = mended_all (checks_of c.args.folders.now) (node_at c.args.folders.now) c.requires.drawn (slots_of c.of-known.result.pages.now w) fresh c.args.name c.args.range c.args.runs.now c.requires.fits
    (slots_of c.of-known.result.pages.now c.clear.new.work) w2 c.clear.new.pending.items c.put_all.new.pending.items c.in_ok-left.left c.in_ok-stand.stand cleared c.in_ok-stand.ensures in
    let R = mended (runs_of (node_at c.args.folders.now)) c.args.name c.args.runs.now in
    subst (λ (f : Folders). IsDrawn C R (drawing_of (slots_of f c.settle_all.new.work))) c.of-known.ensures
    (drawn_from C R w5 c.in_ok-nodes.nodes
    (subst (λ (R : Runs). IsDropped C R w5 c.in_ok-nodes.nodes) all last) c.in_ok-settle_all.ensures.can c.in_ok-settle_all.ensures.known)

pub returns-clause-count : goal.returns-clause-count
returns-clause-count c =
    let C = with_range (checks_of c.args.folders.now) c.args.name c.args.range in
    let w2 = slots_of c.of-known.result.pages.now c.put_all.new.work in
    let w3 = slots_of c.of-known.result.pages.now c.drop_dead.new.work in
    let w4 = slots_of c.of-known.result.pages.now c.forget_all.new.work in
    let w5 = slots_of c.of-known.result.pages.now c.settle_all.new.work in
    let settles = c.in_ok-settle_all.ensures.settles in
    let forgot = c.in_ok-waiting.ensures in
    let dropped = subst (λ (f : Folders). IsDropped (with_range (checks_of f) c.args.name c.args.range) (runs_in w2) w3 c.in_ok-nodes.nodes) c.of.ensures c.in_ok-nodes.ensures.dropped in
    let last = dropped_same C (runs_in w2) w3 w5 c.in_ok-nodes.nodes (λ q. settles.entry q ∙ forgot.entry q) (λ q. settles.callers q ∙ forgot.callers q) dropped in
    subst (λ (f : Folders). IsCount (λ (p : Pair). IsSome (drawing_of (slots_of f c.settle_all.new.work) p)) c.in_ok-nodes.nodes) c.of-known.ensures
    (many_last C (runs_in w2) w5 c.in_ok-nodes.nodes last)
