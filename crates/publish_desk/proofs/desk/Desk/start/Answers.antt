use Rattle.std.proofs.Common.{◌≡◌, refl, sym, subst, ◌∙◌, arith}
use Rattle.std.specs.Arc.{arc_value}
use Rattle.program_store.specs.Store.{Store}
use Rattle.oeis_terms.specs.Table.{Table, IsTable, row_of}
use Rattle.judge.specs.Sound.{Sound}
use Rattle.publish_desk.specs.declared.charter.Charter.{Charter}
use Rattle.publish_desk.specs.Source.{source_of}
use Rattle.publish_desk.specs.Desk.{IsChartered}
use Rattle.evidence.proofs.Checked.{checked_values}
use Rattle.judge.proofs.Fresh.{within_ample}
use Rattle.publish_desk.proofs.Opening.{opened}
use Rattle.publish_desk.proofs.desk.Desk.start.Goals as goal

pub build-requires-clause-values : goal.build-requires-clause-values
build-requires-clause-values c = checked_values c.args.opening _ c.args.limit (within_ample c.args.limit c.ranges.limit.fits) c.in-Ok.ensures.sound

pub invariant_of-result : goal.invariant_of-result
invariant_of-result c =
    let charter : Charter = record { opening = c.of.result.value; terms = arc_value c.args.terms; limit = c.args.limit; source = source_of c.args.origin; jobs = c.args.jobs } in
    let opening : c.of.result.value ≡ c.args.opening = c.of.ensures in
    let there : Sound c.args.opening (row_of (arc_value c.args.terms)) c.args.limit = subst (λ (t : Table). Sound c.args.opening (row_of t) c.args.limit) c.deref.ensures c.in-Ok.ensures.sound in
    let sound : Sound c.of.result.value (row_of (arc_value c.args.terms)) c.args.limit = subst (λ (s : Store). Sound s (row_of (arc_value c.args.terms)) c.args.limit) (sym opening) there in
    let places = c.resize.new.self in
    let h = opened charter c.in_ok-tables.tables c.in_ok-journal.journal.items places.items c.in_ok-marks.marks.items (c.in_ok-tables.ensures ∙ sym opening) c.in_ok-journal.ensures.items c.in_ok-marks.ensures.items
    (let a = places.ok.0 in let b = c.in_ok-resize.ensures.len in omega (arith, a, b)) (λ k lt. c.in_ok-resize.ensures.by_index.1 k 0 refl (let e = c.new-places.ensures.len in omega (arith, e)) lt) sound in
    let chartered : IsChartered charter = record {
      positive = c.requires.limit.0;
      limit = c.requires.limit.1;
      jobs = c.requires.jobs;
      listed = c.requires.listed;
      bounded = c.requires.bounded;
      table = subst IsTable c.deref-2.ensures c.rows.ensures.table;
    } in
    (h.0, chartered, h.1, h.2, c.in_ok-journal.ensures.capacity, c.in_ok-marks.ensures.capacity)
