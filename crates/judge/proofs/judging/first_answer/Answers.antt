use Rattle.std.proofs.Common.{sym}
use Rattle.oeis_terms.specs.Table.{row_of}
use Rattle.judge.specs.Judged.{IsJudged}
use Rattle.judge.specs.Replaced.{IsAnswerForAnyTerms}
use Rattle.judge.proofs.Sides.{if_ok}
use Rattle.judge.proofs.Rows.{bounded_row}
use Rattle.judge.proofs.Fresh.{judged_cycle, enters, judged_wrong, passes, judged_new}
use Rattle.judge.proofs.judging.first_answer.Goals as goal

pub returns-in-Some-2-clause-judged : goal.returns-in-Some-2-clause-judged
returns-in-Some-2-clause-judged g c =
    judged_cycle (g.V.View.store c.args.view.now) (row_of c.args.terms.now) c.args.limit c.args.proposal.now.name c.args.proposal.now.program
    c.in-Some.row.now (sym c.in-Some.ensures.row) (g.V.Library.programs c.args.view.now) (λ i n. g.met.V.View.same_programs c.args.view.now n i)
    c.in_ok-through.field-0 c.in-Some-2.through c.in-Some-2.is c.in_ok-through.ensures.some

pub new_count-requires : goal.new_count-requires
new_count-requires g c = bounded_row c.args.terms.now c.requires.bounded c.args.proposal.now.name c.in-Some.row.now (sym c.in-Some.ensures.row)

pub returns-in-Wrong-clause-judged : goal.returns-in-Wrong-clause-judged
returns-in-Wrong-clause-judged g c =
    let s = g.V.View.store c.args.view.now in
    let terms = row_of c.args.terms.now in
    let q = c.args.proposal.now.name in
    let p = c.args.proposal.now.program in
    let lib = g.V.Library.programs c.args.view.now in
    let listed = sym c.in-Some.ensures.row in
    judged_wrong s terms c.args.limit q p c.in-Some.row.now listed lib (λ i n. g.met.V.View.same_programs c.args.view.now n i)
    (enters s terms c.args.limit q p c.in-Some.row.now listed lib (λ i n. g.met.V.View.same_programs c.args.view.now n i) c.in_ok-through.field-0 c.in_default-2.is c.in_ok-through.ensures.none)
    c.checked_count-old.result c.in_ok-index.field-0 c.in-Wrong.index c.in-Wrong.got c.checked_count-old.ensures c.in-Wrong.is c.in_ok-index.ensures

pub returns-in-None-clause-judged : goal.returns-in-None-clause-judged
returns-in-None-clause-judged g c =
    let s = g.V.View.store c.args.view.now in
    let terms = row_of c.args.terms.now in
    let q = c.args.proposal.now.name in
    let p = c.args.proposal.now.program in
    let lib = g.V.Library.programs c.args.view.now in
    let listed = sym c.in-Some.ensures.row in
    judged_new s terms c.args.limit q p c.in-Some.row.now c.in-Checked.checked
    (passes s terms c.args.limit q p c.in-Some.row.now listed lib (λ i n. g.met.V.View.same_programs c.args.view.now n i)
    (enters s terms c.args.limit q p c.in-Some.row.now listed lib (λ i n. g.met.V.View.same_programs c.args.view.now n i) c.in_ok-through.field-0 c.in_default-2.is c.in_ok-through.ensures.none)
    c.checked_count-old.result c.in_ok-index.field-0 c.in-Checked.checked c.checked_count-old.ensures c.in-Checked.is c.in_ok-index.ensures)
    (sym c.in-None.ensures.value)

pub returns-clause-judged : goal.returns-clause-judged
returns-clause-judged g c =
    let s = g.V.View.store c.args.view.now in
    let terms = row_of c.args.terms.now in
    let q = c.args.proposal.now.name in
    let p = c.args.proposal.now.program in
    let lib = g.V.Library.programs c.args.view.now in
    let listed = sym c.in-Some.ensures.row in
    let passes_all = passes s terms c.args.limit q p c.in-Some.row.now listed lib (λ i n. g.met.V.View.same_programs c.args.view.now n i)
    (enters s terms c.args.limit q p c.in-Some.row.now listed lib (λ i n. g.met.V.View.same_programs c.args.view.now n i) c.in_ok-through.field-0 c.in_default-2.is c.in_ok-through.ensures.none)
    c.checked_count-old.result c.in_ok-index.field-0 c.in-Checked.checked c.checked_count-old.ensures c.in-Checked.is c.in_ok-index.ensures in
    if_ok c.replacement_answer.result (IsAnswerForAnyTerms s c.args.limit q p c.in-Checked.checked) (IsJudged s terms c.args.limit q p)
    (λ a h. h terms c.in-Some.row.now c.requires.sound passes_all) c.replacement_answer.ensures
