use Rattle.std.proofs.Common.{◌≡◌, ap, true, false, arith}
use Rattle.demand_table.specs.Loaded.{node_at, the_pair}
use Rattle.demand_table.proofs.Leads.{none_next}
use Rattle.demand_table.proofs.leading.first_leading.Goals as goal

pub loop-index-preserved : goal.loop-index-preserved
loop-index-preserved c =
    let D = node_at c.args.known.now.pages.now in
    let no_one : c.in_ok-leads.field-0 ≡ false = c.if-branch.false in
    record {
      none = none_next D c.args.name c.args.to.now c.loop-index.index (the_pair c.args.name c.number_of.result) (ap (the_pair c.args.name) c.number_of.ensures) c.loop-index.invariant.none
          (λ l. let yes : c.in_ok-leads.field-0 ≡ true = c.in_ok-leads.ensures.leads.1 l in cc);
      met = c.in_ok-leads.ensures.met;
      barren = c.in_ok-leads.ensures.barren no_one;
    }

pub returns-clause-first : goal.returns-clause-first
returns-clause-first c = λ i lt l. c.loop-index.invariant.none i (omega arith) l
