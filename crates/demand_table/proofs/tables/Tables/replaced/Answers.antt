use Rattle.std.proofs.Common.{rules, ◌≡◌, ◌∙◌, sym, subst}
use Rattle.program_store.specs.Store.{Store, put_in}
use Rattle.program_store.proofs.Entries.{IsStore-insert}
use Rattle.demand_table.specs.Loaded.{node_at}
use Rattle.demand_table.specs.Tabled.{IsTabled}
use Rattle.demand_table.proofs.Next.{fits_now, table_next, checks_next}
use Rattle.demand_table.proofs.tables.Tables.replaced.Goals as goal

pub replaced-requires-clause-fits : goal.replaced-requires-clause-fits
replaced-requires-clause-fits c =
    let s = c.args.self.now in
    let p = c.args.proposal.now in
    let held : IsTabled s c.self.inside.demand = subst (λ (s : Store). IsTabled s c.self.inside.demand) c.self.view_is c.self.invariant in
    fits_now s c.self.inside.demand held p.name p.program c.args.checked c.args.runs.now c.requires.replaceable c.requires.runs

pub invariant_of-result : goal.invariant_of-result
invariant_of-result c =
    let s = c.args.self.now in
    let p = c.args.proposal.now in
    let f = c.self.inside.demand in
    let next = c.in_ok-demand.demand in
    let held : IsTabled s f = subst (λ (s : Store). IsTabled s f) c.self.view_is c.self.invariant in
    let put : c.in_ok-programs.programs ≡ put_in s p.name p.program c.args.checked = search rules in
    subst (λ (m : Store). IsTabled m next) (sym put) (record {
      kept = IsStore-insert s p.name (record { program = p.program; checked = c.args.checked }) held.kept c.requires.proposal.named c.requires.proposal.well_formed;
      checks = λ name. c.in_ok-demand.ensures.checks name ∙ checks_next s f held p.name p.program c.args.checked c.args.runs.now c.requires.replaceable c.requires.runs name;
      table = table_next s f held p.name p.program c.args.checked c.args.runs.now c.requires.replaceable c.requires.runs (node_at next) c.in_ok-demand.ensures.drawn;
    })
