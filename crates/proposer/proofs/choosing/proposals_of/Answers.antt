use Rattle.std.proofs.Common.{◌≡◌, sym, ap, ◌∙◌, subst, List, length, arith}
use Rattle.std.specs.Prelude.{Option, IfSome, All}
use Rattle.std.proofs.lemmas.List.Elements.{All-get_or}
use Rattle.oeis_terms.specs.Table.{Table}
use Rattle.program_store.specs.declared.published.Proposal.{Proposal}
use Rattle.text_parts.specs.Names.{IsName}
use Rattle.program_store.specs.Store.{IsProposal}
use Rattle.term_index.specs.declared.form.Match.{Match}
use Rattle.term_index.specs.Matching.{matches_of}
use Rattle.proposer.specs.Short.{proposal_of_match}
use Rattle.proposer.proofs.Matched.{made_next, matches_named, few_matches}
use Rattle.proposer.proofs.choosing.proposals_of.Goals as goal

pub proposal_of-requires-clause-named : goal.proposal_of-requires-clause-named
proposal_of-requires-clause-named g c =
    let values = c.in-Some.values in
    let table = c.args.terms.now in
    let items = c.deref-found-items.result.now in
    let P : Match → Type 0 = λ m. IsName m.name in
    let are : items ≡ matches_of values table = c.deref-found-items.ensures.value ∙ c.in_ok-matches.ensures ∙ ap (λ (t : Table). matches_of values t) c.requires.index in
    let named : All P items = subst (λ (ms : List Match). All P ms) (sym are) (matches_named values table c.rows-rows.ensures.table) in
    subst P (sym c.found-item.is) (All-get_or P items c.loop-found.found-index c.found-item.result c.loop-found-test.true named)

pub loop-found-preserved : goal.loop-found-preserved
loop-found-preserved g c = record {
  made = made_next (proposal_of_match (g.B.Library.programs c.args.lib.now) c.args.terms.now c.args.limit c.args.program.now) IsProposal c.deref-found-items.result.now
      c.loop-found.found-index c.loop-found.list.items c.add.new.list.items c.found-item.result c.in_ok-made.made c.loop-found.invariant.made
      c.loop-found-test.true c.found-item.is c.in_ok-made.ensures.proposal
      (λ y e. subst (λ (o : Option Proposal). IfSome o IsProposal) e c.in_ok-made.ensures.well_formed) c.in_ok-add.ensures;
  counted = omega arith;
}

pub returns-clause-few : goal.returns-clause-few
returns-clause-few g c =
    let values = c.in-Some.values in
    let table = c.args.terms.now in
    let are : c.deref-found-items.result.now ≡ matches_of values table =
    c.deref-found-items.ensures.value ∙ c.in_ok-matches.ensures ∙ ap (λ (t : Table). matches_of values t) c.requires.index in
    let few = c.loop-found.invariant.made.few in
    omega (arith, few, ap length are, few_matches values table)
