use Rattle.std.proofs.Common.{ℕ, List, sym, subst, arith}
use Rattle.proposer.proofs.Names.{Listed, listed_none, listed_next, listed_all, are_names}
use Rattle.proposer.proofs.making.names.Goals as goal

pub loop-name-init : goal.loop-name-init
loop-name-init g c =
    let s = g.V.View.store c.args.view.now in
    record { small = omega arith; listed = subst (λ (names : List ℕ). Listed s 0 names) (sym c.new-names.ensures.items) (listed_none s) }

pub loop-name-preserved : goal.loop-name-preserved
loop-name-preserved g c =
    let s = g.V.View.store c.args.view.now in
    let name = c.in-Some.name in
    record {
      small = c.in-Some.ensures.named.1;
      listed = subst (λ (names : List ℕ). Listed s name names) (sym c.in_ok-push.ensures.items)
          (listed_next s c.loop-name.last name c.loop-name.names.items c.loop-name.invariant.listed c.in-Some.ensures.some.0 c.in-Some.ensures.named c.in-Some.ensures.some.1 c.in-Some.ensures.least);
    }

pub returns-clause-value : goal.returns-clause-value
returns-clause-value g c =
    listed_all (g.V.View.store c.args.view.now) c.loop-name.last c.loop-name.names.items c.loop-name.invariant.listed c.in_default.ensures.kept c.in_default.ensures.none

pub returns-clause-are : goal.returns-clause-are
returns-clause-are g c = are_names (g.V.View.store c.args.view.now) c.loop-name.last c.loop-name.names.items c.loop-name.invariant.listed c.loop-name.invariant.small
