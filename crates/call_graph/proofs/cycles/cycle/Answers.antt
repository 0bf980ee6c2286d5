use Rattle.std.proofs.Common.{◌≡◌, sym, subst, Contains, arith}
use Rattle.loda_semantics.specs.Exec.{Library}
use Rattle.program_store.specs.Store.{Store, programs_of}
use Rattle.program_store.specs.Graph.{OnCycle}
use Rattle.call_graph.specs.Walks.{IsSettled}
use Rattle.call_graph.proofs.Loops.{not_there, is_name, up_to_next, all_none}
use Rattle.call_graph.proofs.Walking.{settled-first, least-cycle, none-cycle}
use Rattle.call_graph.proofs.cycles.cycle.Goals as goal

pub loop-name-init : goal.loop-name-init
loop-name-init g c = record {
  named = omega arith;
  done = λ k low up on. absurd (omega arith);
  settled = settled-first (programs_of (g.V.View.store c.args.view.now)) c.new-walk.result c.new-walk.ensures.done c.new-walk.ensures.looped c.new-walk.ensures.stack c.new-walk.ensures.starts c.new-walk.ensures.path;
}

pub visit-requires : goal.visit-requires
visit-requires g c =
    let same : g.V.Library.programs c.args.view.now ≡ programs_of (g.V.View.store c.args.view.now) = λ i q. g.met.V.View.same_programs c.args.view.now q i in
    subst (λ (lib : Library). IsSettled lib c.loop-name.walk) (sym same) c.loop-name.invariant.settled

pub loop-name-preserved : goal.loop-name-preserved
loop-name-preserved g c =
    let s : Store = g.V.View.store c.args.view.now in
    let same : g.V.Library.programs c.args.view.now ≡ programs_of s = λ i q. g.met.V.View.same_programs c.args.view.now q i in
    record {
      named = c.in-Some.ensures.named.1;
      done = up_to_next (λ j. OnCycle (programs_of s) j → Contains c.visit.new.self.done.keys j) c.loop-name.after
          (λ j low up on. c.in_ok-visit.ensures.kept j (c.loop-name.invariant.done j low up on)) c.in-Some.name
          (λ j above under on. absurd (not_there s j (c.in-Some.ensures.least j above under) j on))
          (λ on. c.in_ok-visit.ensures.there);
      settled = subst (λ (lib : Library). IsSettled lib c.visit.new.self) same c.in_ok-visit.ensures.settled;
    }

pub returns-clause-some : goal.returns-clause-some
returns-clause-some g c =
    let s : Store = g.V.View.store c.args.view.now in
    least-cycle (programs_of s) c.loop-name.walk c.loop-name.invariant.settled
    (λ q on. all_none (λ j. OnCycle (programs_of s) j → Contains c.loop-name.walk.done.keys j) c.loop-name.after c.loop-name.invariant.done
    (λ j above on. absurd (not_there s j (c.in_default.ensures.none j above) j on)) q (is_name s q c.in_default.ensures.kept q on).0 on)
    c.least_looped.result c.least_looped.ensures.some

pub returns-clause-none : goal.returns-clause-none
returns-clause-none g c =
    let s : Store = g.V.View.store c.args.view.now in
    none-cycle (programs_of s) c.loop-name.walk c.loop-name.invariant.settled
    (λ q on. all_none (λ j. OnCycle (programs_of s) j → Contains c.loop-name.walk.done.keys j) c.loop-name.after c.loop-name.invariant.done
    (λ j above on. absurd (not_there s j (c.in_default.ensures.none j above) j on)) q (is_name s q c.in_default.ensures.kept q on).0 on)
    c.least_looped.result c.least_looped.ensures.none
