use Rattle.std.proofs.Common.{ℕ, ◌≡◌, ◌+◌, ◌<◌, ◌≤◌, sym, ap, subst, ◌∙◌, List, Some, None, length, get_or, nat_eq, arith}
use Rattle.std.specs.Option.{option_copied}
use Rattle.std.proofs.lemmas.List.{get_or_default}
use Rattle.indexmap.specs.IndexSet.{insert_all}
use Rattle.loda_semantics.specs.Exec.{Library}
use Rattle.program_store.specs.Graph.{calls_of}
use Rattle.call_graph.proofs.Closing.{IsGrown, grown-some, grown-none, grown-closed, grown-reached}
use Rattle.call_graph.proofs.closure.close.Goals as goal
use Rattle.call_graph.proofs.closure.close.Goals.{in-Some+in_ok-add_calls, in_default}

pub loop-next-preserved : goal.loop-next-preserved
loop-next-preserved g c =
    let lib : Library = g.B.Library.programs c.args.lib.now in
    let first : List ℕ = c.args.names.now.keys in
    let names : List ℕ = c.loop-next.names.keys in
    let at : ℕ = c.loop-next.next in
    let name : ℕ = get_or c.as_slice.result.now at 0 in
    let lt : at < length names = omega arith in
    let is : name ≡ get_or names at name = ap (λ (l : List ℕ). get_or l at 0) c.as_slice.ensures.keys ∙ get_or_default names at 0 name lt in
    elim c.match-program.branch [
      | in-Some+in_ok-add_calls w ↦
          let e : c.match-program.names.keys ≡ insert_all nat_eq names (calls_of w.in-Some.program.now) = cc (w.names-is, w.in_ok-add_calls.ensures) in
          let has : lib name ≡ Some w.in-Some.program.now = sym c.program.ensures ∙ ap option_copied w.in-Some.is in
          subst (λ (l : List ℕ). IsGrown lib first l (at + 1)) (sym e) (grown-some lib first names at name lt is w.in-Some.program.now has c.loop-next.invariant)
      | in_default w ↦
          let e : c.match-program.names.keys ≡ names = cc (w.names-is) in
          let none : lib name ≡ None = sym c.program.ensures ∙ ap option_copied w.in_default.is in
          subst (λ (l : List ℕ). IsGrown lib first l (at + 1)) (sym e) (grown-none lib first names at name lt is none c.loop-next.invariant)
    ]

pub returns-clause-reached : goal.returns-clause-reached
returns-clause-reached g c =
    let le : length c.loop-next.names.keys ≤ c.loop-next.next = omega arith in
    grown-reached (g.B.Library.programs c.args.lib.now) c.args.names.now.keys c.loop-next.names.keys c.loop-next.next le c.loop-next.invariant

pub returns-clause-closed : goal.returns-clause-closed
returns-clause-closed g c =
    let le : length c.loop-next.names.keys ≤ c.loop-next.next = omega arith in
    grown-closed (g.B.Library.programs c.args.lib.now) c.args.names.now.keys c.loop-next.names.keys c.loop-next.next le c.loop-next.invariant
