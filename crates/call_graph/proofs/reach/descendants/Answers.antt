use Rattle.std.proofs.Common.{ℕ, ◌≡◌, ◌↔◌, ap, subst, ◌∙◌, inl, inr, List, [], Contains, nat_eq, arith}
use Rattle.std.proofs.lemmas.Result.{IfOk-weaker}
use Rattle.indexmap.specs.IndexSet.{insert_all}
use Rattle.loda_semantics.specs.Exec.{Library}
use Rattle.program_store.specs.Graph.{calls_of, CallsReach}
use Rattle.call_graph.specs.Closure.{ReachedFrom}
use Rattle.call_graph.proofs.Sets.{insert_all-has, insert_all-cases}
use Rattle.call_graph.proofs.reach.descendants.Goals as goal

pub returns-clause-exact : goal.returns-clause-exact
returns-clause-exact g c =
    let lib : Library = g.B.Library.programs c.args.lib.now in
    let calls : List ℕ = calls_of c.args.program.now in
    let all : List ℕ = c.close.new.names.keys in
    let put : c.add_calls.new.names.keys ≡ insert_all nat_eq [] calls = c.in_ok-add_calls.ensures ∙ ap (λ (l : List ℕ). insert_all nat_eq l calls) c.new-reached.ensures.empty in
    let reached : (q : ℕ) → Contains all q ↔ ReachedFrom lib (insert_all nat_eq [] calls) q =
    subst (λ (l : List ℕ). (q : ℕ) → Contains all q ↔ ReachedFrom lib l q) put c.in_ok-close.ensures.reached in
    IfOk-weaker c.ascending.result (λ sorted. (q : ℕ) → Contains sorted.items q ↔ Contains all q) (λ sorted. (q : ℕ) → Contains sorted.items q ↔ CallsReach lib c.args.program.now q)
    (λ sorted same q. (
      λ there. let from = (reached q).0 ((same q).0 there) in (from.0, called calls from.0 from.1, from.2),
      λ path. (same q).1 ((reached q).1 (path.0, insert_all-has [] calls path.0 path.1, path.2)),
    ))
    c.ascending.ensures.exact
  where
    called : (calls : List ℕ) (s : ℕ) → Contains (insert_all nat_eq [] calls) s → Contains calls s
    called calls s there = elim (insert_all-cases [] calls s there) [ inl h ↦ absurd (omega arith) | inr h ↦ h ]
