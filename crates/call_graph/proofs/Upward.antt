-- A list of names that grows by the callers of its names, in order.
use Rattle.std.proofs.Common.{ℕ, zero, suc, ◌+◌, ◌≡◌, ◌<◌, ◌≤◌, ◌↔◌, inl, inr, sym, ap, subst, ◌∙◌, List, [], ◌∷◌, ◌++◌, Contains, take, length, get_or, nat_eq, arith}
use Rattle.std.proofs.lemmas.List.{take_more, take_all, take-append-le}
use Rattle.std.proofs.lemmas.List.Elements.{Contains-push_cases, Contains-get_or}
use Rattle.indexmap.specs.IndexSet.{insert_all}
use Rattle.loda_semantics.specs.Exec.{Library}
use Rattle.program_store.specs.Graph.{Path}
use Rattle.call_graph.specs.Closure.{CallsName, ReachesByCall}
use Rattle.call_graph.proofs.Paths.{reach_self, call_reach}
use Rattle.call_graph.proofs.Sets.{insert_all-grows, insert_all-kept, insert_all-has, insert_all-cases}

module _ (lib : Library) where
  pub one_call : (from to : ℕ) → CallsName lib from to → ReachesByCall lib from to
  one_call from to call = (call.0, call.1, (to, call.2, reach_self lib to))

  -- a call, and a path from there
  call_more : (from next to : ℕ) → CallsName lib from next → ReachesByCall lib next to → ReachesByCall lib from to
  call_more from next to call path = (call.0, call.1, (next, call.2, call_reach lib next path.0 path.1 to path.2))

-- each name of the list reaches `name` by a call, and the callers of `name` and of each name before `at` are on the list
pub record IsClimbed (lib : Library) (name : ℕ) (names : List ℕ) (at : ℕ) : Type 0 where
  pub sound : (q : ℕ) → Contains names q → ReachesByCall lib q name
  pub direct : (q : ℕ) → CallsName lib q name → Contains names q
  pub covered : (k : ℕ) → Contains (take at names) k → (q : ℕ) → CallsName lib q k → Contains names q

-- the callers of each name stand under it
module _ (lib : Library) (under : ℕ → List ℕ) (turned : (to from : ℕ) → Contains (under to) from ↔ CallsName lib from to) (name : ℕ) where
  pub climbed_first : IsClimbed lib name (insert_all nat_eq [] (under name)) 0
  climbed_first = record {
    sound = λ q there.
        elim (insert_all-cases [] (under name) q there) [
          | inl h ↦ absurd (omega (arith, h.1))
          | inr h ↦ one_call lib q name ((turned name q).0 h)
        ];
    direct = λ q call. insert_all-has [] (under name) q ((turned name q).1 call);
    covered = λ k there q call. absurd (omega (arith, there.1));
  }

  module _ (names : List ℕ) (at caller : ℕ) (lt : at < length names) (is : caller ≡ get_or names at caller) (climbed : IsClimbed lib name names at) where
    front : take (at + 1) (insert_all nat_eq names (under caller)) ≡ take at names ++ get_or names at caller ∷ []
    front =
        let g = insert_all-grows names (under caller) in
        ap (take (at + 1)) g.1 ∙ take-append-le (at + 1) names g.0 (omega arith) ∙ take_more names at caller lt

    pub climbed_more : IsClimbed lib name (insert_all nat_eq names (under caller)) (at + 1)
    climbed_more = record {
      sound = λ q there.
          elim (insert_all-cases names (under caller) q there) [
            | inl h ↦ climbed.sound q h
            | inr h ↦ call_more lib q caller name ((turned caller q).0 h) (climbed.sound caller (subst (Contains names) (sym is) (Contains-get_or names at caller lt)))
          ];
      direct = λ q call. insert_all-kept names (under caller) q (climbed.direct q call);
      covered = λ k there q call.
          elim (Contains-push_cases (take at names) (get_or names at caller) k (subst (λ l. Contains l k) front there)) [
            | inl h ↦ insert_all-kept names (under caller) q (climbed.covered k h q call)
            | inr same ↦ insert_all-has names (under caller) q ((turned caller q).1 (subst (CallsName lib q) (sym (is ∙ same)) call))
          ];
    }

module _ (lib : Library) (name : ℕ) (names : List ℕ) (at : ℕ) (le : length names ≤ at) (climbed : IsClimbed lib name names at) where
  path_climbs : (n from next : ℕ) → CallsName lib from next → Path lib n next name → Contains names from
  path_climbs zero from next call path = climbed.direct from (subst (CallsName lib from) path call)
  path_climbs (suc n) from next call path =
      let there = path_climbs n next path.2 (path.0, path.1, path.3) path.4 in
      climbed.covered next (subst (λ l. Contains l next) (sym (take_all at names le)) there) from call

  pub climbed_all : (q : ℕ) → Contains names q ↔ ReachesByCall lib q name
  climbed_all q = (climbed.sound q, λ path. path_climbs path.2.2.0 q path.2.0 (path.0, path.1, path.2.1) path.2.2.1)
