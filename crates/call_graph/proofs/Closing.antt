-- A list of names that grows by the calls of its names, in order.
use Rattle.std.proofs.Common.{ℕ, ◌+◌, ◌≡◌, ◌<◌, ◌≤◌, ◌↔◌, inl, inr, sym, ap, subst, ◌∙◌, List, [], ◌∷◌, ◌++◌, Contains, take, length, get_or, nat_eq, arith}
use Rattle.std.specs.declared.option.Option.TheVariants.{Some, None}
use Rattle.std.proofs.lemmas.List.{take_more, take_all, take-append-le}
use Rattle.std.proofs.lemmas.List.Elements.{Contains-push_cases, Contains-get_or}
use Rattle.indexmap.specs.IndexSet.{insert_all}
use Rattle.loda_syntax.specs.Programs.{Text}
use Rattle.loda_semantics.specs.Exec.{Library}
use Rattle.program_store.specs.Graph.{calls_of}
use Rattle.call_graph.specs.Closure.{HasCallsOf, HasItsCalls, ReachedFrom}
use Rattle.call_graph.proofs.Paths.{stays, reach_call, reach_self}
use Rattle.call_graph.proofs.Sets.{insert_all-grows, insert_all-kept, insert_all-has, insert_all-cases}

-- each name of the list is reached from those at first, and the calls of each before `at` are on the list
pub record IsGrown (lib : Library) (first : List ℕ) (names : List ℕ) (at : ℕ) : Type 0 where
  pub kept : (q : ℕ) → Contains first q → Contains names q
  pub reached : (q : ℕ) → Contains names q → ReachedFrom lib first q
  pub covered : (q : ℕ) → Contains (take at names) q → HasCallsOf lib names q

module _ (lib : Library) (first : List ℕ) where
  pub grown-first : (at : ℕ) → ((q : ℕ) → Contains (take at first) q → HasCallsOf lib first q) → IsGrown lib first first at
  grown-first at covered = record {
    kept = λ q there. there;
    reached = λ q there. (q, there, reach_self lib q);
    covered = covered;
  }

  -- the name at the place has no program
  pub grown-none : (names : List ℕ) (at name : ℕ) → at < length names → name ≡ get_or names at name → lib name ≡ None → IsGrown lib first names at → IsGrown lib first names (at + 1)
  grown-none names at name lt is none grown = record {
    kept = grown.kept;
    reached = grown.reached;
    covered = λ q there p e n call.
        elim (Contains-push_cases (take at names) (get_or names at name) q (subst (λ l. Contains l q) (take_more names at name lt) there)) [
          | inl h ↦ grown.covered q h p e n call
          | inr same ↦ nothing (sym none ∙ ap lib (is ∙ same) ∙ e)
        ];
  }
    where
      nothing : {A : Type 0} {p : Text} → None ≡ Some p → A
      nothing h = absurd cc

  module _ (names : List ℕ) (at name : ℕ) (lt : at < length names) (is : name ≡ get_or names at name) (p : Text) (has : lib name ≡ Some p) where
    more : List ℕ
    more = (insert_all-grows names (calls_of p)).0

    front : take (at + 1) (insert_all nat_eq names (calls_of p)) ≡ take at names ++ get_or names at name ∷ []
    front =
        let g = insert_all-grows names (calls_of p) in
        ap (take (at + 1)) g.1 ∙ take-append-le (at + 1) names g.0 (omega arith) ∙ take_more names at name lt

    the_same : (o : Text) → Some p ≡ Some o → p ≡ o
    the_same o e = cc

    -- the calls of its program are put in
    pub grown-some : IsGrown lib first names at → IsGrown lib first (insert_all nat_eq names (calls_of p)) (at + 1)
    grown-some grown = record {
      kept = λ q there. insert_all-kept names (calls_of p) q (grown.kept q there);
      reached = λ q there.
          elim (insert_all-cases names (calls_of p) q there) [
            | inl h ↦ grown.reached q h
            | inr call ↦
                let from = grown.reached name (subst (Contains names) (sym is) (Contains-get_or names at name lt)) in
                (from.0, from.1, reach_call lib from.0 name from.2 p has q call)
          ];
      covered = λ q there o e n call.
          elim (Contains-push_cases (take at names) (get_or names at name) q (subst (λ l. Contains l q) front there)) [
            | inl h ↦ insert_all-kept names (calls_of p) n (grown.covered q h o e n call)
            | inr same ↦ insert_all-has names (calls_of p) n (subst (λ t. Contains (calls_of t) n) (sym (the_same o (sym has ∙ ap lib (is ∙ same) ∙ e))) call)
          ];
    }

  module _ (names : List ℕ) (at : ℕ) (le : length names ≤ at) (grown : IsGrown lib first names at) where
    pub grown-closed : HasItsCalls lib names
    grown-closed q there = grown.covered q (subst (λ l. Contains l q) (sym (take_all at names le)) there)

    pub grown-reached : (q : ℕ) → Contains names q ↔ ReachedFrom lib first q
    grown-reached q = (grown.reached q, λ from. stays lib names grown-closed from.0 q (grown.kept from.0 from.1) from.2)
