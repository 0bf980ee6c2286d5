-- Names that don't reach a target.
use Rattle.std.proofs.Common.{ℕ, ◌↔◌, inl, inr, sym, subst, List, [], ◌∷◌, ◌++◌, Contains, take, length, nat_eq, arith}
use Rattle.std.proofs.lemmas.List.Elements.{Contains-push_cases}
use Rattle.indexmap.specs.IndexSet.{insert_key}
use Rattle.loda_semantics.specs.Exec.{Library}
use Rattle.program_store.specs.Graph.{Reaches}
use Rattle.call_graph.specs.Closure.{HasCallsOf, HasItsCalls, ReachedFrom}
use Rattle.call_graph.proofs.Paths.{stays, reach_self}
use Rattle.call_graph.proofs.Sets.{insert_key-has, insert_key-cases, insert_key-kept, insert_key-take}

-- no name seen, and no name tried, reaches the target, and what is seen is closed
pub record IsBarren (lib : Library) (target : ℕ) (seen : List ℕ) (tried : List ℕ) : Type 0 where
  pub apart : (s : ℕ) → Contains seen s → Reaches lib s target → ⊥
  pub closed : HasItsCalls lib seen
  pub without : (n : ℕ) → Contains tried n → Reaches lib n target → ⊥

module _ (lib : Library) (target : ℕ) where
  pub barren-first : IsBarren lib target [] []
  barren-first = record {
    apart = λ s there path. absurd (omega arith);
    closed = λ q there p e n call. absurd (omega arith);
    without = λ n there path. absurd (omega arith);
  }

  module _ (seen tried : List ℕ) (barren : IsBarren lib target seen tried) (name : ℕ) where
    -- the calls of what was seen before the name was put in are there
    pub barren-covered : (q : ℕ) → Contains (take (length seen) (insert_key nat_eq seen name)) q → HasCallsOf lib (insert_key nat_eq seen name) q
    barren-covered q there p e n call =
        insert_key-kept seen name n (barren.closed q (subst (λ l. Contains l q) (insert_key-take seen name) there) p e n call)

    module _ (new : List ℕ) (reached : (q : ℕ) → Contains new q ↔ ReachedFrom lib (insert_key nat_eq seen name) q) where
      pub barren-found : Contains new target → Reaches lib name target
      barren-found there =
          let from = (reached target).0 there in
          elim (insert_key-cases seen name from.0 from.1) [
            | inl h ↦ absurd (barren.apart from.0 h from.2)
            | inr same ↦ subst (λ s. Reaches lib s target) (sym same) from.2
          ]

      pub barren-more : HasItsCalls lib new → (Contains new target → ⊥) → IsBarren lib target new (tried ++ name ∷ [])
      barren-more closed none = record {
        apart = λ s there path. none (stays lib new closed s target there path);
        closed = closed;
        without = λ n there path.
            elim (Contains-push_cases tried name n there) [
              | inl h ↦ barren.without n h path
              | inr same ↦
                  none (stays lib new closed n target ((reached n).1 (name, insert_key-has seen name, subst (Reaches lib name) same (reach_self lib name))) path)
            ];
      }
