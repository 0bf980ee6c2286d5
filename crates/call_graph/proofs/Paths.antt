-- Paths of calls, and lists of names that are closed under them.
use Rattle.std.proofs.Common.{ℕ, zero, suc, ◌≡◌, refl, sym, ap, subst, ◌∙◌, List, Contains}
use Rattle.std.specs.declared.option.Option.TheVariants.{Some}
use Rattle.loda_syntax.specs.Programs.{Text}
use Rattle.loda_semantics.specs.Exec.{Library}
use Rattle.program_store.specs.Graph.{calls_of, Path, Reaches, CallsReach}
use Rattle.call_graph.specs.Closure.{HasItsCalls}

module _ (lib : Library) where
  -- from a name on a closed list each path stays on it
  path_stays : (names : List ℕ) → HasItsCalls lib names → (n from to : ℕ) → Contains names from → Path lib n from to → Contains names to
  path_stays names closed zero from to there path = subst (Contains names) path there
  path_stays names closed (suc n) from to there path =
      path_stays names closed n path.2 to (closed from there path.0 path.1 path.2 path.3) path.4

  pub stays : (names : List ℕ) → HasItsCalls lib names → (from to : ℕ) → Contains names from → Reaches lib from to → Contains names to
  stays names closed from to there path = path_stays names closed path.0 from to there path.1

  path_call : (n from to : ℕ) → Path lib n from to → (p : Text) → lib to ≡ Some p → (next : ℕ) → Contains (calls_of p) next → Path lib (suc n) from next
  path_call zero from to path p e next call = (p, ap lib path ∙ e, next, call, refl)
  path_call (suc n) from to path p e next call = (path.0, path.1, path.2, path.3, path_call n path.2 to path.4 p e next call)

  -- a path, and one more call
  pub reach_call : (from to : ℕ) → Reaches lib from to → (p : Text) → lib to ≡ Some p → (next : ℕ) → Contains (calls_of p) next → Reaches lib from next
  reach_call from to path p e next call = (suc path.0, path_call path.0 from to path.1 p e next call)

  pub reach_self : (q : ℕ) → Reaches lib q q
  reach_self q = (zero, refl)

  -- a call, and a path from there
  pub call_reach : (from : ℕ) (p : Text) → lib from ≡ Some p → (to : ℕ) → CallsReach lib p to → Reaches lib from to
  call_reach from p e to path = (suc path.2.0, (p, e, path.0, path.1, path.2.1))

  path_path : (n from to : ℕ) → Path lib n from to → (next : ℕ) → Reaches lib to next → Reaches lib from next
  path_path zero from to path next on = subst (λ q. Reaches lib q next) (sym path) on
  path_path (suc n) from to path next on = let rest = path_path n path.2 to path.4 next on in (suc rest.0, (path.0, path.1, path.2, path.3, rest.1))

  -- a path, and another from where it ends
  pub reach_trans : (from to next : ℕ) → Reaches lib from to → Reaches lib to next → Reaches lib from next
  reach_trans from to next path on = path_path path.0 from to path.1 next on

  -- a path to another name begins with a call
  pub reach_other : (from to : ℕ) → (from ≡ to → ⊥) → Reaches lib from to → (p : Text) × (lib from ≡ Some p) × CallsReach lib p to
  reach_other from to apart path = by path.0 path.1
    where
      by : (n : ℕ) → Path lib n from to → (p : Text) × (lib from ≡ Some p) × CallsReach lib p to
      by zero same = absurd (apart same)
      by (suc n) on = (on.0, on.1, (on.2, on.3, (n, on.4)))
