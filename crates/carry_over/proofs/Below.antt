-- What the walk of a published program tells.
use Rattle.std.proofs.Common.{ℕ, ◌≡◌, ◌↔◌, sym, ap, subst, ◌∙◌}
use Rattle.std.specs.declared.option.Option.TheVariants.{Some}
use Rattle.std.specs.Option.{option_map}
use Rattle.loda_syntax.specs.Programs.{Text}
use Rattle.loda_semantics.specs.Exec.{Library}
use Rattle.program_store.specs.declared.published.Published.{Published}
use Rattle.program_store.specs.Store.{Store, published_at, programs_of}
use Rattle.program_store.specs.Graph.{CallsReach}
use Rattle.call_graph.specs.Closure.{ReachesByCall}

module _ (s : Store) (lib : Library) (same : lib ≡ programs_of s) (name : ℕ) (e : Published) (there : Some e ≡ published_at s name) where
  has : programs_of s name ≡ Some e.program
  has = ap (option_map (λ (e : Published). e.program)) (sym there)

  the_same : (p : Text) → programs_of s name ≡ Some p → p ≡ e.program
  the_same p is = let h : Some p ≡ Some e.program = sym is ∙ has in cc

  -- what the calls of its program reach, it reaches by a call
  pub calls_tell : (r : ℕ) → CallsReach lib e.program r ↔ ReachesByCall (programs_of s) name r
  calls_tell r = (
    λ h. (e.program, has, subst (λ (l : Library). CallsReach l e.program r) same h),
    λ h. subst (λ (l : Library). CallsReach l e.program r) (sym same) (subst (λ (p : Text). CallsReach (programs_of s) p r) (the_same h.0 h.1) h.2),
  )
