-- What the loops over published names need, and callers of `first_through`.
use Rattle.std.proofs.Common.{ℕ, ◌≡◌, ◌<◌, ◌≤◌, ◌↔◌, inl, inr, refl, sym, subst, ◌∙◌, ◌∷◌, Contains, arith, IsTrue, IfSome, IfNone}
use Rattle.std.specs.declared.option.Option.{Option}
use Rattle.std.specs.declared.option.Option.TheVariants.{Some, None}
use Rattle.std.specs.Option.{is_some}
use Rattle.std.proofs.lemmas.List.Elements.{Contains-append_right}
use Rattle.std.proofs.lemmas.Bool.{cases_lt}
use Rattle.loda_syntax.specs.Programs.{Text}
use Rattle.loda_semantics.specs.Exec.{Library}
use Rattle.text_parts.specs.Names.{IsName}
use Rattle.program_store.specs.Store.{Store, IsStore, programs_of, published_at}
use Rattle.program_store.specs.Graph.{calls_of, Reaches, FirstWith}
use Rattle.program_store.proofs.Puts.{published_program}
use Rattle.call_graph.specs.Closure.{ReachesByCall}

module _ (lib : Library) (from to : ℕ) (p : Text) (has : lib from ≡ Some p) where
  the_same : (o : Text) → Some p ≡ Some o → p ≡ o
  the_same o e = cc

  -- whether some call of the program reaches the name
  pub tells : (first : Option ℕ)
      → IfSome first (FirstWith (λ name. Reaches lib name to) (calls_of p))
      → IfNone first ((n : ℕ) → Contains (calls_of p) n → Reaches lib n to → ⊥)
      → IsTrue (is_some first) ↔ ReachesByCall lib from to
  tells None some none = (λ h. absurd cc, λ path. absurd (none path.2.0 (subst (λ t. Contains (calls_of t) path.2.0) (sym (the_same path.0 (sym has ∙ path.1))) path.2.1) path.2.2))
  tells (Some n) some none = (
    λ h. (p, has, (n, subst (λ l. Contains l n) (sym some.2) (Contains-append_right some.0 (n ∷ some.1) n (0, omega arith, refl)), some.3)),
    λ path. refl,
  )

-- ---- names that are published

module _ (s : Store) (k : ℕ) where
  pub not_there : published_at s k ≡ None → (to : ℕ) → ReachesByCall (programs_of s) k to → ⊥
  not_there none to path = let e = published_program s k path.0 path.1 in absurd cc

  pub is_name : IsStore s → (to : ℕ) → ReachesByCall (programs_of s) k to → IsName k
  is_name kept to path = let e = published_program s k path.0 path.1 in kept.named k e.0 e.1

-- ---- a property of each name up to a place

module _ (P : ℕ → Type 0) (after : ℕ) (so_far : (k : ℕ) → 1 ≤ k → k ≤ after → P k) where
  -- it holds below the next place, where it holds of each name between
  pub below_next : (next : ℕ) → ((k : ℕ) → after < k → k < next → P k) → (k : ℕ) → 1 ≤ k → k < next → P k
  below_next next between k low lt = elim (cases_lt after k) [ inl above ↦ between k above lt | inr le ↦ so_far k low le ]

  pub up_to_next : (next : ℕ) → ((k : ℕ) → after < k → k < next → P k) → P next → (k : ℕ) → 1 ≤ k → k ≤ next → P k
  up_to_next next between here k low le =
      elim (cases_lt k next) [ inl lt ↦ below_next next between k low lt | inr up ↦ let e : next ≡ k = omega arith in subst P e here ]

  -- it holds of each, where it holds of each above
  pub all_none : ((k : ℕ) → after < k → P k) → (k : ℕ) → 1 ≤ k → P k
  all_none above k low = elim (cases_lt after k) [ inl lt ↦ above k lt | inr le ↦ so_far k low le ]
