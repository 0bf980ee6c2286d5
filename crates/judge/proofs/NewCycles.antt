-- A program that calls nothing which reaches its name closes no cycle.
use Rattle.std.proofs.Common.{ℕ, zero, suc, ◌≡◌, ◌≢◌, sym, subst, ◌∙◌, inl, inr}
use Rattle.std.specs.Prelude.{◌⊎◌, Contains}
use Rattle.std.specs.declared.option.Option.{Option}
use Rattle.std.specs.declared.option.Option.TheVariants.{Some}
use Rattle.loda_syntax.specs.Programs.{Text}
use Rattle.loda_semantics.specs.Exec.{Library}
use Rattle.program_store.specs.Graph.{calls_of, Path, Reaches, NoCycle}
use Rattle.judge.proofs.Values.{decide}

module _ (lib1 lib2 : Library) (q : ℕ) (p : Text) (others : (r : ℕ) → r ≢ q → lib2 r ≡ lib1 r) (here : lib2 q ≡ Some p) where
  -- a path among the new programs is one among the old ones, or it comes to the new program
  abbrev Split : ℕ → ℕ → Type 0
  Split from to = Reaches lib1 from to ⊎ (Reaches lib1 from q × Reaches lib2 q to)

  step_old : (from next to : ℕ) (t : Text) → lib1 from ≡ Some t → Contains (calls_of t) next → Reaches lib1 next to → Reaches lib1 from to
  step_old from next to t e c r = (suc r.0, (t, e, next, c, r.1))

  pub split : (n from to : ℕ) → Path lib2 n from to → Split from to
  split zero from to e = inl (0, e)
  split (suc n) from to path = by_name (decide from q) (split n path.2 to path.4)
    where
      by_rest : lib1 from ≡ Some path.0 → Split path.2 to → Split from to
      by_rest e (inl r) = inl (step_old from path.2 to path.0 e path.3 r)
      by_rest e (inr r) = inr (step_old from path.2 q path.0 e path.3 r.0, r.1)

      by_name : (from ≡ q) ⊎ (from ≢ q) → Split path.2 to → Split from to
      by_name (inl same) rest = inr ((0, same), subst (λ z. Reaches lib2 z to) same (suc n, path))
      by_name (inr other) rest = by_rest (sym (others from other) ∙ path.1) rest

  -- what a path among the old programs reaches first, and then q
  joined : (n from mid to : ℕ) → Path lib1 n from mid → Reaches lib1 mid to → Reaches lib1 from to
  joined zero from mid to e r = subst (λ z. Reaches lib1 z to) (sym e) r
  joined (suc n) from mid to path r = step_old from path.2 to path.0 path.1 path.3 (joined n path.2 mid to path.4 r)

  some-is : (a b : Text) → (x : Option Text) → x ≡ Some a → x ≡ Some b → a ≡ b
  some-is a b x e f = let g : Some a ≡ Some b = sym e ∙ f in cc

  module _ (apart : (name : ℕ) → Contains (calls_of p) name → Reaches lib1 name q → ⊥) (acyclic : NoCycle lib1) where
    -- no name that the new program calls reaches it
    none_back : (name : ℕ) → Contains (calls_of p) name → Reaches lib2 name q → ⊥
    none_back name c r = by_split (split r.0 name q r.1)
      where
        by_split : Split name q → ⊥
        by_split (inl h) = apart name c h
        by_split (inr h) = apart name c h.0

    -- a path that leaves the new program comes to no name that reaches it
    leaves : (r n : ℕ) → r ≢ q → Reaches lib1 r q → Path lib2 n q r → ⊥
    leaves r zero other back e = other (sym e)
    leaves r (suc n) other back path =
        let text : path.0 ≡ p = some-is path.0 p (lib2 q) path.1 here in
        let c : Contains (calls_of p) path.2 = subst (λ t. Contains (calls_of t) path.2) text path.3 in
        by_split c (split n path.2 r path.4)
      where
        by_split : Contains (calls_of p) path.2 → Split path.2 r → ⊥
        by_split c (inl h) = apart path.2 c (joined h.0 path.2 r q h.1 back)
        by_split c (inr h) = apart path.2 c h.0

    pub no_new_cycle : NoCycle lib2
    no_new_cycle r h = by_name (decide r q)
      where
        old_text : r ≢ q → lib1 r ≡ Some h.0
        old_text other = sym (others r other) ∙ h.1

        by_split : (other : r ≢ q) → Split h.2.0 r → ⊥
        by_split other (inl old) = acyclic r (h.0, old_text other, (h.2.0, h.2.1, old))
        by_split other (inr new) = leaves r new.1.0 other (step_old r h.2.0 q h.0 (old_text other) h.2.1 new.0) new.1.1

        by_name : (r ≡ q) ⊎ (r ≢ q) → ⊥
        by_name (inl same) =
            let text : h.0 ≡ p = some-is h.0 p (lib2 q) (subst (λ z. lib2 z ≡ Some h.0) same h.1) here in
            none_back h.2.0 (subst (λ t. Contains (calls_of t) h.2.0) text h.2.1) (subst (λ z. Reaches lib2 h.2.0 z) same h.2.2)
        by_name (inr other) = by_split other (split h.2.2.0 h.2.0 r h.2.2.1)
