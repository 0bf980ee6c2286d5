-- The first of some changes whose name has a property.
use Rattle.std.proofs.Common.{ℕ, suc, ◌+◌, ◌<◌, ◌≤◌, ◌≡◌, refl, sym, ap, subst, inl, inr, List, [], ◌∷◌, ◌++◌, length, get_or, take, drop, Contains, arith, IfSome, IfNone, Option, Some, None}
use Rattle.std.specs.Prelude.{◌⊎◌, ◌↔◌}
use Rattle.std.proofs.Math.Seq.{split_at}
use Rattle.std.proofs.lemmas.List.{take_more, take_all}
use Rattle.std.proofs.lemmas.List.Elements.{Contains-append_cases}
use Rattle.evidence.specs.declared.change.Change.{Change}
use Rattle.carry_over.specs.Stores.{NoneHas}
use Rattle.carry_over.specs.Changed.{changed_names, IsFirstTouched}

pub names_append : (a b : List Change) → changed_names (a ++ b) ≡ changed_names a ++ changed_names b
names_append [] b = refl
names_append (c ∷ a) b = ap (λ (l : List ℕ). c.name ∷ l) (names_append a b)

one_name : (n r : ℕ) → Contains (n ∷ []) r → n ≡ r
one_name n r h = grind (arith, h)

module _ (P : ℕ → Type 0) (cs : List Change) where
  -- none of the first i has the property
  abbrev pub NoneBelow : ℕ → Type 0
  NoneBelow i = NoneHas P (changed_names (take i cs))

  pub none_more : (i : ℕ) (d : Change) → i < length cs → (P (get_or cs i d).name → ⊥) → NoneBelow i → NoneBelow (i + 1)
  none_more i d lt not before r there h =
      by_part (Contains-append_cases (changed_names (take i cs)) (c.name ∷ []) r
      (subst (λ (l : List ℕ). Contains l r) (names_append (take i cs) (c ∷ [])) (subst (λ (l : List Change). Contains (changed_names l) r) (take_more cs i d lt) there)))
    where
      c : Change
      c = get_or cs i d

      by_part : Contains (changed_names (take i cs)) r ⊎ Contains ((get_or cs i d).name ∷ []) r → ⊥
      by_part (inl old) = before r old h
      by_part (inr new) = not (subst P (sym (one_name (get_or cs i d).name r new)) h)

  pub found_first : (i : ℕ) (d : Change) → i < length cs → P (get_or cs i d).name → NoneBelow i → IsFirstTouched P cs (get_or cs i d)
  found_first i d lt is before = (take i cs, drop (suc i) cs, split_at cs i d lt, is, before)

  -- all of them
  pub none_all : (i : ℕ) → length cs ≤ i → NoneBelow i → NoneHas P (changed_names cs)
  none_all i le before r there = before r (subst (λ (l : List Change). Contains (changed_names l) r) (sym (take_all i cs le)) there)

-- of two properties that are one
module _ (P Q : ℕ → Type 0) (same : (r : ℕ) → P r ↔ Q r) (cs : List Change) where
  none_too : (names : List ℕ) → NoneHas P names → NoneHas Q names
  none_too names none r there h = none r there ((same r).1 h)

  pub found_too : (o : Option Change) → IfSome o (IsFirstTouched P cs) → IfSome o (IsFirstTouched Q cs)
  found_too None h = tt
  found_too (Some c) h = (h.0, h.1, h.2, (same c.name).0 h.3, none_too (changed_names h.0) h.4)

  pub missed_too : (o : Option Change) → IfNone o (NoneHas P (changed_names cs)) → IfNone o (NoneHas Q (changed_names cs))
  missed_too None h = none_too (changed_names cs) h
  missed_too (Some c) h = tt
