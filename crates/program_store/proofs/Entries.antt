-- A finite map made of the entries of a map of std.
use Rattle.std.proofs.Common.{ℕ, ◌≡◌, ◌<◌, ◌≤◌, ◌+◌, refl, sym, ap, subst, ◌∙◌, List, [], ◌∷◌, length, cond, arith, rules}
use Rattle.std.specs.Prelude.{IsSome, IfSome, slice_get}
use Rattle.std.specs.declared.cmp.Ordering.TheVariants.{Less}
use Rattle.std.specs.declared.option.Option.{Option}
use Rattle.std.specs.declared.option.Option.TheVariants.{Some, None}
use Rattle.std.specs.List.{AllByRecursion}
use Rattle.std.specs.List.Sorted.{IsStrictlySortedBy}
use Rattle.std.specs.Map.{lookup, keys_of}
use Rattle.std.specs.BTreeMap.{BTreeMap, is_at}
use Rattle.std.specs.BTreeMap.Range.{IsRangeOf, IsEntryInRange, IsLeBy}
use Rattle.std.specs.declared.ops.Bound.TheVariants.{Included, Unbounded}
use Rattle.std.proofs.lemmas.Map.Keys.{le_from_not_gt}
use Rattle.std.specs.Ordering.{nat_cmp, eq_by_cmp}
use Rattle.std.specs.Cmp.{nat_cmp_total, eq_by_cmp_equiv}
use Rattle.std.specs.FinMap.{FinMap, find, put, get, len, entries, insert, empty, from_entries, get-from_entries, get-empty, get-insert, entries-insert, len-entries, len-empty, same_map, nat_cmp-IsAntisymmetric}
use Rattle.std.proofs.lemmas.Map.Keys.{sorted_head, sorted_tail}
use Rattle.std.proofs.lemmas.Bool.Decides.{nat_tests}
use Rattle.loda_syntax.specs.Programs.{instrs}
use Rattle.loda_syntax.specs.WellFormed.{IsProgram}
use Rattle.program_store.specs.declared.published.Published.{Published}
use Rattle.text_parts.specs.Names.{IsName}
use Rattle.program_store.specs.Store.{Store, published_at, IsStore}

module _ {X : Type 0} where
  find-is : (es : List (ℕ × X)) (q : ℕ) → find nat_cmp q es ≡ lookup (is_at (nat_cmp q)) es
  find-is [] q = refl
  find-is (e ∷ es) q = ap (cond (is_at (nat_cmp q) e.0) (Some e.1)) (find-is es q)

  pub get-is : (es : List (ℕ × X)) (q : ℕ) → get (from_entries {R = nat_cmp} es) q ≡ lookup (is_at (nat_cmp q)) es
  get-is es q = get-from_entries nat_cmp_total es q ∙ find-is es q

  -- what is read by a name in the map that the entries are seen as
  pub get-viewed : (es : List (ℕ × X)) (s : FinMap nat_cmp X) (q : ℕ) → from_entries {R = nat_cmp} es ≡ s → lookup (is_at (nat_cmp q)) es ≡ get s q
  get-viewed es s q e = sym (get-is es q) ∙ ap (λ (m : FinMap nat_cmp X). get m q) e

  -- entries that differ at one name make maps that differ there
  pub put-is : (es fs : List (ℕ × X)) (k : ℕ) (v : X)
      → ((q : ℕ) → lookup (is_at (nat_cmp q)) fs ≡ cond (is_at (nat_cmp k) q) (Some v) (lookup (is_at (nat_cmp q)) es))
      → from_entries {R = nat_cmp} fs ≡ insert (from_entries es) k v
  put-is es fs k v h = same_map nat_cmp_total nat_cmp-IsAntisymmetric _ _ (λ q.
      get-is fs q ∙ h q ∙ ap (λ b. cond b (Some v) (lookup (is_at (nat_cmp q)) es)) ((eq_by_cmp_equiv nat_cmp_total).symm k q)
      ∙ sym (get-insert nat_cmp_total (from_entries es) k v q ∙ ap (cond (is_at (nat_cmp q) k) (Some v)) (get-is es q)))

  none_of_length : (es : List (ℕ × X)) → length es ≡ 0 → es ≡ []
  none_of_length [] e = refl
  none_of_length (x ∷ xs) e = absurd (omega arith)

  put_first : (es : List (ℕ × X)) (k : ℕ) (v : X) → AllByRecursion (λ y. nat_cmp k y ≡ Less) (keys_of es) → put nat_cmp k v es ≡ (k, v) ∷ es
  put_first [] k v h = refl
  put_first (e ∷ es) k v h = rw h.0 refl

  -- entries in order are those of their map
  pub entries-from_entries : (es : List (ℕ × X)) → IsStrictlySortedBy nat_cmp (keys_of es) → entries (from_entries {R = nat_cmp} es) ≡ es
  entries-from_entries [] h = none_of_length _ (sym (len-entries (empty {X = X} {R = nat_cmp})) ∙ len-empty nat_cmp X)
  entries-from_entries (e ∷ es) h =
      entries-insert nat_cmp_total (from_entries es) e.0 e.1
      ∙ ap (put nat_cmp e.0 e.1) (entries-from_entries es (sorted_tail nat_cmp e.0 (keys_of es) h))
      ∙ put_first es e.0 e.1 (sorted_head nat_cmp e.0 (keys_of es) h)

  pub len-from_entries : (es : List (ℕ × X)) → IsStrictlySortedBy nat_cmp (keys_of es) → len (from_entries {R = nat_cmp} es) ≡ length es
  len-from_entries es h = len-entries (from_entries es) ∙ ap length (entries-from_entries es h)

-- ---- what a store keeps

nothing : {A : Type 0} (e : Published) → None ≡ Some e → A
nothing e h = absurd cc

pub IsStore-empty : IsStore empty
IsStore-empty = record {
  named = λ q e h. nothing e (sym (get-empty nat_cmp q) ∙ h);
  well_formed = λ q e h. nothing e (sym (get-empty nat_cmp q) ∙ h);
}

module _ (s : Store) (k : ℕ) (v : Published) where
  there : (q : ℕ) (e : Published) → published_at (insert s k v) q ≡ Some e → cond (eq_by_cmp nat_cmp q k) (Some v) (published_at s q) ≡ Some e
  there q e h = sym (get-insert nat_cmp_total s k v q) ∙ h

  pub IsStore-insert : IsStore s → IsName k → IsProgram (instrs v.program) → IsStore (insert s k v)
  IsStore-insert kept named well_formed = record {
    named = λ q e h. let h0 = there q e h in grind (arith, kept.named q e);
    well_formed = λ q e h. let h0 = there q e h in grind (arith, kept.well_formed q e);
  }

-- ---- the names above a place

none_there : {A : Type 0} (o : Option A) → (IsSome o → ⊥) → o ≡ None
none_there None h = refl
none_there (Some x) h = absurd (h (search rules))

pub IsSome-from : {A : Type 0} (o : Option A) (x : A) → o ≡ Some x → IsSome o
IsSome-from o x e = rw e (search rules)

module _ {X : Type 0} (m : BTreeMap ℕ X) (a : ℕ) (r : List (ℕ × X)) (part : IsRangeOf nat_cmp (Included (a + 1)) Unbounded m r) where
  pub above_none : r ≡ [] → (k : ℕ) → a < k → lookup (is_at (nat_cmp k)) m.entries ≡ None
  above_none e k lt = part.5 e k (grind (arith, nat_tests), tt)

  pub above_first : (n : ℕ) (v : X) (t : List (ℕ × X)) → r ≡ (n, v) ∷ t
      → (a < n) × (lookup (is_at (nat_cmp n)) m.entries ≡ Some v) × ((k : ℕ) → a < k → k < n → lookup (is_at (nat_cmp k)) m.entries ≡ None)
  above_first n v t e =
      let first : IsEntryInRange nat_cmp (Included (a + 1)) Unbounded m (n, v) = subst (λ (es : List (ℕ × X)). IfSome (slice_get es 0) (IsEntryInRange nat_cmp (Included (a + 1)) Unbounded m)) e part.1 in
      let le : a + 1 ≤ n = le_from_not_gt (a + 1) n first.0.0 in (
        omega (arith, le),
        first.1,
        λ k above below. none_there _ (λ there.
            let least : IsLeBy nat_cmp n k = subst (λ (es : List (ℕ × X)). IfSome (slice_get es 0) (λ f. IsLeBy nat_cmp f.0 k)) e (part.2 k (grind (arith, nat_tests), tt) there) in
            let up : n ≤ k = le_from_not_gt n k least in omega arith),
      )
