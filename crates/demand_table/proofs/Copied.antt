-- A store is copied name by name.
use Rattle.std.proofs.Common.{ℕ, zero, suc, ◌<◌, ◌≤◌, ◌≡◌, refl, sym, ap, subst, ◌∙◌, arith, pos, inl, inr, []}
use Rattle.std.specs.declared.option.Option.{Option}
use Rattle.std.specs.declared.option.Option.TheVariants.{Some, None}
use Rattle.std.specs.Option.{option_map, option_and_then}
use Rattle.std.specs.Ordering.{nat_cmp}
use Rattle.std.specs.Cmp.{nat_cmp_total}
use Rattle.std.specs.FinMap as map
use Rattle.std.specs.FinMap.{same_map, nat_cmp-IsAntisymmetric}
use Rattle.std.proofs.lemmas.Bool.{cases_lt, cases_eq}
use Rattle.loda_semantics.specs.declared.kinds.Pair.{Pair}
use Rattle.program_store.specs.declared.published.Published.{Published}
use Rattle.program_store.specs.Store.{Store, IsStore, published_at}
use Rattle.demand_table.specs.declared.node.Folder.{Folder}
use Rattle.demand_table.specs.Ascending.{Ascends, AllAscend}
use Rattle.demand_table.specs.Gathered.{IsUndrawn}
use Rattle.demand_table.specs.Loaded.{Folders, node_in, node_at, checks_of}
use Rattle.demand_table.specs.Table.{from_zero, checks_in_store}
use Rattle.demand_table.proofs.Reached.{get_put_same, get_put_other}

-- The names up to the last one are copied, and the folders have their checked arguments and no nodes.
pub record IsCopied (s programs : Store) (folders : Folders) (last : ℕ) : Type 0 where
  pub here : (q : ℕ) → 0 < q → q ≤ last → map.get programs q ≡ map.get s q
  pub zero : map.get programs 0 ≡ None
  pub above : (q : ℕ) → last < q → map.get programs q ≡ None
  pub checks : (q : ℕ) → checks_of folders q ≡ checks_in_store programs q
  pub none : (p : Pair) → node_at folders p ≡ None
  pub ascend : AllAscend folders

no_folder : (o : Option Folder) (f : Folder) → o ≡ None → o ≡ Some f → ⊥
no_folder o f e g = let h : None ≡ Some f = sym e ∙ g in cc

pub copied_none : (s programs : Store) (folders : Folders) → programs ≡ map.empty → folders ≡ map.empty
    → IsCopied s programs folders 0
copied_none s programs folders no_programs no_folders = record {
  here = λ q low le. absurd (omega (arith, low, le));
  zero = nothing 0;
  above = λ q lt. nothing q;
  checks = λ q. ap (option_map (λ (f : Folder). record { first = f.first; checked = f.checked })) (bare q) ∙ sym (ap (option_map (λ (e : Published). from_zero e.checked)) (nothing q));
  none = λ p. ap (option_and_then (λ (f : Folder). node_in f.nodes p.arg)) (bare p.name);
  ascend = λ q f e. absurd (no_folder (map.get folders q) f (bare q) e);
}
  where
    nothing : (q : ℕ) → map.get programs q ≡ None
    nothing q = ap (λ (m : Store). map.get m q) no_programs ∙ map.get-empty nat_cmp q

    bare : (q : ℕ) → map.get folders q ≡ None
    bare q = ap (λ (m : Folders). map.get m q) no_folders ∙ map.get-empty nat_cmp q

module _ (s programs : Store) (folders : Folders) (last name : ℕ) (e : Published) (f : Folder) (above : last < name) (there : published_at s name ≡ Some e)
    (between : (q : ℕ) → last < q → q < name → published_at s q ≡ None) (first : f.first ≡ pos 0) (checked : f.checked ≡ e.checked) (bare : f.nodes ≡ []) (h : IsCopied s programs folders last) where
  abbrev next : Store
  next = map.insert programs name e

  abbrev filed : Folders
  filed = map.insert folders name f

  here : (q : ℕ) → 0 < q → q ≤ name → map.get next q ≡ map.get s q
  here q positive le = elim (cases_eq q name) [
    | inl same ↦ subst (λ (n : ℕ). map.get next n ≡ map.get s n) (sym same) (get_put_same programs name e ∙ sym there)
    | inr other ↦ get_put_other programs name e q other ∙ elim (cases_lt last q) [
      | inl up ↦ h.above q up ∙ sym (between q up (grind (arith, le, other)))
      | inr low ↦ h.here q positive low
    ]
  ]

  up : (q : ℕ) → name < q → map.get next q ≡ None
  up q lt = get_put_other programs name e q (λ same. grind (arith, lt, same)) ∙ h.above q (omega (arith, above, lt))

  range_is : record { first = f.first; checked = f.checked } ≡ from_zero e.checked
  range_is = λ i. record { first = first i; checked = checked i }

  checks_next : (q : ℕ) → checks_of filed q ≡ checks_in_store next q
  checks_next q = elim (cases_eq q name) [
    | inl same ↦ subst (λ (n : ℕ). checks_of filed n ≡ checks_in_store next n) (sym same)
        (ap (option_map (λ (f : Folder). record { first = f.first; checked = f.checked })) (get_put_same folders name f)
        ∙ ap Some range_is
        ∙ sym (ap (option_map (λ (e : Published). from_zero e.checked)) (get_put_same programs name e)))
    | inr other ↦
        ap (option_map (λ (f : Folder). record { first = f.first; checked = f.checked })) (get_put_other folders name f q other)
        ∙ h.checks q
        ∙ sym (ap (option_map (λ (e : Published). from_zero e.checked)) (get_put_other programs name e q other))
  ]

  none_next : (p : Pair) → node_at filed p ≡ None
  none_next p = elim (cases_eq p.name name) [
    | inl same ↦ ap (option_and_then (λ (g : Folder). node_in g.nodes p.arg)) (ap (map.get filed) same ∙ get_put_same folders name f) ∙ ap (λ l. node_in l p.arg) bare
    | inr other ↦ ap (option_and_then (λ (g : Folder). node_in g.nodes p.arg)) (get_put_other folders name f p.name other) ∙ h.none p
  ]

  ascend_next : AllAscend filed
  ascend_next q g is = elim (cases_eq q name) [
    | inl same ↦
        let found : Some f ≡ Some g = sym (ap (map.get filed) same ∙ get_put_same folders name f) ∙ is in
        let eq : f ≡ g = cc in
        subst (λ (k : Folder). Ascends k.nodes) eq (subst Ascends (sym bare) tt)
    | inr other ↦ h.ascend q g (sym (get_put_other folders name f q other) ∙ is)
  ]

  pub copied_more : IsCopied s next filed name
  copied_more = record { here = here; zero = get_put_other programs name e 0 (λ same. grind (arith, above, same)) ∙ h.zero; above = up; checks = checks_next; none = none_next; ascend = ascend_next }

-- nothing is published under 0
pub zero_free : (s : Store) → IsStore s → published_at s 0 ≡ None
zero_free s kept = by_entry (published_at s 0) refl
  where
    by_entry : (o : Option Published) → published_at s 0 ≡ o → published_at s 0 ≡ None
    by_entry None is = is
    by_entry (Some e) is = absurd (let n = kept.named 0 e is in let one = n.0 in omega (arith, one))

module _ (s programs : Store) (folders : Folders) (last : ℕ) (kept : IsStore s) (none : (q : ℕ) → last < q → published_at s q ≡ None) (h : IsCopied s programs folders last) where
  pub all_copied : programs ≡ s
  all_copied = same_map nat_cmp_total nat_cmp-IsAntisymmetric _ _ by_place
    where
      by_place : (q : ℕ) → map.get programs q ≡ map.get s q
      by_place zero = h.zero ∙ sym (zero_free s kept)
      by_place (suc q) = elim (cases_lt last (suc q)) [ inl up ↦ h.above (suc q) up ∙ sym (none (suc q) up) | inr low ↦ h.here (suc q) (omega arith) low ]

  pub is_undrawn : IsUndrawn s folders
  is_undrawn = record { checks = λ q. h.checks q ∙ ap (λ (m : Store). checks_in_store m q) all_copied; none = h.none; ascend = h.ascend }
