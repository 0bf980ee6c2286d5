-- Slots that are written down as the nodes of folders.
use Rattle.std.proofs.Common.{ℕ, ◌≡◌, ◌⊎◌, inl, inr, refl, sym, ap, subst, ◌∙◌, Bool, true, false, ℤ, List, [], ◌∷◌, if◌then◌else◌, ◌==◌, cond, arith}
use Rattle.std.specs.Prelude.{IsSome}
use Rattle.std.specs.declared.option.Option.{Option}
use Rattle.std.specs.declared.option.Option.TheVariants.{Some, None}
use Rattle.std.specs.Option.{option_and_then, option_map}
use Rattle.std.specs.Ordering.{nat_cmp, int_cmp, is_eq}
use Rattle.std.specs.Map.{lookup, keys_of}
use Rattle.std.specs.List.{AllByRecursion}
use Rattle.std.specs.declared.cmp.Ordering.TheVariants.{Less}
use Rattle.std.specs.FinMap as map
use Rattle.std.specs.FinMap.{gets}
use Rattle.std.proofs.lemmas.Grind.{common_steps}
use Rattle.std.specs.BTreeMap as tree
use Rattle.std.specs.BTreeMap.{BTreeMap}
use Rattle.std.specs.List.Sorted.{IsStrictlySortedBy}
use Rattle.std.proofs.lemmas.Map.Keys.{sorted_head, sorted_tail}
use Rattle.std.proofs.lemmas.Bool.{cases_eq}
use Rattle.std.proofs.lemmas.Bool.Decides.{Decides-eqb}
use Rattle.loda_semantics.specs.declared.kinds.Pair.{Pair}
use Rattle.demand_table.specs.declared.node.Node.{Node}
use Rattle.demand_table.specs.declared.node.Folder.{Folder}
use Rattle.demand_table.specs.declared.range.Range.{Range}
use Rattle.demand_table.specs.declared.slot.Slot.{Slot}
use Rattle.demand_table.specs.declared.work.Work.{Work}
use Rattle.demand_table.specs.Drawn.{CheckedRanges, with_range}
use Rattle.demand_table.specs.Loaded.{Folders, slot_or, slots_of, touched_in, node_in, node_at, checks_of}
use Rattle.demand_table.specs.Mended.{drawing_of}
use Rattle.demand_table.specs.Ascending.{Ascends, AllAscend}
use Rattle.demand_table.specs.Filed.{node_of_slot, filed_at, IsFiled, IsWrittenDown}
use Rattle.demand_table.proofs.Loaded.{in_name, names_apart}
use Rattle.demand_table.proofs.Writing_down.{found_arg, drawn_back}
use Rattle.demand_table.proofs.Reached.{get_put_same, get_put_other}

-- ---- one folder

abbrev pub range_of : Folder → Range
range_of f = record { first = f.first; checked = f.checked }

module _ (old new : Folders) (name : ℕ) (f : Folder) (put : new ≡ map.insert old name f) where
  pub at_put : (q : ℕ) → q ≡ name → map.get new q ≡ Some f
  at_put q e = ap (map.get new) e ∙ ap (λ (m : Folders). map.get m name) put ∙ get_put_same old name f

  pub off_put : (q : ℕ) → (q ≡ name → ⊥) → map.get new q ≡ map.get old q
  off_put q other = ap (λ (m : Folders). map.get m q) put ∙ get_put_other old name f q other

  pub node_off : (p : Pair) → (p.name ≡ name → ⊥) → node_at new p ≡ node_at old p
  node_off p other = ap (option_and_then (λ (g : Folder). node_in g.nodes p.arg)) (off_put p.name other)

  pub node_on : (p : Pair) → p.name ≡ name → node_at new p ≡ node_in f.nodes p.arg
  node_on p e = ap (option_and_then (λ (g : Folder). node_in g.nodes p.arg)) (at_put p.name e)

  pub ascend_put : Ascends f.nodes → AllAscend old → AllAscend new
  ascend_put rises all q g is = by (cases_eq q name)
    where
      some_same : (a b : Folder) → Some a ≡ Some b → a ≡ b
      some_same a b e = cc

      by : (q ≡ name) ⊎ (q ≡ name → ⊥) → Ascends g.nodes
      by (inl e) = subst (λ (k : Folder). Ascends k.nodes) (some_same f g (sym (at_put q e) ∙ is)) rises
      by (inr other) = all q g (sym (off_put q other) ∙ is)

module _ (old new : Folders) (name : ℕ) (slots : BTreeMap ℤ Slot) (was : Folder) (nodes : List Node) (there : map.get old name ≡ Some was)
    (put : new ≡ map.insert old name (record { first = was.first; checked = was.checked; nodes = nodes })) (listed : (p : Pair) → node_in nodes p.arg ≡ filed_at slots (node_in was.nodes p.arg) p) (rises : Ascends nodes) where
  with_nodes : Folder
  with_nodes = record { first = was.first; checked = was.checked; nodes = nodes }

  checks_same : (q : ℕ) → checks_of new q ≡ checks_of old q
  checks_same q = by (cases_eq q name)
    where
      by : (q ≡ name) ⊎ (q ≡ name → ⊥) → checks_of new q ≡ checks_of old q
      by (inl e) =
          ap (option_map range_of) (at_put old new name (record { first = was.first; checked = was.checked; nodes = nodes }) put q e)
          ∙ sym (ap (option_map range_of) (ap (map.get old) e ∙ there))
      by (inr other) = ap (option_map range_of) (off_put old new name (record { first = was.first; checked = was.checked; nodes = nodes }) put q other)

  node_was : (p : Pair) → p.name ≡ name → node_at old p ≡ node_in was.nodes p.arg
  node_was p e = ap (option_and_then (λ (g : Folder). node_in g.nodes p.arg)) (ap (map.get old) e ∙ there)

  pub filed_one : IsFiled old new name slots
  filed_one = record {
    checks = checks_same;
    others = node_off old new name (record { first = was.first; checked = was.checked; nodes = nodes }) put;
    here = λ p e has. node_on old new name (record { first = was.first; checked = was.checked; nodes = nodes }) put p e ∙ listed p ∙ ap (λ (o : Option Node). filed_at slots o p) (sym (node_was p e));
    ascend = ascend_put old new name (record { first = was.first; checked = was.checked; nodes = nodes }) put rises;
  }

-- the nodes of a name that has a folder, and of one that has none
pub has_nodes : (folders : Folders) (name : ℕ) (f : Folder) (nodes : List Node) → Some f ≡ map.get folders name → nodes ≡ f.nodes → (p : Pair) → p.name ≡ name → node_in nodes p.arg ≡ node_at folders p
has_nodes folders name f nodes is same p e =
    ap (λ (l : List Node). node_in l p.arg) same ∙ ap (option_and_then (λ (g : Folder). node_in g.nodes p.arg)) (is ∙ ap (map.get folders) (sym e))

pub no_nodes : (folders : Folders) (name : ℕ) (nodes : List Node) → None ≡ map.get folders name → nodes ≡ [] → (p : Pair) → p.name ≡ name → node_in nodes p.arg ≡ node_at folders p
no_nodes folders name nodes is same p e =
    ap (λ (l : List Node). node_in l p.arg) same ∙ ap (option_and_then (λ (g : Folder). node_in g.nodes p.arg)) (is ∙ ap (map.get folders) (sym e))

none_has : (o : Option Folder) → o ≡ None → IsSome o → ⊥
none_has None e h = cc
none_has (Some f) e h = cc

pub filed_none : (old new : Folders) (name : ℕ) (slots : BTreeMap ℤ Slot) → map.get old name ≡ None → new ≡ old → IsFiled old new name slots
filed_none old new name slots none e = subst (λ (m : Folders). IsFiled old m name slots) (sym e) (record {
  checks = λ q. refl;
  others = λ p other. refl;
  here = λ p same has. absurd (none_has (map.get old p.name) (ap (map.get old) same ∙ none) has);
  ascend = λ all. all;
})

-- ---- folders one after the other

abbrev pub Opened : Type 0
Opened = List (ℕ × BTreeMap ℤ Slot)

abbrev pub over : Option (BTreeMap ℤ Slot) → Option Node → Pair → Option Node
over None o p = o
over (Some slots) o p = filed_at slots o p

abbrev pub found_in : Opened → ℕ → Option (BTreeMap ℤ Slot)
found_in es q = lookup (tree.is_at (nat_cmp q)) es

pub record IsWriting (first now : Folders) (all rest : Opened) : Type 0 where
  pub checks : (q : ℕ) → checks_of now q ≡ checks_of first q
  pub nodes : (p : Pair) → IsSome (map.get first p.name) → over (found_in rest p.name) (node_at now p) p ≡ over (found_in all p.name) (node_at first p) p
  pub sorted : IsStrictlySortedBy nat_cmp (keys_of rest)
  pub ascend : AllAscend first → AllAscend now

pub writing_none : (first now : Folders) (all : Opened) → now ≡ first → IsStrictlySortedBy nat_cmp (keys_of all) → IsWriting first now all all
writing_none first now all e sorted = subst (λ (m : Folders). IsWriting first m all all) (sym e) (record { checks = λ q. refl; nodes = λ p has. refl; sorted = sorted; ascend = λ all. all })

name_self : (n : ℕ) → is_eq (nat_cmp n n) ≡ true
name_self n = grind (arith, gets, common_steps)

less_name : (x y : ℕ) → nat_cmp x y ≡ Less → y ≡ x → ⊥
less_name x y e same =
    let f : is_eq (nat_cmp x x) ≡ false = ap is_eq (subst (λ (z : ℕ). nat_cmp x z ≡ Less) same e) in
    let g = name_self x in
    cc

not_after : (es : Opened) (x : ℕ) → AllByRecursion (λ y. nat_cmp x y ≡ Less) (keys_of es) → found_in es x ≡ None
not_after [] x h = refl
not_after (e ∷ es) x h = ap (λ (b : Bool). cond b (Some e.1) (found_in es x)) (names_apart x e.0 (less_name x e.0 h.0)) ∙ not_after es x h.1

still : (now first : Folders) (q : ℕ) → checks_of now q ≡ checks_of first q → IsSome (map.get first q) → IsSome (map.get now q)
still now first q e has = by (map.get now q) (map.get first q) e has
  where
    by : (a b : Option Folder) → option_map range_of a ≡ option_map range_of b → IsSome b → IsSome a
    by (Some a) b e h = refl
    by None None e h = h
    by None (Some b) e h = cc

pub writing_more : (first now new : Folders) (all : Opened) (e : ℕ × BTreeMap ℤ Slot) (es : Opened) → IsWriting first now all (e ∷ es) → IsFiled now new e.0 e.1 → IsWriting first new all es
writing_more first now new all e es h filed = record {
  checks = λ q. filed.checks q ∙ h.checks q;
  nodes = λ p has. by p has (cases_eq p.name e.0);
  sorted = sorted_tail nat_cmp e.0 (keys_of es) h.sorted;
  ascend = λ up. filed.ascend (h.ascend up);
}
  where
    by : (p : Pair) → IsSome (map.get first p.name) → (p.name ≡ e.0) ⊎ (p.name ≡ e.0 → ⊥) → over (found_in es p.name) (node_at new p) p ≡ over (found_in all p.name) (node_at first p) p
    by p has (inl same) =
        let none : found_in es p.name ≡ None = ap (found_in es) same ∙ not_after es e.0 (sorted_head nat_cmp e.0 (keys_of es) h.sorted) in
        let at : tree.is_at (nat_cmp p.name) e.0 ≡ true = ap (λ (n : ℕ). is_eq (nat_cmp n e.0)) same ∙ name_self e.0 in
        ap (λ (o : Option (BTreeMap ℤ Slot)). over o (node_at new p) p) none
        ∙ filed.here p same (still now first p.name (h.checks p.name) has)
        ∙ sym (ap (λ (b : Bool). over (cond b (Some e.1) (found_in es p.name)) (node_at now p) p) at)
        ∙ h.nodes p has
    by p has (inr other) =
        ap (λ (o : Option Node). over (found_in es p.name) o p) (filed.others p other)
        ∙ sym (ap (λ (b : Bool). over (cond b (Some e.1) (found_in es p.name)) (node_at now p) p) (names_apart p.name e.0 (λ f. other (sym f))))
        ∙ h.nodes p has

-- ---- what is written down is what the slots stand for

pub node_arg : (folders : Folders) (p : Pair) (n : Node) → node_at folders p ≡ Some n → n.arg ≡ p.arg
node_arg folders p n h = by (map.get folders p.name) h
  where
    by : (o : Option Folder) → option_and_then (λ (g : Folder). node_in g.nodes p.arg) o ≡ Some n → n.arg ≡ p.arg
    by None e = cc
    by (Some g) e = found_arg g.nodes n p.arg e

over_drawn : (first : Folders) (p : Pair) (o : Option (BTreeMap ℤ Slot)) → over o (node_at first p) p ≡ node_of_slot p (slot_or (in_name p.arg o) (node_at first p))
over_drawn first p None = sym (drawn_back p (node_at first p) (node_arg first p))
over_drawn first p (Some slots) = refl

pub written_down : (first now : Folders) (work : Work) → IsWriting first now work.touched.entries [] → IsWrittenDown first now work
written_down first now work h = record {
  checks = h.checks;
  nodes = λ p has. h.nodes p has ∙ over_drawn first p (tree.get nat_cmp work.touched p.name);
  ascend = h.ascend;
}

-- ---- all folders, with that of the replaced name

pub range_here : (C : CheckedRanges) (name : ℕ) (range : Range) (q : ℕ) → q ≡ name → with_range C name range q ≡ Some range
range_here C name range q e = ap (λ (b : Bool). if b then Some range else C q) ((Decides-eqb q name).1 e)

pub range_off : (C : CheckedRanges) (name : ℕ) (range : Range) (q : ℕ) → (q ≡ name → ⊥) → with_range C name range q ≡ C q
range_off C name range q other = ap (λ (b : Bool). if b then Some range else C q) (by (q == name) refl)
  where
    by : (b : Bool) → (q == name) ≡ b → (q == name) ≡ false
    by true e = absurd (other ((Decides-eqb q name).0 e))
    by false e = e

pub has_folder : (o : Option Folder) → IsSome (option_map range_of o) → IsSome o
has_folder None h = cc
has_folder (Some f) h = refl

module _ (first rest next : Folders) (was work : Work) (name : ℕ) (range : Range) (slots : BTreeMap ℤ Slot) (nodes : List Node)
    (taken : (p : Pair) → p.name ≡ name → tree.get int_cmp slots p.arg ≡ touched_in was p) (others : (q : Pair) → (q.name ≡ name → ⊥) → touched_in work q ≡ touched_in was q)
    (listed : (p : Pair) → p.name ≡ name → node_in nodes p.arg ≡ filed_at slots (node_at first p) p) (rises : Ascends nodes) (written : IsWrittenDown first rest work)
    (put : next ≡ map.insert rest name (record { first = range.first; checked = range.checked; nodes = nodes })) where
  pub filed_checks : (q : ℕ) → checks_of next q ≡ with_range (checks_of first) name range q
  filed_checks q = by (cases_eq q name)
    where
      by : (q ≡ name) ⊎ (q ≡ name → ⊥) → checks_of next q ≡ with_range (checks_of first) name range q
      by (inl e) =
          ap (option_map range_of) (at_put rest next name (record { first = range.first; checked = range.checked; nodes = nodes }) put q e)
          ∙ sym (range_here (checks_of first) name range q e)
      by (inr other) =
          ap (option_map range_of) (off_put rest next name (record { first = range.first; checked = range.checked; nodes = nodes }) put q other)
          ∙ written.checks q ∙ sym (range_off (checks_of first) name range q other)

  pub filed_nodes : (p : Pair) → IsSome (with_range (checks_of first) name range p.name) → node_at next p ≡ drawing_of (slots_of first was) p
  filed_nodes p has = by (cases_eq p.name name)
    where
      by : (p.name ≡ name) ⊎ (p.name ≡ name → ⊥) → node_at next p ≡ drawing_of (slots_of first was) p
      by (inl e) =
          node_on rest next name (record { first = range.first; checked = range.checked; nodes = nodes }) put p e
          ∙ listed p e
          ∙ ap (λ (o : Option Slot). node_of_slot p (slot_or o (node_at first p))) (taken p e)
      by (inr other) =
          node_off rest next name (record { first = range.first; checked = range.checked; nodes = nodes }) put p other
          ∙ written.nodes p (has_folder (map.get first p.name) (subst (λ (o : Option Range). IsSome o) (range_off (checks_of first) name range p.name other) has))
          ∙ ap (λ (o : Option Slot). node_of_slot p (slot_or o (node_at first p))) (others p other)

  pub filed_ascend : AllAscend first → AllAscend next
  filed_ascend up = ascend_put rest next name (record { first = range.first; checked = range.checked; nodes = nodes }) put rises (written.ascend up)
