-- The runs of a name are taken out, one after the other.
use Rattle.std.proofs.Common.{ℕ, ◌-◌, ◌≡◌, ◌⊎◌, inl, inr, refl, sym, ap, subst, ◌∙◌, Bool, true, false, ℤ, List, [], ◌∷◌, ◌++◌, Contains, if◌then◌else◌, arith}
use Rattle.std.specs.Prelude.{IsSome}
use Rattle.std.specs.Ordering.{int_eq}
use Rattle.std.specs.declared.option.Option.{Option}
use Rattle.std.specs.declared.option.Option.TheVariants.{Some, None}
use Rattle.std.proofs.lemmas.Bool.Decides.{Decides-int_eq}
use Rattle.loda_semantics.specs.declared.kinds.Pair.{Pair}
use Rattle.demand_table.specs.declared.entry.Entry.{Entry}
use Rattle.demand_table.specs.declared.slot.Slot.{Slot}
use Rattle.demand_table.specs.declared.node.Node.{Node}
use Rattle.demand_table.specs.Counts.{IsCount}
use Rattle.demand_table.specs.Drawn.{Runs, RunCalls}
use Rattle.demand_table.specs.Work.{Slots, runs_in, without_run, IsSet, IsCounted, AreLowered, IsTakenOut}
use Rattle.std.specs.Option.{option_and_then}
use Rattle.std.specs.FinMap as map
use Rattle.demand_table.specs.declared.node.Folder.{Folder}
use Rattle.demand_table.specs.Loaded.{node_in, node_at, the_pair, slot_of, Folders}
use Rattle.demand_table.specs.Mending.{IsOut, IsClearing, IsCleared}
use Rattle.demand_table.proofs.Counts.{count_less}
use Rattle.demand_table.proofs.Counted.{none_is_some, is_some, taken-counted}
use Rattle.demand_table.proofs.Pairs.{pair_cases, has_cases, same_parts}
use Rattle.demand_table.proofs.Dead.{set_callers, taken_from}
use Rattle.demand_table.proofs.Loaded.{node_in-new}

-- there was no run
pub out_none : (old new : Slots) (p : Pair) (pending : List Pair) (many : ℕ) → IsCounted old → IsCount (λ q. IsSome (old q).entry) many → (old p).entry ≡ None → IsSet old new p (without_run (old p))
    → IsOut old new p pending pending many
out_none old new p pending many counted count none set = record {
  gone = ap (λ (s : Slot). s.entry) set.here;
  others = λ q other. ap (λ (s : Slot). s.entry) (set.others q other);
  totals = λ q other. ap (λ (s : Slot). s.total) (set.others q other);
  counted = λ q. subst (λ (S : Runs). IsCount (λ from. RunCalls S from q) (new q).callers) (sym runs) (subst (λ (n : ℕ). IsCount (λ from. RunCalls (runs_in old) from q) n) (sym (set_callers old new p q set)) (counted q));
  many = subst (λ (S : Runs). IsCount (λ q. IsSome (S q)) many) (sym runs) count;
  keeps = λ q at. at;
  fell = λ q none. inl (sym (set_callers old new p q set) ∙ none);
}
  where
    entry : (q : Pair) → (new q).entry ≡ (old q).entry
    entry q = elim (pair_cases q p) [
      | inl e ↦ subst (λ (r : Pair). (new r).entry ≡ (old r).entry) (sym e) (ap (λ (s : Slot). s.entry) set.here ∙ sym none)
      | inr other ↦ ap (λ (s : Slot). s.entry) (set.others q other)
    ]

    runs : runs_in new ≡ runs_in old
    runs = λ i q. entry q i

-- there was one
pub out_some : (old mid new : Slots) (p : Pair) (e : Entry) (calls pending now : List Pair) (many : ℕ) → IsCounted old → IsCount (λ q. IsSome (old q).entry) many → (old p).entry ≡ Some e
    → IsSet old mid p (without_run (old p)) → calls ≡ e.calls → AreLowered mid new calls pending now → IsOut old new p pending now (many - 1)
out_some old mid new p e calls pending now many counted count was set same low =
    let less = count_less (λ q. IsSome (old q).entry) (λ q. IsSome (new q).entry) many p (is_some (old p).entry e was) (none_is_some (new p).entry taken.gone)
    (λ q here other. subst (λ (o : Option Entry). IsSome o) (sym (taken.others q other)) here) back count in
    record {
      gone = taken.gone;
      others = taken.others;
      totals = λ q other. low.total q ∙ ap (λ (s : Slot). s.total) (set.others q other);
      counted = taken-counted old new p e taken counted;
      many = subst (λ (n : ℕ). IsCount (λ q. IsSome (new q).entry) n) (let f = less.1 in omega arith) less.2;
      keeps = low.keeps;
      fell = fell;
    }
  where
    taken : IsTakenOut old new p e
    taken = taken_from old mid new p e calls pending now was set same low

    back : (q : Pair) → IsSome (new q).entry → IsSome (old q).entry
    back q here = elim (pair_cases q p) [
      | inl f ↦ absurd (none_is_some (new p).entry taken.gone (subst (λ (r : Pair). IsSome (new r).entry) f here))
      | inr other ↦ subst (λ (o : Option Entry). IsSome o) (taken.others q other) here
    ]

    fell : (q : Pair) → (new q).callers ≡ 0 → ((old q).callers ≡ 0) ⊎ Contains now q
    fell q none = elim (has_cases calls q) [
      | inl at ↦ inr (low.adds q at none)
      | inr off ↦ inl (sym (set_callers old mid p q set) ∙ sym (low.same q off) ∙ none)
    ]

pub clearing_none : (w : Slots) (name : ℕ) (pending : List Pair) (many : ℕ) → IsCounted w → IsCount (λ q. IsSome (w q).entry) many → IsClearing w w name [] pending pending many
clearing_none w name pending many counted count = record {
  gone = λ q is some. cc;
  others = λ q other. refl;
  totals = λ q other. refl;
  fewer = λ q here. here;
  counted = counted;
  many = count;
  keeps = λ q at. at;
  fell = λ q none. inl none;
}

pub clearing_more : (old w new : Slots) (name : ℕ) (done : List Node) (n : Node) (pending now after : List Pair) (left less : ℕ) → IsClearing old w name done pending now left → IsOut w new (the_pair name n.arg) now after less
    → IsClearing old new name (done ++ n ∷ []) pending after less
clearing_more old w new name done n pending now after left less h out = record {
  gone = gone;
  others = λ q other. out.others q (λ e. other (ap (λ (r : Pair). r.name) e)) ∙ h.others q other;
  totals = λ q other. out.totals q (λ e. other (ap (λ (r : Pair). r.name) e)) ∙ h.totals q other;
  fewer = λ q here. h.fewer q (stood q here);
  counted = out.counted;
  many = out.many;
  keeps = λ q at. out.keeps q (h.keeps q at);
  fell = λ q none. elim (out.fell q none) [
    | inl zero' ↦ elim (h.fell q zero') [ inl e ↦ inl e | inr at ↦ inr (out.keeps q at) ]
    | inr at ↦ inr at
  ];
}
  where
    p : Pair
    p = the_pair name n.arg

    stood : (q : Pair) → IsSome (new q).entry → IsSome (w q).entry
    stood q here = elim (pair_cases q (the_pair name n.arg)) [
      | inl e ↦ absurd (none_is_some (new (the_pair name n.arg)).entry out.gone (subst (λ (r : Pair). IsSome (new r).entry) e here))
      | inr other ↦ subst (λ (o : Option Entry). IsSome o) (out.others q other) here
    ]

    gone : (q : Pair) → q.name ≡ name → IsSome (node_in (done ++ n ∷ []) q.arg) → (new q).entry ≡ None
    gone q is some = by (pair_cases q (the_pair name n.arg)) (node_in done q.arg) refl
      where
        by : (q ≡ the_pair name n.arg) ⊎ (q ≡ the_pair name n.arg → ⊥) → (o : Option Node) → node_in done q.arg ≡ o → (new q).entry ≡ None
        by (inl e) o f = subst (λ (r : Pair). (new r).entry ≡ None) (sym e) out.gone
        by (inr other) (Some m) f = out.others q other ∙ h.gone q is (node_some (node_in done q.arg) m f)
          where
            node_some : (o : Option Node) (m : Node) → o ≡ Some m → IsSome o
            node_some None m e = cc
            node_some (Some k) m e = refl
        by (inr other) None f = absurd (off (int_eq n.arg q.arg) refl)
          where
            off : (b : Bool) → int_eq n.arg q.arg ≡ b → ⊥
            off true e = other (same_parts q (the_pair name n.arg) is (sym ((Decides-int_eq n.arg q.arg).0 e)))
            off false e = none_node (node_in (done ++ n ∷ []) q.arg) (node_in-new done n q.arg f ∙ ap (λ (b : Bool). if b then Some n else None) e) some
              where
                none_node : (o : Option Node) → o ≡ None → IsSome o → ⊥
                none_node None e h = cc
                none_node (Some k) e h = cc

-- all nodes of the name were taken
pub cleared_all : (old new : Slots) (name : ℕ) (nodes : List Node) (pending now : List Pair) (left : ℕ) → IsClearing old new name nodes pending now left
    → ((q : Pair) → q.name ≡ name → IsSome (old q).entry → IsSome (node_in nodes q.arg)) → IsCleared old new name pending now left
cleared_all old new name nodes pending now left h all = record {
  gone = λ q is. by q is (new q).entry refl;
  others = h.others;
  totals = h.totals;
  counted = h.counted;
  many = h.many;
  keeps = h.keeps;
  fell = h.fell;
}
  where
    by : (q : Pair) → q.name ≡ name → (o : Option Entry) → (new q).entry ≡ o → (new q).entry ≡ None
    by q is None e = e
    by q is (Some x) e = h.gone q is (all q is (h.fewer q (is_some (new q).entry x e)))

-- ---- in a table that was not touched, a run of the name has a node in its folder

slot_node : (o : Option Node) → IsSome (slot_of o).entry → IsSome o
slot_node None h = cc
slot_node (Some n) h = refl

found_node : (o : Option Folder) (f : Folder) (x : ℤ) → o ≡ Some f → IsSome (option_and_then (λ (g : Folder). node_in g.nodes x) o) → IsSome (node_in f.nodes x)
found_node o f x e h = subst (λ (p : Option Folder). IsSome (option_and_then (λ (g : Folder). node_in g.nodes x) p)) e h

no_node : (o : Option Folder) (x : ℤ) → o ≡ None → IsSome (option_and_then (λ (g : Folder). node_in g.nodes x) o) → ⊥
no_node o x e h = let k : IsSome (option_and_then (λ (g : Folder). node_in g.nodes x) None) = subst (λ (p : Option Folder). IsSome (option_and_then (λ (g : Folder). node_in g.nodes x) p)) e h in cc

pub has_node : (folders : Folders) (q : Pair) (name : ℕ) (f : Folder) (s : Slot) → s ≡ slot_of (node_at folders q) → q.name ≡ name → map.get folders name ≡ Some f → IsSome s.entry → IsSome (node_in f.nodes q.arg)
has_node folders q name f s e is found here =
    let there : IsSome (node_at folders q) = slot_node (node_at folders q) (subst (λ (t : Slot). IsSome t.entry) e here) in
    found_node (map.get folders q.name) f q.arg (ap (map.get folders) is ∙ found) there

pub has_none : (folders : Folders) (q : Pair) (name : ℕ) (s : Slot) → s ≡ slot_of (node_at folders q) → q.name ≡ name → map.get folders name ≡ None → IsSome s.entry → ⊥
has_none folders q name s e is found here =
    let there : IsSome (node_at folders q) = slot_node (node_at folders q) (subst (λ (t : Slot). IsSome t.entry) e here) in
    no_node (map.get folders q.name) q.arg (ap (map.get folders) is ∙ found) there
