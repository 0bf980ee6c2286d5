-- The arguments of the nodes that have callers are those that nodes call.
use Rattle.std.proofs.Common.{ℕ, zero, suc, ◌<◌, ◌≡◌, inl, inr, refl, sym, ap, subst, ◌∙◌, Bool, true, false, ℤ, ◌<ℤ◌, List, [], ◌∷◌, ◌++◌, Contains, if◌then◌else◌, arith, append_assoc}
use Rattle.std.specs.Prelude.{IsSome}
use Rattle.std.specs.Ordering.{int_eq}
use Rattle.std.specs.declared.option.Option.{Option}
use Rattle.std.specs.declared.option.Option.TheVariants.{Some, None}
use Rattle.std.specs.Option.{option_and_then}
use Rattle.std.specs.FinMap as map
use Rattle.std.proofs.lemmas.List.{append-nil}
use Rattle.std.proofs.lemmas.Bool.Decides.{Decides-int_eq}
use Rattle.loda_semantics.specs.declared.kinds.Pair.{Pair}
use Rattle.demand_table.specs.declared.node.Node.{Node}
use Rattle.demand_table.specs.declared.node.Folder.{Folder}
use Rattle.demand_table.specs.Counts.{IsCount}
use Rattle.demand_table.specs.Drawn.{CheckedRanges, Runs, Drawing, node_entry, NodeCalls, IsDrawn}
use Rattle.demand_table.specs.Loaded.{Folders, node_in, node_at, checks_of, the_pair}
use Rattle.demand_table.specs.Ascending.{Ascends}
use Rattle.demand_table.specs.Demanded.{Rises, IsCalled, AreCalled, called_here, called_in}
use Rattle.demand_table.proofs.Counts.{nil-cases, cons-cases, cons-same, cons-more, none_of_zero, some_of_count}
use Rattle.demand_table.proofs.Writing_down.{found_arg}

pub called_push : (ns : List Node) (n : Node) → called_in (ns ++ n ∷ []) ≡ called_in ns ++ called_here n.callers n.arg
called_push [] n = append-nil (called_here n.callers n.arg)
called_push (m ∷ ms) n = ap (λ (l : List ℤ). called_here m.callers m.arg ++ l) (called_push ms n) ∙ sym (append_assoc (called_here m.callers m.arg) (called_in ms) (called_here n.callers n.arg))

pub here_some : (n : ℕ) (x : ℤ) → 0 < n → called_here n x ≡ x ∷ []
here_some zero x lt = absurd (omega arith)
here_some (suc n) x lt = refl

pub here_none : (n : ℕ) (x : ℤ) → n ≡ 0 → called_here n x ≡ []
here_none zero x e = refl
here_none (suc n) x e = absurd (omega arith)

some_node : (a b : Node) → Some a ≡ Some b → a ≡ b
some_node a b e = cc

found_there : (ns : List Node) (n : Node) (x : ℤ) → node_in ns x ≡ Some n → Contains ns n
found_there [] n x h = cc
found_there (m ∷ ms) n x h = by (int_eq m.arg x) h (found_there ms n x)
  where
    by : (b : Bool) → (if b then Some m else node_in ms x) ≡ Some n → (node_in ms x ≡ Some n → Contains ms n) → Contains (m ∷ ms) n
    by true f rest = cons-same m ms n (some_node m n f)
    by false f rest = cons-more m ms n (rest f)

-- a node at the argument that has callers
abbrev HasCallers : List Node → ℤ → Type 0
HasCallers ns x = (n : Node) × (node_in ns x ≡ Some n) × (0 < n.callers)

less_other : (x y : ℤ) → x <ℤ y → x ≡ y → ⊥
less_other x y lt e = grind (arith)

called_to : (ns : List Node) → Ascends ns → (x : ℤ) → Contains (called_in ns) x → HasCallers ns x
called_to [] up x at = absurd (nil-cases x at)
called_to (n ∷ ns) up x at = by n.callers refl at (called_to ns up.1 x)
  where
    later : HasCallers ns x → HasCallers (n ∷ ns) x
    later h = (h.0, skip (int_eq n.arg x) refl, h.2)
      where
        apart : n.arg ≡ x → ⊥
        apart same = less_other n.arg x (subst (λ (y : ℤ). n.arg <ℤ y) (found_arg ns h.0 x h.1) (up.0 h.0 (found_there ns h.0 x h.1))) same

        skip : (b : Bool) → int_eq n.arg x ≡ b → (if int_eq n.arg x then Some n else node_in ns x) ≡ Some h.0
        skip true e = absurd (apart ((Decides-int_eq n.arg x).0 e))
        skip false e = ap (λ (b : Bool). if b then Some n else node_in ns x) e ∙ h.1

    by : (k : ℕ) → n.callers ≡ k → Contains (called_here k n.arg ++ called_in ns) x → (Contains (called_in ns) x → HasCallers ns x) → HasCallers (n ∷ ns) x
    by zero e at rest = later (rest at)
    by (suc k) e at rest = elim (cons-cases n.arg (called_in ns) x at) [
      | inl same ↦ (n, ap (λ (b : Bool). if b then Some n else node_in ns x) ((Decides-int_eq n.arg x).1 same), omega arith)
      | inr further ↦ later (rest further)
    ]

called_from : (ns : List Node) (x : ℤ) → HasCallers ns x → Contains (called_in ns) x
called_from [] x h = let f : None ≡ Some h.0 = h.1 in cc
called_from (n ∷ ns) x h = by (int_eq n.arg x) refl h.1 (λ e. called_from ns x (h.0, e, h.2))
  where
    more : (k : ℕ) → Contains (called_in ns) x → Contains (called_here k n.arg ++ called_in ns) x
    more zero at = at
    more (suc k) at = cons-more n.arg (called_in ns) x at

    by : (b : Bool) → int_eq n.arg x ≡ b → (if b then Some n else node_in ns x) ≡ Some h.0 → (node_in ns x ≡ Some h.0 → Contains (called_in ns) x) → Contains (called_here n.callers n.arg ++ called_in ns) x
    by true e f rest =
        let lt : 0 < n.callers = subst (λ (m : Node). 0 < m.callers) (sym (some_node n h.0 f)) h.2 in
        subst (λ (l : List ℤ). Contains (l ++ called_in ns) x) (sym (here_some n.callers n.arg lt)) (cons-same n.arg (called_in ns) x ((Decides-int_eq n.arg x).0 e))
    by false e f rest = more n.callers (rest f)

called_rises : (ns : List Node) → Ascends ns → Rises (called_in ns)
called_rises [] up = tt
called_rises (n ∷ ns) up = by n.callers (called_rises ns up.1)
  where
    by : (k : ℕ) → Rises (called_in ns) → Rises (called_here k n.arg ++ called_in ns)
    by zero rest = rest
    by (suc k) rest = (λ y at. let h = called_to ns up.1 y at in subst (λ (z : ℤ). n.arg <ℤ z) (found_arg ns h.0 y h.1) (up.0 h.0 (found_there ns h.0 y h.1)), rest)

-- ---- in a table

module _ (C : CheckedRanges) (R : Runs) (D : Drawing) (drawn : IsDrawn C R D) (p : Pair) where
  pub has_caller : (n : Node) → D p ≡ Some n → 0 < n.callers → IsCalled D p
  has_caller n is lt = some_of_count (NodeCalls D p) n.callers lt (drawn.callers p n is)

  the_node : (o : Option Node) → IsSome o → (n : Node) × (o ≡ Some n)
  the_node None h = cc
  the_node (Some n) h = (n, refl)

  stands : (o : Option Node) (n : Node) → o ≡ Some n → IsSome o
  stands None n e = cc
  stands (Some m) n e = refl

  pub is_called : IsCalled D p → (n : Node) × (D p ≡ Some n) × (0 < n.callers)
  is_called call =
      let from = call.0 in
      let live = (drawn.live from).0 (stands (D from) call.1.0 call.1.1) in
      let here = the_node (D p) ((drawn.live p).1 (suc live.0, (from, live.1, (node_entry call.1.0, drawn.runs from call.1.0 call.1.1, call.1.2)))) in
      (here.0, here.1, positive here.0.callers refl (drawn.callers p here.0 here.1))
    where
      positive : (k : ℕ) → k ≡ k → IsCount (NodeCalls D p) k → 0 < k
      positive zero e count = absurd (none_of_zero (NodeCalls D p) count call.0 call.1)
      positive (suc k) e count = omega arith

module _ (folders : Folders) (R : Runs) (name : ℕ) (drawn : IsDrawn (checks_of folders) R (node_at folders)) where
  pub called_some : (f : Folder) (list : List ℤ) → map.get folders name ≡ Some f → Ascends f.nodes → list ≡ called_in f.nodes → AreCalled (node_at folders) name list
  called_some f list is up same = subst (λ (l : List ℤ). AreCalled (node_at folders) name l) (sym same) (record {
    exact = λ x. (
      λ at. let h = called_to f.nodes up x at in has_caller (checks_of folders) R (node_at folders) drawn (the_pair name x) h.0 (there x ∙ h.1) h.2,
      λ call. let h = is_called (checks_of folders) R (node_at folders) drawn (the_pair name x) call in called_from f.nodes x (h.0, sym (there x) ∙ h.1, h.2),
    );
    rises = called_rises f.nodes up;
  })
    where
      there : (x : ℤ) → node_at folders (the_pair name x) ≡ node_in f.nodes x
      there x = ap (option_and_then (λ (g : Folder). node_in g.nodes x)) is

  pub called_none : (list : List ℤ) → map.get folders name ≡ None → list ≡ [] → AreCalled (node_at folders) name list
  called_none list none same = subst (λ (l : List ℤ). AreCalled (node_at folders) name l) (sym same) (record {
    exact = λ x. (
      λ at. absurd (nil-cases x at),
      λ call. let h = is_called (checks_of folders) R (node_at folders) drawn (the_pair name x) call in
          let f : None ≡ Some h.0 = sym (ap (option_and_then (λ (g : Folder). node_in g.nodes x)) none) ∙ h.1 in cc,
    );
    rises = tt;
  })
