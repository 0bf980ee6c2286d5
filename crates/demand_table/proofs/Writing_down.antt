-- What the nodes that slots are written down as have at an argument, and that they ascend.
use Rattle.std.proofs.Common.{◌≡◌, ◌⊎◌, inl, inr, refl, sym, ap, subst, ◌∙◌, Bool, true, false, ℤ, ◌<ℤ◌, List, [], ◌∷◌, ◌++◌, Contains, if◌then◌else◌, cond}
use Rattle.std.specs.declared.option.Option.{Option}
use Rattle.std.specs.declared.option.Option.TheVariants.{Some, None}
use Rattle.std.specs.Ordering.{int_cmp, int_eq, is_lt}
use Rattle.std.specs.Map.{lookup, keys_of}
use Rattle.std.specs.List.{AllByRecursion}
use Rattle.std.specs.declared.cmp.Ordering.{Ordering}
use Rattle.std.specs.declared.cmp.Ordering.TheVariants.{Less, Equal, Greater}
use Rattle.std.specs.FinMap.{int_cmp-IsAntisymmetric}
use Rattle.std.specs.Cmp.{int_ranked}
use Rattle.std.specs.BTreeMap as tree
use Rattle.std.specs.BTreeMap.{BTreeMap}
use Rattle.std.specs.List.Sorted.{IsStrictlySortedBy}
use Rattle.std.proofs.lemmas.List.Elements.{Contains-append_left, Contains-append_right, Contains-append_cases}
use Rattle.std.proofs.lemmas.Map.Keys.{sorted_head, sorted_tail}
use Rattle.std.proofs.lemmas.Bool.Decides.{Decides-int_eq}
use Rattle.loda_semantics.specs.declared.kinds.Pair.{Pair}
use Rattle.demand_table.specs.declared.entry.Entry.{Entry}
use Rattle.demand_table.specs.declared.node.Node.{Node}
use Rattle.demand_table.specs.declared.slot.Slot.{Slot}
use Rattle.demand_table.specs.Ascending.{Ascends}
use Rattle.demand_table.specs.Filed.{node_of_slot, filed_at}
use Rattle.demand_table.specs.Loaded.{slot_or, slot_of, node_in, the_pair}
use Rattle.demand_table.specs.Mended.{node_with, node_from}
use Rattle.demand_table.specs.Written.{node_here, nodes_below, not_below, without, merged}
use Rattle.demand_table.proofs.Counts.{nil-cases, cons-cases, cons-here, cons-more, cons-same}
use Rattle.demand_table.proofs.Halving.{less_other, less_less, apart_false, none_node}
use Rattle.demand_table.proofs.Pairs.{int_cases}
use Rattle.demand_table.proofs.Loaded.{args_apart, arg_self}

-- ---- a node among others

abbrev pub first_of : Option Node → Option Node → Option Node
first_of (Some n) o = Some n
first_of None o = o

pub node_in-append : (ns ms : List Node) (x : ℤ) → node_in (ns ++ ms) x ≡ first_of (node_in ns x) (node_in ms x)
node_in-append [] ms x = refl
node_in-append (n ∷ ns) ms x = by (int_eq n.arg x) (node_in-append ns ms x)
  where
    by : (b : Bool) → node_in (ns ++ ms) x ≡ first_of (node_in ns x) (node_in ms x)
        → (if b then Some n else node_in (ns ++ ms) x) ≡ first_of (if b then Some n else node_in ns x) (node_in ms x)
    by true rest = refl
    by false rest = rest

pub found_arg : (ns : List Node) (n : Node) (x : ℤ) → node_in ns x ≡ Some n → n.arg ≡ x
found_arg [] n x h = cc
found_arg (m ∷ ms) n x h = by (int_eq m.arg x) refl h (found_arg ms n x)
  where
    some_same : (a b : Node) → Some a ≡ Some b → a ≡ b
    some_same a b e = cc

    by : (b : Bool) → int_eq m.arg x ≡ b → (if b then Some m else node_in ms x) ≡ Some n → (node_in ms x ≡ Some n → n.arg ≡ x) → n.arg ≡ x
    by true e f rest = subst (λ (k : Node). k.arg ≡ x) (some_same m n f) ((Decides-int_eq m.arg x).0 e)
    by false e f rest = rest f

found_within : (ns : List Node) (n : Node) (x : ℤ) → node_in ns x ≡ Some n → Contains ns n
found_within [] n x h = cc
found_within (m ∷ ms) n x h = by (int_eq m.arg x) h (found_within ms n x)
  where
    some_same : (a b : Node) → Some a ≡ Some b → a ≡ b
    some_same a b e = cc

    by : (b : Bool) → (if b then Some m else node_in ms x) ≡ Some n → (node_in ms x ≡ Some n → Contains ms n) → Contains (m ∷ ms) n
    by true f rest = cons-same m ms n (some_same m n f)
    by false f rest = cons-more m ms n (rest f)

-- a node becomes a slot and a node again
pub drawn_back : (p : Pair) (o : Option Node) → ((n : Node) → o ≡ Some n → n.arg ≡ p.arg) → node_of_slot p (slot_of o) ≡ o
drawn_back p None h = refl
drawn_back p (Some n) h = ap Some (λ i. record { arg = sym (h n refl) i; value = n.value; own = n.own; total = n.total; calls = n.calls; callers = n.callers })

here_other : (k x : ℤ) (s : Slot) (o : Option Entry) (ns : List Node) → (x ≡ k → ⊥) → node_in (node_here k s o ++ ns) x ≡ node_in ns x
here_other k x s None ns other = refl
here_other k x s (Some e) ns other = ap (λ (b : Bool). if b then Some (node_with (the_pair 0 k) s e) else node_in ns x) (by (int_eq k x) refl)
  where
    by : (b : Bool) → int_eq k x ≡ b → int_eq k x ≡ false
    by true e = absurd (other (sym ((Decides-int_eq k x).0 e)))
    by false e = e

here_same : (k : ℤ) (s : Slot) (o : Option Entry) (ns : List Node) → node_in ns k ≡ None → node_in (node_here k s o ++ ns) k ≡ node_from (the_pair 0 k) s o
here_same k s None ns none = none
here_same k s (Some e) ns none = ap (λ (b : Bool). if b then Some (node_with (the_pair 0 k) s e) else node_in ns k) ((Decides-int_eq k k).1 refl)

-- ---- which nodes are below an argument

pub less : (x y : ℤ) → is_lt (int_cmp x y) ≡ true → x <ℤ y
less x y t = by (int_cmp x y) refl t
  where
    by : (o : Ordering) → int_cmp x y ≡ o → is_lt o ≡ true → x <ℤ y
    by Less e f = int_ranked x y Less (sym e)
    by Equal e f = cc
    by Greater e f = cc

not_less : (x y : ℤ) → is_lt (int_cmp x y) ≡ false → (x ≡ y → ⊥) → y <ℤ x
not_less x y t other = by (int_cmp x y) refl t
  where
    by : (o : Ordering) → int_cmp x y ≡ o → is_lt o ≡ false → y <ℤ x
    by Less e f = cc
    by Equal e f = absurd (other (int_cmp-IsAntisymmetric x y e))
    by Greater e f = int_ranked x y Greater (sym e)

pub parts : (k : ℤ) (ns : List Node) → nodes_below k ns ++ not_below k ns ≡ ns
parts k [] = refl
parts k (n ∷ ns) = by (is_lt (int_cmp n.arg k)) (parts k ns)
  where
    by : (b : Bool) → nodes_below k ns ++ not_below k ns ≡ ns → (if b then n ∷ nodes_below k ns else []) ++ (if b then not_below k ns else n ∷ ns) ≡ n ∷ ns
    by true rest = ap (λ (l : List Node). n ∷ l) rest
    by false rest = refl

below_less : (k : ℤ) (ns : List Node) (m : Node) → Contains (nodes_below k ns) m → m.arg <ℤ k
below_less k [] m at = absurd (nil-cases m at)
below_less k (n ∷ ns) m at = by (is_lt (int_cmp n.arg k)) refl at (below_less k ns m)
  where
    by : (b : Bool) → is_lt (int_cmp n.arg k) ≡ b → Contains (if b then n ∷ nodes_below k ns else []) m → (Contains (nodes_below k ns) m → m.arg <ℤ k) → m.arg <ℤ k
    by true e at rest = elim (cons-cases n (nodes_below k ns) m at) [ inl same ↦ subst (λ (a : Node). a.arg <ℤ k) same (less n.arg k e) | inr more ↦ rest more ]
    by false e at rest = absurd (nil-cases m at)

below_within : (k : ℤ) (ns : List Node) (m : Node) → Contains (nodes_below k ns) m → Contains ns m
below_within k ns m at = subst (λ (l : List Node). Contains l m) (parts k ns) (Contains-append_left (nodes_below k ns) (not_below k ns) m at)

without_within : (k : ℤ) (ns : List Node) (m : Node) → Contains (without k ns) m → Contains ns m
without_within k [] m at = at
without_within k (n ∷ ns) m at = by (int_eq n.arg k) at
  where
    by : (b : Bool) → Contains (if b then ns else n ∷ ns) m → Contains (n ∷ ns) m
    by true at = cons-more n ns m at
    by false at = at

-- the nodes behind an argument
abbrev pub behind : ℤ → List Node → List Node
behind k ns = without k (not_below k ns)

behind_within : (k : ℤ) (ns : List Node) (m : Node) → Contains (behind k ns) m → Contains ns m
behind_within k ns m at =
    subst (λ (l : List Node). Contains l m) (parts k ns) (Contains-append_right (nodes_below k ns) (not_below k ns) m (without_within k (not_below k ns) m at))

behind_more : (k : ℤ) (ns : List Node) → Ascends ns → (m : Node) → Contains (behind k ns) m → k <ℤ m.arg
behind_more k [] up m at = absurd (nil-cases m at)
behind_more k (n ∷ ns) up m at = by (is_lt (int_cmp n.arg k)) refl at (behind_more k ns up.1 m)
  where
    last : (b : Bool) → int_eq n.arg k ≡ b → is_lt (int_cmp n.arg k) ≡ false → Contains (if b then ns else n ∷ ns) m → k <ℤ m.arg
    last true e f at = subst (λ (y : ℤ). y <ℤ m.arg) ((Decides-int_eq n.arg k).0 e) (up.0 m at)
    last false e f at =
        let more : k <ℤ n.arg = not_less n.arg k f (λ same. differ same) in
        elim (cons-cases n ns m at) [ inl same ↦ subst (λ (a : Node). k <ℤ a.arg) same more | inr later ↦ less_less k n.arg m.arg more (up.0 m later) ]
      where
        differ : n.arg ≡ k → ⊥
        differ same = let t = (Decides-int_eq n.arg k).1 same in cc

    by : (b : Bool) → is_lt (int_cmp n.arg k) ≡ b → Contains (without k (if b then not_below k ns else n ∷ ns)) m → (Contains (behind k ns) m → k <ℤ m.arg) → k <ℤ m.arg
    by true e at rest = rest at
    by false e at rest = last (int_eq n.arg k) refl e at

-- ---- ascending order

Ascends-append : (ns ms : List Node) → Ascends ns → Ascends ms → ((n m : Node) → Contains ns n → Contains ms m → n.arg <ℤ m.arg) → Ascends (ns ++ ms)
Ascends-append [] ms up upper between = upper
Ascends-append (n ∷ ns) ms up upper between = (
  λ m at. elim (Contains-append_cases ns ms m at) [ inl h ↦ up.0 m h | inr h ↦ between n m (cons-here n ns) h ],
  Ascends-append ns ms up.1 upper (λ a m at there. between a m (cons-more n ns a at) there),
)

below_ascends : (k : ℤ) (ns : List Node) → Ascends ns → Ascends (nodes_below k ns)
below_ascends k [] up = tt
below_ascends k (n ∷ ns) up = by (is_lt (int_cmp n.arg k)) (below_ascends k ns up.1)
  where
    by : (b : Bool) → Ascends (nodes_below k ns) → Ascends (if b then n ∷ nodes_below k ns else [])
    by true rest = (λ m at. up.0 m (below_within k ns m at), rest)
    by false rest = tt

without_ascends : (k : ℤ) (ns : List Node) → Ascends ns → Ascends (without k ns)
without_ascends k [] up = tt
without_ascends k (n ∷ ns) up = by (int_eq n.arg k)
  where
    by : (b : Bool) → Ascends (if b then ns else n ∷ ns)
    by true = up.1
    by false = up

not_below_ascends : (k : ℤ) (ns : List Node) → Ascends ns → Ascends (not_below k ns)
not_below_ascends k [] up = tt
not_below_ascends k (n ∷ ns) up = by (is_lt (int_cmp n.arg k)) (not_below_ascends k ns up.1)
  where
    by : (b : Bool) → Ascends (not_below k ns) → Ascends (if b then not_below k ns else n ∷ ns)
    by true rest = rest
    by false rest = up

here_arg : (k : ℤ) (s : Slot) (o : Option Entry) (m : Node) → Contains (node_here k s o) m → k ≡ m.arg
here_arg k s None m at = absurd (nil-cases m at)
here_arg k s (Some e) m at = elim (cons-cases (node_with (the_pair 0 k) s e) [] m at) [ inl same ↦ ap (λ (a : Node). a.arg) same | inr none ↦ absurd (nil-cases m none) ]

here_ascends : (k : ℤ) (s : Slot) (o : Option Entry) → Ascends (node_here k s o)
here_ascends k s None = tt
here_ascends k s (Some e) = (λ m at. absurd (nil-cases m at), tt)

merged_more : (es : List (ℤ × Slot)) (ns : List Node) (y : ℤ) → AllByRecursion (λ z. int_cmp y z ≡ Less) (keys_of es) → ((n : Node) → Contains ns n → y <ℤ n.arg)
    → (m : Node) → Contains (merged ns es) m → y <ℤ m.arg
merged_more [] ns y keys all m at = all m at
merged_more (e ∷ es) ns y keys all m at =
    elim (Contains-append_cases (nodes_below e.0 ns) (node_here e.0 e.1 e.1.entry ++ merged (behind e.0 ns) es) m at) [
      | inl h ↦ all m (below_within e.0 ns m h)
      | inr h ↦ elim (Contains-append_cases (node_here e.0 e.1 e.1.entry) (merged (behind e.0 ns) es) m h) [
        | inl here ↦ subst (λ (x : ℤ). y <ℤ x) (here_arg e.0 e.1 e.1.entry m here) (int_ranked y e.0 Less (sym keys.0))
        | inr later ↦ merged_more es (behind e.0 ns) y keys.1 (λ n there. all n (behind_within e.0 ns n there)) m later
      ]
    ]

pub merged_ascends : (es : List (ℤ × Slot)) (ns : List Node) → Ascends ns → IsStrictlySortedBy int_cmp (keys_of es) → Ascends (merged ns es)
merged_ascends [] ns up sorted = up
merged_ascends (e ∷ es) ns up sorted =
    let heads = sorted_head int_cmp e.0 (keys_of es) sorted in
    let above : (m : Node) → Contains (merged (behind e.0 ns) es) m → e.0 <ℤ m.arg = merged_more es (behind e.0 ns) e.0 heads (behind_more e.0 ns up) in
    Ascends-append (nodes_below e.0 ns) (node_here e.0 e.1 e.1.entry ++ merged (behind e.0 ns) es) (below_ascends e.0 ns up)
    (Ascends-append (node_here e.0 e.1 e.1.entry) (merged (behind e.0 ns) es) (here_ascends e.0 e.1 e.1.entry)
    (merged_ascends es (behind e.0 ns) (without_ascends e.0 (not_below e.0 ns) (not_below_ascends e.0 ns up)) (sorted_tail int_cmp e.0 (keys_of es) sorted))
    (λ n m at there. subst (λ (x : ℤ). x <ℤ m.arg) (here_arg e.0 e.1 e.1.entry n at) (above m there)))
    (λ n m at there. elim (Contains-append_cases (node_here e.0 e.1 e.1.entry) (merged (behind e.0 ns) es) m there) [
      | inl here ↦ subst (λ (x : ℤ). n.arg <ℤ x) (here_arg e.0 e.1 e.1.entry m here) (below_less e.0 ns n at)
      | inr later ↦ less_less n.arg e.0 m.arg (below_less e.0 ns n at) (above m later)
    ])

-- ---- what stands at an argument

no_slot : (es : List (ℤ × Slot)) (k x : ℤ) → x <ℤ k → AllByRecursion (λ y. int_cmp k y ≡ Less) (keys_of es) → lookup (tree.is_at (int_cmp x)) es ≡ None
no_slot [] k x lt h = refl
no_slot (e ∷ es) k x lt h =
    ap (λ (b : Bool). cond b (Some e.1) (lookup (tree.is_at (int_cmp x)) es)) (args_apart x e.0 (λ same. less_other x e.0 (less_less x k e.0 lt (int_ranked k e.0 Less (sym h.0))) (sym same)))
    ∙ no_slot es k x lt h.1

without_other : (k x : ℤ) (ns : List Node) → (x ≡ k → ⊥) → node_in (without k ns) x ≡ node_in ns x
without_other k x [] other = refl
without_other k x (n ∷ ns) other = by (int_eq n.arg k) refl
  where
    apart : n.arg ≡ k → int_eq n.arg x ≡ false
    apart same = apart_false n.arg x (λ e. other (sym e ∙ same))

    by : (b : Bool) → int_eq n.arg k ≡ b → node_in (if b then ns else n ∷ ns) x ≡ node_in (n ∷ ns) x
    by true e = sym (ap (λ (b : Bool). if b then Some n else node_in ns x) (apart ((Decides-int_eq n.arg k).0 e)))
    by false e = refl

merged_at : (es : List (ℤ × Slot)) (ns : List Node) → Ascends ns → IsStrictlySortedBy int_cmp (keys_of es) → (x : ℤ)
    → node_in (merged ns es) x ≡ node_of_slot (the_pair 0 x) (slot_or (lookup (tree.is_at (int_cmp x)) es) (node_in ns x))
merged_at [] ns up sorted x = sym (drawn_back (the_pair 0 x) (node_in ns x) (λ n e. found_arg ns n x e))
merged_at (e ∷ es) ns up sorted x =
    by (int_cases x e.0) (merged_at es (behind e.0 ns) (without_ascends e.0 (not_below e.0 ns) (not_below_ascends e.0 ns up)) (sorted_tail int_cmp e.0 (keys_of es) sorted) x)
  where
    heads : AllByRecursion (λ y. int_cmp e.0 y ≡ Less) (keys_of es)
    heads = sorted_head int_cmp e.0 (keys_of es) sorted

    here : node_in (merged ns (e ∷ es)) e.0 ≡ node_of_slot (the_pair 0 e.0) (slot_or (lookup (tree.is_at (int_cmp e.0)) (e ∷ es)) (node_in ns e.0))
    here =
        node_in-append (nodes_below e.0 ns) (node_here e.0 e.1 e.1.entry ++ merged (behind e.0 ns) es) e.0
        ∙ ap (λ (o : Option Node). first_of o (node_in (node_here e.0 e.1 e.1.entry ++ merged (behind e.0 ns) es) e.0))
        (none_node (nodes_below e.0 ns) e.0 (λ n at same. less_other n.arg e.0 (below_less e.0 ns n at) same))
        ∙ here_same e.0 e.1 e.1.entry (merged (behind e.0 ns) es)
        (none_node (merged (behind e.0 ns) es) e.0 (λ n at same. less_other e.0 n.arg (merged_more es (behind e.0 ns) e.0 heads (behind_more e.0 ns up) n at) (sym same)))
        ∙ sym (ap (λ (b : Bool). node_of_slot (the_pair 0 e.0) (slot_or (cond b (Some e.1) (lookup (tree.is_at (int_cmp e.0)) es)) (node_in ns e.0))) (arg_self e.0))

    node_split : node_in ns x ≡ first_of (node_in (nodes_below e.0 ns) x) (node_in (not_below e.0 ns) x)
    node_split = ap (λ (l : List Node). node_in l x) (sym (parts e.0 ns)) ∙ node_in-append (nodes_below e.0 ns) (not_below e.0 ns) x

    among : (o : Option Node) → node_in (nodes_below e.0 ns) x ≡ o → (x ≡ e.0 → ⊥)
        → node_in (merged (behind e.0 ns) es) x ≡ node_of_slot (the_pair 0 x) (slot_or (lookup (tree.is_at (int_cmp x)) es) (node_in (behind e.0 ns) x))
        → first_of o (node_in (merged (behind e.0 ns) es) x) ≡ node_of_slot (the_pair 0 x) (slot_or (lookup (tree.is_at (int_cmp x)) es) (node_in ns x))
    among None is other ih =
        ih
        ∙ ap (λ (o : Option Node). node_of_slot (the_pair 0 x) (slot_or (lookup (tree.is_at (int_cmp x)) es) o))
        (without_other e.0 x (not_below e.0 ns) other ∙ sym (node_split ∙ ap (λ (o : Option Node). first_of o (node_in (not_below e.0 ns) x)) is))
    among (Some n) is other ih =
        let there : Contains (nodes_below e.0 ns) n = found_within (nodes_below e.0 ns) n x is in
        let lt : x <ℤ e.0 = subst (λ (y : ℤ). y <ℤ e.0) (found_arg (nodes_below e.0 ns) n x is) (below_less e.0 ns n there) in
        sym (ap (λ (o : Option Slot). node_of_slot (the_pair 0 x) (slot_or o (node_in ns x))) (no_slot es e.0 x lt heads)
        ∙ ap (λ (o : Option Node). node_of_slot (the_pair 0 x) (slot_of o)) (node_split ∙ ap (λ (o : Option Node). first_of o (node_in (not_below e.0 ns) x)) is)
        ∙ drawn_back (the_pair 0 x) (Some n) (λ m same. found_arg (nodes_below e.0 ns) m x (is ∙ same)))

    by : (x ≡ e.0) ⊎ (x ≡ e.0 → ⊥)
        → node_in (merged (behind e.0 ns) es) x ≡ node_of_slot (the_pair 0 x) (slot_or (lookup (tree.is_at (int_cmp x)) es) (node_in (behind e.0 ns) x))
        → node_in (merged ns (e ∷ es)) x ≡ node_of_slot (the_pair 0 x) (slot_or (lookup (tree.is_at (int_cmp x)) (e ∷ es)) (node_in ns x))
    by (inl same) ih =
        subst (λ (y : ℤ). node_in (merged ns (e ∷ es)) y ≡ node_of_slot (the_pair 0 y) (slot_or (lookup (tree.is_at (int_cmp y)) (e ∷ es)) (node_in ns y))) (sym same) here
    by (inr other) ih =
        node_in-append (nodes_below e.0 ns) (node_here e.0 e.1 e.1.entry ++ merged (behind e.0 ns) es) x
        ∙ ap (first_of (node_in (nodes_below e.0 ns) x)) (here_other e.0 x e.1 e.1.entry (merged (behind e.0 ns) es) other)
        ∙ among (node_in (nodes_below e.0 ns) x) refl other ih
        ∙ sym (ap (λ (b : Bool). node_of_slot (the_pair 0 x) (slot_or (cond b (Some e.1) (lookup (tree.is_at (int_cmp x)) es)) (node_in ns x))) (args_apart x e.0 (λ f. other (sym f))))

from_arg : (p : Pair) (s : Slot) (o : Option Entry) → node_from (the_pair 0 p.arg) s o ≡ node_from p s o
from_arg p s None = refl
from_arg p s (Some e) = refl

-- the nodes that slots are written down as, among those that there were
pub written_at : (slots : BTreeMap ℤ Slot) (old nodes : List Node) → Ascends old → nodes ≡ merged old slots.entries → tree.IsOrdered int_cmp slots → (p : Pair)
    → node_in nodes p.arg ≡ filed_at slots (node_in old p.arg) p
written_at slots old nodes up is ordered p =
    ap (λ (l : List Node). node_in l p.arg) is ∙ merged_at slots.entries old up ordered p.arg
    ∙ from_arg p (slot_or (tree.get int_cmp slots p.arg) (node_in old p.arg)) (slot_or (tree.get int_cmp slots p.arg) (node_in old p.arg)).entry

pub ascend_at : (slots : BTreeMap ℤ Slot) (old nodes : List Node) → Ascends old → nodes ≡ merged old slots.entries → tree.IsOrdered int_cmp slots → Ascends nodes
ascend_at slots old nodes up is ordered = subst Ascends (sym is) (merged_ascends slots.entries old up ordered)
