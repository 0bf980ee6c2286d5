-- Nodes are merged with those of slots, step by step.
use Rattle.std.proofs.Common.{ℕ, ◌+◌, ◌<◌, ◌≤◌, ◌≡◌, refl, sym, ap, ◌∙◌, Bool, true, false, ℤ, ◌<ℤ◌, ◌≤ℤ◌, List, [], ◌∷◌, ◌++◌, length, get_or, drop, if◌then◌else◌, arith}
use Rattle.std.specs.declared.cmp.Ordering.{Ordering}
use Rattle.std.specs.declared.cmp.Ordering.TheVariants.{Less, Equal, Greater}
use Rattle.std.specs.Ordering.{int_cmp, is_lt}
use Rattle.std.specs.FinMap.{int_cmp-IsAntisymmetric}
use Rattle.std.specs.Cmp.{int_ranked}
use Rattle.std.proofs.lemmas.List.{drop_more, drop_all, append-nil, append_assoc}
use Rattle.std.proofs.lemmas.Bool.Decides.{Decides-int_eq}
use Rattle.demand_table.specs.declared.node.Node.{Node}
use Rattle.demand_table.specs.declared.slot.Slot.{Slot}
use Rattle.demand_table.specs.Written.{node_here, nodes_below, not_below, without, merged}
use Rattle.demand_table.proofs.Halving.{less_other, less_less, apart_false}
use Rattle.demand_table.proofs.Writing_down.{less}

is_less : (x y : ℤ) → x <ℤ y → is_lt (int_cmp x y) ≡ true
is_less x y lt = by (int_cmp x y) refl
  where
    by : (o : Ordering) → int_cmp x y ≡ o → is_lt (int_cmp x y) ≡ true
    by Less e = ap is_lt e
    by Equal e = absurd (less_other x y lt (int_cmp-IsAntisymmetric x y e))
    by Greater e = absurd (less_other x x (less_less x y x lt (int_ranked x y Greater (sym e))) refl)

is_no_less : (x y : ℤ) → (x <ℤ y → ⊥) → is_lt (int_cmp x y) ≡ false
is_no_less x y other = by (is_lt (int_cmp x y)) refl
  where
    by : (b : Bool) → is_lt (int_cmp x y) ≡ b → is_lt (int_cmp x y) ≡ false
    by true e = absurd (other (less x y e))
    by false e = e

pub no_less : (x y : ℤ) → y ≤ℤ x → x <ℤ y → ⊥
no_less x y le lt = grind (arith)

pub drop_step : (ns : List Node) (i : ℕ) (n : Node) → i < length ns → n ≡ get_or ns i n → drop i ns ≡ n ∷ drop (i + 1) ns
drop_step ns i n lt is = drop_more ns i n lt ∙ ap (λ (m : Node). m ∷ drop (i + 1) ns) (sym is)

-- one node more is kept
module _ (old : List Node) (i : ℕ) (n : Node) (lt : i < length old) (is : n ≡ get_or old i n) where
  pub kept_more : (nodes now all : List Node) (k : ℤ) → n.arg <ℤ k → now ≡ nodes ++ n ∷ [] → nodes ++ nodes_below k (drop i old) ≡ all → now ++ nodes_below k (drop (i + 1) old) ≡ all
  kept_more nodes now all k less grown inv =
      ap (λ (l : List Node). l ++ nodes_below k (drop (i + 1) old)) grown
      ∙ append_assoc nodes (n ∷ []) (nodes_below k (drop (i + 1) old))
      ∙ ap (λ (l : List Node). nodes ++ l)
      (sym (ap (nodes_below k) (drop_step old i n lt is) ∙ ap (λ (b : Bool). if b then n ∷ nodes_below k (drop (i + 1) old) else []) (is_less n.arg k less)))
      ∙ inv

  pub rest_more : (k : ℤ) (rest : List Node) → n.arg <ℤ k → not_below k (drop i old) ≡ rest → not_below k (drop (i + 1) old) ≡ rest
  rest_more k rest less inv =
      sym (ap (not_below k) (drop_step old i n lt is) ∙ ap (λ (b : Bool). if b then not_below k (drop (i + 1) old) else n ∷ drop (i + 1) old) (is_less n.arg k less)) ∙ inv

  pub kept_end : (nodes all : List Node) (k : ℤ) → (n.arg <ℤ k → ⊥) → nodes ++ nodes_below k (drop i old) ≡ all → nodes ≡ all
  kept_end nodes all k other inv =
      sym (append-nil nodes)
      ∙ ap (λ (l : List Node). nodes ++ l) (sym (ap (nodes_below k) (drop_step old i n lt is) ∙ ap (λ (b : Bool). if b then n ∷ nodes_below k (drop (i + 1) old) else []) (is_no_less n.arg k other)))
      ∙ inv

  pub rest_end : (k : ℤ) (rest : List Node) → (n.arg <ℤ k → ⊥) → not_below k (drop i old) ≡ rest → drop i old ≡ rest
  rest_end k rest other inv =
      drop_step old i n lt is
      ∙ sym (ap (not_below k) (drop_step old i n lt is) ∙ ap (λ (b : Bool). if b then not_below k (drop (i + 1) old) else n ∷ drop (i + 1) old) (is_no_less n.arg k other)) ∙ inv

  pub past_same : (k : ℤ) → n.arg ≡ k → drop (i + 1) old ≡ without k (drop i old)
  past_same k same = sym (ap (without k) (drop_step old i n lt is) ∙ ap (λ (b : Bool). if b then drop (i + 1) old else n ∷ drop (i + 1) old) ((Decides-int_eq n.arg k).1 same))

  pub past_other : (k : ℤ) → (n.arg ≡ k → ⊥) → drop i old ≡ without k (drop i old)
  past_other k other =
      drop_step old i n lt is
      ∙ sym (ap (without k) (drop_step old i n lt is) ∙ ap (λ (b : Bool). if b then drop (i + 1) old else n ∷ drop (i + 1) old) (apart_false n.arg k other))

  pub all_more : (nodes now all : List Node) → now ≡ nodes ++ n ∷ [] → nodes ++ drop i old ≡ all → now ++ drop (i + 1) old ≡ all
  all_more nodes now all grown inv =
      ap (λ (l : List Node). l ++ drop (i + 1) old) grown ∙ append_assoc nodes (n ∷ []) (drop (i + 1) old)
      ∙ ap (λ (l : List Node). nodes ++ l) (sym (drop_step old i n lt is)) ∙ inv

-- no node is left
module _ (old : List Node) (i : ℕ) (ge : length old ≤ i) where
  pub kept_all : (nodes all : List Node) (k : ℤ) → nodes ++ nodes_below k (drop i old) ≡ all → nodes ≡ all
  kept_all nodes all k inv = sym (append-nil nodes) ∙ ap (λ (l : List Node). nodes ++ nodes_below k l) (sym (drop_all i old ge)) ∙ inv

  pub rest_all : (k : ℤ) (rest : List Node) → not_below k (drop i old) ≡ rest → drop (length old) old ≡ rest
  rest_all k rest inv = drop_all (length old) old (omega arith) ∙ ap (not_below k) (sym (drop_all i old ge)) ∙ inv

  pub past_all : (k : ℤ) → drop i old ≡ without k (drop i old)
  past_all k = drop_all i old ge ∙ ap (without k) (sym (drop_all i old ge))

  pub all_kept : (nodes all : List Node) → nodes ++ drop i old ≡ all → nodes ≡ all
  all_kept nodes all inv = sym (append-nil nodes) ∙ ap (λ (l : List Node). nodes ++ l) (sym (drop_all i old ge)) ∙ inv

-- the nodes below a slot, and that of the slot
pub merged_step : (nodes kept now all rest left later : List Node) (k : ℤ) (s : Slot) (es : List (ℤ × Slot))
    → kept ≡ nodes ++ nodes_below k rest → left ≡ not_below k rest → later ≡ without k left → now ≡ kept ++ node_here k s s.entry
    → nodes ++ merged rest ((k, s) ∷ es) ≡ all → now ++ merged later es ≡ all
merged_step nodes kept now all rest left later k s es below_it not_it past put inv =
    ap (λ (l : List Node). now ++ merged l es) (past ∙ ap (without k) not_it)
    ∙ ap (λ (l : List Node). l ++ merged (without k (not_below k rest)) es) (put ∙ ap (λ (l : List Node). l ++ node_here k s s.entry) below_it)
    ∙ append_assoc (nodes ++ nodes_below k rest) (node_here k s s.entry) (merged (without k (not_below k rest)) es)
    ∙ append_assoc nodes (nodes_below k rest) (node_here k s s.entry ++ merged (without k (not_below k rest)) es)
    ∙ inv
