-- A search by halving in nodes that ascend.
use Rattle.std.proofs.Common.{ℕ, zero, suc, ◌+◌, ◌<◌, ◌≤◌, ◌≡◌, ◌⊎◌, inl, inr, refl, sym, ap, subst, ◌∙◌, Bool, true, false, ℤ, ◌<ℤ◌, List, [], ◌∷◌, Contains, length, get_or, if◌then◌else◌, arith}
use Rattle.std.specs.Ordering.{int_eq}
use Rattle.std.specs.declared.option.Option.TheVariants.{Some, None}
use Rattle.std.proofs.lemmas.List.{get_or_default}
use Rattle.std.proofs.lemmas.Bool.{cases_lt, cases_eq}
use Rattle.std.proofs.lemmas.Bool.Decides.{Decides-int_eq}
use Rattle.demand_table.specs.declared.node.Node.{Node}
use Rattle.demand_table.specs.Ascending.{Ascends}
use Rattle.demand_table.specs.Loaded.{node_in}
use Rattle.demand_table.proofs.Counts.{nil-cases, cons-cases, cons-here, cons-more}

pub less_other : (x y : ℤ) → x <ℤ y → x ≡ y → ⊥
less_other x y lt e = grind (arith)

pub less_less : (x y z : ℤ) → x <ℤ y → y <ℤ z → x <ℤ z
less_less x y z f g = grind (arith)

pub apart_false : (x y : ℤ) → (x ≡ y → ⊥) → int_eq x y ≡ false
apart_false x y other = by (int_eq x y) refl
  where
    by : (b : Bool) → int_eq x y ≡ b → int_eq x y ≡ false
    by true e = absurd (other ((Decides-int_eq x y).0 e))
    by false e = e

rises_at : (ns : List Node) → Ascends ns → (i j : ℕ) (m n : Node) → i < j → j < length ns → get_or ns i m ≡ m → get_or ns j n ≡ n → m.arg <ℤ n.arg
rises_at [] up i j m n lt le e f = absurd (omega arith)
rises_at (k ∷ ks) up i zero m n lt le e f = absurd (omega arith)
rises_at (k ∷ ks) up zero (suc j) m n lt le e f = subst (λ (a : Node). a.arg <ℤ n.arg) e (up.0 n (j, omega arith, f))
rises_at (k ∷ ks) up (suc i) (suc j) m n lt le e f = rises_at ks up.1 i j m n (omega arith) (omega arith) e f

pub found_node : (ns : List Node) → Ascends ns → (n : Node) (x : ℤ) → Contains ns n → n.arg ≡ x → node_in ns x ≡ Some n
found_node [] up n x at e = absurd (nil-cases n at)
found_node (k ∷ ks) up n x at e = elim (cons-cases k ks n at) [
  | inl same ↦ ap (λ (b : Bool). if b then Some k else node_in ks x) ((Decides-int_eq k.arg x).1 (ap (λ (a : Node). a.arg) same ∙ e)) ∙ ap Some same
  | inr later ↦
      ap (λ (b : Bool). if b then Some k else node_in ks x) (apart_false k.arg x (less_other k.arg x (subst (λ (y : ℤ). k.arg <ℤ y) e (up.0 n later))))
      ∙ found_node ks up.1 n x later e
]

pub none_node : (ns : List Node) (x : ℤ) → ((n : Node) → Contains ns n → n.arg ≡ x → ⊥) → node_in ns x ≡ None
none_node [] x h = refl
none_node (k ∷ ks) x h = ap (λ (b : Bool). if b then Some k else node_in ks x) (apart_false k.arg x (h k (cons-here k ks))) ∙ none_node ks x (λ n at. h n (cons-more k ks n at))

-- what is below the one place is less, and what is from the other on is more
pub record IsHalving (ns : List Node) (x : ℤ) (low high : ℕ) : Type 0 where
  pub order : low ≤ high
  pub within : high ≤ length ns
  pub below : (k : ℕ) (n : Node) → k < low → get_or ns k n ≡ n → n.arg <ℤ x
  pub above : (k : ℕ) (n : Node) → high ≤ k → k < length ns → get_or ns k n ≡ n → x <ℤ n.arg

pub halving_first : (ns : List Node) (x : ℤ) (high : ℕ) → high ≡ length ns → IsHalving ns x 0 high
halving_first ns x high e = record {
  order = omega arith;
  within = omega arith;
  below = λ k n lt at. absurd (omega arith);
  above = λ k n le lt at. absurd (omega arith);
}

module _ (ns : List Node) (up : Ascends ns) (x : ℤ) (low high mid : ℕ) (n : Node) (h : IsHalving ns x low high) (from : low ≤ mid) (upto : mid < high) (at : get_or ns mid n ≡ n) where
  same_at : (k : ℕ) (m : Node) → get_or ns k m ≡ m → k ≡ mid → m ≡ n
  same_at k m is e = let w = h.within in sym is ∙ ap (λ (j : ℕ). get_or ns j m) e ∙ get_or_default ns mid m n (omega arith) ∙ at

  pub halving_up : n.arg <ℤ x → IsHalving ns x (mid + 1) high
  halving_up less = record {
    order = omega arith;
    within = h.within;
    below = λ k m lt is. by k m is (cases_eq k mid) lt;
    above = h.above;
  }
    where
      by : (k : ℕ) (m : Node) → get_or ns k m ≡ m → (k ≡ mid) ⊎ (k ≡ mid → ⊥) → k < mid + 1 → m.arg <ℤ x
      by k m is (inl e) lt = subst (λ (a : Node). a.arg <ℤ x) (sym (same_at k m is e)) less
      by k m is (inr other) lt = less_less m.arg n.arg x (rises_at ns up k mid m n (omega arith) (let w = h.within in omega arith) is at) less

  pub halving_down : x <ℤ n.arg → IsHalving ns x low mid
  halving_down more = record {
    order = from;
    within = let w = h.within in omega arith;
    below = h.below;
    above = λ k m le lt is. by k m is (cases_eq k mid) le lt;
  }
    where
      by : (k : ℕ) (m : Node) → get_or ns k m ≡ m → (k ≡ mid) ⊎ (k ≡ mid → ⊥) → mid ≤ k → k < length ns → x <ℤ m.arg
      by k m is (inl e) le lt = subst (λ (a : Node). x <ℤ a.arg) (sym (same_at k m is e)) more
      by k m is (inr other) le lt = less_less x n.arg m.arg more (rises_at ns up mid k n m (omega arith) lt at is)

pub halving_last : (ns : List Node) (x : ℤ) (low high : ℕ) → IsHalving ns x low high → high ≤ low → node_in ns x ≡ None
halving_last ns x low high h le = none_node ns x (λ n at. by n at (cases_lt at.0 low))
  where
    by : (n : Node) (at : Contains ns n) → (at.0 < low) ⊎ (low ≤ at.0) → n.arg ≡ x → ⊥
    by n at (inl lt) e = less_other n.arg x (h.below at.0 n lt at.2) e
    by n at (inr ge) e = less_other x n.arg (h.above at.0 n (omega arith) at.1 at.2) (sym e)
