-- What a demand table holds: the live pairs, what their runs come to, their totals and their callers.
use Rattle.std.specs.Prelude.{ℕ, zero, suc, ◌+◌, ◌<◌, ◌^◌, ◌≡◌, ◌↔◌, pos, ◌≤ℤ◌, ◌<ℤ◌, ◌+ℤ◌, Contains, IsSome, sum_by, if◌then◌else◌, ◌==◌}
use Rattle.std.specs.declared.option.Option.{Option}
use Rattle.std.specs.declared.option.Option.TheVariants.{Some}
use Rattle.std.specs.Option.{option_map_or}
use Rattle.loda_semantics.specs.declared.kinds.Pair.{Pair}
use Rattle.demand_table.specs.declared.range.Range.{Range}
use Rattle.demand_table.specs.declared.entry.Entry.{Entry}
use Rattle.demand_table.specs.declared.node.Node.{Node}
use Rattle.demand_table.specs.Counts.{IsCount}

-- ---- what a table is drawn from

-- the checked arguments of each name that has any standing
abbrev pub CheckedRanges : Type 0
CheckedRanges = ℕ → Option Range

-- what the runs of pairs come to
abbrev pub Runs : Type 0
Runs = Pair → Option Entry

-- the argument is one of the checked ones of the name
abbrev pub IsChecked : CheckedRanges → Pair → Type 0
IsChecked C p = (r : Range) × (C p.name ≡ Some r) × (r.first ≤ℤ p.arg) × (p.arg <ℤ (r.first +ℤ pos r.checked))

-- the run of the one pair calls the other
abbrev pub RunCalls : Runs → Pair → Pair → Type 0
RunCalls R from to = (e : Entry) × (R from ≡ Some e) × Contains e.calls to

-- the checks with this range at one name
abbrev pub with_range : CheckedRanges → ℕ → Range → CheckedRanges
with_range C q r n = if n == q then Some r else C n

-- n calls lead to the pair from a checked one
abbrev pub ReachedAfter : CheckedRanges → Runs → ℕ → Pair → Type 0
ReachedAfter C R zero p = IsChecked C p
ReachedAfter C R (suc n) p = (from : Pair) × ReachedAfter C R n from × RunCalls R from p

-- the pair is checked, or is reached from a checked one
abbrev pub IsReached : CheckedRanges → Runs → Pair → Type 0
IsReached C R p = (n : ℕ) × ReachedAfter C R n p

-- calls form no cycle: pairs have ranks, and each call leads to a lower one
abbrev pub HasNoCycle : Runs → Type 0
HasNoCycle R = (rank : Pair → ℕ) × ((from to : Pair) → RunCalls R from to → rank to < rank from)

-- the runs are those of names that are there, with all checked ones and all that are called
pub record IsClosed (C : CheckedRanges) (R : Runs) : Type 0 where
  pub named : (p : Pair) → IsSome (R p) → IsSome (C p.name)
  pub checked : (p : Pair) → IsChecked C p → IsSome (R p)
  pub called : (from to : Pair) → RunCalls R from to → IsSome (R to)
  pub no_cycle : HasNoCycle R

-- the steps of each run, its callees' included and repeats counted
abbrev pub AreTotals : Runs → (Pair → ℕ) → Type 0
AreTotals R total = (p : Pair) (e : Entry) → R p ≡ Some e → total p ≡ e.own + sum_by total e.calls

-- the live runs take fewer than 2^64 steps
abbrev pub TotalsFit : CheckedRanges → Runs → Type 0
TotalsFit C R = (total : Pair → ℕ) × AreTotals R total × ((p : Pair) → IsReached C R p → total p < 2 ^ 64)

-- ---- the table

-- the node of each pair that has one
abbrev pub Drawing : Type 0
Drawing = Pair → Option Node

-- what a node says of its own run
abbrev pub node_entry : Node → Entry
node_entry n = record { value = n.value; own = n.own; calls = n.calls }

-- the total of a node, 0 where there is none
abbrev pub total_at : Drawing → Pair → ℕ
total_at D p = option_map_or (λ (n : Node). n.total) (D p) 0

-- the node of the one pair calls the other
abbrev pub NodeCalls : Drawing → Pair → Pair → Type 0
NodeCalls D to from = (n : Node) × (D from ≡ Some n) × Contains n.calls to

-- The table of these checks and runs: a node for each live pair and for no other, with what the run comes to, its own steps
-- and those of its direct calls, and the number of nodes that call the pair.
pub record IsDrawn (C : CheckedRanges) (R : Runs) (D : Drawing) : Type 0 where
  pub live : (p : Pair) → IsSome (D p) ↔ IsReached C R p
  pub runs : (p : Pair) (n : Node) → D p ≡ Some n → R p ≡ Some (node_entry n)
  pub totals : (p : Pair) (n : Node) → D p ≡ Some n → n.total ≡ n.own + sum_by (total_at D) n.calls
  pub callers : (p : Pair) (n : Node) → D p ≡ Some n → IsCount (NodeCalls D p) n.callers
