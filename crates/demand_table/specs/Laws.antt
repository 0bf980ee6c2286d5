-- What is drawn is one thing. Only clauses of private functions use what stands here.
use Rattle.std.specs.Prelude.{◌≡◌, IsSome}
use Rattle.std.specs.declared.option.Option.TheVariants.{Some}
use Rattle.loda_semantics.specs.declared.kinds.Pair.{Pair}
use Rattle.demand_table.specs.declared.node.Node.{Node}
use Rattle.demand_table.specs.Drawn.{CheckedRanges, Runs, IsClosed, Drawing, node_entry, IsDrawn}

-- two nodes tell the same of a run, its total and its callers
pub record TellsTheSame (n m : Node) : Type 0 where
  pub run : node_entry n ≡ node_entry m
  pub total : n.total ≡ m.total
  pub callers : n.callers ≡ m.callers

-- Two tables that are drawn of the same checks and closed runs have nodes for the same pairs, and these tell the same.
abbrev pub DrawnOnce : Type 0
DrawnOnce =
    (C : CheckedRanges) (R : Runs) (D E : Drawing) → IsClosed C R → IsDrawn C R D → IsDrawn C R E
    → (p : Pair) → (IsSome (D p) → IsSome (E p)) × ((n m : Node) → D p ≡ Some n → E p ≡ Some m → TellsTheSame n m)
