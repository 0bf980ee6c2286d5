-- Names that stand under the names that their runs call.
use Rattle.std.specs.Prelude.{ℕ, ◌≡◌, true, List, Contains}
use Rattle.std.specs.declared.cmp.Ordering.{Ordering}
use Rattle.std.specs.Ordering.{nat_cmp, ordering_then}
use Rattle.std.specs.FinMap as map
use Rattle.std.specs.BTreeSet as sorted
use Rattle.std.specs.BTreeSet.{BTreeSet}
use Rattle.text_parts.specs.Names.{IsName}
use Rattle.loda_semantics.specs.declared.kinds.Pair.{Pair}
use Rattle.seq_calls.specs.declared.outcomes.NodeRun.{NodeRun}
use Rattle.demand_table.specs.declared.names.Names.{Names}
use Rattle.demand_table.specs.Upward.{names_filed_under}

-- under each name those that may call it
abbrev pub Index : Type 0
Index = map.FinMap nat_cmp Names

-- the second index has all that the first has
abbrev pub Grows : Index → Index → Type 0
Grows old new = (to from : ℕ) → Contains (names_filed_under old to) from → Contains (names_filed_under new to) from

-- the name stands under the names of these pairs
abbrev pub HasCalls : Index → ℕ → List Pair → Type 0
HasCalls index from calls = (to : Pair) → Contains calls to → IsName to.name → Contains (names_filed_under index to.name) from

-- the names of the runs stand under those that they call
abbrev pub HasRuns : Index → List NodeRun → Type 0
HasRuns index runs = (r : NodeRun) → Contains runs r → HasCalls index r.pair.name r.calls

-- calls in order, by the name that is called and then by the name that calls
abbrev pub call_cmp : ℕ × ℕ → ℕ × ℕ → Ordering
call_cmp a b = ordering_then (nat_cmp a.0 b.0) (nat_cmp a.1 b.1)

-- what was met stands in the index
abbrev pub IsMetCalls : BTreeSet (ℕ × ℕ) → Index → Type 0
IsMetCalls met index = (to from : ℕ) → sorted.contains call_cmp met (to, from) ≡ true → IsName to → Contains (names_filed_under index to) from
