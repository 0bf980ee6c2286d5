use Rattle.std.proofs.Common.{◌≡◌, subst}
use Rattle.std.specs.declared.option.Option.TheVariants.{Some}
use Rattle.program_store.specs.Store.{Store, programs_of}
use Rattle.seq_calls.specs.Frames.{pair}
use Rattle.demand_table.specs.Counts.{IsCount}
use Rattle.demand_table.specs.Drawn.{node_entry}
use Rattle.demand_table.specs.Loaded.{node_at}
use Rattle.demand_table.specs.Nodes.{IsLive, IsNodeAt, CallsPair}
use Rattle.demand_table.specs.Table.{runs_in_library, IsDemandTable}
use Rattle.demand_table.proofs.Filing.{node_arg}
use Rattle.demand_table.proofs.Telling.{tells, absent, called_by, told_some, told_none}
use Rattle.demand_table.proofs.tables.Tables.node.Goals as goal

pub returns-clause-some : goal.returns-clause-some
returns-clause-some c =
    let s = c.args.self.now in
    let f = c.self.inside.demand in
    let p = pair c.args.name c.args.arg.now in
    let table : IsDemandTable s (node_at f) = subst (λ (s : Store). IsDemandTable s (node_at f)) c.self.view_is c.self.invariant.table in
    told_some c.node.result (node_at f p) (λ n. IsNodeAt s p.name p.arg n) (λ n is. tells s (node_at f) table p n is (node_arg f p n is)) c.node.ensures.node

pub returns-clause-run : goal.returns-clause-run
returns-clause-run c =
    let s = c.args.self.now in
    let f = c.self.inside.demand in
    let p = pair c.args.name c.args.arg.now in
    let table : IsDemandTable s (node_at f) = subst (λ (s : Store). IsDemandTable s (node_at f)) c.self.view_is c.self.invariant.table in
    told_some c.node.result (node_at f p) (λ n. runs_in_library (programs_of s) p ≡ Some (node_entry n)) (λ n is. table.runs p n is) c.node.ensures.node

pub returns-clause-callers : goal.returns-clause-callers
returns-clause-callers c =
    let s = c.args.self.now in
    let f = c.self.inside.demand in
    let p = pair c.args.name c.args.arg.now in
    let table : IsDemandTable s (node_at f) = subst (λ (s : Store). IsDemandTable s (node_at f)) c.self.view_is c.self.invariant.table in
    told_some c.node.result (node_at f p) (λ n. IsCount (CallsPair s p) n.callers) (λ n is. called_by s (node_at f) table p n is) c.node.ensures.node

pub returns-clause-none : goal.returns-clause-none
returns-clause-none c =
    let s = c.args.self.now in
    let f = c.self.inside.demand in
    let p = pair c.args.name c.args.arg.now in
    let table : IsDemandTable s (node_at f) = subst (λ (s : Store). IsDemandTable s (node_at f)) c.self.view_is c.self.invariant.table in
    told_none c.node.result (node_at f p) (IsLive s p.name p.arg → ⊥) (λ none. absent s (node_at f) table p none) c.node.ensures.node
