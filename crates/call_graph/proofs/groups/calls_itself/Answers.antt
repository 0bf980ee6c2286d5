use Rattle.std.proofs.Common.{◌≡◌, sym, ap, subst, ◌∙◌, Some, Contains}
use Rattle.std.specs.Option.{option_copied}
use Rattle.loda_syntax.specs.Programs.{Text}
use Rattle.loda_semantics.specs.Exec.{Library}
use Rattle.program_store.specs.Graph.{calls_of}
use Rattle.call_graph.proofs.Following.{called-at}
use Rattle.call_graph.proofs.groups.calls_itself.Goals as goal

pub returns-then-called-name-clause-yes : goal.returns-then-called-name-clause-yes
returns-then-called-name-clause-yes g c _ =
    let lib : Library = g.B.Library.programs c.args.lib.now in
    let list : Text = c.instrs-list.result.now in
    let has : lib c.args.name ≡ Some list = sym c.program.ensures ∙ ap option_copied c.in-Some.is ∙ ap (λ (t : Text). Some t) (sym c.instrs-list.ensures.value) in (
      list,
      has,
      subst (Contains (calls_of list)) c.if-called-name.true (called-at list c.loop-instr.instr-index _ c.in-Call.target c.in-Call.called c.loop-instr-test.true c.in-Call.is),
    )
