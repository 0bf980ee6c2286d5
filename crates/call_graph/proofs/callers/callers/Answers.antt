use Rattle.std.proofs.Common.{◌≡◌, sym, ap, ◌∙◌, Some}
use Rattle.std.specs.Option.{option_copied}
use Rattle.loda_semantics.specs.Exec.{Library}
use Rattle.program_store.specs.Store.{Store, programs_of}
use Rattle.call_graph.specs.Callers.{names_under}
use Rattle.call_graph.proofs.Turning.{turned_more}
use Rattle.call_graph.proofs.callers.callers.Goals as goal

pub loop-caller-preserved-in_ok-add_program : goal.loop-caller-preserved-in_ok-add_program
loop-caller-preserved-in_ok-add_program g c =
    let s : Store = g.V.View.store c.args.view.now in
    let caller = c.in-Some.caller in
    let same : g.V.Library.programs c.args.view.now ≡ programs_of s = λ i q. g.met.V.View.same_programs c.args.view.now q i in
    let has : programs_of s caller ≡ Some c.in-Some-program.program.now =
    sym (ap (λ (lib : Library). lib caller) same) ∙ sym c.program.ensures ∙ ap option_copied c.in-Some-program.is in
    turned_more s (names_under c.loop-caller.callers) c.loop-caller.after caller c.loop-caller.invariant c.in-Some.ensures.named.1 c.in-Some.ensures.least
    (names_under c.add_program.new.callers) c.in-Some-program.program.now has c.in_ok-add_program.ensures
