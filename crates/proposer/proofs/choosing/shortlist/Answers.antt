use Rattle.std.proofs.Common.{◌≡◌, ap, subst, ◌∙◌, List}
use Rattle.std.specs.Prelude.{IfOk}
use Rattle.rand_core.specs.Steps.{stream_of, steps_u32}
use Rattle.rand_chacha.specs.ChaCha.{ChaCha, next_word}
use Rattle.loda_syntax.specs.Programs.{Text}
use Rattle.loda_semantics.specs.Exec.{Library}
use Rattle.program_store.specs.declared.published.Proposal.{Proposal}
use Rattle.program_store.specs.Store.{programs_of}
use Rattle.proposer.specs.Short.{candidate, short_of}
use Rattle.proposer.proofs.choosing.shortlist.Goals as goal

pub returns-clause-list : goal.returns-clause-list
returns-clause-list g c =
    let s = g.V.View.store c.args.view.now in
    let table = c.args.terms.now in
    let limit = c.args.limit in
    let program = c.in_ok-program.program in
    let lib : g.V.Library.programs c.args.view.now ≡ programs_of s = λ i n. g.met.V.View.same_programs c.args.view.now n i in
    let made = c.in_ok-program.ensures ∙ ap (λ (source : ChaCha). candidate s (stream_of (steps_u32 (next_word 4)) source)) c.job_draws-draws.ensures.source in
    subst (λ (t : List Proposal). IfOk c.proposals_of.result (λ list. list.items ≡ t))
    (ap (λ (l : Library). short_of l table limit program) lib ∙ ap (λ (p : Text). short_of (programs_of s) table limit p) made)
    c.proposals_of.ensures.list
