use Rattle.std.proofs.Common.{◌≡◌, ◌<◌, ◌+◌, ℕ, ℤ, pos, List, [], ◌∷◌, ◌++◌, length, refl, sym, ap, subst, ◌∙◌, arith}
use Rattle.std.specs.Prelude.{All}
use Rattle.std.proofs.lemmas.List.{map-append, length-append}
use Rattle.std.proofs.lemmas.List.FromFn.{map-range_with_len_more}
use Rattle.std.proofs.lemmas.List.Elements.{All-append, All-cons}
use Rattle.loda_semantics.specs.Exec.{value, run_text}
use Rattle.seq_calls.proofs.Values.{told_value}
use Rattle.minimiser.specs.declared.trying.Given.{Given}
use Rattle.minimiser.specs.Given.{IsGivenRun, arguments}
use Rattle.proposer.specs.Short.{given_from, first_arguments}
use Rattle.proposer.proofs.Values.{given_next, given_until, given_all}
use Rattle.proposer.proofs.running.given_terms.Goals as goal

pub returns-in-None : goal.returns-in-None
returns-in-None g c =
    let lib = g.B.Library.programs c.args.lib.now in
    let p = c.args.program.now in
    let row = c.args.row.now in
    let so_far = c.loop-term.invariant in
    let until : c.loop-term.term-index ≡ given_from lib c.args.limit p 0 row =
    given_until lib c.args.limit p c.loop-term.term-index row c.number_of-arg.result c.term-item.result c.in_ok-outcome.outcome (given_from lib c.args.limit p 0 row)
    (c.number_of-arg.ensures ∙ ap pos so_far.place) c.loop-term-test.true c.term-item.is c.in_ok-outcome.ensures.outcome
    (λ n e. c.in-None.ensures n e) so_far.rest in
    record {
      count = so_far.many ∙ until;
      args = so_far.args ∙ ap first_arguments until;
      given = so_far.runs;
      counted = omega arith;
    }

pub loop-term-preserved : goal.loop-term-preserved
loop-term-preserved g c =
    let lib = g.B.Library.programs c.args.lib.now in
    let p = c.args.program.now in
    let row = c.args.row.now in
    let i = c.loop-term.term-index in
    let so_far = c.loop-term.invariant in
    let list = c.loop-term.given.items in
    let t = c.term-item.result in
    let x = c.number_of-arg.result in
    let used = c.in-Some.used in
    let at : x ≡ pos i = c.number_of-arg.ensures ∙ ap pos so_far.place in
    let run : Given = record { arg = x; value = t; steps = used } in
    let longer = c.in_ok-push-in-Some.ensures.items in
    let many = so_far.many in
    let start : 0 + i ≡ i = omega arith in
    let ran : (run_text lib p x c.args.limit).0 ≡ value t used =
    told_value (run_text lib p x c.args.limit).0 t used (sym c.in_ok-outcome.ensures.outcome ∙ c.in-Some.ensures) in
    record {
      place = ap (λ (n : ℕ). n + 1) so_far.place;
      many = omega (arith, ap length longer, length-append list (run ∷ []), many);
      args =
          ap arguments longer ∙ map-append (λ (g : Given). g.arg) list (run ∷ [])
          ∙ ap (λ (xs : List ℤ). xs ++ x ∷ []) so_far.args
          ∙ ap (λ (y : ℤ). first_arguments i ++ y ∷ []) at
          ∙ sym (map-range_with_len_more pos 0 i i start);
      runs = subst (All (IsGivenRun lib c.args.limit p)) (sym longer)
          (All-append (IsGivenRun lib c.args.limit p) list (run ∷ []) so_far.runs
          (All-cons (IsGivenRun lib c.args.limit p) run [] ran (λ k d lt. absurd (omega arith))));
      rest = given_next lib c.args.limit p i row x t used (given_from lib c.args.limit p 0 row)
          at c.loop-term-test.true c.term-item.is (sym c.in_ok-outcome.ensures.outcome ∙ c.in-Some.ensures) so_far.rest;
      counted = omega arith;
    }

pub returns : goal.returns
returns g c =
    let lib = g.B.Library.programs c.args.lib.now in
    let p = c.args.program.now in
    let row = c.args.row.now in
    let so_far = c.loop-term.invariant in
    let whole : c.loop-term.term-index ≡ given_from lib c.args.limit p 0 row =
    given_all lib c.args.limit p c.loop-term.term-index row (given_from lib c.args.limit p 0 row) (omega arith) so_far.rest in
    record {
      count = so_far.many ∙ whole;
      args = so_far.args ∙ ap first_arguments whole;
      given = so_far.runs;
      counted = omega arith;
    }
