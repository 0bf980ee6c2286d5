use Rattle.std.proofs.Common.{◌≡◌, ◌∙◌, refl, sym, false}
use Rattle.std.specs.Prelude.{ℕ}
use Rattle.std.specs.Option.{is_some}
use Rattle.std.specs.declared.option.Option.{Option}
use Rattle.std.specs.declared.option.Option.TheVariants.{Some, None}
use Rattle.std.proofs.lemmas.List.Elements.{at_read}
use Rattle.loda_semantics.specs.declared.kinds.Pair.{Pair}
use Rattle.demand_table.specs.Loaded.{slots_of}
use Rattle.demand_table.proofs.settling.next_unknown.Goals as goal

none_from : (o : Option ℕ) → is_some o ≡ false → o ≡ None
none_from None e = refl
none_from (Some x) e = cc

pub returns-then-is_none-clause-found : goal.returns-then-is_none-clause-found
returns-then-is_none-clause-found c =
    at_read c.args.calls.now (λ (q : Pair). (slots_of c.args.known.now.pages.now c.args.work.now q).total ≡ None) c.loop-at.at c.index-calls-at.result c.loop-at-test.true c.index-calls-at.is
    (sym c.total.ensures ∙ none_from c.total.result c.if-is_none.ensures)
