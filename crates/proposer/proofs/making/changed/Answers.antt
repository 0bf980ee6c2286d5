use Rattle.std.proofs.Common.{◌≡◌, ℕ, sym, ap, subst, ◌∙◌, arith}
use Rattle.std.specs.Prelude.{IfOk, IsSome}
use Rattle.std.specs.Option.{option_copied}
use Rattle.std.proofs.lemmas.List.Elements.{All-get_or}
use Rattle.loda_syntax.specs.Programs.{Text}
use Rattle.program_store.specs.Store.{published_at}
use Rattle.program_store.proofs.PrintLoop.{found_some}
use Rattle.proposer.proofs.Names.{changed_is}
use Rattle.proposer.proofs.making.changed.Goals as goal

pub unwrap-published-requires : goal.unwrap-published-requires
unwrap-published-requires g c =
    found_some c.published.result _ c.published.ensures.value
    (All-get_or (λ (n : ℕ). IsSome (published_at (g.V.View.store c.args.view.now) n)) c.args.names.now c.below-place.result 0 (omega arith) c.requires.published)

pub returns : goal.returns
returns g c =
    subst (λ (made : Text). IfOk c.mutate.result (λ program. program ≡ made))
    (changed_is (g.V.View.store c.args.view.now) c.args.names.now c.below-place.result _ (g.R.Rng.stream c.args.draws.now) (g.R.Rng.stream c.below-place.new.self) c.unwrap-published.result.now
    (sym c.published.ensures.value ∙ ap option_copied c.unwrap-published.ensures) c.below-place.ensures.value (omega arith) c.below-place.ensures.rest)
    c.mutate.ensures.program
