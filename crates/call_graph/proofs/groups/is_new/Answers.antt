use Rattle.std.proofs.Common.{inl, inr, refl, sym, ◌∙◌}
use Rattle.std.proofs.lemmas.Map.Views.{Contains-from_any, exact_unsigned_eq}
use Rattle.call_graph.proofs.Sets.{position-read}
use Rattle.call_graph.proofs.groups.is_new.Goals as goal

pub returns-then-contains-clause-known : goal.returns-then-contains-clause-known
returns-then-contains-clause-known c _ =
    inl (Contains-from_any exact_unsigned_eq c.args.name c.args.done.now.keys (sym c.contains.ensures ∙ c.if-contains.true), refl)

pub returns-in-Some-clause-known : goal.returns-in-Some-clause-known
returns-in-Some-clause-known c _ =
    let at = position-read c.args.name c.args.stack.now.keys c.in-Some.place (sym c.get_index_of.ensures.index ∙ c.in-Some.is) in
    inr (c.in-Some.place, at.0, at.1, c.join.ensures)
