use Rattle.std.proofs.Common.{sym, refl, ap, ◌∙◌}
use Rattle.std.specs.Prelude.{Option, ℤ}
use Rattle.oeis_terms.specs.Reading.{kept_after}
use Rattle.oeis_terms.proofs.Terms.{start, one_term, bad_term, no_more, has_integer, has_none}
use Rattle.oeis_terms.proofs.line.usable_terms.Goals as goal

pub loop-piece-init : goal.loop-piece-init
loop-piece-init c = start c.args.line.now _ c.clear.ensures.items

pub loop-piece-preserved : goal.loop-piece-preserved
loop-piece-preserved c =
    let z = has_integer _ c.in-Some-term_of.term c.in-Some-term_of.ensures in
    one_term c.args.line.now c.loop-piece.rest.now c.loop-piece.at c.loop-piece.is_wide c.loop-piece.terms.items c.in-Some.piece.now c.in-Some.after.now z.0 _ _ _ c.loop-piece.invariant (sym c.in-Some.ensures.cut) c.in-Some.ensures.length z.1 refl (c.in_ok-is_wide.ensures.ok ∙ ap (λ (t : Option ℤ). kept_after c.loop-piece.is_wide c.loop-piece.terms.items t) z.2)

pub returns-in_default-term_of : goal.returns-in_default-term_of
returns-in_default-term_of c =
    bad_term c.args.line.now c.loop-piece.rest.now c.loop-piece.at c.loop-piece.is_wide c.loop-piece.terms.items c.in-Some.piece.now c.in-Some.after.now c.loop-piece.invariant (sym c.in-Some.ensures.cut) (has_none _ c.in_default-term_of.ensures)

pub returns : goal.returns
returns c = no_more c.args.line.now c.loop-piece.rest.now c.loop-piece.at c.loop-piece.is_wide c.loop-piece.terms.items c.loop-piece.invariant (sym c.in_default.ensures.cut)
