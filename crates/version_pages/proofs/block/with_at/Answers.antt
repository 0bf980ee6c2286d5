use Rattle.std.proofs.Common.{◌<◌, length, ap, ◌∙◌, arith, Some}
use Rattle.version_pages.proofs.Rows.{place_held_set_same, place_held_set_other}
use Rattle.version_pages.proofs.block.with_at.Goals as goal

pub returns-clause-here : goal.returns-clause-here
returns-clause-here g c =
    let room : c.args.at < length c.in_ok-new.new.items = omega (arith, c.in_ok-new.ensures.enough) in
    place_held_set_same c.in_ok-new.new.items c.args.at c.in_ok-new-2.field-0 room ∙ ap Some c.in_ok-new-2.ensures.ok

pub returns-clause-others : goal.returns-clause-others
returns-clause-others g c =
    λ k ne. place_held_set_other c.in_ok-new.new.items c.args.at (Some c.in_ok-new-2.field-0) k ne
    ∙ c.in_ok-new.ensures.same k
