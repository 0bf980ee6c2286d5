use Rattle.std.proofs.Common.{◌/◌, ◌%◌, ◌∙◌, ap, arith}
use Rattle.std.specs.Option.{option_and_then}
use Rattle.version_pages.specs.Table.{place, held}
use Rattle.version_pages.proofs.Widths.{IsPut}
use Rattle.version_pages.proofs.Blocks.{length-row_of_held, put_here, put_other}
use Rattle.version_pages.proofs.row.into_blocks_with.Goals as goal

is_put : (g : _) (c : goal.In_ok-new g) → IsPut (held c.args.blocks.items) (held c.in_ok-new.new.items) c.in_ok-block.block (c.args.at / 25) (c.args.at % 25) c.args.value
is_put g c = record {
  page_here = c.in_ok-block.ensures.here;
  page_others = λ k ne. c.in_ok-block.ensures.others k ne ∙ ap (option_and_then (λ row. place row k)) c.taken-held.ensures.taken;
  table_here = c.in_ok-new.ensures.here;
  table_others = λ k ne. c.in_ok-new.ensures.others k ne ∙ c.taken-held.ensures.others k ne;
}

pub returns-clause-here : goal.returns-clause-here
returns-clause-here g c = put_here _ _ _ _ _ (is_put g c)

pub returns-clause-others : goal.returns-clause-others
returns-clause-others g c = put_other _ _ _ _ _ (is_put g c)

pub returns-clause-few : goal.returns-clause-few
returns-clause-few g c = omega (arith, c.in_ok-new.ensures.bound 40 (omega arith) (omega arith))

pub returns-clause-bound : goal.returns-clause-bound
returns-clause-bound g c = omega (arith, length-row_of_held c.in_ok-new.new.items, c.in_ok-new.ensures.bound 40 (omega arith) (omega arith))
