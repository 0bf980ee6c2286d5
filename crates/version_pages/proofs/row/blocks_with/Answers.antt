use Rattle.std.proofs.Common.{◌/◌, ◌%◌, arith}
use Rattle.version_pages.specs.Table.{held}
use Rattle.version_pages.proofs.Widths.{IsPut}
use Rattle.version_pages.proofs.Blocks.{length-row_of_held, put_here, put_other}
use Rattle.version_pages.proofs.row.blocks_with.Goals as goal

is_put : (g : _) (c : goal.In_ok-new g) → IsPut (held c.args.blocks.now) (held c.in_ok-new.new.items) c.in_ok-block.block (c.args.at / 25) (c.args.at % 25) c.args.value
is_put g c = record {
  page_here = c.in_ok-block.ensures.here;
  page_others = c.in_ok-block.ensures.others;
  table_here = c.in_ok-new.ensures.here;
  table_others = c.in_ok-new.ensures.others;
}

pub returns-clause-here : goal.returns-clause-here
returns-clause-here g c = put_here _ _ _ _ _ (is_put g c)

pub returns-clause-others : goal.returns-clause-others
returns-clause-others g c = put_other _ _ _ _ _ (is_put g c)

pub returns-clause-few : goal.returns-clause-few
returns-clause-few g c = omega (arith, c.in_ok-new.ensures.bound 40 (omega arith) (omega arith))

pub returns-clause-bound : goal.returns-clause-bound
returns-clause-bound g c = omega (arith, length-row_of_held c.in_ok-new.new.items, c.in_ok-new.ensures.bound 40 (omega arith) (omega arith))
