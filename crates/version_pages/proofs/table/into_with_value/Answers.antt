use Rattle.std.proofs.Common.{◌/◌, ◌%◌, ◌≢◌, ◌∙◌, ap, arith}
use Rattle.std.specs.Option.{option_and_then}
use Rattle.version_pages.specs.Table.{place}
use Rattle.version_pages.proofs.Widths.{IsPut, in_width-put_other}
use Rattle.version_pages.proofs.Tables.{map_of-put}
use Rattle.version_pages.proofs.table.into_with_value.Goals as goal

is_put : (g : _) (c : goal.In_ok-new g) → IsPut c.args.table c.in_ok-new.new c.in_ok-page.page (c.args.name / 1000) (c.args.name % 1000) c.args.value
is_put g c = record {
  page_here = c.in_ok-page.ensures.here;
  page_others = λ k ne. c.in_ok-page.ensures.others k ne ∙ ap (option_and_then (λ row. place row k)) (rw c.page_of-at.ensures at c.in_ok-taken.ensures.taken);
  table_here = rw c.page_of-at.ensures at c.in_ok-new.ensures.here;
  table_others = λ k ne. (rw c.page_of-at.ensures at c.in_ok-new.ensures.others) k ne ∙ (rw c.page_of-at.ensures at c.in_ok-taken.ensures.others) k ne;
}

pub returns-clause-map : goal.returns-clause-map
returns-clause-map g c = map_of-put _ _ _ _ _ (is_put g c)

pub returns-clause-zeroth : goal.returns-clause-zeroth
returns-clause-zeroth g c =
    let named : 0 ≢ c.args.name = omega arith in
    in_width-put_other 1000 _ _ _ _ _ (is_put g c) 0 named
