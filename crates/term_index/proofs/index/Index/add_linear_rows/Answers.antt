use Rattle.std.proofs.Common.{◌≡◌, ◌++◌, List, map, take, subst}
use Rattle.std.specs.Prelude.{OnOk}
use Rattle.term_index.specs.declared.form.Match.{Match}
use Rattle.term_index.specs.Matching.{shortened}
use Rattle.term_index.proofs.Rows.{linear-rows}
use Rattle.term_index.proofs.index.Index.add_linear_rows.Goals as goal

pub returns : goal.returns
returns c =
    subst (λ (z : List Match). OnOk c.add_lines.result (c.add_lines.new.found.items ≡ take 16 (c.args.found.now.items ++ z)))
    (linear-rows c.args.values.now c.line_key.result c.line_bucket.result.now (map shortened c.args.self.now.rows) c.line_key.ensures c.line_bucket.ensures) c.add_lines.ensures
