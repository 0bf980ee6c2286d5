use Rattle.std.proofs.Common.{◌≡◌, ◌++◌, List, map, take, subst}
use Rattle.std.specs.Prelude.{OnOk}
use Rattle.term_index.specs.declared.form.Match.{Match}
use Rattle.term_index.specs.Matching.{shortened}
use Rattle.term_index.proofs.Rows.{equal-rows}
use Rattle.term_index.proofs.index.Index.add_equal_rows.Goals as goal

pub returns : goal.returns
returns c =
    subst (λ (z : List Match). OnOk c.add_equal.result (c.add_equal.new.found.items ≡ take 16 (c.args.found.now.items ++ z)))
    (equal-rows c.args.form.now c.args.wanted.now c.terms_key.result c.equal_bucket.result.now (map shortened c.args.self.now.rows) c.terms_key.ensures c.equal_bucket.ensures) c.add_equal.ensures
