use Rattle.std.proofs.Common.{suc, ◌<◌, arith}
use Rattle.std.specs.Prelude.{IsTrue}
use Rattle.std.specs.declared.option.Option.TheVariants.{Some}
use Rattle.loda_semantics.proofs.Keeps.{keeps_deep}
use Rattle.loda_semantics.proofs.theorems.replacement_keeps.Goals as goal

pub returns : goal.returns
returns c = λ lib1 lib2 q others demanded cheaper p x n n' v u1 c1 le h t.
    let lt : n' < suc n' = omega arith in
    keeps_deep lib1 lib2 q others (λ y. IsTrue (demanded y)) cheaper (suc n) (suc n') (Some p) x n n' v u1 c1 le lt h t
