use Rattle.std.proofs.Common.{refl}
use Rattle.loda_semantics.specs.Examples.{nothing, fibonacci, region_of_two, self_call, cyclic, indirect}
use Rattle.loda_semantics.proofs.theorems.worked_examples.Goals as goal

pub returns-clause-fibonacci : goal.returns-clause-fibonacci
unfolding nothing fibonacci
returns-clause-fibonacci c = record { at_zero = refl; at_seven = refl; at_eight = refl; at_nine_cut = refl; at_seven_cut = refl }

pub returns-clause-region_of_two : goal.returns-clause-region_of_two
unfolding nothing region_of_two
returns-clause-region_of_two c = refl

pub returns-clause-faults : goal.returns-clause-faults
unfolding nothing self_call cyclic indirect
returns-clause-faults c = record { cycle = refl; missing = refl; past_the_cells = refl; below_the_cells = refl }
