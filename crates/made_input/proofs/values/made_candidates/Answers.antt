use Rattle.std.proofs.Common.{arith, length-append}
use Rattle.made_input.specs.Values.{first, plain, each}
use Rattle.made_input.proofs.Made.{length-each}
use Rattle.made_input.proofs.values.made_candidates.Goals as goal

pub push-requires-clause-few : goal.push-requires-clause-few
push-requires-clause-few c = rw c.loop-place.invariant (let all = length-each first c.loop-place.place in omega (arith, all, c.requires, c.loop-place-test.true))

pub push-requires-in-loop-place-2-clause-few : goal.push-requires-in-loop-place-2-clause-few
push-requires-in-loop-place-2-clause-few c =
    rw c.loop-place-2.invariant
    (let firsts = length-each first c.args.n in
    let plains = length-each plain c.loop-place-2.place in
    let both = length-append (each first c.args.n) (each plain c.loop-place-2.place) in
    omega (arith, firsts, plains, both, c.requires, c.loop-place-2-test.true))
