use Rattle.std.proofs.Common.{arith}
use Rattle.std.specs.Option.{option_map}
use Rattle.oeis_terms.specs.Reading.{reading_state}
use Rattle.oeis_terms.proofs.LinesRead.{start, one_line, bad_answer, done, less_left}
use Rattle.oeis_terms.proofs.read_lines.Goals as goal

pub loop-rest-init : goal.loop-rest-init
loop-rest-init c = record { read = start c.args.bytes.now (reading_state c.in-Ok.reading) c.in-Ok.ensures; few = omega arith }

pub loop-rest-preserved : goal.loop-rest-preserved
loop-rest-preserved c =
    let fewer = less_left c.in-Some.text.now c.first_line.result.1 c.first_line.ensures.length in
    let few = rw c.in-Some.is at c.loop-rest.invariant.few in
    record {
      read =
          one_line _ c.in-Some.text.now c.first_line.result.0.now (option_map (λ t. t.now) c.first_line.result.1) c.loop-rest.number _ _ (rw c.in-Some.is at c.loop-rest.invariant.read) c.first_line.ensures.line
          c.in_default-add_line.ensures;
      few = omega arith;
    }

pub returns-in-Err-add_line : goal.returns-in-Err-add_line
returns-in-Err-add_line c =
    rw c.in_line.ensures
    (bad_answer c.args.bytes.now c.in-Some.text.now c.first_line.result.0.now (option_map (λ t. t.now) c.first_line.result.1) c.loop-rest.number _ c.in-Err-add_line.error (rw c.in-Some.is at c.loop-rest.invariant.read)
    c.first_line.ensures.line c.in-Err-add_line.ensures)

pub returns : goal.returns
returns c = done _ c.loop-rest.number _ (rw c.in_default.is at c.loop-rest.invariant.read)
