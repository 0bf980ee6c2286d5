-- The program that was found last. Only clauses of private functions use what stands here.
use Rattle.std.specs.Prelude.{◌≡◌}
use Rattle.std.specs.declared.option.Option.TheVariants.{Some}
use Rattle.loda_semantics.specs.Exec.{Library}
use Rattle.seq_calls.specs.declared.evaluation.Known.{Known}

-- it is the program that the library has under its name
abbrev pub IsFoundIn : Library → Known → Type 0
IsFoundIn lib known = lib known.name ≡ Some known.program.now
