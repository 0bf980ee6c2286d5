-- Programs at the places of their names. Only clauses of private functions use what stands here.
use Rattle.std.specs.Prelude.{◌≡◌, List, All}
use Rattle.std.specs.declared.option.Option.TheVariants.{Some}
use Rattle.loda_semantics.specs.Exec.{Library}
use Rattle.judge.specs.declared.directory.Named.{Named}

-- each is the program that the library has under its name
abbrev pub ArePrograms : Library → List Named → Type 0
ArePrograms lib places = All (λ (named : Named). lib named.name ≡ Some named.program.now) places
