-- What contracts see of a program.
use Rattle.std.specs.Prelude.{List}
use Rattle.loda_syntax.specs.declared.instr.Instr.{Instr}

-- a program, as its instructions in order
abbrev pub Text : Type 0
Text = List Instr

-- the instructions of a program
abbrev pub instrs : Text → List Instr
instrs p = p
