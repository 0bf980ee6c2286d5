-- What the calls answer.
use Rattle.std.specs.Prelude.{◌≡◌, ℕ, List, ◌++◌, Result, Ok, Err}
use Rattle.loda_syntax.specs.Programs.{Text}
use Rattle.loda_syntax.specs.Reading.{TextFault}
use Rattle.loda_syntax.specs.declared.error.ParseError.{ParseError}
use Rattle.loda_syntax.specs.declared.error.ParseError.TheVariants as errors

-- the fault is what was read, unless it is want of memory
abbrev pub ParseFails : {Y : Type 0} → ParseError → Result Y TextFault → Type 0
ParseFails (errors.Syntax line kind) read = read ≡ Err (record { line = line; kind = kind })
ParseFails errors.Memory read = Unit {0}

-- the answer is what was read, unless memory ran out
abbrev pub ParsesAs : Result Text ParseError → Result Text TextFault → Type 0
ParsesAs (Ok program) read = read ≡ Ok program
ParsesAs (Err error) read = ParseFails error read

-- the same of an answer that is seen by a view
abbrev pub ParsesAsSeen : {X Y : Type 0} → (X → Y) → Result X ParseError → Result Y TextFault → Type 0
ParsesAsSeen view (Ok x) read = read ≡ Ok (view x)
ParsesAsSeen view (Err error) read = ParseFails error read

-- some first part of the text was added
pub record AddsFront (old new text : List ℕ) : Type 0 where
  pub front : List ℕ
  pub rest : List ℕ
  pub added : new ≡ old ++ front
  pub whole : front ++ rest ≡ text
