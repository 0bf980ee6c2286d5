-- What reading terms answers.
use Rattle.std.specs.Prelude.{◌≡◌, ℕ, List, Result, Ok, Err}
use Rattle.loda_io.specs.declared.ReadError.{ReadError}
use Rattle.loda_io.specs.declared.ReadError.TheVariants as read
use Rattle.loda_io.specs.Shelf.{Known, ReadsFile}
use Rattle.oeis_terms.specs.declared.error.TermsError.{TermsError}
use Rattle.oeis_terms.specs.declared.error.TermsError.TheVariants.{Failed, FileTooLarge, LineTooLong, Bad, Memory}
use Rattle.oeis_terms.specs.Table.{Table}
use Rattle.oeis_terms.specs.Stripped.{TermsFault, stripped}

-- the table that was read, or the first fault; want of memory may stand in the place of either
abbrev pub Parses : Result Table TermsFault → Result Table TermsError → Type 0
Parses read (Ok table) = read ≡ Ok table
Parses read (Err (Bad line kind)) = read ≡ Err (record { line = line; kind = kind })
Parses read (Err Memory) = Unit {0}
Parses read (Err e) = ⊥

-- what a file that was read, or not read, gives
abbrev pub ParsesFile : Result (List ℕ) ReadError → Result Table TermsError → Type 0
ParsesFile (Ok bytes) answer = Parses (stripped bytes) answer
ParsesFile (Err read.Failed) answer = answer ≡ Err Failed
ParsesFile (Err (read.FileTooLarge size)) answer = answer ≡ Err (FileTooLarge size)
ParsesFile (Err (read.LineTooLong line)) answer = answer ≡ Err (LineTooLong line)
ParsesFile (Err read.Memory) answer = answer ≡ Err Memory

-- the answer is that of what reading the file may find between two moments of a shelf
abbrev pub ReadsTerms : Known → Known → List ℕ → Result Table TermsError → Type 0
ReadsTerms old new name answer = (found : Result (List ℕ) ReadError) × ReadsFile old new name found × ParsesFile found answer
