-- What the readers answer.
use Rattle.std.specs.Prelude.{◌≡◌, ℕ, List, Result, Ok, Err}
use Rattle.loda_io.specs.Shelf.{Known, ReadsFile}
use Rattle.loda_io.specs.declared.ReadError.{ReadError}
use Rattle.loda_io.specs.declared.ReadError.TheVariants as read_errors
use Rattle.program_store.specs.declared.errors.StoreError.{StoreError}
use Rattle.program_store.specs.declared.errors.StoreError.TheVariants.{Failed, FileTooLarge, LineTooLong, Bad, Memory}
use Rattle.program_store.specs.Files.{StoreFault, fault}

-- the answer is what the bytes stand for, unless memory ran out
abbrev pub ReadsAs : {A : Type 0} → Result A StoreError → Result A StoreFault → Type 0
ReadsAs (Ok value) read = read ≡ Ok value
ReadsAs (Err (Bad line kind)) read = read ≡ fault line kind
ReadsAs (Err Memory) read = Unit {0}
ReadsAs (Err Failed) read = ⊥
ReadsAs (Err (FileTooLarge size)) read = ⊥
ReadsAs (Err (LineTooLong line)) read = ⊥

-- a fault of reading the file, as it is handed on
abbrev pub error_of : ReadError → StoreError
error_of read_errors.Failed = Failed
error_of (read_errors.FileTooLarge size) = FileTooLarge size
error_of (read_errors.LineTooLong line) = LineTooLong line
error_of read_errors.Memory = Memory

-- the answer of what was found in the file: the reading's fault, or what its bytes stand for
abbrev pub AnswersFound : {A : Type 0} → (List ℕ → Result A StoreFault) → Result (List ℕ) ReadError → Result A StoreError → Type 0
AnswersFound read (Ok bytes) result = ReadsAs result (read bytes)
AnswersFound read (Err error) result = result ≡ Err (error_of error)

-- the answer of reading the file of a name whole between two moments of a shelf, and then what its bytes stand for
abbrev pub FileAnswers : {A : Type 0} → (List ℕ → Result A StoreFault) → Known → Known → List ℕ → Result A StoreError → Type 0
FileAnswers read old new name result = (found : Result (List ℕ) ReadError) × ReadsFile old new name found × AnswersFound read found result
