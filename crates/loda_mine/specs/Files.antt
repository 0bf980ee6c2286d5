-- What the readers' errors are as statuses. Only clauses of private functions use what stands here.
use Rattle.std.specs.Prelude.{ℕ, List, [], Result}
use Rattle.std.specs.declared.option.Option.{Option}
use Rattle.std.specs.declared.option.Option.TheVariants.{Some, None}
use Rattle.loda_io.specs.Shelf.{Known}
use Rattle.oeis_terms.specs.declared.error.TermsError.{TermsError}
use Rattle.oeis_terms.specs.declared.error.TermsError.TheVariants as terms_errors
use Rattle.oeis_terms.specs.Answers.{Parses, ReadsTerms}
use Rattle.oeis_terms.specs.Stripped.{stripped}
use Rattle.oeis_terms.specs.Table.{Table}
use Rattle.program_store.specs.declared.errors.StoreError.{StoreError}
use Rattle.program_store.specs.declared.errors.StoreError.TheVariants as store_errors
use Rattle.program_store.specs.declared.errors.StoreKind.{StoreKind}
use Rattle.program_store.specs.Answers.{ReadsAs, FileAnswers}
use Rattle.program_store.specs.Files.{StoreFault}
use Rattle.loda_mine.specs.declared.status.FileRole.{FileRole}
use Rattle.loda_mine.specs.declared.status.FileRole.TheVariants.{Terms}
use Rattle.loda_mine.specs.declared.status.Status.{Status}
use Rattle.loda_mine.specs.declared.status.Status.TheVariants as statuses

-- the status of an error of the terms file
abbrev pub terms_status : TermsError → Status
terms_status terms_errors.Failed = statuses.ReadFault Terms
terms_status (terms_errors.FileTooLarge size) = statuses.FileTooLarge Terms size
terms_status (terms_errors.LineTooLong line) = statuses.LineTooLong Terms line
terms_status (terms_errors.Bad line kind) = statuses.BadTerms line kind
terms_status terms_errors.Memory = statuses.Memory

-- the status of an error of a store file or a candidates file
abbrev pub parsed_status : FileRole → (ℕ → StoreKind → Status) → StoreError → Status
parsed_status file bad store_errors.Failed = statuses.ReadFault file
parsed_status file bad (store_errors.FileTooLarge size) = statuses.FileTooLarge file size
parsed_status file bad (store_errors.LineTooLong line) = statuses.LineTooLong file line
parsed_status file bad (store_errors.Bad line kind) = bad line kind
parsed_status file bad store_errors.Memory = statuses.Memory

-- terms that were read at a path, or stand for no bytes
abbrev pub TermsAt : Known → Known → Option (List ℕ) → Result Table TermsError → Type 0
TermsAt k k' None read = Parses (stripped []) read
TermsAt k k' (Some path) read = ReadsTerms k k' path read

-- the same of a store or of candidates
abbrev pub ParsedAt : {A : Type 0} → (List ℕ → Result A StoreFault) → Known → Known → Option (List ℕ) → Result A StoreError → Type 0
ParsedAt parse k k' None read = ReadsAs read (parse [])
ParsedAt parse k k' (Some path) read = FileAnswers parse k k' path read
