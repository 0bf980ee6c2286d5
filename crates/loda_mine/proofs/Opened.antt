-- What was read at a path, as a status or as what stands in the file.
use Rattle.std.proofs.Common.{◌≡◌, ℕ, List, [], refl, sym, ap}
use Rattle.std.specs.Prelude.{Result, Ok, Err, IfOk}
use Rattle.std.specs.declared.option.Option.{Option}
use Rattle.std.specs.declared.option.Option.TheVariants.{Some, None}
use Rattle.loda_io.specs.declared.ReadError.{ReadError}
use Rattle.loda_io.specs.declared.ReadError.TheVariants as errors
use Rattle.loda_io.specs.Shelf.{Known, ReadsFile, checked, first_past_limit}
use Rattle.oeis_terms.specs.declared.error.TermsError.{TermsError}
use Rattle.oeis_terms.specs.declared.error.TermsError.TheVariants as terms_errors
use Rattle.oeis_terms.specs.Answers.{Parses, ParsesFile}
use Rattle.oeis_terms.specs.Stripped as terms_file
use Rattle.oeis_terms.specs.Table.{Table, IsBounded}
use Rattle.oeis_terms.proofs.Bounds.{bounded_answer}
use Rattle.program_store.specs.declared.errors.StoreError.{StoreError}
use Rattle.program_store.specs.declared.errors.StoreError.TheVariants as store_errors
use Rattle.program_store.specs.declared.errors.StoreKind.{StoreKind}
use Rattle.program_store.specs.Answers.{ReadsAs, AnswersFound}
use Rattle.program_store.specs.Files.{StoreFault}
use Rattle.loda_mine.specs.declared.status.FileRole.{FileRole}
use Rattle.loda_mine.specs.declared.status.Status.{Status}
use Rattle.loda_mine.specs.Answer.{found_terms, table_in, parsed_in, parsed_of}
use Rattle.loda_mine.specs.Files.{terms_status, parsed_status, TermsAt, ParsedAt}
use Rattle.loda_mine.specs.Run.{FindsAt}

-- the same result, its error as a status
abbrev pub told_terms : Result Table TermsError → Result Table Status
told_terms (Ok table) = Ok table
told_terms (Err e) = Err (terms_status e)

abbrev pub told_parsed : {A : Type 0} → FileRole → (ℕ → StoreKind → Status) → Result A StoreError → Result A Status
told_parsed file bad (Ok x) = Ok x
told_parsed file bad (Err e) = Err (parsed_status file bad e)

-- ---- terms

-- what was found at the path, and says what was answered
abbrev pub TermsFound : Known → Known → Option (List ℕ) → Result Table TermsError → Type 0
TermsFound k k' path read = (found : Result (List ℕ) ReadError) × FindsAt k k' path found × (found_terms found ≡ told_terms read)

terms_in_bytes : (k k' : Known) (path : Option (List ℕ)) (bytes : List ℕ) (read : Result Table TermsError) → FindsAt k k' path (Ok bytes) → FindsAt k k' path (Err errors.Memory)
    → Parses (terms_file.stripped bytes) read → TermsFound k k' path read
terms_in_bytes k k' path bytes (Ok table) here lost h = (Ok bytes, here, ap table_in h)
terms_in_bytes k k' path bytes (Err (terms_errors.Bad line kind)) here lost h = (Ok bytes, here, ap table_in h)
terms_in_bytes k k' path bytes (Err terms_errors.Memory) here lost h = (Err errors.Memory, lost, refl)
terms_in_bytes k k' path bytes (Err terms_errors.Failed) here lost h = absurd h
terms_in_bytes k k' path bytes (Err (terms_errors.FileTooLarge size)) here lost h = absurd h
terms_in_bytes k k' path bytes (Err (terms_errors.LineTooLong line)) here lost h = absurd h

terms_in_file : (k k' : Known) (path : List ℕ) (found : Result (List ℕ) ReadError) (read : Result Table TermsError) → ReadsFile k k' path found → ParsesFile found read → TermsFound k k' (Some path) read
terms_in_file k k' path (Ok bytes) read here h = terms_in_bytes k k' (Some path) bytes read here tt h
terms_in_file k k' path (Err errors.Failed) read here h = (Err errors.Failed, here, sym (ap told_terms h))
terms_in_file k k' path (Err (errors.FileTooLarge size)) read here h = (Err (errors.FileTooLarge size), here, sym (ap told_terms h))
terms_in_file k k' path (Err (errors.LineTooLong line)) read here h = (Err (errors.LineTooLong line), here, sym (ap told_terms h))
terms_in_file k k' path (Err errors.Memory) read here h = (Err errors.Memory, here, sym (ap told_terms h))

pub terms_found : (k k' : Known) (path : Option (List ℕ)) (read : Result Table TermsError) → TermsAt k k' path read → TermsFound k k' path read
terms_found k k' None read h = terms_in_bytes k k' None [] read refl tt h
terms_found k k' (Some path) read h = terms_in_file k k' path h.0 read h.1 h.2

-- ---- a store or candidates

module _ {A : Type 0} (file : FileRole) (bad : ℕ → StoreKind → Status) (parse : List ℕ → Result A StoreFault) where
  abbrev pub ParsedFound : Known → Known → Option (List ℕ) → Result A StoreError → Type 0
  ParsedFound k k' path read = (found : Result (List ℕ) ReadError) × FindsAt k k' path found × (parsed_of file bad parse found ≡ told_parsed file bad read)

  in_bytes : (k k' : Known) (path : Option (List ℕ)) (bytes : List ℕ) (read : Result A StoreError) → FindsAt k k' path (Ok bytes) → FindsAt k k' path (Err errors.Memory)
      → ReadsAs read (parse bytes) → ParsedFound k k' path read
  in_bytes k k' path bytes (Ok x) here lost h = (Ok bytes, here, ap (parsed_in bad) h)
  in_bytes k k' path bytes (Err (store_errors.Bad line kind)) here lost h = (Ok bytes, here, ap (parsed_in bad) h)
  in_bytes k k' path bytes (Err store_errors.Memory) here lost h = (Err errors.Memory, lost, refl)
  in_bytes k k' path bytes (Err store_errors.Failed) here lost h = absurd h
  in_bytes k k' path bytes (Err (store_errors.FileTooLarge size)) here lost h = absurd h
  in_bytes k k' path bytes (Err (store_errors.LineTooLong line)) here lost h = absurd h

  in_file : (k k' : Known) (path : List ℕ) (found : Result (List ℕ) ReadError) (read : Result A StoreError) → ReadsFile k k' path found → AnswersFound parse found read → ParsedFound k k' (Some path) read
  in_file k k' path (Ok bytes) read here h = in_bytes k k' (Some path) bytes read here tt h
  in_file k k' path (Err errors.Failed) read here h = (Err errors.Failed, here, sym (ap (told_parsed file bad) h))
  in_file k k' path (Err (errors.FileTooLarge size)) read here h = (Err (errors.FileTooLarge size), here, sym (ap (told_parsed file bad) h))
  in_file k k' path (Err (errors.LineTooLong line)) read here h = (Err (errors.LineTooLong line), here, sym (ap (told_parsed file bad) h))
  in_file k k' path (Err errors.Memory) read here h = (Err errors.Memory, here, sym (ap (told_parsed file bad) h))

  pub parsed_found : (k k' : Known) (path : Option (List ℕ)) (read : Result A StoreError) → ParsedAt parse k k' path read → ParsedFound k k' path read
  parsed_found k k' None read h = in_bytes k k' None [] read refl tt h
  parsed_found k k' (Some path) read h = in_file k k' path h.0 read h.1 h.2

-- no bytes are read whole
pub nothing_checked : checked [] ≡ Ok []
unfolding first_past_limit
nothing_checked = refl

-- a table of no bytes is bounded
pub no_rows : (read : Result Table TermsError) → Parses (terms_file.stripped []) read → IfOk read IsBounded
no_rows read h = bounded_answer [] read nothing_checked h
