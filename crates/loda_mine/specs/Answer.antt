-- What is answered, by what was found at the paths.
use Rattle.std.specs.Prelude.{◌≡◌, ℕ, List, length, Result, Ok, Err}
use Rattle.std.specs.declared.option.Option.TheVariants.{Some, None}
use Rattle.std.specs.FinMap as map
use Rattle.std.specs.Global.{Vec}
use Rattle.loda_io.specs.declared.ReadError.{ReadError}
use Rattle.loda_io.specs.declared.ReadError.TheVariants as errors
use Rattle.loda_semantics.specs.Exec.{run_name}
use Rattle.text_parts.specs.Results.{◌>>=◌}
use Rattle.oeis_terms.specs.Stripped as terms_file
use Rattle.oeis_terms.specs.Table.{Table, row_of}
use Rattle.program_store.specs.declared.errors.StoreKind.{StoreKind}
use Rattle.program_store.specs.declared.published.Proposal.{Proposal}
use Rattle.program_store.specs.declared.published.Published.{Published}
use Rattle.program_store.specs.Files as store_file
use Rattle.program_store.specs.Store as stores
use Rattle.program_store.specs.Store.{published_at, programs_of}
use Rattle.program_store.specs.StoreText.{store_text}
use Rattle.made_input.specs.Values.{made_table, made_store, made_candidates}
use Rattle.made_input.specs.Texts.{terms_text, candidates_text}
use Rattle.seq_calls.specs.Frames.{told}
use Rattle.judge.specs.declared.opening.CheckError.{CheckError}
use Rattle.judge.specs.declared.opening.CheckError.TheVariants as check_errors
use Rattle.judge.specs.Sound.{Sound, IsUnsound}
use Rattle.publish_desk.specs.declared.charter.Source.TheVariants.{Listed, Seeded}
use Rattle.publish_desk.specs.declared.desk.OpenError.{OpenError}
use Rattle.publish_desk.specs.declared.desk.OpenError.TheVariants as open_errors
use Rattle.publish_desk.specs.Desk.{Desk, IsKept, history}
use Rattle.publish_desk.specs.History.{IsInOrder}
use Rattle.publish_desk.specs.Report.{report}
use Rattle.mine_workers.specs.Histories.{HasEveryJob}
use Rattle.loda_mine.specs.declared.files.Contents.{Contents}
use Rattle.loda_mine.specs.declared.status.FileRole.{FileRole}
use Rattle.loda_mine.specs.declared.status.FileRole.TheVariants.{Terms, Store, Candidates}
use Rattle.loda_mine.specs.declared.status.Status.{Status}
use Rattle.loda_mine.specs.declared.status.Status.TheVariants as statuses
use Rattle.command_words.specs.declared.request.Task.{Task}
use Rattle.command_words.specs.declared.request.Task.TheVariants.{Publish, Check, Eval, Made, Mine}
use Rattle.command_words.specs.declared.request.Kind.{Kind}
use Rattle.command_words.specs.declared.request.Kind.TheVariants as kinds
use Rattle.command_words.specs.Words.{Request}
use Rattle.loda_mine.specs.Outputs.{outcome_text, sound_text, summary_text}

-- what reading each file gave: its bytes, or an error
pub record Found : Type 0 where
  pub terms : Result (List ℕ) ReadError
  pub store : Result (List ℕ) ReadError
  pub candidates : Result (List ℕ) ReadError

-- ---- the files

-- the status for a file that was not read
abbrev pub status_of : FileRole → ReadError → Status
status_of file errors.Failed = statuses.ReadFault file
status_of file (errors.FileTooLarge size) = statuses.FileTooLarge file size
status_of file (errors.LineTooLong line) = statuses.LineTooLong file line
status_of file errors.Memory = statuses.Memory

-- the bytes of a file, or its status
abbrev pub bytes_of : FileRole → Result (List ℕ) ReadError → Result (List ℕ) Status
bytes_of file (Ok bytes) = Ok bytes
bytes_of file (Err e) = Err (status_of file e)

-- a table, or the status of its fault
abbrev pub table_in : Result Table terms_file.TermsFault → Result Table Status
table_in (Ok table) = Ok table
table_in (Err fault) = Err (statuses.BadTerms fault.line fault.kind)

-- what was parsed, or the status of its fault
abbrev pub parsed_in : {A : Type 0} → (ℕ → StoreKind → Status) → Result A store_file.StoreFault → Result A Status
parsed_in bad (Ok x) = Ok x
parsed_in bad (Err fault) = Err (bad fault.line fault.kind)

-- what a terms file gives
abbrev pub found_terms : Result (List ℕ) ReadError → Result Table Status
found_terms found = bytes_of Terms found >>= λ bytes. table_in (terms_file.stripped bytes)

-- what a store or a candidates file gives
abbrev pub parsed_of : {A : Type 0} → FileRole → (ℕ → StoreKind → Status) → (List ℕ → Result A store_file.StoreFault) → Result (List ℕ) ReadError → Result A Status
parsed_of file bad read found = bytes_of file found >>= λ bytes. parsed_in bad (read bytes)

-- what a store file gives, or none
abbrev pub found_store : Result (List ℕ) ReadError → Result stores.Store Status
found_store found = parsed_of Store statuses.BadStore store_file.store_read found

-- what a candidates file gives
abbrev pub found_candidates : Result (List ℕ) ReadError → Result (List Proposal) Status
found_candidates found = parsed_of Candidates statuses.BadCandidates store_file.candidates_read found

-- The files are read and parsed one after the other, and the first status is answered.
unfoldable pub contents_of : Found → Result Contents Status
contents_of found =
    found_terms found.terms >>= λ terms. found_store found.store >>= λ store. found_candidates found.candidates >>= λ candidates.
    Ok (record { terms = terms; store = store; candidates = candidates })

-- ---- the errors of the layers below

-- the status of a store that is refused
abbrev pub check_status : CheckError → Status
check_status (check_errors.Unsound reason) = statuses.Unsound reason
check_status check_errors.Memory = statuses.Memory

-- the status of a desk that is not opened
abbrev pub open_status : OpenError → Status
open_status (open_errors.Unsound reason) = statuses.Unsound reason
open_status open_errors.Memory = statuses.Memory

-- ---- the commands

-- A desk that was opened on what stands in the files, and has decided every candidate, in order. What every desk keeps is
-- kept: the journal is legal and replays to the store, the store is sound, and nothing was lost.
pub record IsDecided (contents : Contents) (limit : ℕ) (d : Desk) : Type 0 where
  pub charter : d.charter ≡ record { opening = contents.store; terms = contents.terms; limit = limit; source = Listed contents.candidates; jobs = length contents.candidates }
  pub kept : IsKept d
  pub in_order : IsInOrder (history d)
  pub whole : length d.journal ≡ length contents.candidates

-- A desk that was opened on what stands in the files, with jobs of a seed, and has an entry for each job. What every desk keeps is kept:
-- the journal is legal, so no job has two entries, and replays to the store, the store is sound, and nothing was lost. One worker
-- decides the jobs in order.
pub record IsMined (contents : Contents) (limit seed jobs workers : ℕ) (d : Desk) : Type 0 where
  pub charter : d.charter ≡ record { opening = contents.store; terms = contents.terms; limit = limit; source = Seeded seed; jobs = jobs }
  pub kept : IsKept d
  pub whole : HasEveryJob d
  pub in_order : workers ≡ 1 → IsInOrder (history d)

-- what stands in made files: the rows, no program, and the candidates of n names
abbrev pub made_contents : ℕ → Contents
made_contents n = record { terms = made_table n; store = map.empty; candidates = made_candidates n }

-- What `made` writes: a file, or the summary of a desk that was opened on the made files and has decided every candidate.
abbrev pub WritesMade : Kind → ℕ → ℕ → List ℕ → Type 0
WritesMade kinds.Terms n limit output = output ≡ terms_text n
WritesMade kinds.Store n limit output = output ≡ store_text (made_store n)
WritesMade kinds.Candidates n limit output = output ≡ candidates_text n
WritesMade kinds.Run n limit output =
    (d : Desk) × IsDecided (made_contents n) limit d × (output ≡ summary_text n (length (made_table n).rows) d.journal d.version)

-- what a command writes
abbrev pub Writes : Task → ℕ → Contents → List ℕ → Type 0
Writes Publish limit contents output = (d : Desk) × IsDecided contents limit d × (output ≡ report d.journal d.version d.store)
Writes Check limit contents output = Sound contents.store (row_of contents.terms) limit × (output ≡ sound_text contents)
Writes (Eval name arg) limit contents output =
    (e : Published) × (published_at contents.store name ≡ Some e) × (output ≡ outcome_text (told (run_name (programs_of contents.store) name arg limit).0))
Writes (Made n kind) limit contents output = WritesMade kind n limit output
Writes (Mine seed jobs workers) limit contents output = (d : Desk) × IsMined contents limit seed jobs workers d × (output ≡ report d.journal d.version d.store)

-- why it writes nothing: the opening store isn't sound, the name isn't published, or memory ran out
abbrev pub Refuses : Task → ℕ → Contents → Status → Type 0
Refuses task limit contents statuses.Memory = Unit {0}
Refuses Publish limit contents (statuses.Unsound reason) = IsUnsound contents.store (row_of contents.terms) limit reason
Refuses Check limit contents (statuses.Unsound reason) = IsUnsound contents.store (row_of contents.terms) limit reason
Refuses (Mine seed jobs workers) limit contents (statuses.Unsound reason) = IsUnsound contents.store (row_of contents.terms) limit reason
Refuses (Eval name arg) limit contents (statuses.Absent absent) = (absent ≡ name) × (published_at contents.store name ≡ None)
Refuses task limit contents status = ⊥

-- what a command answers: what it writes, or why it writes nothing
abbrev pub IsOutput : Task → ℕ → Contents → Result (List ℕ) Status → Type 0
IsOutput task limit contents (Ok output) = Writes task limit contents output
IsOutput task limit contents (Err status) = Refuses task limit contents status

-- The answer: the status of the first file that stops the run, or what the command makes of the files.
abbrev pub IsAnswer : Request → Result Contents Status → Result (List ℕ) Status → Type 0
IsAnswer request (Ok contents) answer = IsOutput request.task request.limit contents answer
IsAnswer request (Err status) answer = answer ≡ Err status

-- an output of the code, by its bytes
abbrev pub bytes_in : Result (Vec ℕ) Status → Result (List ℕ) Status
bytes_in (Ok output) = Ok output.items
bytes_in (Err status) = Err status
