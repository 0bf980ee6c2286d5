-- What a run of the program does to the shelf and the sink.
use Rattle.std.specs.Prelude.{◌≡◌, ◌⊎◌, ℕ, List, [], Result, Ok, Err, IsOk}
use Rattle.std.specs.declared.option.Option.{Option}
use Rattle.std.specs.declared.option.Option.TheVariants.{Some, None}
use Rattle.loda_io.specs.declared.ReadError.{ReadError}
use Rattle.loda_io.specs.declared.ReadError.TheVariants as errors
use Rattle.loda_io.specs.Shelf.{Known, ReadsFile, ReadFailed, checked}
use Rattle.loda_io.specs.Sink.{Written, Adds, AddsFirstPart, WriteFailed}
use Rattle.oeis_terms.specs.Table.{row_of}
use Rattle.program_store.specs.declared.published.Published.{Published}
use Rattle.program_store.specs.Store.{published_at}
use Rattle.judge.specs.Sound.{Sound}
use Rattle.publish_desk.specs.Desk.{Desk}
use Rattle.publish_desk.specs.Report.{report}
use Rattle.loda_mine.specs.declared.files.Contents.{Contents}
use Rattle.loda_mine.specs.declared.status.FileRole.{FileRole}
use Rattle.loda_mine.specs.declared.status.FileRole.TheVariants.{Terms, Store, Candidates}
use Rattle.loda_mine.specs.declared.status.Status.{Status}
use Rattle.loda_mine.specs.declared.status.Status.TheVariants.{Done, Usage, ReadFault, WriteFault, Memory}
use Rattle.command_words.specs.declared.request.Task.{Task}
use Rattle.command_words.specs.declared.request.Task.TheVariants.{Publish, Check, Eval, Made, Mine}
use Rattle.command_words.specs.Words.{Request}
use Rattle.loda_mine.specs.Answer.{Found, found_terms, found_store, found_candidates, contents_of, IsDecided, IsMined, Writes, IsAnswer}

-- ---- what is found

-- a file that is not read stands for no bytes, unless memory ran out
abbrev pub IsNothing : Result (List ℕ) ReadError → Type 0
IsNothing (Ok bytes) = bytes ≡ []
IsNothing (Err errors.Memory) = Unit {0}
IsNothing (Err e) = ⊥

-- What was found is what reading may give at a path, if the command has one.
abbrev pub FindsAt : Known → Known → Option (List ℕ) → Result (List ℕ) ReadError → Type 0
FindsAt k k' None found = IsNothing found
FindsAt k k' (Some path) found = ReadsFile k k' path found

-- what was found at each path of the words
pub record Finds (k k' : Known) (request : Request) (found : Found) : Type 0 where
  pub terms : FindsAt k k' request.terms found.terms
  pub store : FindsAt k k' request.store found.store
  pub candidates : FindsAt k k' request.candidates found.candidates

-- ---- how a run ends

-- How a run ends whose answer is this, and what it has written then: all of the output, or a first part of it where the
-- sink failed, or nothing.
abbrev pub Ends : Result (List ℕ) Status → Written → Written → Status → Type 0
Ends (Ok output) w w' Done = Adds w w' output
Ends (Ok output) w w' WriteFault = AddsFirstPart w w' output × WriteFailed w w'
Ends (Ok output) w w' status = ⊥
Ends (Err s) w w' status = (status ≡ s) × (w' ≡ w)

-- how a run ends for what stands in the files
abbrev pub EndsAs : Request → Result Contents Status → Written → Written → Status → Type 0
EndsAs request contents w w' status = (answer : Result (List ℕ) Status) × IsAnswer request contents answer × Ends answer w w' status

-- A run, by the words, the shelf and the sink, and the status: it ends as what was found at the paths of the words says.
abbrev pub RunsAs : Option Request → Known → Known → Written → Written → Status → Type 0
RunsAs None k k' w w' status = (status ≡ Usage) × (w' ≡ w)
RunsAs (Some request) k k' w w' status = (found : Found) × Finds k k' request found × EndsAs request (contents_of found) w w' status

-- ---- the same, told by each status

-- the path of a file in the words
abbrev pub path_at : Option Request → FileRole → Option (List ℕ)
path_at None file = None
path_at (Some request) Terms = request.terms
path_at (Some request) Store = request.store
path_at (Some request) Candidates = request.candidates

-- the shelf failed to read this file
pub record FileFailed (k k' : Known) (request : Option Request) (file : FileRole) : Type 0 where
  pub path : List ℕ
  pub given : path_at request file ≡ Some path
  pub failed : ReadFailed k k' path

-- the bytes of the files, in the order of reading
pub record Files : Type 0 where
  pub terms : List ℕ
  pub store : List ℕ
  pub candidates : List ℕ

-- the bytes are told at this path, or there is none
abbrev pub TellsAt : Known → Option (List ℕ) → List ℕ → Type 0
TellsAt k None file = file ≡ []
TellsAt k (Some path) file = k.bytes path ≡ Some file

-- the shelf tells the bytes of each file of the words
pub record Tells (k : Known) (request : Request) (files : Files) : Type 0 where
  pub terms : TellsAt k request.terms files.terms
  pub store : TellsAt k request.store files.store
  pub candidates : TellsAt k request.candidates files.candidates

-- reading finds the files whole, or too large
abbrev pub all_of : Files → Found
all_of files = record { terms = checked files.terms; store = checked files.store; candidates = checked files.candidates }

-- the files before this one are in their sizes and grammars
abbrev pub OpenedBefore : Files → FileRole → Type 0
OpenedBefore files Terms = Unit {0}
OpenedBefore files Store = IsOk (found_terms (checked files.terms))
OpenedBefore files Candidates = IsOk (found_terms (checked files.terms)) × IsOk (found_store (checked files.store))

-- the run stops at a file that the shelf failed to read, where the files are told
pub record StopsAt (k k' : Known) (request : Request) (files : Files) (file : FileRole) : Type 0 where
  pub failed : FileFailed k k' (Some request) file
  pub before : OpenedBefore files file

-- it ends before anything is written
abbrev pub EndsWith : Status → Written → Written → Status → Type 0
EndsWith s w w' status = (status ≡ s) × (w' ≡ w)

-- Where the files are told, the run ends as they say, or the shelf failed at one of them, or memory ran out.
abbrev pub Exactly : Known → Known → Written → Written → Request → Files → Status → Type 0
Exactly k k' w w' request files status =
    EndsAs request (contents_of (all_of files)) w w' status
    ⊎ (((file : FileRole) × StopsAt k k' request files file × EndsWith (ReadFault file) w w' status) ⊎ EndsWith Memory w w' status)

-- ---- files of which only the first ones are told

-- the error, where it is one
abbrev pub error_in : {A : Type 0} → Result A Status → Option Status
error_in (Ok x) = None
error_in (Err s) = Some s

-- the bytes of a file
abbrev pub bytes_at : Files → FileRole → List ℕ
bytes_at files Terms = files.terms
bytes_at files Store = files.store
bytes_at files Candidates = files.candidates

-- the status with which a file of these bytes stops a run, if it does
abbrev pub stop_of : FileRole → List ℕ → Option Status
stop_of Terms bytes = error_in (found_terms (checked bytes))
stop_of Store bytes = error_in (found_store (checked bytes))
stop_of Candidates bytes = error_in (found_candidates (checked bytes))

-- this file and those before it are told
abbrev pub TellsTo : Known → Request → Files → FileRole → Type 0
TellsTo k request files Terms = TellsAt k request.terms files.terms
TellsTo k request files Store = TellsAt k request.terms files.terms × TellsAt k request.store files.store
TellsTo k request files Candidates = TellsAt k request.terms files.terms × TellsAt k request.store files.store × TellsAt k request.candidates files.candidates

-- it is the first that stops the run, with this status
pub record IsFirstStop (files : Files) (file : FileRole) (s : Status) : Type 0 where
  pub before : OpenedBefore files file
  pub stop : stop_of file (bytes_at files file) ≡ Some s

-- the run ends so, or the shelf failed at one of the files of the words, or memory ran out
abbrev pub EndsSoOr : Known → Known → Written → Written → Request → Status → Status → Type 0
EndsSoOr k k' w w' request s status =
    EndsWith s w w' status
    ⊎ (((file : FileRole) × FileFailed k k' (Some request) file × EndsWith (ReadFault file) w w' status) ⊎ EndsWith Memory w w' status)

-- a file that is read before another one
abbrev pub Precedes : FileRole → FileRole → Type 0
Precedes Terms Store = Unit {0}
Precedes Terms Candidates = Unit {0}
Precedes Store Candidates = Unit {0}
Precedes earlier later = ⊥

-- ---- completeness

-- the command is not refused: its opening store is sound, or its name is published; `made` never is
abbrev pub IsReady : Task → ℕ → Contents → Type 0
IsReady Publish limit contents = Sound contents.store (row_of contents.terms) limit
IsReady Check limit contents = Sound contents.store (row_of contents.terms) limit
IsReady (Eval name arg) limit contents = (e : Published) × (published_at contents.store name ≡ Some e)
IsReady (Made n kind) limit contents = Unit {0}
IsReady (Mine seed jobs workers) limit contents = Sound contents.store (row_of contents.terms) limit

-- nothing fails: no file of the words, and not the sink
pub record NothingFails (k k' : Known) (w w' : Written) (request : Request) : Type 0 where
  pub reads : (file : FileRole) → FileFailed k k' (Some request) file → ⊥
  pub writes : WriteFailed w w' → ⊥

-- the files are told, in their sizes and grammars, and this stands in them
pub record Opens (k : Known) (request : Request) (files : Files) (contents : Contents) : Type 0 where
  pub told : Tells k request files
  pub read : contents_of (all_of files) ≡ Ok contents

-- ---- the headline

-- All of the output was written, and it is what the command writes for what stands in the files.
pub record WritesOutput (w w' : Written) (request : Request) (contents : Contents) : Type 0 where
  pub output : List ℕ
  pub is : Writes request.task request.limit contents output
  pub added : Adds w w' output

-- The headline. A desk was opened on what stands in the files and has decided every candidate, in order; what was written is
-- the report of its journal and its store. So the journal is legal and replays from the opening store to the printed one, the
-- printed store is sound, and no replacement checked fewer terms, took a value away or made one dearer.
pub record Headline (k : Known) (w w' : Written) (request : Request) (files : Files) : Type 0 where
  pub contents : Contents
  pub desk : Desk
  pub opens : Opens k request files contents
  pub decided : IsDecided contents request.limit desk
  pub added : Adds w w' (report desk.journal desk.version desk.store)

-- The headline of `mine`. A desk was opened on what stands in the files and has an entry for each of the jobs 0 to the number that
-- was asked for less one, once each; what was written is the report of its journal and its store. With one worker the entries stand in
-- the order of the jobs, each with the version at its place as its base.
pub record MineHeadline (k : Known) (w w' : Written) (request : Request) (files : Files) : Type 0 where
  pub seed : ℕ
  pub jobs : ℕ
  pub workers : ℕ
  pub task : request.task ≡ Mine seed jobs workers
  pub contents : Contents
  pub desk : Desk
  pub opens : Opens k request files contents
  pub mined : IsMined contents request.limit seed jobs workers desk
  pub added : Adds w w' (report desk.journal desk.version desk.store)

-- what a command writes is one function of the words and the files
abbrev pub HasOneOutput : Request → Contents → Type 0
HasOneOutput request contents = (a b : List ℕ) → Writes request.task request.limit contents a → Writes request.task request.limit contents b → a ≡ b
