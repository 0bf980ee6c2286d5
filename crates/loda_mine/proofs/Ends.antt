-- What each status says of a run.
use Rattle.std.proofs.Common.{◌≡◌, ℕ, List, refl, sym, subst}
use Rattle.std.specs.Prelude.{◌↔◌, ◌≢◌, Result, Ok, Err}
use Rattle.std.specs.declared.option.Option.{Option}
use Rattle.std.specs.declared.option.Option.TheVariants.{Some, None}
use Rattle.loda_io.specs.declared.ReadError.{ReadError}
use Rattle.loda_io.specs.declared.ReadError.TheVariants as errors
use Rattle.loda_io.specs.Shelf.{Known, ReadFailed}
use Rattle.loda_io.specs.Sink.{Written, WriteFailed}
use Rattle.oeis_terms.specs.Stripped as terms_file
use Rattle.oeis_terms.specs.Table.{Table}
use Rattle.program_store.specs.Files as store_file
use Rattle.loda_mine.specs.declared.files.Contents.{Contents}
use Rattle.loda_mine.specs.declared.status.FileRole.{FileRole}
use Rattle.loda_mine.specs.declared.status.FileRole.TheVariants.{Terms, Store, Candidates}
use Rattle.loda_mine.specs.declared.status.Status.{Status}
use Rattle.loda_mine.specs.declared.status.Status.TheVariants.{Done, Usage, ReadFault, FileTooLarge, LineTooLong, BadTerms, BadStore, BadCandidates, Unsound, Absent, WriteFault, Memory}
use Rattle.command_words.specs.declared.request.Task.{Task}
use Rattle.command_words.specs.declared.request.Task.TheVariants.{Publish, Check, Eval, Made, Mine}
use Rattle.command_words.specs.Words.{Request}
use Rattle.text_parts.specs.Results.{◌>>=◌}
use Rattle.loda_mine.specs.Answer.{Found, bytes_of, table_in, parsed_in, found_terms, found_store, found_candidates, contents_of, Refuses, IsAnswer}
use Rattle.loda_mine.specs.Run.{IsNothing, FindsAt, Finds, Ends, RunsAs, FileFailed}

-- ---- the errors of a result

abbrev pub Errs : {A : Type 0} → (Status → Type 0) → Result A Status → Type 0
Errs P (Ok x) = Unit {0}
Errs P (Err s) = P s

pub errs_then : {A B : Type 0} (P : Status → Type 0) (r : Result A Status) (f : A → Result B Status) → Errs P r → ((x : A) → Errs P (f x)) → Errs P (r >>= f)
errs_then P (Ok x) f h k = k x
errs_then P (Err s) f h k = h

pub errs_is : {A : Type 0} (P : Status → Type 0) (r : Result A Status) (s : Status) → Errs P r → r ≡ Err s → P s
errs_is P r s h e = subst (Errs P) e h

-- What may stop a run at its files: the shelf failed at one of them, or another status, but none that tells of the words
-- or of the sink, or that all is done.
abbrev pub May : (FileRole → Type 0) → Status → Type 0
May P (ReadFault file) = P file
May P Done = ⊥
May P Usage = ⊥
May P WriteFault = ⊥
May P s = Unit {0}

table_may : (P : FileRole → Type 0) (read : Result Table terms_file.TermsFault) → Errs (May P) (table_in read)
table_may P (Ok table) = tt
table_may P (Err fault) = tt

store_may : {A : Type 0} (P : FileRole → Type 0) (read : Result A store_file.StoreFault) → Errs (May P) (parsed_in BadStore read)
store_may P (Ok store) = tt
store_may P (Err fault) = tt

candidates_may : {A : Type 0} (P : FileRole → Type 0) (read : Result A store_file.StoreFault) → Errs (May P) (parsed_in BadCandidates read)
candidates_may P (Ok store) = tt
candidates_may P (Err fault) = tt

bytes_may : (P : FileRole → Type 0) (file : FileRole) (found : Result (List ℕ) ReadError) → (found ≡ Err errors.Failed → P file) → Errs (May P) (bytes_of file found)
bytes_may P file (Ok bytes) h = tt
bytes_may P file (Err errors.Failed) h = h refl
bytes_may P file (Err (errors.FileTooLarge size)) h = tt
bytes_may P file (Err (errors.LineTooLong line)) h = tt
bytes_may P file (Err errors.Memory) h = tt

pub contents_may : (P : FileRole → Type 0) (found : Found) → (found.terms ≡ Err errors.Failed → P Terms) → (found.store ≡ Err errors.Failed → P Store) → (found.candidates ≡ Err errors.Failed → P Candidates)
    → Errs (May P) (contents_of found)
unfolding contents_of
contents_may P found t s c =
    errs_then (May P) (found_terms found.terms) _ (errs_then (May P) (bytes_of Terms found.terms) _ (bytes_may P Terms found.terms t) (λ bytes. table_may P _))
    (λ terms. errs_then (May P) (found_store found.store) _ (errs_then (May P) (bytes_of Store found.store) _ (bytes_may P Store found.store s) (λ bytes. store_may P _))
    (λ store. errs_then (May P) (found_candidates found.candidates) _ (errs_then (May P) (bytes_of Candidates found.candidates) _ (bytes_may P Candidates found.candidates c) (λ bytes. candidates_may P _))
    (λ candidates. tt)))

pub refuses_may : (P : FileRole → Type 0) (task : Task) (limit : ℕ) (contents : Contents) (s : Status) → Refuses task limit contents s → May P s
refuses_may P task limit contents Memory h = tt
refuses_may P task limit contents (FileTooLarge file size) h = tt
refuses_may P task limit contents (LineTooLong file line) h = tt
refuses_may P task limit contents (BadTerms line kind) h = tt
refuses_may P task limit contents (BadStore line kind) h = tt
refuses_may P task limit contents (BadCandidates line kind) h = tt
refuses_may P task limit contents (Unsound reason) h = tt
refuses_may P task limit contents (Absent name) h = tt
refuses_may P Publish limit contents (ReadFault file) h = absurd h
refuses_may P Check limit contents (ReadFault file) h = absurd h
refuses_may P (Eval name arg) limit contents (ReadFault file) h = absurd h
refuses_may P (Made n kind) limit contents (ReadFault file) h = absurd h
refuses_may P (Mine seed jobs workers) limit contents (ReadFault file) h = absurd h
refuses_may P Publish limit contents Done h = absurd h
refuses_may P Check limit contents Done h = absurd h
refuses_may P (Eval name arg) limit contents Done h = absurd h
refuses_may P (Made n kind) limit contents Done h = absurd h
refuses_may P (Mine seed jobs workers) limit contents Done h = absurd h
refuses_may P Publish limit contents Usage h = absurd h
refuses_may P Check limit contents Usage h = absurd h
refuses_may P (Eval name arg) limit contents Usage h = absurd h
refuses_may P (Made n kind) limit contents Usage h = absurd h
refuses_may P (Mine seed jobs workers) limit contents Usage h = absurd h
refuses_may P Publish limit contents WriteFault h = absurd h
refuses_may P Check limit contents WriteFault h = absurd h
refuses_may P (Eval name arg) limit contents WriteFault h = absurd h
refuses_may P (Made n kind) limit contents WriteFault h = absurd h
refuses_may P (Mine seed jobs workers) limit contents WriteFault h = absurd h

-- why an answer is no output
answer_may : (P : FileRole → Type 0) (request : Request) (contents : Result Contents Status) (s : Status) → Errs (May P) contents → IsAnswer request contents (Err s) → May P s
answer_may P request (Ok contents) s h is = refuses_may P request.task request.limit contents s is
answer_may P request (Err e) s h is = (let same : e ≡ s = cc in subst (May P) same h)

-- ---- the files that may be blamed

failed_at : (k k' : Known) (path : Option (List ℕ)) (found : Result (List ℕ) ReadError) → FindsAt k k' path found → found ≡ Err errors.Failed → (p : List ℕ) × (path ≡ Some p) × ReadFailed k k' p
failed_at k k' None found h e = absurd (subst IsNothing e h)
failed_at k k' (Some p) found h e = (p, refl, subst (λ f. FindsAt k k' (Some p) f) e h)

abbrev Blamed : Known → Known → Request → FileRole → Type 0
Blamed k k' request file = FileFailed k k' (Some request) file

found_may : (k k' : Known) (request : Request) (found : Found) → Finds k k' request found → Errs (May (Blamed k k' request)) (contents_of found)
found_may k k' request found finds =
    contents_may (Blamed k k' request) found
    (λ e. let f = failed_at k k' request.terms found.terms finds.terms e in record { path = f.0; given = f.1; failed = f.2 })
    (λ e. let f = failed_at k k' request.store found.store finds.store e in record { path = f.0; given = f.1; failed = f.2 })
    (λ e. let f = failed_at k k' request.candidates found.candidates finds.candidates e in record { path = f.0; given = f.1; failed = f.2 })

-- ---- how a run ends, by its status

-- a run that did not write all of its output, nor a part of it, has written nothing and has a reason
abbrev Stops : (FileRole → Type 0) → Written → Written → Status → Type 0
Stops P w w' Done = Unit {0}
Stops P w w' WriteFault = WriteFailed w w'
Stops P w w' s = May P s × (w' ≡ w)

stops : (P : FileRole → Type 0) (w w' : Written) (s : Status) → May P s → w' ≡ w → Stops P w w' s
stops P w w' Done m same = tt
stops P w w' WriteFault m same = absurd m
stops P w w' Usage m same = absurd m
stops P w w' (ReadFault file) m same = (m, same)
stops P w w' (FileTooLarge file size) m same = (m, same)
stops P w w' (LineTooLong file line) m same = (m, same)
stops P w w' (BadTerms line kind) m same = (m, same)
stops P w w' (BadStore line kind) m same = (m, same)
stops P w w' (BadCandidates line kind) m same = (m, same)
stops P w w' (Unsound reason) m same = (m, same)
stops P w w' (Absent name) m same = (m, same)
stops P w w' Memory m same = (m, same)

written_stops : (P : FileRole → Type 0) (output : List ℕ) (w w' : Written) (s : Status) → Ends (Ok output) w w' s → Stops P w w' s
written_stops P output w w' Done h = tt
written_stops P output w w' WriteFault h = h.1
written_stops P output w w' Usage h = absurd h
written_stops P output w w' (ReadFault file) h = absurd h
written_stops P output w w' (FileTooLarge file size) h = absurd h
written_stops P output w w' (LineTooLong file line) h = absurd h
written_stops P output w w' (BadTerms line kind) h = absurd h
written_stops P output w w' (BadStore line kind) h = absurd h
written_stops P output w w' (BadCandidates line kind) h = absurd h
written_stops P output w w' (Unsound reason) h = absurd h
written_stops P output w w' (Absent name) h = absurd h
written_stops P output w w' Memory h = absurd h

ends_stops : (P : FileRole → Type 0) (request : Request) (contents : Result Contents Status) (answer : Result (List ℕ) Status) (w w' : Written) (s : Status) → Errs (May P) contents
    → IsAnswer request contents answer → Ends answer w w' s → Stops P w w' s
ends_stops P request contents (Ok output) w w' s h is ends = written_stops P output w w' s ends
ends_stops P request contents (Err e) w w' s h is ends = stops P w w' s (subst (May P) (sym ends.0) (answer_may P request contents e h is)) ends.1

asked_stops : (k k' : Known) (request : Request) (w w' : Written) (s : Status) → RunsAs (Some request) k k' w w' s → Stops (Blamed k k' request) w w' s
asked_stops k k' request w w' s h =
    ends_stops (Blamed k k' request) request (contents_of h.0) h.2.0 w w' s (found_may k k' request h.0 h.1) h.2.1 h.2.2

-- ---- the status tells

usage_only : (o : Option Request) (k k' : Known) (w w' : Written) → RunsAs o k k' w w' Usage → o ≡ None
usage_only None k k' w w' h = refl
usage_only (Some request) k k' w w' h = absurd (asked_stops k k' request w w' Usage h).0

pub usage_is : (o : Option Request) (k k' : Known) (w w' : Written) (s : Status) → RunsAs o k k' w w' s → (s ≡ Usage) ↔ (o ≡ None)
usage_is o k k' w w' s h = (
  λ e. usage_only o k k' w w' (subst (λ (t : Status). RunsAs o k k' w w' t) e h),
  λ e. (subst (λ (p : Option Request). RunsAs p k k' w w' s) e h).0,
)

pub read_failed : (o : Option Request) (k k' : Known) (w w' : Written) (file : FileRole) → RunsAs o k k' w w' (ReadFault file) → FileFailed k k' o file
read_failed None k k' w w' file h = absurd (let e : ReadFault file ≡ Usage = h.0 in cc)
read_failed (Some request) k k' w w' file h = (asked_stops k k' request w w' (ReadFault file) h).0

pub write_failed : (o : Option Request) (k k' : Known) (w w' : Written) → RunsAs o k k' w w' WriteFault → WriteFailed w w'
write_failed None k k' w w' h = absurd (let e : WriteFault ≡ Usage = h.0 in cc)
write_failed (Some request) k k' w w' h = asked_stops k k' request w w' WriteFault h

nothing_stops : (P : FileRole → Type 0) (w w' : Written) (s : Status) → Stops P w w' s → s ≢ Done → s ≢ WriteFault → w' ≡ w
nothing_stops P w w' Done h n m = absurd (n refl)
nothing_stops P w w' WriteFault h n m = absurd (m refl)
nothing_stops P w w' Usage h n m = h.1
nothing_stops P w w' (ReadFault file) h n m = h.1
nothing_stops P w w' (FileTooLarge file size) h n m = h.1
nothing_stops P w w' (LineTooLong file line) h n m = h.1
nothing_stops P w w' (BadTerms line kind) h n m = h.1
nothing_stops P w w' (BadStore line kind) h n m = h.1
nothing_stops P w w' (BadCandidates line kind) h n m = h.1
nothing_stops P w w' (Unsound reason) h n m = h.1
nothing_stops P w w' (Absent name) h n m = h.1
nothing_stops P w w' Memory h n m = h.1

pub nothing_written : (o : Option Request) (k k' : Known) (w w' : Written) (s : Status) → RunsAs o k k' w w' s → s ≢ Done → s ≢ WriteFault → w' ≡ w
nothing_written None k k' w w' s h n m = h.1
nothing_written (Some request) k k' w w' s h n m = nothing_stops (Blamed k k' request) w w' s (asked_stops k k' request w w' s h) n m
