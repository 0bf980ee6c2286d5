-- How a run ends whose files are told.
use Rattle.std.proofs.Common.{◌∙◌, ◌≡◌, ℕ, List, [], refl, sym, ap, subst, inl, inr}
use Rattle.std.specs.Prelude.{◌⊎◌, IfSome, Result, Ok, Err, IsOk}
use Rattle.std.specs.declared.option.Option.{Option}
use Rattle.std.specs.declared.option.Option.TheVariants.{Some, None}
use Rattle.loda_io.specs.declared.ReadError.{ReadError}
use Rattle.loda_io.specs.declared.ReadError.TheVariants as errors
use Rattle.loda_io.specs.Shelf.{Known, ReadFailed, checked}
use Rattle.loda_io.specs.Sink.{Written, Adds, WriteFailed}
use Rattle.oeis_terms.specs.Table.{row_of}
use Rattle.judge.proofs.OneReason.{one_reason}
use Rattle.loda_mine.specs.declared.files.Contents.{Contents}
use Rattle.loda_mine.specs.declared.status.FileRole.{FileRole}
use Rattle.loda_mine.specs.declared.status.FileRole.TheVariants.{Terms, Store, Candidates}
use Rattle.loda_mine.specs.declared.status.Status.{Status}
use Rattle.loda_mine.specs.declared.status.Status.TheVariants.{Done, Usage, ReadFault, FileTooLarge, LineTooLong, BadTerms, BadStore, BadCandidates, Unsound, Absent, WriteFault, Memory}
use Rattle.command_words.specs.declared.request.Task.{Task}
use Rattle.command_words.specs.declared.request.Task.TheVariants.{Publish, Check, Eval, Made, Mine}
use Rattle.command_words.specs.Words.{Request, IsMine}
use Rattle.loda_mine.proofs.Opened.{nothing_checked}
use Rattle.loda_mine.proofs.Ends.{May, errs_is, contents_may, refuses_may}
use Rattle.text_parts.specs.Results.{◌>>=◌}
use Rattle.loda_mine.specs.Answer.{Found, bytes_of, found_terms, found_store, found_candidates, contents_of, Writes, Refuses, IsAnswer}
use Rattle.loda_mine.specs.Run.{IsNothing, FindsAt, Finds, Ends, EndsAs, RunsAs, Files, TellsAt, Tells, all_of, StopsAt, EndsWith, Exactly, IsReady, NothingFails, Opens, WritesOutput, Headline, MineHeadline}

-- ---- answers by what was found, and by what is told

-- The results are the same, or a file could not be read, or memory ran out.
abbrev pub Meets : {A : Type 0} → (FileRole → Type 0) → Result A Status → Result A Status → Type 0
Meets P a b = (a ≡ b) ⊎ (((file : FileRole) × (a ≡ Err (ReadFault file)) × P file) ⊎ (a ≡ Err Memory))

same_then : {A B : Type 0} (P : FileRole → Type 0) (b : Result A Status) (f g : A → Result B Status) → ((x : A) → b ≡ Ok x → Meets P (f x) (g x)) → Meets P (b >>= f) (b >>= g)
same_then P (Ok x) f g h = h x refl
same_then P (Err s) f g h = inl refl

pub meets_then : {A B : Type 0} (P : FileRole → Type 0) (a b : Result A Status) (f g : A → Result B Status) → Meets P a b → ((x : A) → b ≡ Ok x → Meets P (f x) (g x)) → Meets P (a >>= f) (b >>= g)
meets_then P a b f g m h = elim m [
  | inl e ↦ subst (λ r. Meets P (r >>= f) (b >>= g)) (sym e) (same_then P b f g h)
  | inr n ↦ elim n [
    | inl p ↦ inr (inl (p.0, ap (λ r. r >>= f) p.1, p.2))
    | inr e ↦ inr (inr (ap (λ r. r >>= f) e))
  ]
]

-- ---- one file

is_told : (told : Option (List ℕ)) (file : List ℕ) (found : Result (List ℕ) ReadError) → told ≡ Some file → IfSome told (λ f. checked f ≡ found) → found ≡ checked file
is_told told file found e h = sym (subst (λ (t : Option (List ℕ)). IfSome t (λ f. checked f ≡ found)) e h)

told_nothing : (P : FileRole → Type 0) (role : FileRole) (file : List ℕ) (found : Result (List ℕ) ReadError) → file ≡ [] → IsNothing found → Meets P (bytes_of role found) (bytes_of role (checked file))
told_nothing P role file (Ok bytes) none h = inl (ap (bytes_of role) (ap (λ b. Ok b) h ∙ sym nothing_checked ∙ ap checked (sym none)))
told_nothing P role file (Err errors.Memory) none h = inr (inr refl)
told_nothing P role file (Err errors.Failed) none h = absurd h
told_nothing P role file (Err (errors.FileTooLarge size)) none h = absurd h
told_nothing P role file (Err (errors.LineTooLong line)) none h = absurd h

pub told_at : (P : FileRole → Type 0) (k k' : Known) (role : FileRole) (path : Option (List ℕ)) (file : List ℕ) (found : Result (List ℕ) ReadError) → TellsAt k path file → FindsAt k k' path found
    → ((p : List ℕ) → path ≡ Some p → ReadFailed k k' p → P role) → Meets P (bytes_of role found) (bytes_of role (checked file))
told_at P k k' role None file found tells finds h = told_nothing P role file found tells finds
told_at P k k' role (Some path) file (Ok bytes) tells finds h =
    let same : file ≡ bytes = subst (λ (t : Option (List ℕ)). IfSome t (λ f. f ≡ bytes)) tells finds.1 in
    inl (ap (bytes_of role) (sym (ap checked same ∙ finds.0)))
told_at P k k' role (Some path) file (Err errors.Failed) tells finds h = inr (inl (role, refl, h path refl finds))
told_at P k k' role (Some path) file (Err (errors.FileTooLarge size)) tells finds h = inl (ap (bytes_of role) (is_told (k.bytes path) file (Err (errors.FileTooLarge size)) tells finds.1))
told_at P k k' role (Some path) file (Err (errors.LineTooLong line)) tells finds h = inl (ap (bytes_of role) (is_told (k.bytes path) file (Err (errors.LineTooLong line)) tells finds))
told_at P k k' role (Some path) file (Err errors.Memory) tells finds h = inr (inr refl)

-- ---- all files

is_ok : {A : Type 0} (r : Result A Status) (x : A) → r ≡ Ok x → IsOk r
is_ok r x e = rw e refl

contents_meet : (k k' : Known) (request : Request) (files : Files) (found : Found) → Tells k request files → Finds k k' request found → Meets (StopsAt k k' request files) (contents_of found) (contents_of (all_of files))
unfolding contents_of
contents_meet k k' request files found tells finds =
    let P = StopsAt k k' request files in
    meets_then P (found_terms found.terms) (found_terms (checked files.terms)) _ _
    (meets_then P (bytes_of Terms found.terms) (bytes_of Terms (checked files.terms)) _ _
    (told_at P k k' Terms request.terms files.terms found.terms tells.terms finds.terms (λ p e f. record { failed = record { path = p; given = e; failed = f }; before = tt }))
    (λ bytes e. inl refl))
    (λ terms terms_ok. meets_then P (found_store found.store) (found_store (checked files.store)) _ _
    (meets_then P (bytes_of Store found.store) (bytes_of Store (checked files.store)) _ _
    (told_at P k k' Store request.store files.store found.store tells.store finds.store (λ p e f. record { failed = record { path = p; given = e; failed = f }; before = is_ok (found_terms (checked files.terms)) terms terms_ok }))
    (λ bytes e. inl refl))
    (λ store store_ok. meets_then P (found_candidates found.candidates) (found_candidates (checked files.candidates)) _ _
    (meets_then P (bytes_of Candidates found.candidates) (bytes_of Candidates (checked files.candidates)) _ _
    (told_at P k k' Candidates request.candidates files.candidates found.candidates tells.candidates finds.candidates
    (λ p e f. record { failed = record { path = p; given = e; failed = f }; before = (is_ok (found_terms (checked files.terms)) terms terms_ok, is_ok (found_store (checked files.store)) store store_ok) }))
    (λ bytes e. inl refl))
    (λ candidates e. inl refl)))

-- ---- the ends

pub stopped : (request : Request) (e : Status) (answer : Result (List ℕ) Status) (w w' : Written) (s : Status) → answer ≡ Err e → Ends answer w w' s → EndsWith e w w' s
stopped request e answer w w' s is ends = subst (λ a. Ends a w w' s) is ends

ends_exactly : (k k' : Known) (request : Request) (files : Files) (a : Result Contents Status) (w w' : Written) (s : Status) → Meets (StopsAt k k' request files) a (contents_of (all_of files))
    → EndsAs request a w w' s → Exactly k k' w w' request files s
ends_exactly k k' request files a w w' s m h = elim m [
  | inl e ↦ inl (subst (λ r. EndsAs request r w w' s) e h)
  | inr n ↦ elim n [
    | inl p ↦ inr (inl (p.0, p.2, let g : EndsAs request (Err (ReadFault p.0)) w w' s = subst (λ r. EndsAs request r w w' s) p.1 h in stopped request (ReadFault p.0) g.0 w w' s g.1 g.2))
    | inr e ↦ inr (inr (let g : EndsAs request (Err Memory) w w' s = subst (λ r. EndsAs request r w w' s) e h in stopped request Memory g.0 w w' s g.1 g.2))
  ]
]

pub exactly : (o : Option Request) (k k' : Known) (w w' : Written) (s : Status) (request : Request) (files : Files) → RunsAs o k k' w w' s → o ≡ Some request → Tells k request files
    → Exactly k k' w w' request files s
exactly o k k' w w' s request files h e tells =
    let run = subst (λ (p : Option Request). RunsAs p k k' w w' s) e h in
    ends_exactly k k' request files (contents_of run.0) w w' s (contents_meet k k' request files run.0 tells run.1) run.2

-- ---- completeness

-- a command that is ready is not refused, unless memory ran out
ready_memory : (task : Task) (limit : ℕ) (contents : Contents) (s : Status) → IsReady task limit contents → Refuses task limit contents s → s ≡ Memory
ready_memory task limit contents Memory ready h = refl
ready_memory Publish limit contents (Unsound reason) ready h = absurd ((one_reason contents.store (row_of contents.terms) limit).never_both reason h ready)
ready_memory Check limit contents (Unsound reason) ready h = absurd ((one_reason contents.store (row_of contents.terms) limit).never_both reason h ready)
ready_memory (Mine seed jobs workers) limit contents (Unsound reason) ready h = absurd ((one_reason contents.store (row_of contents.terms) limit).never_both reason h ready)
ready_memory (Eval name arg) limit contents (Absent absent) ready h = absurd (let e = sym ready.1 ∙ h.1 in cc)
ready_memory Publish limit contents Done ready h = absurd h
ready_memory Publish limit contents Usage ready h = absurd h
ready_memory Publish limit contents (ReadFault file) ready h = absurd h
ready_memory Publish limit contents (FileTooLarge file size) ready h = absurd h
ready_memory Publish limit contents (LineTooLong file line) ready h = absurd h
ready_memory Publish limit contents (BadTerms line kind) ready h = absurd h
ready_memory Publish limit contents (BadStore line kind) ready h = absurd h
ready_memory Publish limit contents (BadCandidates line kind) ready h = absurd h
ready_memory Publish limit contents (Absent name) ready h = absurd h
ready_memory Publish limit contents WriteFault ready h = absurd h
ready_memory Check limit contents Done ready h = absurd h
ready_memory Check limit contents Usage ready h = absurd h
ready_memory Check limit contents (ReadFault file) ready h = absurd h
ready_memory Check limit contents (FileTooLarge file size) ready h = absurd h
ready_memory Check limit contents (LineTooLong file line) ready h = absurd h
ready_memory Check limit contents (BadTerms line kind) ready h = absurd h
ready_memory Check limit contents (BadStore line kind) ready h = absurd h
ready_memory Check limit contents (BadCandidates line kind) ready h = absurd h
ready_memory Check limit contents (Absent name) ready h = absurd h
ready_memory Check limit contents WriteFault ready h = absurd h
ready_memory (Eval name arg) limit contents Done ready h = absurd h
ready_memory (Eval name arg) limit contents Usage ready h = absurd h
ready_memory (Eval name arg) limit contents (ReadFault file) ready h = absurd h
ready_memory (Eval name arg) limit contents (FileTooLarge file size) ready h = absurd h
ready_memory (Eval name arg) limit contents (LineTooLong file line) ready h = absurd h
ready_memory (Eval name arg) limit contents (BadTerms line kind) ready h = absurd h
ready_memory (Eval name arg) limit contents (BadStore line kind) ready h = absurd h
ready_memory (Eval name arg) limit contents (BadCandidates line kind) ready h = absurd h
ready_memory (Eval name arg) limit contents (Unsound reason) ready h = absurd h
ready_memory (Eval name arg) limit contents WriteFault ready h = absurd h
ready_memory (Made n what) limit contents Done ready h = absurd h
ready_memory (Made n what) limit contents Usage ready h = absurd h
ready_memory (Made n what) limit contents (ReadFault file) ready h = absurd h
ready_memory (Made n what) limit contents (FileTooLarge file size) ready h = absurd h
ready_memory (Made n what) limit contents (LineTooLong file line) ready h = absurd h
ready_memory (Made n what) limit contents (BadTerms line kind) ready h = absurd h
ready_memory (Made n what) limit contents (BadStore line kind) ready h = absurd h
ready_memory (Made n what) limit contents (BadCandidates line kind) ready h = absurd h
ready_memory (Made n what) limit contents (Unsound reason) ready h = absurd h
ready_memory (Made n what) limit contents (Absent name) ready h = absurd h
ready_memory (Made n what) limit contents WriteFault ready h = absurd h
ready_memory (Mine seed jobs workers) limit contents Done ready h = absurd h
ready_memory (Mine seed jobs workers) limit contents Usage ready h = absurd h
ready_memory (Mine seed jobs workers) limit contents (ReadFault file) ready h = absurd h
ready_memory (Mine seed jobs workers) limit contents (FileTooLarge file size) ready h = absurd h
ready_memory (Mine seed jobs workers) limit contents (LineTooLong file line) ready h = absurd h
ready_memory (Mine seed jobs workers) limit contents (BadTerms line kind) ready h = absurd h
ready_memory (Mine seed jobs workers) limit contents (BadStore line kind) ready h = absurd h
ready_memory (Mine seed jobs workers) limit contents (BadCandidates line kind) ready h = absurd h
ready_memory (Mine seed jobs workers) limit contents (Absent name) ready h = absurd h
ready_memory (Mine seed jobs workers) limit contents WriteFault ready h = absurd h

abbrev Completes : Status → Type 0
Completes s = (s ≡ Done) ⊎ (s ≡ Memory)

written_completes : (output : List ℕ) (w w' : Written) (s : Status) → (WriteFailed w w' → ⊥) → Ends (Ok output) w w' s → Completes s
written_completes output w w' Done unfailing h = inl refl
written_completes output w w' WriteFault unfailing h = absurd (unfailing h.1)
written_completes output w w' Usage unfailing h = absurd h
written_completes output w w' (ReadFault file) unfailing h = absurd h
written_completes output w w' (FileTooLarge file size) unfailing h = absurd h
written_completes output w w' (LineTooLong file line) unfailing h = absurd h
written_completes output w w' (BadTerms line kind) unfailing h = absurd h
written_completes output w w' (BadStore line kind) unfailing h = absurd h
written_completes output w w' (BadCandidates line kind) unfailing h = absurd h
written_completes output w w' (Unsound reason) unfailing h = absurd h
written_completes output w w' (Absent name) unfailing h = absurd h
written_completes output w w' Memory unfailing h = absurd h

answer_completes : (request : Request) (contents : Contents) (answer : Result (List ℕ) Status) (w w' : Written) (s : Status) → IsReady request.task request.limit contents → (WriteFailed w w' → ⊥)
    → IsAnswer request (Ok contents) answer → Ends answer w w' s → Completes s
answer_completes request contents (Ok output) w w' s ready unfailing is ends = written_completes output w w' s unfailing ends
answer_completes request contents (Err e) w w' s ready unfailing is ends = inr (ends.0 ∙ ready_memory request.task request.limit contents e ready is)

ends_completes : (request : Request) (contents : Contents) (read : Result Contents Status) (w w' : Written) (s : Status) → read ≡ Ok contents → IsReady request.task request.limit contents
    → (WriteFailed w w' → ⊥) → EndsAs request read w w' s → Completes s
ends_completes request contents read w w' s e ready unfailing h =
    let g = subst (λ r. EndsAs request r w w' s) e h in
    answer_completes request contents g.0 w w' s ready unfailing g.1 g.2

pub complete : (o : Option Request) (k k' : Known) (w w' : Written) (s : Status) (request : Request) (files : Files) (contents : Contents) → RunsAs o k k' w w' s → o ≡ Some request
    → Opens k request files contents → IsReady request.task request.limit contents → NothingFails k k' w w' request → Completes s
complete o k k' w w' s request files contents h e opens ready none = elim (exactly o k k' w w' s request files h e opens.told) [
  | inl g ↦ ends_completes request contents (contents_of (all_of files)) w w' s opens.read ready none.writes g
  | inr n ↦ elim n [
    | inl p ↦ absurd (none.reads p.0 p.1.failed)
    | inr m ↦ inr m.0
  ]
]

-- ---- what was written

abbrev Wrote : Known → Written → Written → Request → Files → Type 0
Wrote k w w' request files = (contents : Contents) × Opens k request files contents × WritesOutput w w' request contents

ends_wrote : (k : Known) (w w' : Written) (request : Request) (files : Files) (read : Result Contents Status) (answer : Result (List ℕ) Status) → Tells k request files → contents_of (all_of files) ≡ read
    → IsAnswer request read answer → Ends answer w w' Done → Wrote k w w' request files
ends_wrote k w w' request files (Ok contents) (Ok output) tells same is ends =
    (contents, record { told = tells; read = same }, record { output = output; is = is; added = ends })
ends_wrote k w w' request files (Err e) (Ok output) tells same is ends = absurd cc
ends_wrote k w w' request files (Ok contents) (Err e) tells same is ends = absurd (refuses_may (λ file. ⊥) request.task request.limit contents Done (subst (Refuses request.task request.limit contents) (sym ends.0) is))
ends_wrote k w w' request files (Err s) (Err e) tells same is ends =
    let P : FileRole → Type 0 = λ file. Unit {0} in
    let found = all_of files in
    let stopped_by : e ≡ s = cc in
    absurd (subst (May P) (sym (ends.0 ∙ stopped_by)) (errs_is (May P) (contents_of found) s (contents_may P found (λ x. tt) (λ x. tt) (λ x. tt)) same))

pub done_wrote : (o : Option Request) (k k' : Known) (w w' : Written) (request : Request) (files : Files) → RunsAs o k k' w w' Done → o ≡ Some request → Tells k request files → Wrote k w w' request files
done_wrote o k k' w w' request files h e tells = elim (exactly o k k' w w' Done request files h e tells) [
  | inl g ↦ ends_wrote k w w' request files (contents_of (all_of files)) g.0 tells refl g.1 g.2
  | inr n ↦ elim n [
    | inl p ↦ absurd (let same : Done ≡ ReadFault p.0 = p.2.0 in cc)
    | inr m ↦ absurd (let same : Done ≡ Memory = m.0 in cc)
  ]
]

-- ---- the headline

pub headline : (o : Option Request) (k k' : Known) (w w' : Written) (request : Request) (files : Files) → RunsAs o k k' w w' Done → o ≡ Some request → request.task ≡ Publish → Tells k request files
    → Headline k w w' request files
headline o k k' w w' request files h e task tells =
    let wrote = done_wrote o k k' w w' request files h e tells in
    let is : Writes Publish request.limit wrote.0 wrote.2.output = subst (λ t. Writes t request.limit wrote.0 wrote.2.output) task wrote.2.is in
    record { contents = wrote.0; desk = is.0; opens = wrote.1; decided = is.1; added = subst (Adds w w') is.2 wrote.2.added }

-- a task for workers is one of so many jobs of a seed
is_mine_of : (task : Task) → IsMine task → (seed : ℕ) × (jobs : ℕ) × (workers : ℕ) × (task ≡ Mine seed jobs workers)
is_mine_of (Mine seed jobs workers) h = (seed, jobs, workers, refl)
is_mine_of Publish h = absurd h
is_mine_of Check h = absurd h
is_mine_of (Eval name arg) h = absurd h
is_mine_of (Made n kind) h = absurd h

pub mine_headline : (o : Option Request) (k k' : Known) (w w' : Written) (request : Request) (files : Files) → RunsAs o k k' w w' Done → o ≡ Some request → IsMine request.task → Tells k request files
    → MineHeadline k w w' request files
mine_headline o k k' w w' request files h e mine tells =
    let wrote = done_wrote o k k' w w' request files h e tells in
    let task = is_mine_of request.task mine in
    let is : Writes (Mine task.0 task.1 task.2) request.limit wrote.0 wrote.2.output = subst (λ t. Writes t request.limit wrote.0 wrote.2.output) task.3 wrote.2.is in
    record {
      seed = task.0;
      jobs = task.1;
      workers = task.2;
      task = task.3;
      contents = wrote.0;
      desk = is.0;
      opens = wrote.1;
      mined = is.1;
      added = subst (Adds w w') is.2 wrote.2.added;
    }
