-- How a run ends where only the first files are told.
use Rattle.std.proofs.Common.{◌∙◌, ◌≡◌, ℕ, List, [], refl, sym, ap, subst, inl, inr}
use Rattle.std.specs.Prelude.{Result, Ok, Err, IsOk}
use Rattle.std.specs.declared.option.Option.{Option}
use Rattle.std.specs.declared.option.Option.TheVariants.{Some, None}
use Rattle.loda_io.specs.declared.ReadError.{ReadError}
use Rattle.loda_io.specs.declared.ReadError.TheVariants as errors
use Rattle.loda_io.specs.Shelf.{Known, checked}
use Rattle.loda_io.specs.Sink.{Written}
use Rattle.oeis_terms.specs.Stripped as terms_file
use Rattle.oeis_terms.specs.Table.{Table}
use Rattle.program_store.specs.Files as store_file
use Rattle.loda_mine.specs.declared.files.Contents.{Contents}
use Rattle.loda_mine.specs.declared.status.FileRole.{FileRole}
use Rattle.loda_mine.specs.declared.status.FileRole.TheVariants.{Terms, Store, Candidates}
use Rattle.loda_mine.specs.declared.status.Status.{Status}
use Rattle.loda_mine.specs.declared.status.Status.TheVariants.{ReadFault, BadStore, Memory}
use Rattle.command_words.specs.declared.request.Task.{Task}
use Rattle.command_words.specs.declared.request.Task.TheVariants.{Publish, Check, Eval, Made, Mine}
use Rattle.command_words.specs.Words.{Request}
use Rattle.text_parts.specs.Results.{◌>>=◌}
use Rattle.loda_mine.specs.Answer.{Found, bytes_of, table_in, parsed_in, found_terms, found_store, found_candidates, contents_of, Refuses, IsAnswer}
use Rattle.loda_mine.proofs.Ends.{Errs, errs_then}
use Rattle.loda_mine.specs.Run.{Finds, Ends, EndsAs, RunsAs, FileFailed, path_at, Files, TellsAt, EndsWith, error_in, stop_of, TellsTo, IsFirstStop, EndsSoOr, Precedes}
use Rattle.loda_mine.proofs.Exact.{Meets, meets_then, told_at, stopped}

-- ---- the first stop

abbrev Failing : Known → Known → Request → FileRole → Type 0
Failing k k' request file = FileFailed k k' (Some request) file

-- what was found of a file, or what is told of it
abbrev MeetsAt : Known → Known → Request → FileRole → Result (List ℕ) ReadError → Result (List ℕ) ReadError → Type 0
MeetsAt k k' request role found other = Meets (Failing k k' request) (bytes_of role found) (bytes_of role other)

found_meet : (k k' : Known) (request : Request) (found other : Found) → MeetsAt k k' request Terms found.terms other.terms → MeetsAt k k' request Store found.store other.store
    → MeetsAt k k' request Candidates found.candidates other.candidates → Meets (Failing k k' request) (contents_of found) (contents_of other)
unfolding contents_of
found_meet k k' request found other t s c =
    let P = Failing k k' request in
    meets_then P (found_terms found.terms) (found_terms other.terms) _ _ (meets_then P (bytes_of Terms found.terms) (bytes_of Terms other.terms) _ _ t (λ bytes e. inl refl))
    (λ terms e. meets_then P (found_store found.store) (found_store other.store) _ _ (meets_then P (bytes_of Store found.store) (bytes_of Store other.store) _ _ s (λ bytes e. inl refl))
    (λ store e. meets_then P (found_candidates found.candidates) (found_candidates other.candidates) _ _ (meets_then P (bytes_of Candidates found.candidates) (bytes_of Candidates other.candidates) _ _ c (λ bytes e. inl refl))
    (λ candidates e. inl refl)))

-- what is told up to a file, and what was found of those behind it
abbrev told_to : Files → Found → FileRole → Found
told_to files found Terms = record { terms = checked files.terms; store = found.store; candidates = found.candidates }
told_to files found Store = record { terms = checked files.terms; store = checked files.store; candidates = found.candidates }
told_to files found Candidates = record { terms = checked files.terms; store = checked files.store; candidates = checked files.candidates }

module _ (k k' : Known) (request : Request) (files : Files) (found : Found) (finds : Finds k k' request found) where
  terms_meet : TellsAt k request.terms files.terms → MeetsAt k k' request Terms found.terms (checked files.terms)
  terms_meet t = told_at (Failing k k' request) k k' Terms request.terms files.terms found.terms t finds.terms (λ p e f. record { path = p; given = e; failed = f })

  store_meet : TellsAt k request.store files.store → MeetsAt k k' request Store found.store (checked files.store)
  store_meet t = told_at (Failing k k' request) k k' Store request.store files.store found.store t finds.store (λ p e f. record { path = p; given = e; failed = f })

  candidates_meet : TellsAt k request.candidates files.candidates → MeetsAt k k' request Candidates found.candidates (checked files.candidates)
  candidates_meet t = told_at (Failing k k' request) k k' Candidates request.candidates files.candidates found.candidates t finds.candidates (λ p e f. record { path = p; given = e; failed = f })

  told_meet : (file : FileRole) → TellsTo k request files file → Meets (Failing k k' request) (contents_of found) (contents_of (told_to files found file))
  told_meet Terms t = found_meet k k' request found (told_to files found Terms) (terms_meet t) (inl refl) (inl refl)
  told_meet Store t = found_meet k k' request found (told_to files found Store) (terms_meet t.0) (store_meet t.1) (inl refl)
  told_meet Candidates t = found_meet k k' request found (told_to files found Candidates) (terms_meet t.0) (store_meet t.1) (candidates_meet t.2)

is_error : {A : Type 0} (r : Result A Status) (s : Status) → error_in r ≡ Some s → r ≡ Err s
is_error (Ok x) s e = absurd cc
is_error (Err t) s e = (let same : t ≡ s = cc in ap (λ u. Err u) same)

an_ok : {A : Type 0} (r : Result A Status) → IsOk r → (x : A) × (r ≡ Ok x)
an_ok (Ok x) h = (x, refl)
an_ok (Err s) h = absurd cc

stops_first : (files : Files) (found : Found) (file : FileRole) (s : Status) → IsFirstStop files file s → contents_of (told_to files found file) ≡ Err s
unfolding contents_of
stops_first files found Terms s h = rw (is_error (found_terms (checked files.terms)) s h.stop) refl
stops_first files found Store s h =
    let terms = an_ok (found_terms (checked files.terms)) h.before in
    rw (terms.1, is_error (found_store (checked files.store)) s h.stop) refl
stops_first files found Candidates s h =
    let terms = an_ok (found_terms (checked files.terms)) h.before.0 in
    let store = an_ok (found_store (checked files.store)) h.before.1 in
    rw (terms.1, store.1, is_error (found_candidates (checked files.candidates)) s h.stop) refl

ends_with : (request : Request) (contents : Result Contents Status) (e : Status) (w w' : Written) (s : Status) → contents ≡ Err e → EndsAs request contents w w' s → EndsWith e w w' s
ends_with request contents e w w' s is h =
    let g : EndsAs request (Err e) w w' s = subst (λ r. EndsAs request r w w' s) is h in
    stopped request e g.0 w w' s g.1 g.2

meets_ends : (k k' : Known) (request : Request) (a b : Result Contents Status) (e : Status) (w w' : Written) (s : Status) → Meets (Failing k k' request) a b → b ≡ Err e → EndsAs request a w w' s
    → EndsSoOr k k' w w' request e s
meets_ends k k' request a b e w w' s m is h = elim m [
  | inl same ↦ inl (ends_with request a e w w' s (same ∙ is) h)
  | inr n ↦ elim n [
    | inl p ↦ inr (inl (p.0, p.2, ends_with request a (ReadFault p.0) w w' s p.1 h))
    | inr lost ↦ inr (inr (ends_with request a Memory w w' s lost h))
  ]
]

pub first_stop : (o : Option Request) (k k' : Known) (w w' : Written) (status : Status) (request : Request) (files : Files) (file : FileRole) (s : Status) → RunsAs o k k' w w' status → o ≡ Some request
    → TellsTo k request files file → IsFirstStop files file s → EndsSoOr k k' w w' request s status
first_stop o k k' w w' status request files file s h e tells stop =
    let run = subst (λ (p : Option Request). RunsAs p k k' w w' status) e h in
    meets_ends k k' request (contents_of run.0) (contents_of (told_to files run.0 file)) s w w' status (told_meet k k' request files run.0 run.1 file tells) (stops_first files run.0 file s stop) run.2

-- ---- the files before one that could not be read

-- a fault of reading is one of this file
abbrev OfFile : FileRole → Status → Type 0
OfFile role (ReadFault file) = file ≡ role
OfFile role s = Unit {0}

bytes_of_file : (role : FileRole) (found : Result (List ℕ) ReadError) → Errs (OfFile role) (bytes_of role found)
bytes_of_file role (Ok bytes) = tt
bytes_of_file role (Err errors.Failed) = refl
bytes_of_file role (Err (errors.FileTooLarge size)) = tt
bytes_of_file role (Err (errors.LineTooLong line)) = tt
bytes_of_file role (Err errors.Memory) = tt

table_of_file : (read : Result Table terms_file.TermsFault) → Errs (OfFile Terms) (table_in read)
table_of_file (Ok table) = tt
table_of_file (Err fault) = tt

store_of_file : {A : Type 0} (read : Result A store_file.StoreFault) → Errs (OfFile Store) (parsed_in BadStore read)
store_of_file (Ok store) = tt
store_of_file (Err fault) = tt

terms_errs : (found : Result (List ℕ) ReadError) → Errs (OfFile Terms) (found_terms found)
terms_errs found = errs_then (OfFile Terms) (bytes_of Terms found) _ (bytes_of_file Terms found) (λ bytes. table_of_file _)

store_errs : (found : Result (List ℕ) ReadError) → Errs (OfFile Store) (found_store found)
store_errs found = errs_then (OfFile Store) (bytes_of Store found) _ (bytes_of_file Store found) (λ bytes. store_of_file _)

-- no command blames a file
never_blames : (task : Task) (limit : ℕ) (contents : Contents) (file : FileRole) → Refuses task limit contents (ReadFault file) → ⊥
never_blames Publish limit contents file h = h
never_blames Check limit contents file h = h
never_blames (Eval name arg) limit contents file h = h
never_blames (Made n kind) limit contents file h = h
never_blames (Mine seed jobs workers) limit contents file h = h

-- what is blamed on a later file was not met at this one
blamed_later : {A B : Type 0} (role file : FileRole) (r : Result A Status) (f : A → Result B Status) → Errs (OfFile role) r → r >>= f ≡ Err (ReadFault file) → (file ≡ role → ⊥)
    → (x : A) × (r ≡ Ok x) × (f x ≡ Err (ReadFault file))
blamed_later role file (Ok x) f h e other = (x, refl, e)
blamed_later role file (Err s) f h e other = absurd (other (let same : s ≡ ReadFault file = cc in subst (OfFile role) same h))

-- a result that is told is that of what was found, where that is no error
ok_meets : {A B : Type 0} (P : FileRole → Type 0) (a b : Result A Status) (f : A → Result B Status) (x : B) → Meets P a b → a >>= f ≡ Ok x → error_in (b >>= f) ≡ None
ok_meets P a b f x m e = elim m [
  | inl same ↦ ap error_in (ap (λ r. r >>= f) (sym same) ∙ e)
  | inr n ↦ elim n [
    | inl p ↦ absurd (let lost = sym (ap (λ r. r >>= f) p.1) ∙ e in cc)
    | inr lost ↦ absurd (let lost = sym (ap (λ r. r >>= f) lost) ∙ e in cc)
  ]
]

read_before : (k k' : Known) (request : Request) (found : Found) (finds : Finds k k' request found) (file earlier : FileRole) (bytes : List ℕ) → contents_of found ≡ Err (ReadFault file) → Precedes earlier file
    → TellsAt k (path_at (Some request) earlier) bytes → stop_of earlier bytes ≡ None
unfolding contents_of
read_before k k' request found finds Store Terms bytes e order tells =
    let files : Files = record { terms = bytes; store = []; candidates = [] } in
    let first = blamed_later Terms Store (found_terms found.terms) _ (terms_errs found.terms) e (λ same. absurd cc) in
    ok_meets (Failing k k' request) (bytes_of Terms found.terms) (bytes_of Terms (checked bytes)) _ first.0 (terms_meet k k' request files found finds tells) first.1
read_before k k' request found finds Candidates Terms bytes e order tells =
    let files : Files = record { terms = bytes; store = []; candidates = [] } in
    let first = blamed_later Terms Candidates (found_terms found.terms) _ (terms_errs found.terms) e (λ same. absurd cc) in
    ok_meets (Failing k k' request) (bytes_of Terms found.terms) (bytes_of Terms (checked bytes)) _ first.0 (terms_meet k k' request files found finds tells) first.1
read_before k k' request found finds Candidates Store bytes e order tells =
    let files : Files = record { terms = []; store = bytes; candidates = [] } in
    let first = blamed_later Terms Candidates (found_terms found.terms) _ (terms_errs found.terms) e (λ same. absurd cc) in
    let second = blamed_later Store Candidates (found_store found.store) _ (store_errs found.store) first.2 (λ same. absurd cc) in
    ok_meets (Failing k k' request) (bytes_of Store found.store) (bytes_of Store (checked bytes)) _ second.0 (store_meet k k' request files found finds tells) second.1
read_before k k' request found finds Terms Terms bytes e order tells = absurd order
read_before k k' request found finds Terms Store bytes e order tells = absurd order
read_before k k' request found finds Terms Candidates bytes e order tells = absurd order
read_before k k' request found finds Store Store bytes e order tells = absurd order
read_before k k' request found finds Store Candidates bytes e order tells = absurd order
read_before k k' request found finds Candidates Candidates bytes e order tells = absurd order

-- a run that ends with a fault of reading met it in the files
blamed_contents : (request : Request) (contents : Result Contents Status) (answer : Result (List ℕ) Status) (w w' : Written) (file : FileRole) → IsAnswer request contents answer → Ends answer w w' (ReadFault file)
    → contents ≡ Err (ReadFault file)
blamed_contents request contents (Ok output) w w' file is ends = absurd ends
blamed_contents request (Ok contents) (Err s) w w' file is ends = absurd (never_blames request.task request.limit contents file (subst (Refuses request.task request.limit contents) (sym ends.0) is))
blamed_contents request (Err s) (Err t) w w' file is ends = (let same : t ≡ s = cc in ap (λ u. Err u) (sym (ends.0 ∙ same)))

pub earlier_opened : (o : Option Request) (k k' : Known) (w w' : Written) (request : Request) (file earlier : FileRole) (bytes : List ℕ) → RunsAs o k k' w w' (ReadFault file) → o ≡ Some request → Precedes earlier file
    → TellsAt k (path_at (Some request) earlier) bytes → stop_of earlier bytes ≡ None
earlier_opened o k k' w w' request file earlier bytes h e order tells =
    let run = subst (λ (p : Option Request). RunsAs p k k' w w' (ReadFault file)) e h in
    read_before k k' request run.0 run.1 file earlier bytes (blamed_contents request (contents_of run.0) run.2.0 w w' file run.2.1 run.2.2) order tells
