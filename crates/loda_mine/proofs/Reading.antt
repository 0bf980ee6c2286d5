-- The files of a command, read one after the other.
use Rattle.std.proofs.Common.{◌≡◌, ℕ, List, refl}
use Rattle.std.specs.Prelude.{Result, Ok, Err}
use Rattle.std.specs.declared.option.Option.{Option}
use Rattle.std.specs.declared.option.Option.TheVariants.{Some, None}
use Rattle.loda_io.specs.declared.ReadError.{ReadError}
use Rattle.loda_io.specs.declared.ReadError.TheVariants as errors
use Rattle.loda_io.specs.Shelf.{Known, OnlyRead}
use Rattle.loda_io.proofs.Shelves.{Reads-later, Reads-earlier}
use Rattle.oeis_terms.specs.Table.{Table}
use Rattle.program_store.specs.declared.published.Proposal.{Proposal}
use Rattle.program_store.specs.Store.{Store}
use Rattle.loda_mine.specs.declared.files.Contents.{Contents}
use Rattle.loda_mine.specs.declared.status.Status.{Status}
use Rattle.command_words.specs.Words.{Request}
use Rattle.loda_mine.specs.Answer.{Found, found_terms, found_store, found_candidates, contents_of}
use Rattle.loda_mine.specs.Run.{FindsAt, Finds}

later : (a b c : Known) (path : Option (List ℕ)) (found : Result (List ℕ) ReadError) → FindsAt a b path found → OnlyRead b c → FindsAt a c path found
later a b c None found h kept = h
later a b c (Some path) found h kept = Reads-later a b c path found h kept

earlier : (a b c : Known) (path : Option (List ℕ)) (found : Result (List ℕ) ReadError) → OnlyRead a b → FindsAt b c path found → FindsAt a c path found
earlier a b c None found kept h = h
earlier a b c (Some path) found kept h = Reads-earlier a b c path found kept h

-- what is found where nothing is read
not_read : Result (List ℕ) ReadError
not_read = Err errors.Memory

finds_nothing : (a b : Known) (path : Option (List ℕ)) → FindsAt a b path not_read
unfolding not_read
finds_nothing a b None = tt
finds_nothing a b (Some path) = tt

abbrev pub Opened : Known → Known → Request → Result Contents Status → Type 0
Opened k k' request result = (found : Found) × Finds k k' request found × (contents_of found ≡ result)

pub stops_at_terms : (a b : Known) (request : Request) (s : Status) (first : Result (List ℕ) ReadError) → FindsAt a b request.terms first → found_terms first ≡ Err s → Opened a b request (Err s)
unfolding contents_of
stops_at_terms a b request s first finds e = (
  record { terms = first; store = not_read; candidates = not_read },
  record { terms = finds; store = finds_nothing a b request.store; candidates = finds_nothing a b request.candidates },
  rw e refl,
)

pub stops_at_store : (a b c : Known) (request : Request) (s : Status) (terms : Table) (first second : Result (List ℕ) ReadError) → OnlyRead a b → OnlyRead b c
    → FindsAt a b request.terms first → found_terms first ≡ Ok terms → FindsAt b c request.store second → found_store second ≡ Err s → Opened a c request (Err s)
unfolding contents_of
stops_at_store a b c request s terms first second p q finds e finds' e' = (
  record { terms = first; store = second; candidates = not_read },
  record { terms = later a b c request.terms first finds q; store = earlier a b c request.store second p finds'; candidates = finds_nothing a c request.candidates },
  rw (e, e') refl,
)

module _ (a b c d : Known) (request : Request) (terms : Table) (store : Store) (first second third : Result (List ℕ) ReadError) (p : OnlyRead a b) (q : OnlyRead b c) (r : OnlyRead c d)
    (finds : FindsAt a b request.terms first) (e : found_terms first ≡ Ok terms) (finds' : FindsAt b c request.store second) (e' : found_store second ≡ Ok store) (finds'' : FindsAt c d request.candidates third) where
  found : Found
  found = record { terms = first; store = second; candidates = third }

  all_found : Finds a d request found
  unfolding found
  all_found = record {
    terms = later a c d request.terms first (later a b c request.terms first finds q) r;
    store = later a c d request.store second (earlier a b c request.store second p finds') r;
    candidates = earlier a b d request.candidates third p (earlier b c d request.candidates third q finds'');
  }

  pub stops_at_candidates : (s : Status) → found_candidates third ≡ Err s → Opened a d request (Err s)
  unfolding contents_of found
  stops_at_candidates s e'' = (found, all_found, rw (e, e', e'') refl)

  pub all_opened : (candidates : List Proposal) → found_candidates third ≡ Ok candidates → Opened a d request (Ok (record { terms = terms; store = store; candidates = candidates }))
  unfolding contents_of found
  all_opened candidates e'' = (found, all_found, rw (e, e', e'') refl)
