-- What a job proposes: a function of the store, the terms, the limit of steps, the seed and the job's number.
use Rattle.std.specs.Prelude.{ℕ, zero, suc, ◌+◌, ℤ, pos, List, [], ◌∷◌, length, map, slice_index, ◌==◌, nat_lt, if◌then◌else◌}
use Rattle.std.specs.declared.option.Option.{Option}
use Rattle.std.specs.declared.option.Option.TheVariants.{Some, None}
use Rattle.std.specs.Option.{option_map, option_map_or}
use Rattle.std.specs.List.{filter_map, range_with_len}
use Rattle.std.specs.FinMap.{entries}
use Rattle.rand_core.specs.Stream.{Stream}
use Rattle.word_stream.specs.Words.{below, rest}
use Rattle.word_stream.specs.Jobs.{job_words}
use Rattle.generator.specs.Generating.{generated}
use Rattle.mutator.specs.Mutating.{mutated}
use Rattle.loda_syntax.specs.Programs.{Text}
use Rattle.loda_semantics.specs.Exec.{Outcome, value, fault, out, Library, run_text}
use Rattle.oeis_terms.specs.Table.{Table, row_of}
use Rattle.program_store.specs.declared.published.Published.{Published}
use Rattle.program_store.specs.declared.published.Proposal.{Proposal}
use Rattle.program_store.specs.Store.{Store, published_at, programs_of}
use Rattle.seq_calls.specs.Values.{gives}
use Rattle.term_index.specs.declared.form.Match.{Match}
use Rattle.term_index.specs.Matching.{matches_of}
use Rattle.matchers.specs.Composing.{composed}
use Rattle.minimiser.specs.Minimum.{minimum}

-- the published names, in ascending order
abbrev pub names_of : Store → List ℕ
names_of s = map (λ (entry : ℕ × Published). entry.0) (entries s)

-- the program of a published name
abbrev pub program_published : Store → ℕ → Text
program_published s q = option_map_or (λ (e : Published). e.program) (published_at s q) []

-- The program that is made of these words, of which d was drawn before: where d is 1 and there is a name, the program of
-- one of the names, changed; else a new one.
abbrev pub made_by : Store → List ℕ → ℕ → Stream → Text
made_by s [] d words = (generated [] words).0
made_by s (n ∷ ns) d words =
    let names = n ∷ ns in
    if d == 1 then (mutated names (program_published s (slice_index names (below (length names) words))) (rest words)).0 else (generated names words).0

-- the program that a job begins with
abbrev pub candidate : Store → Stream → Text
candidate s words = made_by s (names_of s) (below 2 words) (rest words)

-- a run's value before these, where there are all
abbrev pub with_value : Outcome → Option (List ℤ) → Option (List ℤ)
with_value (value v n) vs = option_map (λ vs. v ∷ vs) vs
with_value (fault kind n) vs = None
with_value (out n) vs = None

-- the program's values at n arguments from k on, where each run has one within the limit
unfoldable pub values_from : Library → ℕ → Text → ℕ → ℕ → Option (List ℤ)
values_from lib limit p k zero = Some []
values_from lib limit p k (suc n) = with_value (run_text lib p (pos k) limit).0 (values_from lib limit p (k + 1) n)

-- how many of the terms, of which the first stands at index k, the program gives one after the other
abbrev pub given_from : Library → ℕ → Text → ℕ → List ℤ → ℕ
given_from lib limit p k [] = 0
given_from lib limit p k (t ∷ ts) = if gives (run_text lib p (pos k) limit).0 t then suc (given_from lib limit p (k + 1) ts) else 0

-- 0, 1 and so on, k of them
abbrev pub first_arguments : ℕ → List ℤ
first_arguments k = map pos (range_with_len 0 k)

-- a program that gives the first k terms of a row: where k is at least 8, minimised at their indices
abbrev pub reduced : Library → ℕ → ℕ → Text → Text
reduced lib limit k p = if nat_lt k 8 then p else minimum lib (first_arguments k) limit p

-- the usable terms of a name
abbrev pub usable_row : Table → ℕ → List ℤ
usable_row table name = option_map_or (λ (row : List ℤ). row) (row_of table name) []

-- the proposal that is made of a match, where there is a composed program
abbrev pub proposal_of_match : Library → Table → ℕ → Text → Match → Option Proposal
proposal_of_match lib table limit p m =
    option_map (λ q. record { name = m.name; program = reduced lib limit (given_from lib limit q 0 (usable_row table m.name)) q }) (composed m.form p)

-- the proposals that are made of the matches of a program's values, if it has them
abbrev pub proposals_of : Library → Table → ℕ → Text → Option (List ℤ) → List Proposal
proposals_of lib table limit p None = []
proposals_of lib table limit p (Some values) = filter_map (proposal_of_match lib table limit p) (matches_of values table)

-- those of a program
abbrev pub short_of : Library → Table → ℕ → Text → List Proposal
short_of lib table limit p = proposals_of lib table limit p (values_from lib limit p 0 9)

-- the shortlist of a job
abbrev pub short : Store → Table → ℕ → ℕ → ℕ → List Proposal
short s table limit seed job = short_of (programs_of s) table limit (candidate s (job_words seed job))
