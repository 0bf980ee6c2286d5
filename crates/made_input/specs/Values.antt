-- Made rows, a made store and made candidates, of the first n places.
use Rattle.std.specs.Prelude.{ℕ, zero, suc, ◌+◌, ◌*◌, List, [], ◌∷◌, ◌++◌, ℤ, pos}
use Rattle.std.specs.FinMap as map
use Rattle.oeis_terms.specs.Table.{Row, Table}
use Rattle.program_store.specs.declared.published.Proposal.{Proposal}
use Rattle.program_store.specs.Store.{Store, put_in}
use Rattle.made_input.specs.Programs.{plain_program, first_program}

-- the term at k of the row of a place i
abbrev pub term : ℕ → ℕ → ℕ
term i k = (i + 1) * k + i

-- the first so many terms of a place
abbrev pub first_terms : ℕ → ℕ → List ℤ
first_terms i zero = []
first_terms i (suc k) = first_terms i k ++ pos (term i k) ∷ []

-- the row of a place: its name and ten terms
abbrev pub row : ℕ → Row
row i = (i + 1, first_terms i 10)

-- the first so many rows
abbrev pub rows : ℕ → List Row
rows zero = []
rows (suc i) = rows i ++ row i ∷ []

-- the table of the rows
abbrev pub made_table : ℕ → Table
made_table n = record { rows = rows n; skipped = 0 }

-- the store of the first programs, each with the count 10
abbrev pub made_store : ℕ → Store
made_store zero = map.empty
made_store (suc i) = put_in (made_store i) (i + 1) (first_program i) 10

-- what is proposed for a place first, and its plain program
abbrev pub first : ℕ → Proposal
first i = record { name = i + 1; program = first_program i }

-- the plain program of a place, as a proposal
abbrev pub plain : ℕ → Proposal
plain i = record { name = i + 1; program = plain_program i }

-- the proposals of the first n places, in ascending order of name
abbrev pub each : (ℕ → Proposal) → ℕ → List Proposal
each p zero = []
each p (suc i) = each p i ++ p i ∷ []

-- all first programs, and then all plain ones
abbrev pub made_candidates : ℕ → List Proposal
made_candidates n = each first n ++ each plain n
