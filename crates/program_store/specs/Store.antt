-- A store as a finite map from names to what is published there.
use Rattle.std.specs.Prelude.{ℕ, ◌≤◌, ◌≡◌, ◌==◌, if◌then◌else◌, List, [], ◌∷◌, All, length}
use Rattle.std.specs.declared.option.Option.{Option}
use Rattle.std.specs.declared.option.Option.TheVariants.{Some, None}
use Rattle.std.specs.Option.{option_map}
use Rattle.std.specs.Ordering.{nat_cmp}
use Rattle.std.specs.FinMap as map
use Rattle.loda_syntax.specs.Programs.{Text, instrs}
use Rattle.loda_syntax.specs.WellFormed.{IsProgram}
use Rattle.loda_semantics.specs.Exec.{Library}
use Rattle.text_parts.specs.Names.{IsName}
use Rattle.program_store.specs.declared.published.Published.{Published}
use Rattle.program_store.specs.declared.published.Proposal.{Proposal}
use Rattle.program_store.specs.declared.candidates.TheConstants.{MOST_JOBS}

-- what is published, by name
abbrev pub Store : Type 0
Store = map.FinMap nat_cmp Published

-- what is published under a name
abbrev pub published_at : Store → ℕ → Option Published
published_at s q = map.get s q

-- its programs
abbrev pub programs_of : Store → Library
programs_of s q = option_map (λ (e : Published). e.program) (published_at s q)

-- a library with one program put in place
abbrev pub with_program : Library → ℕ → Text → Library
with_program lib q p n = if n == q then Some p else lib n

-- the programs of the store with the proposed one in its place
abbrev pub after : Store → ℕ → Text → Library
after s q p = with_program (programs_of s) q p

-- something is published under the name
abbrev pub IsPublished : Store → ℕ → Type 0
IsPublished s q = (e : Published) × (published_at s q ≡ Some e)

-- the checked count, and 0 of nothing
abbrev pub checked_in : Option Published → ℕ
checked_in None = 0
checked_in (Some e) = e.checked

-- at how many of its first arguments the program of a name was checked, 0 where the name is not published
abbrev pub checked_at : Store → ℕ → ℕ
checked_at s q = checked_in (published_at s q)

-- the store with this program and this count at a name
abbrev pub put_in : Store → ℕ → Text → ℕ → Store
put_in s q p k = map.insert s q (record { program = p; checked = k })

-- the store with these entries put in, one after the other
abbrev pub put_all : Store → List (ℕ × Published) → Store
put_all s [] = s
put_all s (entry ∷ entries) = put_all (map.insert s entry.0 entry.1) entries

-- what each view keeps: what is published has a name, and its program is well formed
pub record IsStore (s : Store) : Type 0 where
  pub named : (q : ℕ) (e : Published) → published_at s q ≡ Some e → IsName q
  pub well_formed : (q : ℕ) (e : Published) → published_at s q ≡ Some e → IsProgram (instrs e.program)

-- what is proposed has a name and a well-formed program
pub record IsProposal (p : Proposal) : Type 0 where
  pub named : IsName p.name
  pub well_formed : IsProgram (instrs p.program)

-- at most a million proposals
pub record AreCandidates (list : List Proposal) : Type 0 where
  pub few : length list ≤ MOST_JOBS
  pub each : All IsProposal list
