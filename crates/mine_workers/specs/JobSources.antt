-- What the dossiers of jobs are made of, as clauses see it.
use Rattle.std.specs.Prelude.{ℕ, ◌<◌, length}
use Rattle.oeis_terms.specs.Table.{Table}
use Rattle.publish_desk.specs.declared.charter.Charter.{Charter}
use Rattle.publish_desk.specs.declared.charter.Source.{Source}
use Rattle.publish_desk.specs.declared.charter.Source.TheVariants.{Listed, Seeded}

-- the terms, the limit of steps of a run, and what proposals come from
pub record JobSource : Type 0 where
  pub terms : Table
  pub limit : ℕ
  pub source : Source

-- that of a desk
abbrev pub job_source_of : Charter → JobSource
job_source_of c = record { terms = c.terms; limit = c.limit; source = c.source }

-- the source has a job of this number: of a list, one for each of its places; of a seed, one for each number
abbrev pub HasJob : Source → ℕ → Type 0
HasJob (Listed candidates) job = job < length candidates
HasJob (Seeded seed) job = Unit {0}
