-- What proposals are made of.
use Rattle.std.specs.Prelude.{◌≡◌}
use Rattle.std.specs.Arc.{arc_value}
use Rattle.oeis_terms.specs.Table.{Table}
use Rattle.publish_desk.specs.declared.charter.Source.{Source}
use Rattle.publish_desk.specs.declared.charter.Source.TheVariants as source
use Rattle.mine_workers.specs.declared.source.Supply.{Supply}
use Rattle.mine_workers.specs.declared.source.Supply.TheVariants.{Listed, Seeded}

-- the source by its content
abbrev pub source_in : Supply → Source
source_in (Listed candidates) = source.Listed (arc_value candidates)
source_in (Seeded seed index) = source.Seeded seed

-- the index of a seed is that of the terms
abbrev pub IsIndexed : Supply → Table → Type 0
IsIndexed (Listed candidates) table = Unit {0}
IsIndexed (Seeded seed index) table = index ≡ table
