-- Dossiers that a worker may publish. Only clauses of private functions use what stands here.
use Rattle.std.specs.Prelude.{ℕ, List}
use Rattle.judge.specs.Sound.{Sound}
use Rattle.evidence.specs.Dossiers.{Dossier}
use Rattle.carry_over.specs.declared.carrying.Carried.{Carried}
use Rattle.carry_over.specs.declared.carrying.Carried.TheVariants.{Moved, Touched}
use Rattle.publish_desk.specs.declared.charter.Charter.{Charter}
use Rattle.publish_desk.specs.declared.entry.Entry.{Entry}
use Rattle.publish_desk.specs.Desk.{terms_of, IsFitting}
use Rattle.mine_workers.specs.Shared.{desk_of}

-- The dossier fits a desk with this journal, and saw a sound store.
pub record IsPublishable (c : Charter) (journal : List Entry) (d : Dossier) : Type 0 where
  pub fitting : IsFitting (desk_of c journal) d
  pub sound : Sound d.snapshot.store (terms_of c) c.limit

-- where carrying moved the dossier, it has the property
abbrev pub IfMoved : (Dossier → Type 0) → Carried → Type 0
IfMoved P (Moved d) = P d
IfMoved P (Touched at name d) = Unit {0}
