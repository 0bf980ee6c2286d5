use Rattle.std.proofs.Common.{length, inl, inr, arith}
use Rattle.std.proofs.lemmas.Bool.{cases_lt}
use Rattle.version_pages.proofs.Rows.{place_held_past}
use Rattle.version_pages.proofs.block.first_held.Goals as goal

pub returns-clause-none : goal.returns-clause-none
returns-clause-none g c =
    λ k le lt. elim (cases_lt k (length c.args.places.now)) [
      | inl on ↦ c.loop-at.invariant k le (omega arith)
      | inr past ↦ place_held_past c.args.places.now k past
    ]
