-- How many proposals are made.
use Rattle.std.proofs.Common.{ℕ, zero, suc, ◌≡◌, refl, arith, length}
use Rattle.std.proofs.lemmas.List.{length_push}
use Rattle.program_store.specs.declared.published.Proposal.{Proposal}
use Rattle.made_input.specs.Values.{each}

pub length-each : (p : ℕ → Proposal) (n : ℕ) → length (each p n) ≡ n
length-each p zero = refl
length-each p (suc n) = let before = length-each p n in omega (arith, before, length_push (each p n) (p n))
