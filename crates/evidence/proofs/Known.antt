-- What a table knows of a published name, within the limit.
use Rattle.std.proofs.Common.{ℕ, ◌≤◌, ◌<◌, ◌≡◌, refl, sym, ap, ◌∙◌, arith, ℤ, pos, inl, inr}
use Rattle.std.specs.Prelude.{Contains}
use Rattle.std.specs.declared.option.Option.TheVariants.{Some}
use Rattle.seq_calls.specs.Values.{outcome}
use Rattle.loda_semantics.specs.Exec.{Outcome, value, Calls}
use Rattle.program_store.specs.declared.published.Published.{Published}
use Rattle.program_store.specs.Store.{Store, published_at, programs_of, checked_at, checked_in, IsPublished}
use Rattle.seq_calls.specs.Demand.{ample, InDem, IsReliedOn}
use Rattle.judge.specs.Changes.{IsSoundStore}
use Rattle.judge.proofs.Demanded.{relied_runs, with_ample}
use Rattle.demand_table.specs.declared.node.Node.{Node}
use Rattle.demand_table.specs.Nodes.{IsNodeAt}

pub known_is : (s : Store) (limit q : ℕ) (x : ℤ) (n : Node) → limit ≤ ample → IsSoundStore s limit → IsReliedOn s q x → IsNodeAt s q x n
    → outcome (programs_of s) q x limit ≡ value n.value n.total
known_is s limit q x n fits sound relied h =
    let ran = (relied_runs s sound.0 limit sound.1 fits q x relied).0 in
    let full = with_ample s sound.0 limit sound.1 fits q x ran.value_of ran.used ran.calls ran.is in
    let a : outcome (programs_of s) q x ample ≡ value ran.value_of ran.used = ap (λ (z : Outcome × Calls). z.0) full in
    let b : outcome (programs_of s) q x limit ≡ value ran.value_of ran.used = ap (λ (z : Outcome × Calls). z.0) ran.is in
    b ∙ sym a ∙ h.ran

-- an index below the checked count is relied on
pub first_relied : (s : Store) (q i : ℕ) (e : Published) (x : ℤ) → published_at s q ≡ Some e → i < e.checked → x ≡ pos i → IsReliedOn s q x
first_relied s q i e x there lt is = inl (i, (let k : checked_at s q ≡ e.checked = ap checked_in there in omega (arith, k, lt)), is)
