-- What a replacement leaves to others, in the words of the table.
use Rattle.std.proofs.Common.{ℕ, ◌≡◌, sym, ap, ◌∙◌, arith, ℤ}
use Rattle.std.specs.declared.option.Option.TheVariants.{Some}
use Rattle.std.specs.Option.{option_map}
use Rattle.loda_syntax.specs.Programs.{Text}
use Rattle.loda_semantics.specs.declared.kinds.Pair.{Pair}
use Rattle.loda_semantics.specs.Laws.{Cheaper}
use Rattle.loda_semantics.specs.Exec.{value, run_name}
use Rattle.program_store.specs.declared.published.Published.{Published}
use Rattle.program_store.specs.Store.{Store, programs_of, put_in}
use Rattle.seq_calls.specs.Frames.{pair}
use Rattle.seq_calls.specs.Demand.{ample, InDem}
use Rattle.seq_calls.specs.Runs.{HasValues}
use Rattle.program_store.proofs.Puts.{put_elsewhere}
use Rattle.seq_calls.proofs.Bounded.{cheaper_with}
use Rattle.seq_calls.proofs.Stay.{others_stay}
use Rattle.demand_table.specs.Table.{runs_in_library, IsLiveIn, MayReplace}
use Rattle.demand_table.proofs.Ran.{ran_of, entry_with, steps_with}
use Rattle.demand_table.proofs.Live.{relied}

module _ (s : Store) (q : ℕ) (text : Text) (checked : ℕ) (may : MayReplace s q text checked) where
  keeps : (x : ℤ) → InDem s q x → Cheaper (programs_of s) (programs_of (put_in s q text checked)) q x
  keeps x d =
      let lib2 = programs_of (put_in s q text checked) in
      let h = may.demanded x d in
      let old = ran_of (programs_of s) (pair q x) h.0 h.2 in
      let new = ran_of lib2 (pair q x) h.1 h.3 in
      let is : run_name lib2 q x ample ≡ (value h.0.value new.used, new.calls) = new.is ∙ ap (λ (z : ℤ). (value z new.used, new.calls)) (sym h.4) in
      let le = may.no_dearer x d in
      let a = steps_with (programs_of s) (pair q x) h.0.value old.used old.calls old.is in
      let b = steps_with lib2 (pair q x) h.1.value new.used new.calls new.is in
      cheaper_with (programs_of s) lib2 q x h.0.value ample old.used new.used old.calls new.calls old.is is (omega (arith, le, a, b))

  pub others_same : HasValues s → (p : Pair) → IsLiveIn s p → (p.name ≡ q → ⊥) → runs_in_library (programs_of (put_in s q text checked)) p ≡ runs_in_library (programs_of s) p
  others_same values p live other =
      let lib2 = programs_of (put_in s q text checked) in
      let k = others_stay s values lib2 q (λ r ne. ap (option_map (λ (e : Published). e.program)) (put_elsewhere s q text checked r ne)) keeps p.name p.arg other (relied s values p live) in
      entry_with lib2 p k.value_of k.less k.now k.is
      ∙ (λ i. Some (record { value = k.value_of; own = k.same_own i; calls = k.same_calls i }))
      ∙ sym (entry_with (programs_of s) p k.value_of k.used k.calls k.was)
