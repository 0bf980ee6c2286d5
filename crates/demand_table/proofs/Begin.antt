-- A table from nothing, name after name.
use Rattle.std.proofs.Common.{ℕ, zero, suc, ◌<◌, ◌≡◌, sym, ◌∙◌, ℤ, pos}
use Rattle.std.specs.Prelude.{IsSome}
use Rattle.std.specs.declared.option.Option.TheVariants.{Some, None}
use Rattle.std.specs.Ordering.{nat_cmp}
use Rattle.std.specs.FinMap.{empty, get-empty}
use Rattle.loda_syntax.specs.Programs.{Text}
use Rattle.loda_semantics.specs.declared.kinds.Pair.{Pair}
use Rattle.program_store.specs.Store.{Store, published_at, programs_of, put_in}
use Rattle.program_store.specs.Graph.{NoCycle}
use Rattle.seq_calls.specs.Frames.{pair}
use Rattle.seq_calls.specs.Demand.{InDem}
use Rattle.demand_table.specs.Drawn.{ReachedAfter, Drawing}
use Rattle.demand_table.specs.Table.{runs_in_library, checks_in_store, IsDemandTable, MayReplace}
use Rattle.demand_table.proofs.Live.{range_some, table_values, demanded_live}

-- nothing is live in the empty store
none_live : (n : ℕ) (p : Pair) → ReachedAfter (checks_in_store empty) (runs_in_library (programs_of empty)) n p → ⊥
none_live zero p h =
    let there = range_some (published_at empty p.name) h.0 h.1 in
    let none : published_at empty p.name ≡ None = get-empty nat_cmp p.name in
    let e : None ≡ Some there.0 = sym none ∙ there.1 in
    cc
none_live (suc n) p h = none_live n h.0 h.1

pub empty_table : IsDemandTable empty (λ p. None)
empty_table = record {
  live = λ p. (λ h. cc, λ l. absurd (none_live l.0 p l.1));
  runs = λ p n h. cc;
  totals = λ p n h. cc;
  callers = λ p n h. cc;
}

-- a name that isn't published is demanded by nobody
pub new_name : (s : Store) (D : Drawing) (q : ℕ) (text : Text) (checked : ℕ) → IsDemandTable s D → published_at s q ≡ None → NoCycle (programs_of (put_in s q text checked))
    → ((i : ℕ) → i < checked → IsSome (runs_in_library (programs_of (put_in s q text checked)) (pair q (pos i)))) → MayReplace s q text checked
new_name s D q text checked table none acyclic values = record {
  acyclic = acyclic;
  values = values;
  demanded = λ x d. absurd (nobody x d);
  no_dearer = λ x d. absurd (nobody x d);
}
  where
    nobody : (x : ℤ) → InDem s q x → ⊥
    nobody x d =
        let live = demanded_live s (table_values s D table) (pair q x) d in
        let e : None ≡ Some live.0 = sym none ∙ live.1 in
        cc
