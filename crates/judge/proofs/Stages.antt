-- The checked runs in their order: what relies on an argument before one of them, and before the next.
use Rattle.std.proofs.Common.{ℕ, ◌+◌, ◌<◌, ◌≤◌, ◌≡◌, refl, sym, ap, subst, ◌∙◌, arith, ℤ, pos, inl, inr, List, length, take, get_or}
use Rattle.std.specs.Prelude.{◌⊎◌, ◌^◌}
use Rattle.std.proofs.lemmas.List.{take_all}
use Rattle.std.specs.declared.option.Option.{Option}
use Rattle.std.specs.declared.option.Option.TheVariants.{Some, None}
use Rattle.loda_semantics.specs.Exec.{run_name}
use Rattle.program_store.specs.declared.published.Published.{Published}
use Rattle.program_store.specs.Store.{Store, IsStore, published_at, programs_of, checked_at, checked_in}
use Rattle.seq_calls.specs.declared.outcomes.NodeRun.{NodeRun}
use Rattle.seq_calls.specs.Frames.{nodes_of}
use Rattle.seq_calls.proofs.Relied.{is_checked}
use Rattle.judge.specs.declared.comparing.BothRuns.{BothRuns}
use Rattle.judge.specs.declared.comparing.CheckedRun.{CheckedRun}
use Rattle.judge.specs.declared.comparing.Changes.{Changes}
use Rattle.judge.specs.Changes.{OtherValue, NeedsMoreSteps, Relies, Before, AtOrBefore, ReliesBefore, ReliesUpTo, IsAmong, IsNext, AreChanges, IsSoundStore, MayRely}
use Rattle.judge.proofs.Fresh.{within_ample}
use Rattle.judge.proofs.Frames.{among_next, next_old, next_new, relies_of, among_relies}
use Rattle.judge.proofs.Traces.{relies_may}
use Rattle.judge.proofs.Least.{changes_more, changes_same, changes_none}

abbrev run : ℕ → ℕ → CheckedRun
run name index = record { name = name; index = index }

below_or : (i k : ℕ) → i < k + 1 → (i < k) ⊎ (i ≡ k)
below_or i k lt = grind arith

module _ (s : Store) (q : ℕ) where
  -- what relies on an argument is a checked run
  checked_below : (o : Option Published) (e : Published) (i : ℕ) → o ≡ Some e → i < e.checked → i < checked_in o
  checked_below o e i there lt = subst (λ (z : Option Published). i < checked_in z) (sym there) lt

  relies_checked : (r : CheckedRun) (x : ℤ) → Relies s q r x → r.index < checked_at s r.name
  relies_checked r x (inl d) = checked_below (published_at s r.name) d.0 r.index d.1 d.2
  relies_checked r x (inr e) = subst (λ (n : ℕ). r.index < checked_at s n) (sym e.0) e.1

  relies_published : (r : CheckedRun) (x : ℤ) → Relies s q r x → published_at s r.name ≡ None → ⊥
  relies_published r x h free = let lt : r.index < checked_in None = subst (λ (o : Option Published). r.index < checked_in o) free (relies_checked r x h) in omega (arith, lt)

  relies_named : (r : CheckedRun) (x : ℤ) → IsStore s → Relies s q r x → 0 < r.name
  relies_named r x kept h = let e = is_checked (published_at s r.name) r.index (relies_checked r x h) in let n = kept.named r.name e.0 e.1 in let one = n.0 in omega (arith, one)

  module _ (runs : ℤ → BothRuns) where
    -- ---- one more frame

    module _ (by : CheckedRun) where
      frames_before : (nodes : List NodeRun) (r : CheckedRun) (x : ℤ) → ReliesUpTo s q by nodes r x → AtOrBefore r by
      frames_before nodes r x (inl h) = by_case h.1
        where
          by_case : Before r by → AtOrBefore r by
          by_case (inl l) = inl l
          by_case (inr e) = inr (e.0, let l = e.1 in omega (arith, l))
      frames_before nodes r x (inr h) = subst (λ (z : CheckedRun). AtOrBefore r z) h.0 (inr (refl, omega arith))

      pub frames_none : (c : Changes) (nodes : List NodeRun) → AreChanges runs (ReliesBefore s q by) c → AreChanges runs (ReliesUpTo s q by (take 0 nodes)) c
      frames_none c nodes h = changes_same runs (ReliesBefore s q by) (ReliesUpTo s q by (take 0 nodes)) (λ r x k. inl k) back c h
        where
          back : (r : CheckedRun) (x : ℤ) → ReliesUpTo s q by (take 0 nodes) r x → ReliesBefore s q by r x
          back r x (inl k) = k
          back r x (inr k) = absurd k.1

      module _ (nodes : List NodeRun) (i : ℕ) (node : NodeRun) (lt : i < length nodes) (is : node ≡ get_or nodes i node) where
        pub frames_other : (c : Changes) → (node.pair.name ≡ q → ⊥) → AreChanges runs (ReliesUpTo s q by (take i nodes)) c → AreChanges runs (ReliesUpTo s q by (take (i + 1) nodes)) c
        frames_other c not h = changes_same runs (ReliesUpTo s q by (take i nodes)) (ReliesUpTo s q by (take (i + 1) nodes)) to back c h
          where
            to : (r : CheckedRun) (x : ℤ) → ReliesUpTo s q by (take i nodes) r x → ReliesUpTo s q by (take (i + 1) nodes) r x
            to r x (inl k) = inl k
            to r x (inr k) = inr (k.0, next_old q x nodes i node lt is k.1)

            by_part : (r : CheckedRun) (x : ℤ) → r ≡ by → IsAmong q x (take i nodes) ⊎ ((node.pair.name ≡ q) × (node.pair.arg ≡ x)) → ReliesUpTo s q by (take i nodes) r x
            by_part r x e (inl k) = inr (e, k)
            by_part r x e (inr k) = absurd (not k.0)

            back : (r : CheckedRun) (x : ℤ) → ReliesUpTo s q by (take (i + 1) nodes) r x → ReliesUpTo s q by (take i nodes) r x
            back r x (inl k) = inl k
            back r x (inr k) = by_part r x k.0 (among_next q x nodes i node lt is k.1)

        pub frames_more : (known next : Changes) (given : BothRuns) → node.pair.name ≡ q → given ≡ runs node.pair.arg
            → IsNext (OtherValue given) known.other_value (record { at = node.pair.arg; by = by; runs = given }) next.other_value
            → IsNext (NeedsMoreSteps given) known.more_steps (record { at = node.pair.arg; by = by; runs = given }) next.more_steps
            → AreChanges runs (ReliesUpTo s q by (take i nodes)) known → AreChanges runs (ReliesUpTo s q by (take (i + 1) nodes)) next
        frames_more known next given name given_is other more h =
            changes_same runs (λ r x. ReliesUpTo s q by (take i nodes) r x ⊎ ((r ≡ by) × (x ≡ node.pair.arg))) (ReliesUpTo s q by (take (i + 1) nodes)) to back next
            (changes_more runs (ReliesUpTo s q by (take i nodes)) by node.pair.arg (frames_before (take i nodes)) known next given given_is other more h)
          where
            to : (r : CheckedRun) (x : ℤ) → ReliesUpTo s q by (take i nodes) r x ⊎ ((r ≡ by) × (x ≡ node.pair.arg)) → ReliesUpTo s q by (take (i + 1) nodes) r x
            to r x (inl (inl k)) = inl k
            to r x (inl (inr k)) = inr (k.0, next_old q x nodes i node lt is k.1)
            to r x (inr k) = inr (k.0, next_new q x nodes i node lt is name (sym k.1))

            by_part : (r : CheckedRun) (x : ℤ) → r ≡ by → IsAmong q x (take i nodes) ⊎ ((node.pair.name ≡ q) × (node.pair.arg ≡ x)) → ReliesUpTo s q by (take i nodes) r x ⊎ ((r ≡ by) × (x ≡ node.pair.arg))
            by_part r x e (inl k) = inl (inr (e, k))
            by_part r x e (inr k) = inr (e, sym k.1)

            back : (r : CheckedRun) (x : ℤ) → ReliesUpTo s q by (take (i + 1) nodes) r x → ReliesUpTo s q by (take i nodes) r x ⊎ ((r ≡ by) × (x ≡ node.pair.arg))
            back r x (inl k) = inl (inl k)
            back r x (inr k) = by_part r x k.0 (among_next q x nodes i node lt is k.1)

      pub frames_all : (c : Changes) (nodes : List NodeRun) (i : ℕ) → length nodes ≤ i → AreChanges runs (ReliesUpTo s q by (take i nodes)) c → AreChanges runs (ReliesUpTo s q by nodes) c
      frames_all c nodes i le h = subst (λ (l : List NodeRun). AreChanges runs (ReliesUpTo s q by l) c) (take_all i nodes le) h

    -- ---- one more checked run

    pub run_done : (limit : ℕ) (by : CheckedRun) (nodes : List NodeRun) (c : Changes) → limit < 2 ^ 64 → IsSoundStore s limit → by.index < checked_at s by.name
        → nodes ≡ nodes_of by.name (pos by.index) (run_name (programs_of s) by.name (pos by.index) limit)
        → AreChanges runs (ReliesUpTo s q by nodes) c → AreChanges runs (ReliesBefore s q (record { name = by.name; index = by.index + 1 })) c
    run_done limit by nodes c fits sound checked is h = changes_same runs (ReliesUpTo s q by nodes) (ReliesBefore s q (run by.name (by.index + 1))) to back c h
      where
        next_before : (r : CheckedRun) → Before r by → Before r (run by.name (by.index + 1))
        next_before r (inl l) = inl l
        next_before r (inr e) = inr (e.0, let l = e.1 in omega (arith, l))

        to : (r : CheckedRun) (x : ℤ) → ReliesUpTo s q by nodes r x → ReliesBefore s q (run by.name (by.index + 1)) r x
        to r x (inl k) = (k.0, next_before r k.1)
        to r x (inr k) =
            let there : Relies s q by x = relies_of s sound.0 limit sound.1 (within_ample limit fits) q x by checked (subst (λ (l : List NodeRun). IsAmong q x l) is k.1) in
            (subst (λ (z : CheckedRun). Relies s q z x) (sym k.0) there, subst (λ (z : CheckedRun). Before z (run by.name (by.index + 1))) (sym k.0) (inr (refl, omega arith)))

        same_run : (r : CheckedRun) → r.name ≡ by.name → r.index ≡ by.index → r ≡ by
        same_run r e f = ap (λ (n : ℕ). run n r.index) e ∙ ap (λ (i : ℕ). run by.name i) f

        by_index : (r : CheckedRun) (x : ℤ) → Relies s q r x → r.name ≡ by.name → (r.index < by.index) ⊎ (r.index ≡ by.index) → ReliesUpTo s q by nodes r x
        by_index r x k e (inl l) = inl (k, inr (e, l))
        by_index r x k e (inr f) =
            let same = same_run r e f in
            inr (same, subst (λ (l : List NodeRun). IsAmong q x l) (sym is) (among_relies s sound.0 limit sound.1 (within_ample limit fits) q x by checked (subst (λ (z : CheckedRun). Relies s q z x) same k)))

        back : (r : CheckedRun) (x : ℤ) → ReliesBefore s q (run by.name (by.index + 1)) r x → ReliesUpTo s q by nodes r x
        back r x k = by_case k.1
          where
            by_case : Before r (run by.name (by.index + 1)) → ReliesUpTo s q by nodes r x
            by_case (inl l) = inl (k.0, inl l)
            by_case (inr e) = by_index r x k.0 e.0 (below_or r.index by.index e.1)

    -- ---- one more name

    pub name_done : (name count : ℕ) (c : Changes) → count ≡ checked_at s name
        → AreChanges runs (ReliesBefore s q (record { name = name; index = count })) c → AreChanges runs (ReliesBefore s q (record { name = name + 1; index = 0 })) c
    name_done name count c is h = changes_same runs (ReliesBefore s q (run name count)) (ReliesBefore s q (run (name + 1) 0)) to back c h
      where
        next_before : (r : CheckedRun) → Before r (run name count) → Before r (run (name + 1) 0)
        next_before r (inl l) = inl (omega (arith, l))
        next_before r (inr e) = inl (let f = e.0 in omega (arith, f))

        to : (r : CheckedRun) (x : ℤ) → ReliesBefore s q (run name count) r x → ReliesBefore s q (run (name + 1) 0) r x
        to r x k = (k.0, next_before r k.1)

        by_name : (r : CheckedRun) (x : ℤ) → Relies s q r x → (r.name < name) ⊎ (r.name ≡ name) → Before r (run name count)
        by_name r x k (inl l) = inl l
        by_name r x k (inr e) = inr (e, subst (λ (n : ℕ). r.index < n) (sym is) (subst (λ (n : ℕ). r.index < checked_at s n) e (relies_checked r x k)))

        back : (r : CheckedRun) (x : ℤ) → ReliesBefore s q (run (name + 1) 0) r x → ReliesBefore s q (run name count) r x
        back r x k = (k.0, by_case k.1)
          where
            by_case : Before r (run (name + 1) 0) → Before r (run name count)
            by_case (inl l) = by_name r x k.0 (below_or r.name name l)
            by_case (inr e) = absurd (let l = e.1 in omega (arith, l))

    -- a name that relies on nothing is passed over
    pub name_passed : (name : ℕ) (c : Changes) → (MayRely s q name → ⊥)
        → AreChanges runs (ReliesBefore s q (record { name = name; index = 0 })) c → AreChanges runs (ReliesBefore s q (record { name = name + 1; index = 0 })) c
    name_passed name c cannot h = changes_same runs (ReliesBefore s q (run name 0)) (ReliesBefore s q (run (name + 1) 0)) to back c h
      where
        next_before : (r : CheckedRun) → Before r (run name 0) → Before r (run (name + 1) 0)
        next_before r (inl l) = inl (omega (arith, l))
        next_before r (inr e) = inl (let f = e.0 in omega (arith, f))

        to : (r : CheckedRun) (x : ℤ) → ReliesBefore s q (run name 0) r x → ReliesBefore s q (run (name + 1) 0) r x
        to r x k = (k.0, next_before r k.1)

        by_name : (r : CheckedRun) (x : ℤ) → Relies s q r x → (r.name < name) ⊎ (r.name ≡ name) → Before r (run name 0)
        by_name r x k (inl l) = inl l
        by_name r x k (inr e) = absurd (cannot (subst (λ (n : ℕ). MayRely s q n) e (relies_may s q r x k)))

        back : (r : CheckedRun) (x : ℤ) → ReliesBefore s q (run (name + 1) 0) r x → ReliesBefore s q (run name 0) r x
        back r x k = (k.0, by_case k.1)
          where
            by_case : Before r (run (name + 1) 0) → Before r (run name 0)
            by_case (inl l) = by_name r x k.0 (below_or r.name name l)
            by_case (inr e) = absurd (let l = e.1 in omega (arith, l))

    -- ---- the names in their order

    pub names_none : IsStore s → AreChanges runs (ReliesBefore s q (record { name = 1; index = 0 })) (record { other_value = None; more_steps = None })
    names_none kept = changes_none runs (ReliesBefore s q (run 1 0)) none
      where
        none : (r : CheckedRun) (x : ℤ) → ReliesBefore s q (run 1 0) r x → ⊥
        none r x k = by_case k.1
          where
            by_case : Before r (run 1 0) → ⊥
            by_case (inl l) = let p = relies_named r x kept k.0 in omega (arith, l, p)
            by_case (inr e) = let l = e.1 in omega (arith, l)

    pub names_next : (last name : ℕ) (c : Changes) → last < name → ((k : ℕ) → last < k → k < name → published_at s k ≡ None)
        → AreChanges runs (ReliesBefore s q (record { name = last + 1; index = 0 })) c → AreChanges runs (ReliesBefore s q (record { name = name; index = 0 })) c
    names_next last name c above free h = changes_same runs (ReliesBefore s q (run (last + 1) 0)) (ReliesBefore s q (run name 0)) to back c h
      where
        to : (r : CheckedRun) (x : ℤ) → ReliesBefore s q (run (last + 1) 0) r x → ReliesBefore s q (run name 0) r x
        to r x k = (k.0, by_case k.1)
          where
            by_case : Before r (run (last + 1) 0) → Before r (run name 0)
            by_case (inl l) = inl (omega (arith, l, above))
            by_case (inr e) = absurd (let l = e.1 in omega (arith, l))

        order_of : (a b : ℕ) → (a < b + 1) ⊎ (b < a)
        order_of a b = grind arith

        by_name : (r : CheckedRun) (x : ℤ) → Relies s q r x → r.name < name → (r.name < last + 1) ⊎ (last < r.name) → Before r (run (last + 1) 0)
        by_name r x k l (inl low) = inl low
        by_name r x k l (inr high) = absurd (relies_published r x k (free r.name high l))

        back : (r : CheckedRun) (x : ℤ) → ReliesBefore s q (run name 0) r x → ReliesBefore s q (run (last + 1) 0) r x
        back r x k = (k.0, by_case k.1)
          where
            by_case : Before r (run name 0) → Before r (run (last + 1) 0)
            by_case (inl l) = by_name r x k.0 l (order_of r.name last)
            by_case (inr e) = absurd (let l = e.1 in omega (arith, l))

    pub names_all : (last : ℕ) (c : Changes) → ((k : ℕ) → last < k → published_at s k ≡ None) → AreChanges runs (ReliesBefore s q (record { name = last + 1; index = 0 })) c → AreChanges runs (Relies s q) c
    names_all last c free h = changes_same runs (ReliesBefore s q (run (last + 1) 0)) (Relies s q) (λ r x k. k.0) (λ r x k. (k, by_name r x k (order_of r.name last))) c h
      where
        order_of : (a b : ℕ) → (a < b + 1) ⊎ (b < a)
        order_of a b = grind arith

        by_name : (r : CheckedRun) (x : ℤ) → Relies s q r x → (r.name < last + 1) ⊎ (last < r.name) → Before r (run (last + 1) 0)
        by_name r x k (inl low) = inl low
        by_name r x k (inr high) = absurd (relies_published r x k (free r.name high))
