-- What is found in the order of the places: the first of them that gives what passes the test.
use Rattle.std.proofs.Common.{◌≡◌, ◌≤◌, ◌<◌, ◌+◌, ℕ, zero, suc, List, refl, subst, arith, inl, inr, Bool, true, false, cond}
use Rattle.std.specs.Prelude.{Option, Some, None, ◌⊎◌}
use Rattle.std.proofs.lemmas.Bool.{cases_lt}
use Rattle.std.specs.List.{find, filter_map, cons_option, range_with_len}

-- what is found from a place on, among so many places
abbrev pub found_from : {X : Type 0} → (X → Bool) → (ℕ → Option X) → ℕ → ℕ → Option X
found_from test at place many = find test (filter_map at (range_with_len place many))

-- what stands there, if anything does, does not pass
abbrev pub Fails : {X : Type 0} → (X → Bool) → Option X → Type 0
Fails {X} test o = (x : X) → o ≡ Some x → test x ≡ false

-- nothing that passes stands from the one place on to before the other
abbrev pub NonePass : {X : Type 0} → (X → Bool) → (ℕ → Option X) → ℕ → ℕ → Type 0
NonePass {X} test at from to = (i : ℕ) → from ≤ i → i < to → Fails test (at i)

pub record FirstAt {X : Type 0} (test : X → Bool) (at : ℕ → Option X) (from to : ℕ) (x : X) : Type 0 where
  pub place : ℕ
  pub from_there : from ≤ place
  pub within : place < to
  pub is : at place ≡ Some x
  pub passes : test x ≡ true
  pub first : NonePass test at from place

none_more : {X : Type 0} (test : X → Bool) (at : ℕ → Option X) (from to : ℕ) → Fails test (at from)
    → NonePass test at (from + 1) to → NonePass test at from to
none_more {X} test at from to here later i le lt = by_place (cases_lt from i)
  where
    by_place : (from < i) ⊎ (i ≤ from) → Fails test (at i)
    by_place (inl more) = later i (omega arith) lt
    by_place (inr last) = let same : from ≡ i = omega arith in subst (λ (k : ℕ). Fails test (at k)) same here

fails_none : {X : Type 0} (test : X → Bool) → Fails test None
fails_none {X} test x e = absurd (let z : None ≡ Some x = e in cc)

fails_some : {X : Type 0} (test : X → Bool) (x : X) → test x ≡ false → Fails test (Some x)
fails_some {X} test x never y e = let same : x ≡ y = (let z : Some x ≡ Some y = e in cc) in subst (λ (w : X). test w ≡ false) same never

-- ---- one place and then the rest

none_here : {X : Type 0} (test : X → Bool) (o : Option X) (rest : List X) → find test (cons_option o rest) ≡ None
    → Fails test o × (find test rest ≡ None)
none_here test None rest e = (fails_none test, e)
none_here {X} test (Some x) rest e = by_test (test x) refl e
  where
    by_test : (b : Bool) → test x ≡ b → cond b (Some x) (find test rest) ≡ None → Fails test (Some x) × (find test rest ≡ None)
    by_test true is e = absurd (let z : Some x ≡ None = e in cc)
    by_test false is e = (fails_some test x is, e)

some_here : {X : Type 0} (test : X → Bool) (o : Option X) (rest : List X) (y : X) → find test (cons_option o rest) ≡ Some y
    → ((o ≡ Some y) × (test y ≡ true)) ⊎ (Fails test o × (find test rest ≡ Some y))
some_here test None rest y e = inr (fails_none test, e)
some_here {X} test (Some x) rest y e = by_test (test x) refl e
  where
    by_test : (b : Bool) → test x ≡ b → cond b (Some x) (find test rest) ≡ Some y
        → ((Some x ≡ Some y) × (test y ≡ true)) ⊎ (Fails test (Some x) × (find test rest ≡ Some y))
    by_test true is e =
        let same : x ≡ y = (let z : Some x ≡ Some y = e in cc) in
        inl (e, subst (λ (w : X). test w ≡ true) same is)
    by_test false is e = inr (fails_some test x is, e)

-- ---- all places

pub found_none : {X : Type 0} (test : X → Bool) (at : ℕ → Option X) (from many : ℕ) → found_from test at from many ≡ None
    → NonePass test at from (from + many)
found_none test at from zero e = λ i le lt. absurd (omega arith)
found_none test at from (suc many) e =
    let step = none_here test (at from) (filter_map at (range_with_len (from + 1) many)) e in
    let later = found_none test at (from + 1) many step.1 in
    none_more test at from (from + suc many) step.0 (λ i le lt. later i le (omega arith))

pub found_some : {X : Type 0} (test : X → Bool) (at : ℕ → Option X) (from many : ℕ) (y : X) → found_from test at from many ≡ Some y
    → FirstAt test at from (from + many) y
found_some test at from zero y e = absurd (let z : None ≡ Some y = e in cc)
found_some {X} test at from (suc many) y e =
    by_step (some_here test (at from) (filter_map at (range_with_len (from + 1) many)) y e) (λ rest. found_some test at (from + 1) many y rest)
  where
    by_step : ((at from ≡ Some y) × (test y ≡ true)) ⊎ (Fails test (at from) × (found_from test at (from + 1) many ≡ Some y))
        → (found_from test at (from + 1) many ≡ Some y → FirstAt test at (from + 1) (from + 1 + many) y)
        → FirstAt test at from (from + suc many) y
    by_step (inl here) later = record {
      place = from;
      from_there = omega arith;
      within = omega arith;
      is = here.0;
      passes = here.1;
      first = λ i le lt. absurd (omega arith);
    }
    by_step (inr rest) later =
        let l = later rest.1 in
        let after = l.from_there in
        let before = l.within in
        record {
          place = l.place;
          from_there = omega (arith, after);
          within = omega (arith, before);
          is = l.is;
          passes = l.passes;
          first = none_more test at from l.place rest.0 l.first;
        }
