-- What was got, and the first term that isn't given.
use Rattle.std.proofs.Common.{ℕ, zero, suc, ◌+◌, ◌<◌, ◌≤◌, ◌≡◌, refl, sym, ap, subst, ◌∙◌, arith, ℤ, pos, inl, inr, List, [], ◌∷◌, length, take, get_or, Bool, true, false}
use Rattle.std.specs.Prelude.{◌⊎◌, slice_get, IsTrue, IsFalse, MatchOption, IfNone}
use Rattle.std.proofs.lemmas.Option.{slice_get_read}
use Rattle.std.specs.declared.option.Option.{Option}
use Rattle.std.specs.declared.option.Option.TheVariants.{Some, None}
use Rattle.loda_semantics.specs.declared.kinds.FaultKind.TheVariants as kind
use Rattle.loda_semantics.specs.Exec.{Outcome, value, fault, out, Library}
use Rattle.program_store.specs.declared.published.Published.{Published}
use Rattle.program_store.specs.Store.{Store, published_at, programs_of, IsStore}
use Rattle.program_store.specs.Graph.{NoCycle, OnCycle}
use Rattle.seq_calls.specs.declared.outcomes.Outcome.{Outcome as Told}
use Rattle.seq_calls.specs.Frames.{told}
use Rattle.seq_calls.specs.Values.{outcome, same_int, gives, Gives}
use Rattle.seq_calls.proofs.Values.{same_int-is, same_int-true}
use Rattle.judge.specs.declared.answer.Got.{Got}
use Rattle.judge.specs.declared.answer.Got.TheVariants as got
use Rattle.judge.specs.declared.answer.Unsound.{Unsound}
use Rattle.judge.specs.declared.answer.Unsound.TheVariants.{NoRow, Count, Unmet}
use Rattle.judge.specs.Passed.{Terms, got_of, PassesBelow, FailsFirst, IsPassed}
use Rattle.judge.specs.Misses.{got_told, IsFirstMiss, IsEntryFault}
use Rattle.judge.specs.Sound.{IsEntrySound, SoundBelow, IsUnsound}
use Rattle.judge.proofs.Values.{place_within}

-- ---- what was got

pub got_same : (o : Outcome) → got_told (told o) ≡ got_of o
got_same (value v n) = refl
got_same (fault kind.Overflow n) = refl
got_same (fault kind.DivideByZero n) = refl
got_same (fault kind.BadCell n) = refl
got_same (fault kind.Missing n) = refl
got_same (out n) = refl

given_if : (o : Outcome) (t : ℤ) → got_of o ≡ got.Value t → Gives o t
given_if (value v n) t e = let h : v ≡ t = cc in subst (λ (z : ℤ). IsTrue (same_int v z)) h (same_int-true v)
given_if (fault kind.Overflow n) t e = absurd (let f : got.Overflow ≡ got.Value t = e in cc)
given_if (fault kind.DivideByZero n) t e = absurd (let f : got.DivideByZero ≡ got.Value t = e in cc)
given_if (fault kind.BadCell n) t e = absurd (let f : got.BadCell ≡ got.Value t = e in cc)
given_if (fault kind.Missing n) t e = absurd (let f : got.Missing ≡ got.Value t = e in cc)
given_if (out n) t e = absurd (let f : got.OutOfSteps ≡ got.Value t = e in cc)

pub false_unless : (b : Bool) → (IsTrue b → ⊥) → IsFalse b
false_unless true h = absurd (h refl)
false_unless false h = refl

not_given : (o : Outcome) (t : ℤ) → (got_of o ≡ got.Value t → ⊥) → IsFalse (gives o t)
not_given (value v n) t h = false_unless (same_int v t) (λ s. h (ap (λ (z : ℤ). got.Value z) (same_int-is v t s)))
not_given (fault k n) t h = refl
not_given (out n) t h = refl

-- ---- one more term

pub passes_none : (lib : Library) (row : List ℤ) (q limit : ℕ) → PassesBelow lib row q limit 0
passes_none lib row q limit = λ i t lt e. absurd (omega arith)

one_more : (lib : Library) (row : List ℤ) (q limit k i : ℕ) (t u : ℤ) → slice_get row k ≡ Some t → Gives (outcome lib q (pos k) limit) t → i ≡ k → slice_get row i ≡ Some u → Gives (outcome lib q (pos i) limit) u
one_more lib row q limit k i t u at g same e =
    let f : Some t ≡ Some u = sym at ∙ subst (λ (n : ℕ). slice_get row n ≡ Some u) same e in
    let w : t ≡ u = cc in
    subst (λ (n : ℕ). Gives (outcome lib q (pos n) limit) u) (sym same) (subst (λ (z : ℤ). Gives (outcome lib q (pos k) limit) z) w g)

below_or : (i k : ℕ) → i < k + 1 → (i ≡ k) ⊎ (i < k)
below_or i k lt = grind arith

module _ (lib : Library) (row : List ℤ) (q limit k : ℕ) (t x : ℤ) (o : Told) (at : slice_get row k ≡ Some t) (arg : x ≡ pos k) (ran : o ≡ told (outcome lib q x limit)) where
  got_is : got_told o ≡ got_of (outcome lib q (pos k) limit)
  got_is = ap got_told ran ∙ got_same (outcome lib q x limit) ∙ ap (λ (z : ℤ). got_of (outcome lib q z limit)) arg

  pub passes_next : got_told o ≡ got.Value t → PassesBelow lib row q limit k → PassesBelow lib row q limit (k + 1)
  passes_next g h = λ i u lt e. elim (below_or i k lt) [ inl same ↦ one_more lib row q limit k i t u at (given_if (outcome lib q (pos k) limit) t (sym got_is ∙ g)) same e | inr less ↦ h i u less e ]

  pub misses_here : (g : Got) → (g ≡ got_told o) → (g ≡ got.Value t → ⊥) → PassesBelow lib row q limit k → IsFirstMiss lib row q limit k (Some g)
  misses_here g is not h = ((t, at, not_given (outcome lib q (pos k) limit) t (λ e. not (is ∙ got_is ∙ e)), h), is ∙ got_is)

-- a term that was read
pub term_read : (row : List ℤ) (k i : ℕ) (t : ℤ) → k ≡ i → i < length row → t ≡ get_or row i t → slice_get row k ≡ Some t
term_read row k i t e lt r = subst (λ (n : ℕ). slice_get row n ≡ Some t) (sym e) (slice_get_read row (length row) i t refl lt r)

pub matched_none : (o : Option Got) (P : Type 0) (Q : Got → Type 0) → o ≡ None → MatchOption o P Q → P
matched_none None P Q e h = h
matched_none (Some g) P Q e h = absurd (let f : Some g ≡ None = e in cc)

pub is_passed : (lib : Library) (row : List ℤ) (q limit k : ℕ) (g : Option Got) → IsFirstMiss lib row q limit k g → IsPassed lib row q limit k
is_passed lib row q limit k None h = inl h
is_passed lib row q limit k (Some g) h = inr h.0

-- ---- the first terms of a row

get_take : (row : List ℤ) (n i : ℕ) → i < n → slice_get (take n row) i ≡ slice_get row i
get_take row zero i lt = absurd (omega arith)
get_take [] (suc n) i lt = refl
get_take (t ∷ row) (suc n) zero lt = refl
get_take (t ∷ row) (suc n) (suc i) lt = get_take row n i (omega arith)

pub length_taken : (row : List ℤ) (n : ℕ) → n ≤ length row → length (take n row) ≡ n
length_taken row zero le = refl
length_taken [] (suc n) le = absurd (omega arith)
length_taken (t ∷ row) (suc n) le = let h = length_taken row n (omega arith) in omega (arith, h)

passes_taken : (lib : Library) (row : List ℤ) (q limit n k : ℕ) → k ≤ n → PassesBelow lib (take n row) q limit k → PassesBelow lib row q limit k
passes_taken lib row q limit n k le h = λ i t lt e. h i t lt (get_take row n i (omega arith) ∙ e)

module _ (s : Store) (terms : Terms) (limit q : ℕ) where
  pub fault_unpublished : published_at s q ≡ None → IsEntryFault s terms limit q None
  fault_unpublished e = λ f there. absurd (let g : None ≡ Some f = sym e ∙ there in cc)

  module _ (e : Published) (there : published_at s q ≡ Some e) where
    pub fault_no_row : terms q ≡ None → IsEntryFault s terms limit q (Some (NoRow q))
    fault_no_row free = λ acyclic below. (acyclic, below, e, there, free)

    module _ (row : List ℤ) (listed : terms q ≡ Some row) where
      pub fault_count : (checked usable : ℕ) → checked ≡ e.checked → usable ≡ length row → (checked < 8) ⊎ (usable < checked) → IsEntryFault s terms limit q (Some (Count q checked usable))
      fault_count checked usable is_checked is_usable broken = λ acyclic below. (acyclic, below, e, row, there, listed, is_checked, is_usable, broken)

      module _ (lib : Library) (same : lib ≡ programs_of s) (taken : List ℤ) (least : 8 ≤ e.checked) (fits : e.checked ≤ length row) (first : taken ≡ take e.checked row) where
        pub fault_none : (k : ℕ) → IsFirstMiss lib taken q limit k None → IsEntryFault s terms limit q None
        fault_none k h = λ f at.
            let g : Some e ≡ Some f = sym there ∙ at in
            let is : e ≡ f = cc in
            let all : k ≡ e.checked = h.1 ∙ ap length first ∙ length_taken row e.checked fits in
            let old : PassesBelow lib (take e.checked row) q limit k = subst (λ (r : List ℤ). PassesBelow lib r q limit k) first h.0 in
            let mine : PassesBelow (programs_of s) row q limit e.checked =
            subst (λ (l : Library). PassesBelow l row q limit e.checked) same
            (passes_taken lib row q limit e.checked e.checked (omega arith) (subst (λ (n : ℕ). PassesBelow lib (take e.checked row) q limit n) all old)) in
            let sound : IsEntrySound s terms limit q e = (row, listed, least, fits, mine) in
            subst (λ (z : Published). IsEntrySound s terms limit q z) is sound

        pub fault_unmet : (k : ℕ) (g : Got) → IsFirstMiss lib taken q limit k (Some g) → IsEntryFault s terms limit q (Some (Unmet q k g))
        fault_unmet k g h =
            let at : slice_get (take e.checked row) k ≡ Some h.0.0 = subst (λ (r : List ℤ). slice_get r k ≡ Some h.0.0) first h.0.1 in
            let within = place_within (take e.checked row) k h.0.0 at in
            let size = length_taken row e.checked fits in
            let less : k < e.checked = omega (arith, within, size) in
            let old : PassesBelow lib (take e.checked row) q limit k = subst (λ (r : List ℤ). PassesBelow lib r q limit k) first h.0.3 in
            let fails : FailsFirst lib row q limit k = (h.0.0, sym (get_take row e.checked k less) ∙ at, h.0.2, passes_taken lib row q limit e.checked k (omega arith) old) in
            λ acyclic below. (
              acyclic,
              below,
              e,
              row,
              there,
              listed,
              least,
              fits,
              less,
              subst (λ (l : Library). FailsFirst l row q limit k) same fails,
              subst (λ (l : Library). g ≡ got_of (outcome l q (pos k) limit)) same h.1,
            )

-- ---- the names of a store in their order

order_of : (a b : ℕ) → (a ≤ b) ⊎ (b < a)
order_of a b = grind arith

module _ (s : Store) (terms : Terms) (limit : ℕ) where
  pub sound_below : (last q : ℕ) → IsStore s → ((k : ℕ) → last < k → k < q → published_at s k ≡ None)
      → ((r : ℕ) (e : Published) → 0 < r → r ≤ last → published_at s r ≡ Some e → IsEntrySound s terms limit r e) → SoundBelow s terms limit q
  sound_below last q kept free sound = λ r e lt there. elim (order_of r last) [ inl le ↦ sound r e (positive r e there) le there | inr above ↦ absurd (clash r e above lt there) ]
    where
      positive : (r : ℕ) (e : Published) → published_at s r ≡ Some e → 0 < r
      positive r e there = let n = kept.named r e there in let one = n.0 in omega (arith, one)

      clash : (r : ℕ) (e : Published) → last < r → r < q → published_at s r ≡ Some e → ⊥
      clash r e above lt there = let g : None ≡ Some e = sym (free r above lt) ∙ there in cc

  pub at_fault : (q : ℕ) (o : Option Unsound) (u w : Unsound) → IsEntryFault s terms limit q o → o ≡ Some u → u ≡ w → NoCycle (programs_of s) → SoundBelow s terms limit q → IsUnsound s terms limit w
  at_fault q o u w h e same acyclic below =
      let found : IsEntryFault s terms limit q (Some u) = subst (λ (z : Option Unsound). IsEntryFault s terms limit q z) e h in
      subst (λ (z : Unsound). IsUnsound s terms limit z) same (found acyclic below)

pub none_on_cycle : (lib : Library) (o : Option ℕ) → o ≡ None → IfNone o ((r : ℕ) → OnCycle lib r → ⊥) → NoCycle lib
none_on_cycle lib None e h = h
none_on_cycle lib (Some n) e h = absurd (let f : Some n ≡ None = e in cc)
