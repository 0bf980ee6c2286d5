-- Two answers to one proposal are the same: the tests are made in an order, and an answer tells which were passed.
use Rattle.std.proofs.Common.{ℕ, zero, suc, ◌<◌, ◌≤◌, ◌≡◌, refl, sym, ap, subst, ◌∙◌, arith, ℤ, pos, inl, inr, List, [], ◌∷◌, ◌++◌, length, max, Bool, true, false}
use Rattle.std.specs.Prelude.{◌⊎◌, IsTrue, IsFalse, Contains}
use Rattle.std.specs.declared.option.Option.TheVariants.{Some, None}
use Rattle.loda_syntax.specs.Programs.{Text}
use Rattle.loda_semantics.specs.Exec.{Outcome, Library}
use Rattle.program_store.specs.Store.{Store, programs_of, checked_at, after, IsPublished}
use Rattle.program_store.specs.Graph.{calls_of, Reaches}
use Rattle.seq_calls.specs.Values.{outcome, gives, Gives}
use Rattle.seq_calls.specs.Frames.{steps_of}
use Rattle.seq_calls.specs.Demand.{LeastCaller}
use Rattle.seq_calls.proofs.Values.{gives_value, gives_same}
use Rattle.judge.specs.declared.answer.Got.{Got}
use Rattle.judge.specs.declared.answer.Got.TheVariants as got
use Rattle.judge.specs.declared.answer.Answer.{Answer}
use Rattle.judge.specs.declared.answer.Answer.TheVariants.{Accepted, Unlisted, Cycle, WrongTerm, BrokenDependant, Costlier, NoGain}
use Rattle.judge.specs.Passed.{Terms, got_of, PassesBelow, FailsFirst}
use Rattle.judge.specs.Judged.{IsNewChecked, Breaks, CostsMore, Gainless, Enters, Passes, Unbroken, NoDearer, IsJudged}
use Rattle.judge.specs.One.{HasOneAnswer}
use Rattle.judge.proofs.Values.{place_within}
use Rattle.judge.proofs.Firsts.{first-same, least-same, contains-here}

-- ---- rows and terms

pub same_row : (terms : Terms) (q : ℕ) (a b : List ℤ) → terms q ≡ Some a → terms q ≡ Some b → a ≡ b
same_row terms q a b e f = let g : Some a ≡ Some b = sym e ∙ f in cc

no_row : (terms : Terms) (q : ℕ) (a : List ℤ) → terms q ≡ Some a → terms q ≡ None → ⊥
no_row terms q a e f = let g : Some a ≡ None = sym e ∙ f in cc

clash : (b : Bool) → IsTrue b → IsFalse b → ⊥
clash b t f = let e : false ≡ true = sym f ∙ t in cc

-- a term that isn't given is not below a place up to which all are
pub not_below : (lib : Library) (row : List ℤ) (q limit index k : ℕ) → FailsFirst lib row q limit index → PassesBelow lib row q limit k → k ≤ index
not_below lib row q limit index k fails all = by_order (decide_lt index k)
  where
    decide_lt : (a b : ℕ) → (a < b) ⊎ (b ≤ a)
    decide_lt a b = grind arith

    by_order : (index < k) ⊎ (k ≤ index) → k ≤ index
    by_order (inl l) = absurd (clash (gives (outcome lib q (pos index) limit) fails.0) (all index fails.0 l fails.1) fails.2)
    by_order (inr l) = l

pub fails_same : (lib : Library) (row : List ℤ) (q limit a b : ℕ) → FailsFirst lib row q limit a → FailsFirst lib row q limit b → a ≡ b
fails_same lib row q limit a b f g =
    let h = not_below lib row q limit a b f g.3 in
    let k = not_below lib row q limit b a g f.3 in
    omega (arith, h, k)

fails_within : (lib : Library) (row : List ℤ) (q limit k : ℕ) → FailsFirst lib row q limit k → k < length row
fails_within lib row q limit k f = place_within row k f.0 f.1

checks_same : (lib : Library) (row : List ℤ) (q limit old a b : ℕ) → IsNewChecked lib row q limit old a → IsNewChecked lib row q limit old b → a ≡ b
checks_same lib row q limit old a b (inl h) (inl k) = h.1 ∙ sym k.1
checks_same lib row q limit old a b (inl h) (inr k) =
    absurd (let l = not_below lib row q limit b a k.0 h.0 in let w = fails_within lib row q limit b k.0 in let e = h.1 in omega (arith, l, w, e))
checks_same lib row q limit old a b (inr h) (inl k) =
    absurd (let l = not_below lib row q limit a b h.0 k.0 in let w = fails_within lib row q limit a h.0 in let e = k.1 in omega (arith, l, w, e))
checks_same lib row q limit old a b (inr h) (inr k) = fails_same lib row q limit a b h.0 k.0

-- a term that isn't given for want of steps is a wrong term, or ends what is checked, and never both
wrong_or_checks : (lib : Library) (row : List ℤ) (q limit old index k : ℕ) → FailsFirst lib row q limit index
    → (got_of (outcome lib q (pos index) limit) ≡ got.OutOfSteps → index < max 8 old) → IsNewChecked lib row q limit old k → ⊥
wrong_or_checks lib row q limit old index k f wrong (inl h) = let l = not_below lib row q limit index k f h.0 in let w = fails_within lib row q limit index f in let e = h.1 in omega (arith, l, w, e)
wrong_or_checks lib row q limit old index k f wrong (inr h) =
    let same : index ≡ k = fails_same lib row q limit index k f h.0 in
    let spent : got_of (outcome lib q (pos index) limit) ≡ got.OutOfSteps = subst (λ (i : ℕ). got_of (outcome lib q (pos i) limit) ≡ got.OutOfSteps) (sym same) h.1 in
    let l = wrong spent in
    let m = h.2 in
    omega (arith, l, m, same)

contains_middle : (before rest : List ℕ) (x : ℕ) → Contains (before ++ x ∷ rest) x
contains_middle [] rest x = contains-here x rest
contains_middle (y ∷ before) rest x = let h = contains_middle before rest x in (suc h.0, (let k = h.1 in omega (arith, k)), h.2)

module _ (s : Store) (terms : Terms) (limit q : ℕ) (p : Text) where
  -- what each test finds
  abbrev Finds : ℕ → Type 0
  Finds zero = terms q ≡ None
  Finds (suc zero) = (name : ℕ) × Contains (calls_of p) name × Reaches (programs_of s) name q
  Finds (suc (suc zero)) =
      (row : List ℤ) × (index : ℕ) × (terms q ≡ Some row) × FailsFirst (after s q p) row q limit index
      × (got_of (outcome (after s q p) q (pos index) limit) ≡ got.OutOfSteps → index < max 8 (checked_at s q))
  Finds (suc (suc (suc zero))) = IsPublished s q × (x : ℤ) × Breaks s limit q p x
  Finds (suc (suc (suc (suc zero)))) = IsPublished s q × (x : ℤ) × CostsMore s limit q p x
  Finds (suc (suc (suc (suc (suc zero))))) =
      IsPublished s q × (row : List ℤ) × (checked : ℕ) × (terms q ≡ Some row) × IsNewChecked (after s q p) row q limit (checked_at s q) checked × Gainless s limit q p checked
  Finds (suc (suc (suc (suc (suc (suc k)))))) = Unit {0}

  -- the tests before this one found nothing
  abbrev Past : ℕ → Type 0
  Past zero = Unit {0}
  Past (suc k) = Past k × (Finds k → ⊥)

  decide_lt : (a b : ℕ) → (a < b) ⊎ (b ≤ a)
  decide_lt a b = grind arith

  past_below : (k i : ℕ) → i < k → Past k → Finds i → ⊥
  past_below zero i lt h f = absurd (omega arith)
  past_below (suc k) i lt h f = by_order (decide_lt i k) (λ l. past_below k i l h.0 f)
    where
      by_order : (i < k) ⊎ (k ≤ i) → (i < k → ⊥) → ⊥
      by_order (inl l) below = below l
      by_order (inr l) below = let e : i ≡ k = omega (arith, l, lt) in h.1 (subst Finds e f)

  past_listed : (row : List ℤ) → terms q ≡ Some row → Past 1
  past_listed row e = (tt, λ f. no_row terms q row e f)

  past_enters : (row : List ℤ) → Enters s terms q p row → Past 2
  past_enters row h = (past_listed row h.listed, λ f. h.acyclic f.0 f.1 f.2)

  past_passes : (row : List ℤ) (checked : ℕ) → Passes s terms limit q p row checked → Past 3
  past_passes row checked h = (
    past_enters row h.enters,
    λ f.
        let same : f.0 ≡ row = same_row terms q f.0 row f.2 h.enters.listed in
        wrong_or_checks (after s q p) row q limit (checked_at s q) f.1 checked (subst (λ (r : List ℤ). FailsFirst (after s q p) r q limit f.1) same f.3) f.4 h.checks,
  )

  past_unbroken : (row : List ℤ) (checked : ℕ) → Unbroken s terms limit q p row checked → Past 4
  past_unbroken row checked h = (past_passes row checked h.passes, λ f. h.unbroken f.0 f.1 f.2)

  past_no_dearer : (row : List ℤ) (checked : ℕ) → NoDearer s terms limit q p row checked → Past 5
  past_no_dearer row checked h = (past_unbroken row checked h.unbroken, λ f. h.no_dearer f.0 f.1 f.2)

  past_gain : (row : List ℤ) (checked : ℕ) → NoDearer s terms limit q p row checked → (IsPublished s q → Gainless s limit q p checked → ⊥) → Past 6
  past_gain row checked h gain = (
    past_no_dearer row checked h,
    λ f.
        let same : f.1 ≡ row = same_row terms q f.1 row f.3 h.unbroken.passes.enters.listed in
        let mine : IsNewChecked (after s q p) row q limit (checked_at s q) f.2 = subst (λ (r : List ℤ). IsNewChecked (after s q p) r q limit (checked_at s q) f.2) same f.4 in
        let counts : f.2 ≡ checked = checks_same (after s q p) row q limit (checked_at s q) f.2 checked mine h.unbroken.passes.checks in
        gain f.0 (subst (λ (k : ℕ). Gainless s limit q p k) counts f.5),
  )

  -- which test an answer comes from
  abbrev rank : Answer → ℕ
  rank Unlisted = 0
  rank (Cycle through) = 1
  rank (WrongTerm index g) = 2
  rank (BrokenDependant at caller index was now) = 3
  rank (Costlier at was now) = 4
  rank NoGain = 5
  rank (Accepted checked) = 6

  past : (a : Answer) → IsJudged s terms limit q p a → Past (rank a)
  past Unlisted h = tt
  past (Cycle through) h = past_listed h.0 h.1
  past (WrongTerm index g) h = past_enters h.0 h.1
  past (BrokenDependant at caller index was now) h = past_passes h.0 h.1 h.2
  past (Costlier at was now) h = past_unbroken h.0 h.1 h.2
  past NoGain h = past_no_dearer h.0 h.1 h.2
  past (Accepted checked) h = past_gain h.0 checked h.1 h.2

  found : (a : Answer) → IsJudged s terms limit q p a → Finds (rank a)
  found Unlisted h = h
  found (Cycle through) h = (through, subst (λ (c : List ℕ). Contains c through) (sym h.2.2) (contains_middle h.2.0 h.2.1 through), h.2.3)
  found (WrongTerm index g) h = (h.0, index, h.1.listed, h.2, λ e. h.4 (h.3 ∙ e))
  found (BrokenDependant at caller index was now) h = (h.3, at, h.4.0)
  found (Costlier at was now) h = (h.3, at, h.4.0)
  found NoGain h = (h.3, h.0, h.1, h.2.unbroken.passes.enters.listed, h.2.unbroken.passes.checks, h.4)
  found (Accepted checked) h = tt

  -- the least pairs of a caller and an index are one
  callers_same : (x : ℤ) (c i d j : ℕ) → LeastCaller s q x c i → LeastCaller s q x d j → (c ≡ d) × (i ≡ j)
  callers_same x c i d j h k = by_order (h.1 d j k.0) (k.1 c i h.0)
    where
      by_order : ((c < d) ⊎ ((c ≡ d) × (i ≤ j))) → ((d < c) ⊎ ((d ≡ c) × (j ≤ i))) → (c ≡ d) × (i ≡ j)
      by_order (inl l) (inl m) = absurd (omega arith)
      by_order (inl l) (inr m) = absurd (let e = m.0 in omega arith)
      by_order (inr l) (inl m) = absurd (let e = l.0 in omega arith)
      by_order (inr l) (inr m) = (l.0, let a = l.1 in let b = m.1 in omega arith)

  gives_one : (o : Outcome) (v w : ℤ) → Gives o v → Gives o w → v ≡ w
  gives_one o v w g h = let k = gives_value o w h in gives_same o w v k.0 k.1 g

  same_rank : (a b : Answer) → rank a ≡ rank b → IsJudged s terms limit q p a → IsJudged s terms limit q p b → a ≡ b
  same_rank Unlisted Unlisted e h k = refl
  same_rank (Cycle c) (Cycle d) e h k = ap (λ (n : ℕ). Cycle n) (first-same (λ name. Reaches (programs_of s) name q) (calls_of p) c d h.2 k.2)
  same_rank (WrongTerm i g) (WrongTerm j f) e h k =
      let rows : k.0 ≡ h.0 = same_row terms q k.0 h.0 k.1.listed h.1.listed in
      let places : i ≡ j = fails_same (after s q p) h.0 q limit i j h.2 (subst (λ (r : List ℤ). FailsFirst (after s q p) r q limit j) rows k.2) in
      let gots : g ≡ f = h.3 ∙ ap (λ (n : ℕ). got_of (outcome (after s q p) q (pos n) limit)) places ∙ sym k.3 in
      ap (λ (n : ℕ). WrongTerm n g) places ∙ ap (λ (z : Got). WrongTerm j z) gots
  same_rank (BrokenDependant x c i v g) (BrokenDependant y d j w f) e h k =
      let at : x ≡ y = least-same (Breaks s limit q p) x y h.4 k.4 in
      let callers = callers_same y c i d j (subst (λ (z : ℤ). LeastCaller s q z c i) at h.5) k.5 in
      let values : v ≡ w = gives_one (outcome (programs_of s) q y limit) v w (subst (λ (z : ℤ). Gives (outcome (programs_of s) q z limit) v) at h.6) k.6 in
      let gots : g ≡ f = h.7 ∙ ap (λ (z : ℤ). got_of (outcome (after s q p) q z limit)) at ∙ sym k.7 in
      ap (λ (z : ℤ). BrokenDependant z c i v g) at ∙ ap (λ (n : ℕ). BrokenDependant y n i v g) callers.0 ∙ ap (λ (n : ℕ). BrokenDependant y d n v g) callers.1
      ∙ ap (λ (z : ℤ). BrokenDependant y d j z g) values ∙ ap (λ (z : Got). BrokenDependant y d j w z) gots
  same_rank (Costlier x m n) (Costlier y k l) e h i =
      let at : x ≡ y = least-same (CostsMore s limit q p) x y h.4 i.4 in
      let was : m ≡ k = h.5 ∙ ap (λ (z : ℤ). steps_of (outcome (programs_of s) q z limit)) at ∙ sym i.5 in
      let now : n ≡ l = h.6 ∙ ap (λ (z : ℤ). steps_of (outcome (after s q p) q z limit)) at ∙ sym i.6 in
      ap (λ (z : ℤ). Costlier z m n) at ∙ ap (λ (z : ℕ). Costlier y z n) was ∙ ap (λ (z : ℕ). Costlier y k z) now
  same_rank NoGain NoGain e h k = refl
  same_rank (Accepted c) (Accepted d) e h k =
      let rows : k.0 ≡ h.0 = same_row terms q k.0 h.0 k.1.unbroken.passes.enters.listed h.1.unbroken.passes.enters.listed in
      ap (λ (n : ℕ). Accepted n) (checks_same (after s q p) h.0 q limit (checked_at s q) c d h.1.unbroken.passes.checks (subst (λ (r : List ℤ). IsNewChecked (after s q p) r q limit (checked_at s q) d) rows k.1.unbroken.passes.checks))
  same_rank a b e h k = absurd (omega arith)

pub one_answer : (s : Store) (terms : Terms) (limit q : ℕ) (p : Text) → HasOneAnswer s terms limit q p
one_answer s terms limit q p = λ a b h k. by_order a b h k (order (rank s terms limit q p a) (rank s terms limit q p b))
  where
    order : (m n : ℕ) → (m < n) ⊎ ((n < m) ⊎ (m ≡ n))
    order m n = grind arith

    by_order : (a b : Answer) → IsJudged s terms limit q p a → IsJudged s terms limit q p b
        → (rank s terms limit q p a < rank s terms limit q p b) ⊎ ((rank s terms limit q p b < rank s terms limit q p a) ⊎ (rank s terms limit q p a ≡ rank s terms limit q p b)) → a ≡ b
    by_order a b h k (inl l) = absurd (past_below s terms limit q p _ _ l (past s terms limit q p b k) (found s terms limit q p a h))
    by_order a b h k (inr (inl l)) = absurd (past_below s terms limit q p _ _ l (past s terms limit q p a h) (found s terms limit q p b k))
    by_order a b h k (inr (inr e)) = same_rank s terms limit q p a b e h k
