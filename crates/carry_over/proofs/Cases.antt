-- What a proposal meets alike in two stores gives it the same answer in both.
use Rattle.std.proofs.Common.{ℕ, zero, ◌<◌, ◌≤◌, ◌≡◌, refl, sym, ap, subst, ◌∙◌, arith, ℤ, pos, inl, inr, List, ◌∷◌, Contains}
use Rattle.std.specs.Prelude.{◌↔◌, IsFalse, max}
use Rattle.std.proofs.lemmas.List.Elements.{Contains-append_left, Contains-append_right}
use Rattle.loda_syntax.specs.Programs.{Text}
use Rattle.loda_semantics.specs.Exec.{Outcome}
use Rattle.program_store.specs.Store.{Store, published_at, programs_of, checked_at, checked_in, after, IsPublished}
use Rattle.program_store.specs.Graph.{calls_of, Reaches, FirstWith}
use Rattle.seq_calls.specs.Demand.{Demands, InDem, IsReliedOn, LeastCaller}
use Rattle.seq_calls.specs.Frames.{steps_of}
use Rattle.seq_calls.specs.Values.{outcome, gives, Gives}
use Rattle.judge.specs.declared.answer.Answer.{Answer}
use Rattle.judge.specs.declared.answer.Answer.TheVariants.{Accepted, Unlisted, Cycle, WrongTerm, BrokenDependant, Costlier, NoGain}
use Rattle.judge.specs.Passed.{Terms, got_of, agree, PassesBelow, FailsFirst}
use Rattle.judge.specs.Judged.{IsNewChecked, Breaks, CostsMore, Gainless, Enters, Passes, Unbroken, NoDearer, IsJudged}

-- what a proposal meets in both stores alike
pub record IsAlike (s s2 : Store) (limit q : ℕ) (p : Text) : Type 0 where
  pub reach : (name : ℕ) → Contains (calls_of p) name → Reaches (programs_of s) name q ↔ Reaches (programs_of s2) name q
  pub published : published_at s2 q ≡ published_at s q
  pub old : (x : ℤ) → outcome (programs_of s2) q x limit ≡ outcome (programs_of s) q x limit
  pub new : (x : ℤ) → outcome (after s2 q p) q x limit ≡ outcome (after s q p) q x limit
  pub demands : (c i : ℕ) (x : ℤ) → Demands s2 c i q x ↔ Demands s c i q x

pub turned : (s s2 : Store) (limit q : ℕ) (p : Text) → IsAlike s s2 limit q p → IsAlike s2 s limit q p
turned s s2 limit q p b = record {
  reach = λ name c. let h = b.reach name c in (h.1, h.0);
  published = sym b.published;
  old = λ x. sym (b.old x);
  new = λ x. sym (b.new x);
  demands = λ c i x. let h = b.demands c i x in (h.1, h.0);
}

module _ (s s2 : Store) (limit q : ℕ) (p : Text) (b : IsAlike s s2 limit q p) where
  counts : checked_at s2 q ≡ checked_at s q
  counts = ap checked_in b.published

  still_published : IsPublished s q → IsPublished s2 q
  still_published h = (h.0, b.published ∙ h.1)

  demanded : (x : ℤ) → InDem s q x → InDem s2 q x
  demanded x d = (d.0, d.1, (b.demands d.0 d.1 x).1 d.2)

  relied : (x : ℤ) → IsReliedOn s q x → IsReliedOn s2 q x
  relied x (inl c) = inl (c.0, subst (λ (n : ℕ). c.0 < n) (sym counts) c.1, c.2)
  relied x (inr d) = inr (demanded x d)

  breaks : (x : ℤ) → Breaks s limit q p x → Breaks s2 limit q p x
  breaks x h = (
    demanded x h.0,
    subst (λ (o : Outcome). IsFalse (agree o (outcome (after s2 q p) q x limit))) (sym (b.old x))
        (subst (λ (o : Outcome). IsFalse (agree (outcome (programs_of s) q x limit) o)) (sym (b.new x)) h.1),
  )

  costs : (x : ℤ) → CostsMore s limit q p x → CostsMore s2 limit q p x
  costs x h = (
    relied x h.0,
    subst (λ (o : Outcome). steps_of o < steps_of (outcome (after s2 q p) q x limit)) (sym (b.old x))
        (subst (λ (o : Outcome). steps_of (outcome (programs_of s) q x limit) < steps_of o) (sym (b.new x)) h.1),
  )

  least_caller : (x : ℤ) (c i : ℕ) → (turn : (d j : ℕ) → Demands s2 d j q x → Demands s d j q x) → LeastCaller s q x c i → LeastCaller s2 q x c i
  least_caller x c i turn h = ((b.demands c i x).1 h.0, λ d j k. h.1 d j (turn d j k))

  -- ---- the terms

  passes_below : (row : List ℤ) (k : ℕ) → PassesBelow (after s q p) row q limit k → PassesBelow (after s2 q p) row q limit k
  passes_below row k h = λ i t lt is. subst (λ (o : Outcome). Gives o t) (sym (b.new (pos i))) (h i t lt is)

  fails_first : (row : List ℤ) (k : ℕ) → FailsFirst (after s q p) row q limit k → FailsFirst (after s2 q p) row q limit k
  fails_first row k h = (h.0, h.1, subst (λ (o : Outcome). IsFalse (gives o h.0)) (sym (b.new (pos k))) h.2, passes_below row k h.3)

  checks : (row : List ℤ) (k : ℕ) → IsNewChecked (after s q p) row q limit (checked_at s q) k → IsNewChecked (after s2 q p) row q limit (checked_at s2 q) k
  checks row k (inl all) = inl (passes_below row k all.0, all.1)
  checks row k (inr cut) = inr (fails_first row k cut.0, ap got_of (b.new (pos k)) ∙ cut.1, subst (λ (n : ℕ). max 8 n ≤ k) (sym counts) cut.2)

  -- ---- the nested tests

  module _ (terms : Terms) (row : List ℤ) where
    enters : Enters s terms q p row → Enters s2 terms q p row
    enters h = record { listed = h.listed; acyclic = λ name c r. h.acyclic name c ((b.reach name c).1 r) }

    passes : (k : ℕ) → Passes s terms limit q p row k → Passes s2 terms limit q p row k
    passes k h = record { enters = enters h.enters; checks = checks row k h.checks }

    unbroken : (k : ℕ) → ((x : ℤ) → Breaks s2 limit q p x → Breaks s limit q p x) → (IsPublished s2 q → IsPublished s q)
        → Unbroken s terms limit q p row k → Unbroken s2 terms limit q p row k
    unbroken k back there h = record { passes = passes k h.passes; unbroken = λ published x r. h.unbroken (there published) x (back x r) }

    no_dearer : (k : ℕ) → ((x : ℤ) → Breaks s2 limit q p x → Breaks s limit q p x) → ((x : ℤ) → CostsMore s2 limit q p x → CostsMore s limit q p x) → (IsPublished s2 q → IsPublished s q)
        → NoDearer s terms limit q p row k → NoDearer s2 terms limit q p row k
    no_dearer k back dear there h = record { unbroken = unbroken k back there h.unbroken; no_dearer = λ published x r. h.no_dearer (there published) x (dear x r) }

  gainless : (k : ℕ) → Gainless s limit q p k → Gainless s2 limit q p k
  gainless k h = (
    h.0 ∙ sym counts,
    λ i lt. ap steps_of (b.old (pos i)) ∙ h.1 i (subst (λ (n : ℕ). i < n) counts lt) ∙ sym (ap steps_of (b.new (pos i))),
    λ e there. h.2 e (sym b.published ∙ there),
  )

-- ---- the first of a list

first_with : (P Q : ℕ → Type 0) (xs : List ℕ) (x : ℕ) → ((y : ℕ) → Contains xs y → P y ↔ Q y) → FirstWith P xs x → FirstWith Q xs x
first_with P Q xs x same h = (
  h.0,
  h.1,
  h.2,
  (same x (subst (λ (l : List ℕ). Contains l x) (sym h.2) (Contains-append_right h.0 (x ∷ h.1) x (zero, omega arith, refl)))).0 h.3,
  λ y c k. h.4 y c ((same y (subst (λ (l : List ℕ). Contains l y) (sym h.2) (Contains-append_left h.0 (x ∷ h.1) y c))).1 k),
)

-- ---- the answer

pub judged_same : (s s2 : Store) (terms : Terms) (limit q : ℕ) (p : Text) → IsAlike s s2 limit q p → (a : Answer) → IsJudged s terms limit q p a → IsJudged s2 terms limit q p a
judged_same s s2 terms limit q p b Unlisted h = h
judged_same s s2 terms limit q p b (Cycle through) h =
    (h.0, h.1, first_with (λ name. Reaches (programs_of s) name q) (λ name. Reaches (programs_of s2) name q) (calls_of p) through b.reach h.2)
judged_same s s2 terms limit q p b (WrongTerm index g) h = (
  h.0,
  enters s s2 limit q p b terms h.0 h.1,
  fails_first s s2 limit q p b h.0 index h.2,
  h.3 ∙ sym (ap got_of (b.new (pos index))),
  λ cut. subst (λ (n : ℕ). index < max 8 n) (sym (counts s s2 limit q p b)) (h.4 cut),
)
judged_same s s2 terms limit q p b (BrokenDependant at caller index was now) h =
    let r = turned s s2 limit q p b in (
      h.0,
      h.1,
      passes s s2 limit q p b terms h.0 h.1 h.2,
      still_published s s2 limit q p b h.3,
      (breaks s s2 limit q p b at h.4.0, λ y lt k. h.4.1 y lt (breaks s2 s limit q p r y k)),
      least_caller s s2 limit q p b at caller index (λ d j k. (b.demands d j at).0 k) h.5,
      subst (λ (o : Outcome). Gives o was) (sym (b.old at)) h.6,
      h.7 ∙ sym (ap got_of (b.new at)),
    )
judged_same s s2 terms limit q p b (Costlier at was now) h =
    let r = turned s s2 limit q p b in (
      h.0,
      h.1,
      unbroken s s2 limit q p b terms h.0 h.1 (breaks s2 s limit q p r) (still_published s2 s limit q p r) h.2,
      still_published s s2 limit q p b h.3,
      (costs s s2 limit q p b at h.4.0, λ y lt k. h.4.1 y lt (costs s2 s limit q p r y k)),
      h.5 ∙ sym (ap steps_of (b.old at)),
      h.6 ∙ sym (ap steps_of (b.new at)),
    )
judged_same s s2 terms limit q p b NoGain h =
    let r = turned s s2 limit q p b in (
      h.0,
      h.1,
      no_dearer s s2 limit q p b terms h.0 h.1 (breaks s2 s limit q p r) (costs s2 s limit q p r) (still_published s2 s limit q p r) h.2,
      still_published s s2 limit q p b h.3,
      gainless s s2 limit q p b h.1 h.4,
    )
judged_same s s2 terms limit q p b (Accepted checked) h =
    let r = turned s s2 limit q p b in (
      h.0,
      no_dearer s s2 limit q p b terms h.0 checked (breaks s2 s limit q p r) (costs s2 s limit q p r) (still_published s2 s limit q p r) h.1,
      λ published g. h.2 (still_published s2 s limit q p r published) (gainless s2 s limit q p r checked g),
    )
