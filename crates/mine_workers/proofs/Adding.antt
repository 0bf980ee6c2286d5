-- What a caller that takes the jobs in ascending order has added to a journal.
use Rattle.std.proofs.Common.{ℕ, ◌+◌, ◌<◌, ◌≤◌, ◌≡◌, ◌≢◌, refl, sym, ap, subst, ◌∙◌, arith, inl, inr, List, [], ◌∷◌, ◌++◌, length, get_or, append_assoc, append-nil, length-append}
use Rattle.std.specs.Prelude.{◌⊎◌, All, reverse}
use Rattle.std.specs.List.{AllByRecursion}
use Rattle.std.proofs.lemmas.List.{length-reverse, reverse-reverse}
use Rattle.std.proofs.lemmas.List.Elements.{All-from_recursion}
use Rattle.std.proofs.lemmas.Option.{slice_get_within, get_or_from_slice_get}
use mathlib.Core.List.{IsPrefix}
use Rattle.evidence.specs.Dossiers.{Dossier}
use Rattle.publish_desk.specs.declared.entry.Entry.{Entry}
use Rattle.publish_desk.specs.declared.verdict.Verdict.{Verdict}
use Rattle.publish_desk.specs.declared.verdict.Verdict.TheVariants.{Decided, Again, AlreadyDone}
use Rattle.publish_desk.specs.History.{version_of, IsInOrder, IsMissing, IsDoneAt}
use Rattle.publish_desk.specs.Desk.{Desk, IsKept, IsVerdict, history, decided}
use Rattle.publish_desk.proofs.Lists.{reverse_push, all_reverse}
use Rattle.publish_desk.proofs.Places.{get_left, get_last}
use Rattle.mine_workers.specs.Histories.{AscendFrom, GoesOn, AddsJob, HasAdded, HasEveryJob}

-- ---- one job

-- a job without an entry has none at any place
pub not_done : (journal : List Entry) (job at : ℕ) → IsMissing journal job → IsDoneAt journal job at → ⊥
not_done journal job at missing done =
    let e = done.0 in
    let within = slice_get_within journal at e done.1 in
    let is : get_or journal at e ≡ e = get_or_from_slice_get journal at e e done.1 in
    missing at e within (ap (λ (x : Entry). x.job) is ∙ done.2)

-- a dossier of a job without an entry that saw the present version is decided
pub is_decided : (d new : Desk) (f : Dossier) (v : Verdict) (job : ℕ) → IsMissing d.journal job → f.job ≡ job → f.snapshot.version ≡ d.version → IsVerdict d new f v
    → ((at : ℕ) × (v ≡ Decided at)) × (new ≡ decided d f)
is_decided d new f (Decided at) job missing same seen h = ((at, refl), h.next)
is_decided d new f (Again version first name back) job missing same seen h = absurd (let n = h.newer in omega (arith, n, seen))
is_decided d new f (AlreadyDone at back) job missing same seen h = absurd (not_done d.journal job at missing (subst (λ (n : ℕ). IsDoneAt d.journal n at) same h.done))

-- and its entry is added
pub adds : (d new : Desk) (f : Dossier) (job : ℕ) → IsKept d → f.job ≡ job → f.base ≡ d.version → new ≡ decided d f → AddsJob d new job
adds d new f job kept same base is = record {
  charter = ap (λ (e : Desk). e.charter) is;
  entry = record { job = f.job; base = f.base; finding = f.finding };
  journal = ap (λ (e : Desk). e.journal) is;
  same_job = same;
  base = base ∙ kept.version;
}

-- ---- the jobs in order

new_below : (h : List Entry) (n : ℕ) → IsInOrder h → length h ≤ n → AllByRecursion (λ (e : Entry). e.job ≢ n) h
new_below [] n o le = tt
new_below (e ∷ es) n o le = (λ same. absurd (let at : e.job ≡ length es = o.1 in omega (arith, at, same, le)), new_below es n o.0 (omega (arith, le)))

-- where the jobs stand in order, the next one has no entry
job_is_new : (journal : List Entry) (job : ℕ) → length journal ≡ job → IsInOrder (reverse journal) → IsMissing journal job
job_is_new journal job size o =
    let P : Entry → Type 0 = λ (e : Entry). e.job ≢ job in
    let there : All P (reverse journal) = All-from_recursion P (reverse journal) (new_below (reverse journal) job o (let same = length-reverse journal in omega (arith, same, size))) in
    subst (All P) (reverse-reverse journal) (all_reverse P (reverse journal) there)

-- ---- all jobs below a number

-- The jobs below the number have entries, and those that had none were added in ascending order.
pub record Begun (old new : Desk) (job : ℕ) : Type 0 where
  pub charter : new.charter ≡ old.charter
  pub begins : IsPrefix old.journal new.journal
  pub done : (j : ℕ) → j < job → (at : ℕ) × IsDoneAt new.journal j at
  pub added : List Entry
  pub split : reverse new.journal ≡ added ++ reverse old.journal
  pub ascend : AscendFrom (reverse old.journal) added
  pub below : AllByRecursion (λ (e : Entry). e.job < job) added
  pub fresh : old.journal ≡ [] → (length new.journal ≡ job) × IsInOrder (history new)

pub begun_none : (d : Desk) → Begun d d 0
begun_none d = record {
  charter = refl;
  begins = ([], append-nil d.journal);
  done = λ j lt. absurd (omega (arith, lt));
  added = [];
  split = refl;
  ascend = tt;
  below = tt;
  fresh = λ none. (ap length none, subst (λ (l : List Entry). IsInOrder (reverse l)) (sym none) tt);
}

-- each is below the next number too
still_below : (es : List Entry) (n : ℕ) → AllByRecursion (λ (e : Entry). e.job < n) es → AllByRecursion (λ (e : Entry). e.job < n + 1) es
still_below [] n h = tt
still_below (e ∷ es) n h = (let l = h.0 in omega (arith, l), still_below es n h.1)

below_or : (i k : ℕ) → i < k + 1 → (i < k) ⊎ (i ≡ k)
below_or i k lt = grind arith

module _ (old d new : Desk) (job : ℕ) (so_far : Begun old d job) where
  -- the job had an entry
  begun_done : (at : ℕ) → IsDoneAt d.journal job at → Begun old d (job + 1)
  begun_done at there = record {
    charter = so_far.charter;
    begins = so_far.begins;
    done = λ j lt. by_order j (below_or j job lt);
    added = so_far.added;
    split = so_far.split;
    ascend = so_far.ascend;
    below = still_below so_far.added job so_far.below;
    fresh = λ none. let f = so_far.fresh none in absurd (not_done d.journal job at (job_is_new d.journal job f.0 f.1) there);
  }
    where
      by_order : (j : ℕ) → (j < job) ⊎ (j ≡ job) → (at : ℕ) × IsDoneAt d.journal j at
      by_order j (inl l) = so_far.done j l
      by_order j (inr e) = subst (λ (m : ℕ). (at : ℕ) × IsDoneAt d.journal m at) (sym e) (at, there)

  -- its entry was added
  begun_added : AddsJob d new job → Begun old new (job + 1)
  begun_added more = record {
    charter = more.charter ∙ so_far.charter;
    begins = (so_far.begins.0 ++ e ∷ [], sym (append_assoc old.journal so_far.begins.0 (e ∷ [])) ∙ ap (λ (l : List Entry). l ++ e ∷ []) so_far.begins.1 ∙ sym more.journal);
    done = λ j lt. subst (λ (l : List Entry). (at : ℕ) × IsDoneAt l j at) (sym more.journal) (by_order j (below_or j job lt));
    added = e ∷ so_far.added;
    split = turned ∙ ap (λ (l : List Entry). e ∷ l) so_far.split;
    ascend = (so_far.ascend, All-from_recursion (λ (f : Entry). f.job < e.job) so_far.added (subst (λ (n : ℕ). AllByRecursion (λ (f : Entry). f.job < n) so_far.added) (sym more.same_job) so_far.below), more.base ∙ ap version_of so_far.split);
    below = (let s = more.same_job in omega (arith, s), still_below so_far.added job so_far.below);
    fresh = λ none. let f = so_far.fresh none in (
      ap length more.journal ∙ length-append d.journal (e ∷ []) ∙ ap (λ (n : ℕ). n + 1) f.0,
      subst IsInOrder (sym turned) (f.1, more.same_job ∙ sym f.0 ∙ sym (length-reverse d.journal), more.base),
    );
  }
    where
      e : Entry
      e = more.entry

      turned : reverse new.journal ≡ e ∷ reverse d.journal
      turned = ap reverse more.journal ∙ reverse_push d.journal e

      by_order : (j : ℕ) → (j < job) ⊎ (j ≡ job) → (at : ℕ) × IsDoneAt (d.journal ++ e ∷ []) j at
      by_order j (inl l) = let h = so_far.done j l in (h.0, (h.1.0, get_left d.journal (e ∷ []) h.0 h.1.0 h.1.1, h.1.2))
      by_order j (inr same) = (length d.journal, (e, get_last d.journal e, more.same_job ∙ sym same))

  pub begun_more : HasAdded d new job → Begun old new (job + 1)
  begun_more (inl h) = subst (λ (n : Desk). Begun old n (job + 1)) (sym h.1) (begun_done h.0.0 h.0.1)
  begun_more (inr h) = begun_added h

module _ (old new : Desk) (jobs : ℕ) (all : Begun old new jobs) where
  pub goes_on : GoesOn old.journal new.journal
  goes_on = record { added = all.added; split = all.split; ascend = all.ascend }

  pub whole : new.charter.jobs ≤ jobs → HasEveryJob new
  whole le = λ job lt. all.done job (omega (arith, le, lt))
