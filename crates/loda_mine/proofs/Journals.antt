-- Journals that take the jobs in order, and the desks of `publish` and of `mine`.
use Rattle.std.proofs.Common.{ℕ, ◌<◌, ◌≤◌, ◌≡◌, sym, ap, subst, get_or, ◌∙◌, arith, List, [], ◌∷◌, length, inl, inr}
use Rattle.std.specs.Prelude.{◌≢◌, ◌⊎◌, All, reverse}
use Rattle.std.specs.List.{AllByRecursion}
use Rattle.std.proofs.lemmas.List.{length-reverse, reverse-reverse}
use Rattle.std.proofs.lemmas.List.Elements.{All-from_recursion}
use Rattle.publish_desk.specs.declared.charter.Charter.{Charter}
use Rattle.publish_desk.specs.declared.charter.Source.TheVariants.{Listed, Seeded}
use Rattle.publish_desk.specs.declared.entry.Entry.{Entry}
use Rattle.publish_desk.specs.Desk.{Desk, IsKept, history, origin_of, terms_of}
use Rattle.std.proofs.lemmas.Option.{slice_get_within, get_or_from_slice_get}
use Rattle.program_store.proofs.Rising.{lt_or_le}
use Rattle.publish_desk.specs.History.{IsLegal, IsInOrder, IsDoneAt}
use Rattle.mine_workers.specs.Histories.{HasEveryJob}
use Rattle.loda_mine.specs.declared.files.Contents.{Contents}
use Rattle.loda_mine.specs.Answer.{IsDecided, IsMined}
use Rattle.publish_desk.proofs.Lists.{all_reverse}

-- what never changes of a desk that is opened on these contents
abbrev pub charter_of : Contents → ℕ → Charter
charter_of contents limit = record { opening = contents.store; terms = contents.terms; limit = limit; source = Listed contents.candidates; jobs = length contents.candidates }

new_below : (h : List Entry) (n : ℕ) → IsInOrder h → length h ≤ n → AllByRecursion (λ (e : Entry). e.job ≢ n) h
new_below [] n o le = tt
new_below (e ∷ es) n o le = (λ same. absurd (let at : e.job ≡ length es = o.1 in omega (arith, at, same, le)), new_below es n o.0 (omega (arith, le)))

-- the next job has no entry
pub job_is_new : (journal : List Entry) → IsInOrder (reverse journal) → All (λ (e : Entry). e.job ≢ length journal) journal
job_is_new journal o =
    let P : Entry → Type 0 = λ (e : Entry). e.job ≢ length journal in
    let there : All P (reverse journal) = All-from_recursion P (reverse journal) (new_below (reverse journal) (length journal) o (let same = length-reverse journal in omega (arith, same))) in
    subst (All P) (reverse-reverse journal) (all_reverse P (reverse journal) there)

-- The jobs of a legal journal are below the number of jobs, so one in order is no longer than that.
legal_length : (c : Charter) (h : List Entry) → IsLegal c.opening (terms_of c) c.limit (origin_of c) c.jobs h → IsInOrder h → length h ≤ c.jobs
legal_length c [] legal o = omega arith
legal_length c (e ∷ es) legal o = (let below = legal.1.listed in let at : e.job ≡ length es = o.1 in omega (arith, below, at))

-- the next job of a journal in order has no entry
no_entry : (journal : List Entry) (at : ℕ) → IsInOrder (reverse journal) → IsDoneAt journal (length journal) at → ⊥
no_entry journal at o h =
    let within = slice_get_within journal at h.0 h.1 in
    let is : get_or journal at h.0 ≡ h.0 = get_or_from_slice_get journal at h.0 h.0 h.1 in
    job_is_new journal o at h.0 within (ap (λ (x : Entry). x.job) is ∙ h.2)

-- A journal in order in which each job has an entry has as many entries as there are jobs.
pub as_many : (d : Desk) → IsKept d → IsInOrder (history d) → HasEveryJob d → length d.journal ≡ d.charter.jobs
as_many d kept o whole = by_size (lt_or_le (length d.journal) d.charter.jobs)
  where
    most : length d.journal ≤ d.charter.jobs
    most = (let size = length-reverse d.journal in let n = legal_length d.charter (history d) kept.legal o in omega (arith, size, n))

    by_size : (length d.journal < d.charter.jobs) ⊎ (d.charter.jobs ≤ length d.journal) → length d.journal ≡ d.charter.jobs
    by_size (inl less) = absurd (let entry = whole (length d.journal) less in no_entry d.journal entry.0 o entry.1)
    by_size (inr enough) = omega (arith, most, enough)

-- a desk that was opened on these contents, and then decided every job in order
pub decided : (contents : Contents) (limit : ℕ) (a d : Desk) → a.charter ≡ charter_of contents limit → d.charter ≡ a.charter → HasEveryJob d → IsInOrder (history d) → IsKept d → IsDecided contents limit d
decided contents limit a d opened same whole in_order kept = record {
  charter = same ∙ opened;
  kept = kept;
  in_order = in_order;
  whole = as_many d kept in_order whole ∙ ap (λ (c : Charter). c.jobs) (same ∙ opened);
}

-- what never changes of a desk that is opened on these contents with jobs of a seed
abbrev pub seeded_charter : Contents → ℕ → ℕ → ℕ → Charter
seeded_charter contents limit seed jobs = record { opening = contents.store; terms = contents.terms; limit = limit; source = Seeded seed; jobs = jobs }

-- a desk that was opened so, and then got an entry for each job
pub mined : (contents : Contents) (limit seed jobs workers : ℕ) (a d : Desk) → a.charter ≡ seeded_charter contents limit seed jobs → a.journal ≡ [] → d.charter ≡ a.charter → IsKept d → HasEveryJob d
    → (workers ≡ 1 → a.journal ≡ [] → IsInOrder (history d)) → IsMined contents limit seed jobs workers d
mined contents limit seed jobs workers a d opened new same kept whole in_order = record {
  charter = same ∙ opened;
  kept = kept;
  whole = whole;
  in_order = λ one. in_order one new;
}
