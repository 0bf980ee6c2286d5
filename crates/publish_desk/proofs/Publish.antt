-- A dossier that is published keeps what holds of a desk.
use Rattle.std.proofs.Common.{ℕ, ◌+◌, ◌<◌, ◌≤◌, ◌≡◌, ◌≢◌, refl, sym, ap, subst, ◌∙◌, arith, List, [], ◌∷◌, ◌++◌, length, eqb, true, cond, Bool}
use Rattle.std.specs.Prelude.{reverse}
use Rattle.std.specs.declared.option.Option.{Option}
use Rattle.std.specs.declared.option.Option.TheVariants.{Some, None}
use Rattle.std.proofs.lemmas.List.{length-reverse}
use Rattle.program_store.specs.declared.published.Proposal.{Proposal}
use Rattle.program_store.specs.Store.{Store}
use Rattle.seq_calls.specs.Demand.{ample}
use Rattle.judge.specs.declared.answer.Answer.{Answer}
use Rattle.judge.specs.declared.answer.Answer.TheVariants.{Accepted, Unlisted, Cycle, WrongTerm, BrokenDependant, Costlier, NoGain}
use Rattle.judge.specs.Passed.{Terms}
use Rattle.judge.specs.Sound.{Sound}
use Rattle.judge.specs.Judged.{IsJudged}
use Rattle.judge.specs.Kept.{HasEight}
use Rattle.judge.proofs.Keep.{keep}
use Rattle.judge.proofs.Rows.{eight_terms}
use Rattle.judge.proofs.Fresh.{within_ample}
use Rattle.evidence.specs.declared.finding.Finding.{Finding}
use Rattle.evidence.specs.declared.finding.Finding.TheVariants.{Nothing, Judged}
use Rattle.evidence.specs.Findings.{accepted_count, IsTrueFinding}
use Rattle.evidence.specs.Dossiers.{Dossier}
use Rattle.publish_desk.specs.declared.entry.Entry.{Entry}
use Rattle.publish_desk.specs.declared.charter.Charter.{Charter}
use Rattle.publish_desk.specs.History.{put_accepted, store_after, rise_of, rise, replay, version_of, store_at, IsLegalAfter, IsLegal, NoLoss, IfAccepted, EntryLosesNothing, IsMissing}
use Rattle.publish_desk.specs.Desk.{Desk, origin_of, terms_of, history, decided, IsFitting, IsKept, IsChartered}
use Rattle.publish_desk.proofs.Room.{room}
use Rattle.publish_desk.proofs.Lists.{reverse_push, all_reverse}

small_rise : (o : Option ℕ) → rise_of o ≤ 1
small_rise None = omega arith
small_rise (Some k) = omega arith

pub rise_small : (f : Finding) → rise f ≤ 1
rise_small Nothing = omega arith
rise_small (Judged p a) = small_rise (accepted_count a)

-- at most every entry was accepted
version_small : (h : List Entry) → version_of h ≤ length h
version_small [] = omega arith
version_small (e ∷ h) = let a = version_small h in let b = rise_small e.finding in omega (arith, a, b)

pub version_bound : (d : Desk) → IsKept d → d.version ≤ length d.journal
version_bound d h =
    let a = version_small (history d) in
    let b : length (history d) ≡ length d.journal = length-reverse d.journal in
    let c = h.version in
    omega (arith, a, b, c)

same_test : (n : ℕ) → eqb n n ≡ true
same_test n = grind arith

-- the store at the present version is the present one
pub store_now : (opening : Store) (h : List Entry) → store_at opening h (version_of h) ≡ replay opening h
store_now opening [] = refl
store_now opening (e ∷ h) =
    let v = version_of (e ∷ h) in
    ap (λ (b : Bool). cond b (replay opening (e ∷ h)) (store_at opening h v)) (same_test v)

-- ---- the next store

Next : Terms → ℕ → Store → Proposal → Option ℕ → Type 0
Next terms limit s p o = Sound (put_accepted s p o) terms limit × IfAccepted limit s p o

judged_next : (terms : Terms) (limit : ℕ) (s : Store) (p : Proposal) (a : Answer) → limit ≤ ample → HasEight terms → Sound s terms limit
    → IsJudged s terms limit p.name p.program a → Next terms limit s p (accepted_count a)
unfolding Next
judged_next terms limit s p (Accepted checked) fits eight sound h = keep s terms limit p.name p.program checked fits eight sound h
judged_next terms limit s p Unlisted fits eight sound h = (sound, tt)
judged_next terms limit s p (Cycle through) fits eight sound h = (sound, tt)
judged_next terms limit s p (WrongTerm index g) fits eight sound h = (sound, tt)
judged_next terms limit s p (BrokenDependant at caller index was now) fits eight sound h = (sound, tt)
judged_next terms limit s p (Costlier at was now) fits eight sound h = (sound, tt)
judged_next terms limit s p NoGain fits eight sound h = (sound, tt)

finding_next : (terms : Terms) (limit : ℕ) (s : Store) (f : Finding) → limit ≤ ample → HasEight terms → Sound s terms limit
    → IsTrueFinding s terms limit f → Sound (store_after f s) terms limit × EntryLosesNothing limit s f
unfolding Next
finding_next terms limit s Nothing fits eight sound h = (sound, tt)
finding_next terms limit s (Judged p a) fits eight sound h = judged_next terms limit s p a fits eight sound h

-- ---- the next desk

Legal : Charter → List Entry → Type 0
Legal c h = IsLegal c.opening (terms_of c) c.limit (origin_of c) c.jobs h

Lossless : Charter → List Entry → Type 0
Lossless c h = NoLoss c.opening c.limit h

-- what holds of a desk holds after a dossier that saw its present version
pub kept_next : (d : Desk) (f : Dossier) → IsKept d → IsChartered d.charter → IsFitting d f → IsMissing d.journal f.job → f.snapshot.version ≡ d.version → IsKept (decided d f)
unfolding Legal Lossless
kept_next d f kept chartered fitting missing seen =
    let e : Entry = record { job = f.job; base = f.base; finding = f.finding } in
    let c = d.charter in
    let h = history d in
    let pushed : reverse (d.journal ++ e ∷ []) ≡ e ∷ h = reverse_push d.journal e in
    let now : f.snapshot.store ≡ d.store = fitting.store ∙ ap (store_at c.opening h) (seen ∙ kept.version) ∙ store_now c.opening h ∙ sym kept.store in
    let true_here : IsTrueFinding d.store (terms_of c) c.limit f.finding = subst (λ (s : Store). IsTrueFinding s (terms_of c) c.limit f.finding) now fitting.finding in
    let next = finding_next (terms_of c) c.limit d.store f.finding (within_ample c.limit (let l = chartered.limit in omega (arith, l))) (eight_terms c.terms chartered.table) kept.sound true_here in
    let legal : IsLegalAfter c.opening (terms_of c) c.limit (origin_of c) c.jobs h e = record {
      listed = fitting.listed;
      once = all_reverse (λ (g : Entry). g.job ≢ f.job) d.journal missing;
      base = (let b = fitting.base in let s = seen in let v = kept.version in omega (arith, b, s, v));
      proposed = fitting.proposed;
      finding = subst (λ (s : Store). IsTrueFinding s (terms_of c) c.limit f.finding) kept.store true_here;
    } in
    record {
      store = ap (store_after f.finding) kept.store ∙ sym (ap (replay c.opening) pushed);
      version = ap (λ (n : ℕ). n + rise f.finding) kept.version ∙ sym (ap version_of pushed);
      legal = subst (Legal c) (sym pushed) (kept.legal, legal);
      sound = next.0;
      no_loss = subst (Lossless c) (sym pushed) (kept.no_loss, subst (λ (s : Store). EntryLosesNothing c.limit s f.finding) kept.store next.1);
    }

-- there is room for its entry
pub room_for : (d : Desk) (job : ℕ) → IsKept d → job < d.charter.jobs → IsMissing d.journal job → length d.journal < d.charter.jobs
room_for d job kept lt missing =
    let few = room d.charter.opening (terms_of d.charter) d.charter.limit (origin_of d.charter) d.charter.jobs (history d) job kept.legal lt (all_reverse (λ (e : Entry). e.job ≢ job) d.journal missing) in
    let size : length (history d) ≡ length d.journal = length-reverse d.journal in
    omega (arith, few, size)

-- the same, with the parts as the code has them
pub kept_with : (c : Charter) (old_journal : List Entry) (old_version : ℕ) (old_store : Store) (f : Dossier) (journal : List Entry) (version : ℕ) (store : Store)
    → journal ≡ old_journal ++ record { job = f.job; base = f.base; finding = f.finding } ∷ [] → version ≡ old_version + rise f.finding → store ≡ store_after f.finding old_store
    → IsKept (decided (record { charter = c; journal = old_journal; version = old_version; store = old_store }) f) → IsKept (record { charter = c; journal = journal; version = version; store = store })
kept_with c old_journal old_version old_store f journal version store ej ev es h =
    let e : Entry = record { job = f.job; base = f.base; finding = f.finding } in
    subst (λ (j : List Entry). IsKept (record { charter = c; journal = j; version = version; store = store })) (sym ej)
    (subst (λ (n : ℕ). IsKept (record { charter = c; journal = old_journal ++ e ∷ []; version = n; store = store })) (sym ev)
    (subst (λ (s : Store). IsKept (record { charter = c; journal = old_journal ++ e ∷ []; version = old_version + rise f.finding; store = s })) (sym es) h))
