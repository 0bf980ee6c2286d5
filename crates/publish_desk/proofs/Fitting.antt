-- Which dossiers fit a desk: those of its present store, and those that fitted it before.
use Rattle.std.proofs.Common.{ℕ, ◌<◌, ◌≤◌, ◌≡◌, refl, sym, ap, subst, ◌∙◌, arith, List, ◌∷◌, Bool, true, false, eqb, cond}
use Rattle.std.specs.declared.option.Option.{Option}
use Rattle.std.specs.declared.option.Option.TheVariants.{Some, None}
use Rattle.program_store.specs.declared.published.Proposal.{Proposal}
use Rattle.program_store.specs.Store.{Store}
use Rattle.evidence.specs.declared.finding.Finding.{Finding}
use Rattle.evidence.specs.declared.finding.Finding.TheVariants.{Nothing, Judged}
use Rattle.evidence.specs.Dossiers.{Dossier}
use Rattle.evidence.specs.Findings.{accepted_count, IsTrueFinding}
use Rattle.publish_desk.specs.declared.entry.Entry.{Entry}
use Rattle.publish_desk.specs.History.{put_accepted, store_after, rise_of, rise, replay, version_of, store_at, proposal_of}
use Rattle.publish_desk.specs.Desk.{Desk, origin_of, terms_of, history, store_then, decided, IsFitting, IsVerdict, IsKept}
use Rattle.publish_desk.specs.declared.verdict.Verdict.{Verdict}
use Rattle.publish_desk.specs.declared.verdict.Verdict.TheVariants.{Decided, Again, AlreadyDone}
use Rattle.publish_desk.proofs.Lists.{reverse_push}
use Rattle.publish_desk.proofs.Publish.{store_now}

-- the store that it has now is the one at its version
pub present : (d : Desk) (v : ℕ) → IsKept d → v ≡ d.version → store_then d v ≡ d.store
present d v kept e = ap (store_at d.charter.opening (history d)) (e ∙ kept.version) ∙ store_now d.charter.opening (history d) ∙ sym kept.store

-- what was found in the present store fits
pub fits_now : (d : Desk) (f : Dossier) → IsKept d → f.job < d.charter.jobs → f.base ≡ d.version → f.snapshot.version ≡ d.version → f.snapshot.store ≡ d.store
    → IsTrueFinding d.store (terms_of d.charter) d.charter.limit f.finding → origin_of d.charter f.job d.store (proposal_of f.finding) → IsFitting d f
fits_now d f kept listed base seen store found proposed = record {
  listed = listed;
  base = omega (arith, base, seen);
  seen = omega (arith, seen);
  store = store ∙ sym (present d f.snapshot.version kept seen);
  finding = subst (λ (s : Store). IsTrueFinding s (terms_of d.charter) d.charter.limit f.finding) (sym store) found;
  proposed = subst (λ (s : Store). origin_of d.charter f.job s (proposal_of f.finding)) (sym (present d f.base kept base)) proposed;
}

-- ---- after other dossiers

unrisen_count : (s : Store) (p : Proposal) (o : Option ℕ) → rise_of o ≡ 0 → put_accepted s p o ≡ s
unrisen_count s p None e = refl
unrisen_count s p (Some c) e = absurd (omega (arith, e))

unrisen : (s : Store) (f : Finding) → rise f ≡ 0 → store_after f s ≡ s
unrisen s Nothing e = refl
unrisen s (Judged p a) e = unrisen_count s p (accepted_count a) e

same_if : (a b : ℕ) → eqb a b ≡ true → a ≡ b
same_if a b h = grind arith

-- an entry changes no store of an earlier version
pub earlier_store : (opening : Store) (h : List Entry) (e : Entry) (v : ℕ) → v ≤ version_of h → store_at opening (e ∷ h) v ≡ store_at opening h v
earlier_store opening h e v le = by_test (eqb (version_of (e ∷ h)) v) refl
  where
    by_test : (b : Bool) → eqb (version_of (e ∷ h)) v ≡ b → cond b (replay opening (e ∷ h)) (store_at opening h v) ≡ store_at opening h v
    by_test true t =
        let same : version_of (e ∷ h) ≡ v = same_if (version_of (e ∷ h)) v t in
        let none : rise e.finding ≡ 0 = omega (arith, same, le) in
        let here : v ≡ version_of h = omega (arith, same, none) in
        unrisen (replay opening h) e.finding none ∙ sym (ap (store_at opening h) here ∙ store_now opening h)
    by_test false t = refl

earlier : (d : Desk) (f : Dossier) (v : ℕ) → IsKept d → v ≤ d.version → store_then (decided d f) v ≡ store_then d v
earlier d f v kept le =
    let e : Entry = record { job = f.job; base = f.base; finding = f.finding } in
    ap (λ (h : List Entry). store_at d.charter.opening h v) (reverse_push d.journal e)
    ∙ earlier_store d.charter.opening (history d) e v (let k = kept.version in omega (arith, k, le))

-- a dossier that fits a desk fits it after another one was decided
pub fits_later : (d : Desk) (other f : Dossier) → IsKept d → IsFitting d f → IsFitting (decided d other) f
fits_later d other f kept fits = record {
  listed = fits.listed;
  base = fits.base;
  seen = (let s = fits.seen in omega (arith, s));
  store = fits.store ∙ sym (earlier d other f.snapshot.version kept fits.seen);
  finding = fits.finding;
  proposed = subst (λ (s : Store). origin_of d.charter f.job s (proposal_of f.finding)) (sym (earlier d other f.base kept (let b = fits.base in let s = fits.seen in omega (arith, b, s)))) fits.proposed;
}

-- whatever the verdict on another one is
pub fits_still : (old new : Desk) (other f : Dossier) (v : Verdict) → IsKept old → IsVerdict old new other v → IsFitting old f → IsFitting new f
fits_still old new other f (Decided at) kept h fits = subst (λ (d : Desk). IsFitting d f) (sym h.next) (fits_later old other f kept fits)
fits_still old new other f (Again version first name back) kept h fits = subst (λ (d : Desk). IsFitting d f) (sym h.unchanged) fits
fits_still old new other f (AlreadyDone at back) kept h fits = subst (λ (d : Desk). IsFitting d f) (sym h.unchanged) fits
