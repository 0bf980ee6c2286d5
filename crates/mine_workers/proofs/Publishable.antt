-- What a worker is told after Again is what carrying asks, and a dossier that was carried, or was gathered anew, may be published.
use Rattle.std.proofs.Common.{ℕ, ◌<◌, ◌≤◌, ◌≡◌, sym, ap, subst, ◌∙◌, arith, List}
use Rattle.std.specs.Prelude.{reverse}
use mathlib.Core.List.{IsPrefix}
use Rattle.program_store.specs.Store.{Store}
use Rattle.oeis_terms.specs.Table.{row_of}
use Rattle.turnstile.specs.declared.known.Known.{Known}
use Rattle.judge.specs.Sound.{Sound}
use Rattle.judge.proofs.Fresh.{within_ample}
use Rattle.evidence.specs.declared.change.Change.{Change}
use Rattle.evidence.specs.Dossiers.{Dossier, Snapshot, moved_to}
use Rattle.evidence.specs.Findings.{IsTrueFinding}
use Rattle.carry_over.specs.Stores.{ComesBy}
use Rattle.carry_over.specs.Changed.{changed_names}
use Rattle.carry_over.specs.Carrying.{AreFitting, IsMoved, IsCarried}
use Rattle.carry_over.specs.declared.carrying.Carried.{Carried}
use Rattle.carry_over.specs.declared.carrying.Carried.TheVariants.{Moved, Touched}
use Rattle.publish_desk.specs.declared.charter.Charter.{Charter}
use Rattle.publish_desk.specs.declared.entry.Entry.{Entry}
use Rattle.publish_desk.specs.declared.verdict.Verdict.{Verdict}
use Rattle.publish_desk.specs.declared.verdict.Verdict.TheVariants.{Again}
use Rattle.publish_desk.specs.History.{replay, version_of, store_at, changes_after, proposal_of}
use Rattle.publish_desk.specs.Desk.{terms_of, origin_of, IsFitting, IsChartered, IsAgain, IsVerdict}
use Rattle.publish_desk.proofs.Publish.{store_now}
use Rattle.mine_workers.specs.JobSources.{JobSource, job_source_of}
use Rattle.mine_workers.specs.Shared.{desk_of, snapshot_of, IsLegalFor, Published}
use Rattle.mine_workers.specs.Publishable.{IsPublishable, IfMoved}
use Rattle.mine_workers.proofs.Onward.{fits_on}
use Rattle.mine_workers.proofs.Gathered.{fits_gathered}
use Rattle.mine_workers.proofs.Leading.{changes_lead}

-- after more entries
pub publishable_on : (c : Charter) (seen found : List Entry) (d : Dossier) → IsPrefix seen found → IsPublishable c seen d → IsPublishable c found d
publishable_on c seen found d p r = record { fitting = fits_on c seen found d p r.fitting; sound = r.sound }

-- what came back with Again may be published on the journal that was found
pub again_publishable : (c : Charter) (k k' : Known Entry) (d : Dossier) (v : Verdict) → Published c k d v k' → (version first name : ℕ) (back : Dossier)
    → v ≡ Again version first name back → IsPublishable c k.seen d → IsPublishable c k'.seen back
again_publishable c k k' d v p version first name back is r =
    let verdict : IsAgain (desk_of c p.found) (desk_of c k'.seen) d version first name back
    = subst (λ (x : Verdict). IsVerdict (desk_of c p.found) (desk_of c k'.seen) d x) is p.verdict in
    subst (λ (x : Dossier). IsPublishable c k'.seen x) (sym verdict.same) (publishable_on c k.seen k'.seen d p.grown r)

-- its job is the same
pub again_job : (c : Charter) (k k' : Known Entry) (d : Dossier) (v : Verdict) → Published c k d v k' → (version first name : ℕ) (back : Dossier)
    → v ≡ Again version first name back → back.job ≡ d.job
again_job c k k' d v p version first name back is =
    let verdict : IsAgain (desk_of c p.found) (desk_of c k'.seen) d version first name back
    = subst (λ (x : Verdict). IsVerdict (desk_of c p.found) (desk_of c k'.seen) d x) is p.verdict in
    ap (λ (x : Dossier). x.job) verdict.same

module _ (c : Charter) (seen : List Entry) (s : Snapshot) (shows : s ≡ snapshot_of (desk_of c seen)) (sound : Sound s.store (terms_of c) c.limit) where
  store_is : s.store ≡ replay c.opening (reverse seen)
  store_is = ap (λ (x : Snapshot). x.store) shows

  version_is : s.version ≡ version_of (reverse seen)
  version_is = ap (λ (x : Snapshot). x.version) shows

  -- what was gathered for it
  pub gathered_publishable : (source : JobSource) (job : ℕ) (d : Dossier) → source ≡ job_source_of c → job < c.jobs → d.job ≡ job → d.snapshot ≡ s → d.base ≡ s.version
      → IsTrueFinding s.store (row_of source.terms) source.limit d.finding
      → origin_of (record c { terms = source.terms; limit = source.limit; source = source.source }) job s.store (proposal_of d.finding)
      → IsPublishable c seen d
  gathered_publishable source job d is below same snapshot base found proposed = record {
    fitting = fits_gathered c seen source s job d is shows below same snapshot base found proposed;
    sound = subst (λ (x : Snapshot). Sound x.store (terms_of c) c.limit) (sym snapshot) sound;
  }

  module _ (d : Dossier) (r : IsPublishable c seen d) (changes : List Change) where
    -- what carrying asks
    pub fitting_here : IsChartered c → IsLegalFor c seen → changes ≡ changes_after d.snapshot.version (reverse seen) → AreFitting (terms_of c) c.limit d.snapshot.store s.store changes d.finding
    fitting_here chartered legal told = record {
      successor = record { fits = within_ample c.limit (let l = chartered.limit in omega (arith, l)); was_sound = r.sound; comes = comes; sound = sound };
      finding = r.fitting.finding;
    }
      where
        older : Store
        older = store_at c.opening (reverse seen) d.snapshot.version

        leads : ComesBy (terms_of c) c.limit older (changed_names (changes_after d.snapshot.version (reverse seen))) (replay c.opening (reverse seen))
        leads = changes_lead c.opening (terms_of c) c.limit (origin_of c) c.jobs d.snapshot.version (reverse seen) legal r.fitting.seen

        comes : ComesBy (terms_of c) c.limit d.snapshot.store (changed_names changes) s.store
        comes =
            subst (λ (x : Store). ComesBy (terms_of c) c.limit x (changed_names changes) s.store) (sym r.fitting.store)
            (subst (λ (x : Store). ComesBy (terms_of c) c.limit older (changed_names changes) x) (sym store_is)
            (subst (λ (l : List Change). ComesBy (terms_of c) c.limit older (changed_names l) (replay c.opening (reverse seen))) (sym told) leads))

    -- what was carried to it
    moved_publishable : (moved : Dossier) → AreFitting (terms_of c) c.limit d.snapshot.store s.store changes d.finding → IsMoved d s changes moved → IsPublishable c seen moved
    moved_publishable moved fits m = subst (λ (x : Dossier). IsPublishable c seen x) (sym m.same) (record { fitting = there; sound = sound })
      where
        found : IsTrueFinding s.store (terms_of c) c.limit d.finding
        found = subst (λ (x : Dossier). IsTrueFinding s.store (terms_of c) c.limit x.finding) m.same (m.finding (terms_of c) c.limit fits)

        there : IsFitting (desk_of c seen) (moved_to d s)
        there = record {
          listed = r.fitting.listed;
          base = (let b = r.fitting.base in let n = r.fitting.seen in let v = version_is in omega (arith, b, n, v));
          seen = (let v = version_is in omega (arith, v));
          store = store_is ∙ sym (ap (store_at c.opening (reverse seen)) version_is ∙ store_now c.opening (reverse seen));
          finding = found;
          proposed = r.fitting.proposed;
        }

    pub carried_publishable : (r2 : Carried) → AreFitting (terms_of c) c.limit d.snapshot.store s.store changes d.finding → IsCarried d s changes r2 → IfMoved (IsPublishable c seen) r2
    carried_publishable (Moved moved) fits h = moved_publishable moved fits h
    carried_publishable (Touched at name back) fits h = tt
