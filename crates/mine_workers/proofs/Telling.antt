-- What a seat is told of the news of the desk that was found under the turn.
use Rattle.std.proofs.Common.{ℕ, ◌≤◌, ◌≡◌, sym, ap, subst, ◌∙◌, arith, List, Result, IfOk}
use Rattle.std.specs.Prelude.{reverse}
use mathlib.Core.List.{IsPrefix}
use Rattle.std.proofs.lemmas.Result.{IfOk-weaker}
use Rattle.program_store.specs.Store.{Store}
use Rattle.judge.specs.Sound.{Sound}
use Rattle.evidence.specs.Dossiers.{Snapshot}
use Rattle.publish_desk.specs.declared.charter.Charter.{Charter}
use Rattle.publish_desk.specs.declared.entry.Entry.{Entry}
use Rattle.publish_desk.specs.History.{version_of, changes_after}
use Rattle.publish_desk.specs.Desk.{Desk, history, terms_of, IsKept}
use Rattle.mine_workers.specs.declared.news.News.{News}
use Rattle.mine_workers.specs.Shared.{desk_of, snapshot_of}
use Rattle.mine_workers.proofs.Onward.{version_on, begins_on}
use Rattle.mine_workers.proofs.Found.{is_desk_of}

module _ {E : Type 0} (c : Charter) (d : Desk) (kept : IsKept d) (same : d.charter ≡ c) (r : Result News E) where
  pub snapshot_told : (seen : List Entry) → seen ≡ d.journal → IfOk r (λ n. n.snapshot ≡ snapshot_of d) → IfOk r (λ n. n.snapshot ≡ snapshot_of (desk_of c seen))
  snapshot_told seen now =
      IfOk-weaker r (λ n. n.snapshot ≡ snapshot_of d) (λ n. n.snapshot ≡ snapshot_of (desk_of c seen))
      (λ n h. h ∙ ap snapshot_of (is_desk_of c d kept same) ∙ ap (λ (l : List Entry). snapshot_of (desk_of c l)) (sym now))

  pub changes_told : (seen : List Entry) (v : ℕ) → seen ≡ d.journal → IfOk r (λ n. n.changes ≡ changes_after v (history d)) → IfOk r (λ n. n.changes ≡ changes_after v (reverse seen))
  changes_told seen v now =
      IfOk-weaker r (λ n. n.changes ≡ changes_after v (history d)) (λ n. n.changes ≡ changes_after v (reverse seen))
      (λ n h. h ∙ ap (λ (l : List Entry). changes_after v (reverse l)) (sym now))

  pub sound_told : IfOk r (λ n. n.snapshot ≡ snapshot_of d) → IfOk r (λ n. Sound n.snapshot.store (terms_of c) c.limit)
  sound_told =
      let sound : Sound d.store (terms_of c) c.limit = subst (λ (x : Charter). Sound d.store (terms_of x) x.limit) same kept.sound in
      IfOk-weaker r (λ n. n.snapshot ≡ snapshot_of d) (λ n. Sound n.snapshot.store (terms_of c) c.limit)
      (λ n h. subst (λ (x : Store). Sound x (terms_of c) c.limit) (sym (ap (λ (x : Snapshot). x.store) h)) sound)

-- its version is no less than that of any journal that the seat had seen
pub grown_told : {E : Type 0} (d : Desk) (kept : IsKept d) (r : Result News E) (old : List Entry) → IsPrefix old d.journal
    → IfOk r (λ n. n.snapshot ≡ snapshot_of d) → IfOk r (λ n. (earlier : List Entry) → IsPrefix earlier old → version_of (reverse earlier) ≤ n.snapshot.version)
grown_told d kept r old begins =
    IfOk-weaker r (λ n. n.snapshot ≡ snapshot_of d) (λ n. (earlier : List Entry) → IsPrefix earlier old → version_of (reverse earlier) ≤ n.snapshot.version) shows
  where
    shows : (n : News) → n.snapshot ≡ snapshot_of d → (earlier : List Entry) → IsPrefix earlier old → version_of (reverse earlier) ≤ n.snapshot.version
    shows n h earlier p =
        let more = version_on earlier d.journal (begins_on earlier old d.journal p begins) in
        let version : n.snapshot.version ≡ d.version = ap (λ (x : Snapshot). x.version) h in
        let present = kept.version in
        omega (arith, more, version, present)
