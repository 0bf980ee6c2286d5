-- What a seat knows after a look and after a publish, over the desk that was found under the turn.
use Rattle.std.proofs.Common.{ℕ, ◌+◌, ◌<◌, ◌≤◌, ◌≡◌, refl, sym, ap, subst, ◌∙◌, arith, List, [], ◌∷◌, ◌++◌, length, Bool, false, inl, inr, ⊎_elim, append-nil, Result, Ok, Err, IfOk}
use Rattle.std.specs.Prelude.{reverse}
use mathlib.Core.List.{IsPrefix}
use Rattle.program_store.specs.Store.{Store}
use Rattle.turnstile.specs.declared.known.Known.{Known}
use Rattle.turnstile.specs.Seats.{TurnstileView, SeatView, Belongs, newcomer, turning, Taking, Giving, IsGiven}
use Rattle.judge.specs.Sound.{Sound}
use Rattle.evidence.specs.Dossiers.{Dossier, Snapshot}
use Rattle.publish_desk.specs.declared.charter.Charter.{Charter}
use Rattle.publish_desk.specs.declared.entry.Entry.{Entry}
use Rattle.publish_desk.specs.declared.verdict.Verdict.{Verdict}
use Rattle.publish_desk.specs.declared.verdict.Verdict.TheVariants.{Decided, Again, AlreadyDone}
use Rattle.publish_desk.specs.History.{version_of}
use Rattle.publish_desk.specs.Desk.{Desk, history, terms_of, IsKept, IsVerdict}
use Rattle.publish_desk.proofs.Publish.{version_bound, room_for}
use Rattle.mine_workers.specs.Shared.{desk_of, snapshot_of, entry_of, added_after, IsLegalFor, IsSeatOf, Looked, Published, IsAgainBounded}
use Rattle.mine_workers.proofs.Onward.{version_on, begins_on}

-- a desk is that of its charter and its journal
pub is_desk_of : (c : Charter) (d : Desk) → IsKept d → d.charter ≡ c → d ≡ desk_of c d.journal
is_desk_of c d kept e =
    let second : record { charter = d.charter; journal = d.journal; version = version_of (history d); store = d.store } ≡ desk_of d.charter d.journal
    = ap (λ (s : Store). record { charter = d.charter; journal = d.journal; version = version_of (history d); store = s }) kept.store in
    ap (λ (v : ℕ). record { charter = d.charter; journal = d.journal; version = v; store = d.store }) kept.version ∙ second ∙ ap (λ (x : Charter). desk_of x d.journal) e

pub legal_for : (c : Charter) (d : Desk) → IsKept d → d.charter ≡ c → IsLegalFor c d.journal
legal_for c d kept e = subst (λ (x : Charter). IsLegalFor x d.journal) e kept.legal

-- a seat that has seen the whole journal is one of the store's
pub new_seat : (store : TurnstileView Charter) (d : Desk) → IsKept d → store.fixed ≡ d.charter → (s : SeatView Entry Charter)
    → Belongs store s × (s.known ≡ newcomer d.journal) → IsSeatOf store s × (s.known ≡ newcomer d.journal)
new_seat store d kept fixed s h =
    ((h.0, subst (λ (l : List Entry). IsLegalFor store.fixed l) (sym (ap (λ (k : Known Entry). k.seen) h.1)) (legal_for store.fixed d kept (sym fixed))), h.1)

-- ---- a look

pub looked : (k k1 k2 : Known Entry) (journal : List Entry) → k.turn ≡ false → IsPrefix k.seen journal → k.told ≤ length journal
    → Taking journal k k1 → Giving journal k1 k2 → Looked k k2 × (k2.seen ≡ journal) × (k2.turn ≡ false)
looked k k1 k2 journal idle begins told taking giving =
    let q : Known Entry = record (turning journal k) { fails = k1.fails } in
    let given : Giving journal q k2 = subst (λ (x : Known Entry). Giving journal x k2) taking.1 giving in
    let now : Known Entry = record k { seen = journal; fails = k1.fails } in
    let is : k2 ≡ now = given.0 refl ∙ ap (λ (b : Bool). record now { turn = b }) (sym idle) in
    let shows : Looked k now × (now.seen ≡ journal) × (now.turn ≡ false) = (record { begins = begins; told = told; fails = taking.0; same = refl }, refl, idle) in
    subst (λ (x : Known Entry). Looked k x × (x.seen ≡ journal) × (x.turn ≡ false)) (sym is) shows

-- what a snapshot of a desk shows, where there is one
if_ok : {X E : Type 0} {P Q : X → Type 0} (r : Result X E) → ((x : X) → P x → Q x) → IfOk r P → IfOk r Q
if_ok (Ok x) f h = f x h
if_ok (Err e) f h = tt

pub shown : {E : Type 0} (c : Charter) (d : Desk) (seen : List Entry) (r : Result Snapshot E) → IsKept d → d.charter ≡ c → seen ≡ d.journal
    → IfOk r (λ s. s ≡ snapshot_of d) → IfOk r (λ s. s ≡ snapshot_of (desk_of c seen))
shown c d seen r kept e same =
    if_ok r (λ s h. h ∙ ap snapshot_of (is_desk_of c d kept e) ∙ ap (λ (l : List Entry). snapshot_of (desk_of c l)) (sym same))

pub sound_shown : {E : Type 0} (c : Charter) (d : Desk) (r : Result Snapshot E) → IsKept d → d.charter ≡ c
    → IfOk r (λ s. s ≡ snapshot_of d) → IfOk r (λ s. Sound s.store (terms_of c) c.limit)
sound_shown c d r kept e =
    let sound : Sound d.store (terms_of c) c.limit = subst (λ (x : Charter). Sound d.store (terms_of x) x.limit) e kept.sound in
    if_ok r (λ s h. subst (λ (x : Store). Sound x (terms_of c) c.limit) (sym (ap (λ (x : Snapshot). x.store) h)) sound)

pub grown : {E : Type 0} (d : Desk) (old : List Entry) (r : Result Snapshot E) → IsKept d → IsPrefix old d.journal
    → IfOk r (λ s. s ≡ snapshot_of d) → IfOk r (λ s. (earlier : List Entry) → IsPrefix earlier old → version_of (reverse earlier) ≤ s.version)
grown d old r kept begins = if_ok r shows
  where
    shows : (s : Snapshot) → s ≡ snapshot_of d → (earlier : List Entry) → IsPrefix earlier old → version_of (reverse earlier) ≤ s.version
    shows s h earlier p =
        let more = version_on earlier d.journal (begins_on earlier old d.journal p begins) in
        let version : s.version ≡ d.version = ap (λ (x : Snapshot). x.version) h in
        let present = kept.version in
        omega (arith, more, version, present)

-- ---- a publish

pub same_charter : (old new : Desk) (d : Dossier) (v : Verdict) → IsVerdict old new d v → new.charter ≡ old.charter
same_charter old new d (Decided at) h = ap (λ (x : Desk). x.charter) h.next
same_charter old new d (Again version first name back) h = ap (λ (x : Desk). x.charter) h.unchanged
same_charter old new d (AlreadyDone at back) h = ap (λ (x : Desk). x.charter) h.unchanged

-- at most one entry is new
pub is_given : (old new : Desk) (d : Dossier) (v : Verdict) → IsVerdict old new d v → IsGiven old.journal new.journal
is_given old new d (Decided at) h = inr (entry_of d, ap (λ (x : Desk). x.journal) h.next)
is_given old new d (Again version first name back) h = inl (ap (λ (x : Desk). x.journal) h.unchanged)
is_given old new d (AlreadyDone at back) h = inl (ap (λ (x : Desk). x.journal) h.unchanged)

goes_on : (xs ys : List Entry) → IsGiven xs ys → IsPrefix xs ys
goes_on xs ys h = ⊎_elim (λ (e : ys ≡ xs). ([], append-nil xs ∙ sym e)) (λ (e : (x : Entry) × (ys ≡ xs ++ x ∷ [])). (e.0 ∷ [], sym e.1)) h

-- what the seat knows then
settled : Known Entry → ℕ → List Entry → Dossier → Verdict → Known Entry
settled k fails journal d v = record k { seen = journal; added = added_after k.added d v; fails = fails }

settles : (k k2 : Known Entry) (fails : ℕ) (old new : Desk) (d : Dossier) (v : Verdict) → k.turn ≡ false → IsVerdict old new d v
    → Giving new.journal (record (turning old.journal k) { fails = fails }) k2 → k2 ≡ settled k fails new.journal d v
unfolding settled
settles k k2 fails old new d (Decided at) idle h giving =
    let e : Entry = entry_of d in
    let pushed : new.journal ≡ old.journal ++ e ∷ [] = ap (λ (x : Desk). x.journal) h.next in
    let F : List Entry → ℕ → Bool → Known Entry = λ s p b. record k { seen = s; added = k.added ++ (p, e) ∷ []; turn = b; fails = fails } in
    giving.1 e pushed
    ∙ ap (λ (s : List Entry). F s (length old.journal) false) (sym pushed)
    ∙ ap (λ (p : ℕ). F new.journal p false) (sym h.place)
    ∙ ap (λ (b : Bool). F new.journal at b) (sym idle)
settles k k2 fails old new d (Again version first name back) idle h giving =
    let same : new.journal ≡ old.journal = ap (λ (x : Desk). x.journal) h.unchanged in
    let F : List Entry → Bool → Known Entry = λ s b. record k { seen = s; turn = b; fails = fails } in
    giving.0 same ∙ ap (λ (s : List Entry). F s false) (sym same) ∙ ap (λ (b : Bool). F new.journal b) (sym idle)
settles k k2 fails old new d (AlreadyDone at back) idle h giving =
    let same : new.journal ≡ old.journal = ap (λ (x : Desk). x.journal) h.unchanged in
    let F : List Entry → Bool → Known Entry = λ s b. record k { seen = s; turn = b; fails = fails } in
    giving.0 same ∙ ap (λ (s : List Entry). F s false) (sym same) ∙ ap (λ (b : Bool). F new.journal b) (sym idle)

pub published : (c : Charter) (k k1 k2 : Known Entry) (old new : Desk) (d : Dossier) (v : Verdict) → k.turn ≡ false
    → IsKept old → IsKept new → old.charter ≡ c → IsPrefix k.seen old.journal → k.told ≤ length old.journal
    → Taking old.journal k k1 → IsVerdict old new d v → Giving new.journal k1 k2
    → Published c k d v k2 × (k2.seen ≡ new.journal) × (k2.turn ≡ false)
unfolding settled
published c k k1 k2 old new d v idle kept kept' e begins told taking h giving =
    let given : Giving new.journal (record (turning old.journal k) { fails = k1.fails }) k2 = subst (λ (x : Known Entry). Giving new.journal x k2) taking.1 giving in
    let is : k2 ≡ settled k k1.fails new.journal d v = settles k k2 k1.fails old new d v idle h given in
    let was : old ≡ desk_of c old.journal = is_desk_of c old kept e in
    let now : new ≡ desk_of c new.journal = is_desk_of c new kept' (same_charter old new d v h ∙ e) in
    let verdict : IsVerdict (desk_of c old.journal) (desk_of c new.journal) d v
    = subst (λ (x : Desk). IsVerdict x (desk_of c new.journal) d v) was (subst (λ (y : Desk). IsVerdict old y d v) now h) in
    let grown : IsPrefix k.seen new.journal = begins_on k.seen old.journal new.journal begins (goes_on old.journal new.journal (is_given old new d v h)) in
    let shows : Published c k d v (settled k k1.fails new.journal d v)
    = record { found = old.journal; kept = subst IsKept was kept; begins = begins; told = told; grown = grown; verdict = verdict; added = refl; fails = taking.0; same = refl } in
    subst (λ (x : Known Entry). Published c k d v x × (x.seen ≡ new.journal) × (x.turn ≡ false)) (sym is) (shows, refl, idle)

-- the version that Again shows
pub again_bounded : (c : Charter) (old new : Desk) (d : Dossier) (v : Verdict) (seen : List Entry) → IsKept old → old.charter ≡ c → d.job < c.jobs
    → IsVerdict old new d v → seen ≡ new.journal → IsAgainBounded c d seen v
again_bounded c old new d (Decided at) seen kept e listed h s = tt
again_bounded c old new d (Again version first name back) seen kept e listed h s =
    let same : old.charter.jobs ≡ c.jobs = ap (λ (x : Charter). x.jobs) e in
    let room = room_for old d.job kept (omega (arith, listed, same)) h.missing in
    let few = version_bound old kept in
    let newer = h.newer in
    let present = h.present in
    let journal : seen ≡ old.journal = s ∙ ap (λ (x : Desk). x.journal) h.unchanged in
    (omega (arith, newer, present), omega (arith, present, few, room, same), present ∙ kept.version ∙ sym (ap (λ (l : List Entry). version_of (reverse l)) journal))
again_bounded c old new d (AlreadyDone at back) seen kept e listed h s = tt

-- ---- one desk after another

pub begins_after : {E : Type 0} (first second : List Entry) (r : Result Desk E) → IsPrefix first second → IfOk r (λ d. IsPrefix second d.journal) → IfOk r (λ d. IsPrefix first d.journal)
begins_after first second r p = if_ok r (λ d q. begins_on first second d.journal p q)
