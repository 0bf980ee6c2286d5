use Rattle.std.proofs.Common.{ℕ, ◌-◌, ◌<◌, ◌≡◌, refl, sym, ap, subst, ◌∙◌, arith, get_or}
use Rattle.std.specs.Arc.{arc_value}
use Rattle.publish_desk.specs.declared.entry.Entry.{Entry}
use Rattle.publish_desk.specs.Source.{source_of}
use Rattle.publish_desk.specs.History.{MakesVersion, IsDoneAt, IsMissing, IsPlaceOf, Publishes}
use Rattle.publish_desk.specs.Desk.{Desk, IsFitting}
use Rattle.publish_desk.proofs.Places.{place_at, done_at, missing_at, mark_at, shown, same_name}
use Rattle.publish_desk.proofs.Whole.{entry_of}
use Rattle.publish_desk.proofs.desk.Desk.publish.Goals as goal

pub returns-then-place-gt0 : goal.returns-then-place-gt0
returns-then-place-gt0 c =
    let inside = c.self.inside in
    let inv = c.self.invariant in
    let f = c.args.dossier in
    let d : Desk = record { charter = record { opening = inside.opening.value; terms = arc_value inside.terms; limit = inside.limit; source = source_of inside.origin; jobs = inside.jobs }; journal = inside.journal.items; version = inside.version; store = inside.tables } in
    let fitting : IsFitting d f = subst (λ (e : Desk). IsFitting e f) (sym c.self.view_is) c.requires in
    let read : c.index-place.result.now ≡ get_or inside.places.items f.job c.index-place.result.now = c.index-place.ensures ∙ ap (λ (j : ℕ). get_or inside.places.items j c.index-place.result.now) c.job.ensures in
    let place : IsPlaceOf d.journal f.job c.index-place.result.now = place_at inside.jobs d.journal inside.places.items f.job c.index-place.result.now inv.2 fitting.listed read in
    let done : IsDoneAt d.journal f.job (c.index-place.result.now - 1) = done_at d.journal f.job c.index-place.result.now (c.index-place.result.now - 1) c.if-place-gt0.true (let t = c.if-place-gt0.true in omega (arith, t)) place in
    record { done = subst (λ (e : Desk). IsDoneAt e.journal f.job (c.index-place.result.now - 1)) c.self.view_is done; same = refl; unchanged = refl }

pub index-requires : goal.index-requires
index-requires c =
    let inside = c.self.inside in
    let inv = c.self.invariant in
    let f = c.args.dossier in
    let d : Desk = record { charter = record { opening = inside.opening.value; terms = arc_value inside.terms; limit = inside.limit; source = source_of inside.origin; jobs = inside.jobs }; journal = inside.journal.items; version = inside.version; store = inside.tables } in
    let fitting : IsFitting d f = subst (λ (e : Desk). IsFitting e f) (sym c.self.view_is) c.requires in
    let read : c.index-place.result.now ≡ get_or inside.places.items f.job c.index-place.result.now = c.index-place.ensures ∙ ap (λ (j : ℕ). get_or inside.places.items j c.index-place.result.now) c.job.ensures in
    let place : IsPlaceOf d.journal f.job c.index-place.result.now = place_at inside.jobs d.journal inside.places.items f.job c.index-place.result.now inv.2 fitting.listed read in
    let late : f.snapshot.version < d.version = (let t = c.if-seen-self.true in let e = c.seen-seen.ensures in omega (arith, t, e)) in
    let first : c.index-first.result.now ≡ get_or inside.marks.items f.snapshot.version c.index-first.result.now = c.index-first.ensures ∙ ap (λ (v : ℕ). get_or inside.marks.items v c.index-first.result.now) c.seen-seen.ensures in
    let made = mark_at d.version d.journal inside.marks.items f.snapshot.version c.index-first.result.now inv.3 late first in
    let s = (shown d.journal f.snapshot.version c.index-first.result.now made.0 (entry_of f) made.1).0 in
    omega (arith, s, inside.journal.ok.0)

pub name_of-name-requires : goal.name_of-name-requires
name_of-name-requires c =
    let inside = c.self.inside in
    let inv = c.self.invariant in
    let f = c.args.dossier in
    let d : Desk = record { charter = record { opening = inside.opening.value; terms = arc_value inside.terms; limit = inside.limit; source = source_of inside.origin; jobs = inside.jobs }; journal = inside.journal.items; version = inside.version; store = inside.tables } in
    let fitting : IsFitting d f = subst (λ (e : Desk). IsFitting e f) (sym c.self.view_is) c.requires in
    let read : c.index-place.result.now ≡ get_or inside.places.items f.job c.index-place.result.now = c.index-place.ensures ∙ ap (λ (j : ℕ). get_or inside.places.items j c.index-place.result.now) c.job.ensures in
    let place : IsPlaceOf d.journal f.job c.index-place.result.now = place_at inside.jobs d.journal inside.places.items f.job c.index-place.result.now inv.2 fitting.listed read in
    let late : f.snapshot.version < d.version = (let t = c.if-seen-self.true in let e = c.seen-seen.ensures in omega (arith, t, e)) in
    let first : c.index-first.result.now ≡ get_or inside.marks.items f.snapshot.version c.index-first.result.now = c.index-first.ensures ∙ ap (λ (v : ℕ). get_or inside.marks.items v c.index-first.result.now) c.seen-seen.ensures in
    let made = mark_at d.version d.journal inside.marks.items f.snapshot.version c.index-first.result.now inv.3 late first in
    let s = (shown d.journal f.snapshot.version c.index-first.result.now made.0 c.index.result.now made.1).1 in
    (made.0, subst (λ (e : Entry). Publishes e.finding made.0) (sym c.index.ensures) s)

pub returns-then-seen-self : goal.returns-then-seen-self
returns-then-seen-self c =
    let inside = c.self.inside in
    let inv = c.self.invariant in
    let f = c.args.dossier in
    let d : Desk = record { charter = record { opening = inside.opening.value; terms = arc_value inside.terms; limit = inside.limit; source = source_of inside.origin; jobs = inside.jobs }; journal = inside.journal.items; version = inside.version; store = inside.tables } in
    let fitting : IsFitting d f = subst (λ (e : Desk). IsFitting e f) (sym c.self.view_is) c.requires in
    let read : c.index-place.result.now ≡ get_or inside.places.items f.job c.index-place.result.now = c.index-place.ensures ∙ ap (λ (j : ℕ). get_or inside.places.items j c.index-place.result.now) c.job.ensures in
    let place : IsPlaceOf d.journal f.job c.index-place.result.now = place_at inside.jobs d.journal inside.places.items f.job c.index-place.result.now inv.2 fitting.listed read in
    let missing : IsMissing d.journal f.job = missing_at d.journal f.job c.index-place.result.now (let t = c.if-place-gt0.false in omega (arith, t)) place in
    let late : f.snapshot.version < d.version = (let t = c.if-seen-self.true in let e = c.seen-seen.ensures in omega (arith, t, e)) in
    let first : c.index-first.result.now ≡ get_or inside.marks.items f.snapshot.version c.index-first.result.now = c.index-first.ensures ∙ ap (λ (v : ℕ). get_or inside.marks.items v c.index-first.result.now) c.seen-seen.ensures in
    let made = mark_at d.version d.journal inside.marks.items f.snapshot.version c.index-first.result.now inv.3 late first in
    let s = (shown d.journal f.snapshot.version c.index-first.result.now made.0 c.index.result.now made.1).1 in
    let name : made.0 ≡ c.name_of-name.result = same_name c.index.result.now.finding made.0 c.name_of-name.result (subst (λ (e : Entry). Publishes e.finding made.0) (sym c.index.ensures) s) c.name_of-name.ensures in
    let there : MakesVersion d.journal f.snapshot.version c.index-first.result.now c.name_of-name.result = subst (λ (n : ℕ). MakesVersion d.journal f.snapshot.version c.index-first.result.now n) name made.1 in
    record {
      missing = subst (λ (e : Desk). IsMissing e.journal f.job) c.self.view_is missing;
      newer = subst (λ (e : Desk). f.snapshot.version < e.version) c.self.view_is late;
      present = ap (λ (e : Desk). e.version) c.self.view_is;
      made = subst (λ (e : Desk). MakesVersion e.journal f.snapshot.version c.index-first.result.now c.name_of-name.result) c.self.view_is there;
      same = refl;
      unchanged = refl;
    }

pub decide-at-requires-clause-missing : goal.decide-at-requires-clause-missing
decide-at-requires-clause-missing c =
    let inside = c.self.inside in
    let inv = c.self.invariant in
    let f = c.args.dossier in
    let d : Desk = record { charter = record { opening = inside.opening.value; terms = arc_value inside.terms; limit = inside.limit; source = source_of inside.origin; jobs = inside.jobs }; journal = inside.journal.items; version = inside.version; store = inside.tables } in
    let fitting : IsFitting d f = subst (λ (e : Desk). IsFitting e f) (sym c.self.view_is) c.requires in
    let read : c.index-place.result.now ≡ get_or inside.places.items f.job c.index-place.result.now = c.index-place.ensures ∙ ap (λ (j : ℕ). get_or inside.places.items j c.index-place.result.now) c.job.ensures in
    let place : IsPlaceOf d.journal f.job c.index-place.result.now = place_at inside.jobs d.journal inside.places.items f.job c.index-place.result.now inv.2 fitting.listed read in
    let missing : IsMissing d.journal f.job = missing_at d.journal f.job c.index-place.result.now (let t = c.if-place-gt0.false in omega (arith, t)) place in
    subst (λ (e : Desk). IsMissing e.journal f.job) c.self.view_is missing

pub returns : goal.returns
returns c =
    let inside = c.self.inside in
    let inv = c.self.invariant in
    let f = c.args.dossier in
    let d : Desk = record { charter = record { opening = inside.opening.value; terms = arc_value inside.terms; limit = inside.limit; source = source_of inside.origin; jobs = inside.jobs }; journal = inside.journal.items; version = inside.version; store = inside.tables } in
    let fitting : IsFitting d f = subst (λ (e : Desk). IsFitting e f) (sym c.self.view_is) c.requires in
    let read : c.index-place.result.now ≡ get_or inside.places.items f.job c.index-place.result.now = c.index-place.ensures ∙ ap (λ (j : ℕ). get_or inside.places.items j c.index-place.result.now) c.job.ensures in
    let place : IsPlaceOf d.journal f.job c.index-place.result.now = place_at inside.jobs d.journal inside.places.items f.job c.index-place.result.now inv.2 fitting.listed read in
    let missing : IsMissing d.journal f.job = missing_at d.journal f.job c.index-place.result.now (let t = c.if-place-gt0.false in omega (arith, t)) place in
    let same : inside.version ≡ c.args.self.now.version = ap (λ (e : Desk). e.version) c.self.view_is in
    record {
      missing = subst (λ (e : Desk). IsMissing e.journal f.job) c.self.view_is missing;
      seen = (let t = c.if-seen-self.false in let e = c.seen-seen.ensures in let h = c.requires.seen in omega (arith, t, e, h, same));
      place = c.decide-at.ensures.place;
      next = c.decide-at.ensures.next;
    }
