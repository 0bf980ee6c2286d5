use Rattle.std.proofs.Common.{ℕ, ◌+◌, ◌≡◌, refl, sym, ap, subst, ◌∙◌, arith, List, [], ◌∷◌, ◌++◌, length, set}
use Rattle.std.specs.Arc.{arc_value}
use Rattle.std.specs.declared.option.Option.TheVariants.{Some, None}
use Rattle.evidence.specs.declared.finding.Finding.{Finding}
use Rattle.evidence.specs.Findings.{next_store}
use Rattle.publish_desk.specs.declared.entry.Entry.{Entry}
use Rattle.publish_desk.specs.Source.{source_of}
use Rattle.publish_desk.specs.History.{IsMissing, ArePlaces, AreMarks}
use Rattle.publish_desk.specs.Desk.{Desk, decided, IsFitting, IsKept}
use Rattle.publish_desk.proofs.Publish.{room_for, version_bound}
use Rattle.publish_desk.proofs.Whole.{entry_of, decided_without, decided_with}
use Rattle.publish_desk.proofs.desk.Desk.decide.Goals as goal

pub push_reserved-requires : goal.push_reserved-requires
push_reserved-requires c =
    let inside = c.self.inside in
    let inv = c.self.invariant in
    let f = c.args.dossier in
    let d : Desk = record { charter = record { opening = inside.opening.value; terms = arc_value inside.terms; limit = inside.limit; source = source_of inside.origin; jobs = inside.jobs }; journal = inside.journal.items; version = inside.version; store = inside.tables } in
    let fitting : IsFitting d f = subst (λ (e : Desk). IsFitting e f) (sym c.self.view_is) c.requires.fitting in
    let missing : IsMissing d.journal f.job = subst (λ (e : Desk). IsMissing e.journal f.job) (sym c.self.view_is) c.requires.missing in
    let seen : f.snapshot.version ≡ d.version = subst (λ (e : Desk). f.snapshot.version ≡ e.version) (sym c.self.view_is) c.requires.seen in
    let few = room_for d f.job inv.0 fitting.listed missing in
    let cap = inv.4 in
    omega (arith, few, cap, inside.journal.ok.0)

pub push_reserved-requires-3 : goal.push_reserved-requires-3
push_reserved-requires-3 c =
    let inside = c.self.inside in
    let inv = c.self.invariant in
    let f = c.args.dossier in
    let d : Desk = record { charter = record { opening = inside.opening.value; terms = arc_value inside.terms; limit = inside.limit; source = source_of inside.origin; jobs = inside.jobs }; journal = inside.journal.items; version = inside.version; store = inside.tables } in
    let fitting : IsFitting d f = subst (λ (e : Desk). IsFitting e f) (sym c.self.view_is) c.requires.fitting in
    let missing : IsMissing d.journal f.job = subst (λ (e : Desk). IsMissing e.journal f.job) (sym c.self.view_is) c.requires.missing in
    let seen : f.snapshot.version ≡ d.version = subst (λ (e : Desk). f.snapshot.version ≡ e.version) (sym c.self.view_is) c.requires.seen in
    let few = room_for d f.job inv.0 fitting.listed missing in
    let cap = inv.4 in
    omega (arith, few, cap, inside.journal.ok.0)

pub push_reserved-requires-2 : goal.push_reserved-requires-2
push_reserved-requires-2 c =
    let inside = c.self.inside in
    let inv = c.self.invariant in
    let f = c.args.dossier in
    let d : Desk = record { charter = record { opening = inside.opening.value; terms = arc_value inside.terms; limit = inside.limit; source = source_of inside.origin; jobs = inside.jobs }; journal = inside.journal.items; version = inside.version; store = inside.tables } in
    let fitting : IsFitting d f = subst (λ (e : Desk). IsFitting e f) (sym c.self.view_is) c.requires.fitting in
    let missing : IsMissing d.journal f.job = subst (λ (e : Desk). IsMissing e.journal f.job) (sym c.self.view_is) c.requires.missing in
    let seen : f.snapshot.version ≡ d.version = subst (λ (e : Desk). f.snapshot.version ≡ e.version) (sym c.self.view_is) c.requires.seen in
    let few = room_for d f.job inv.0 fitting.listed missing in
    let small = version_bound d inv.0 in
    let size = inv.3.size in
    let cap = inv.5 in
    omega (arith, few, small, size, cap, inside.marks.ok.0)

pub invariant_of-self : goal.invariant_of-self
invariant_of-self c =
    let inside = c.self.inside in
    let inv = c.self.invariant in
    let f = c.args.dossier in
    let d : Desk = record { charter = record { opening = inside.opening.value; terms = arc_value inside.terms; limit = inside.limit; source = source_of inside.origin; jobs = inside.jobs }; journal = inside.journal.items; version = inside.version; store = inside.tables } in
    let fitting : IsFitting d f = subst (λ (e : Desk). IsFitting e f) (sym c.self.view_is) c.requires.fitting in
    let missing : IsMissing d.journal f.job = subst (λ (e : Desk). IsMissing e.journal f.job) (sym c.self.view_is) c.requires.missing in
    let seen : f.snapshot.version ≡ d.version = subst (λ (e : Desk). f.snapshot.version ≡ e.version) (sym c.self.view_is) c.requires.seen in
    let few = room_for d f.job inv.0 fitting.listed missing in
    let none : next_store f.snapshot.store f.finding ≡ None = sym c.into_parts-job.ensures.next ∙ c.in_default.is in
    let len : c.len-at.result ≡ length d.journal = (let e = c.len-at.ensures in omega (arith, e, inside.journal.ok.0)) in
    let told = c.into_parts-job.ensures in
    let r = c.into_parts-job.result in
    let n = c.len-at.result + 1 in
    let places2 = set inside.places.items r.job n in
    let set_to : places2 ≡ set inside.places.items f.job n = ap (λ (j : ℕ). set inside.places.items j n) told.job in
    let same_entry : record { job = r.job; base = r.base; finding = r.finding } ≡ entry_of f =
    ap (λ (j : ℕ). record { job = j; base = r.base; finding = r.finding }) told.job
    ∙ (ap (λ (b : ℕ). record { job = f.job; base = b; finding = r.finding }) told.base ∙ ap (λ (g : Finding). record { job = f.job; base = f.base; finding = g }) told.finding) in
    let after = decided_without d f inv.0 inv.1 fitting missing seen inside.places.items places2 inside.marks.items c.len-at.result n inv.2 inv.3 len refl set_to none in
    let journal : c.push_reserved.new.self.items ≡ d.journal ++ entry_of f ∷ [] = c.push_reserved.ensures.items ∙ ap (λ (e : Entry). d.journal ++ e ∷ []) same_entry in (
      subst (λ (j : List Entry). IsKept (record { charter = d.charter; journal = j; version = d.version; store = d.store })) (sym journal) after.1.0,
      inv.1,
      subst (λ (j : List Entry). ArePlaces inside.jobs j places2) (sym journal) after.1.1,
      subst (λ (j : List Entry). AreMarks (d.version) j inside.marks.items) (sym journal) after.1.2,
      (let a = inv.4 in let b = c.push_reserved.ensures.capacity in omega (arith, a, b)),
      inv.5,
    )

pub returns-in_default-clause-place : goal.returns-in_default-clause-place
returns-in_default-clause-place c =
    let inside = c.self.inside in
    let inv = c.self.invariant in
    let f = c.args.dossier in
    let d : Desk = record { charter = record { opening = inside.opening.value; terms = arc_value inside.terms; limit = inside.limit; source = source_of inside.origin; jobs = inside.jobs }; journal = inside.journal.items; version = inside.version; store = inside.tables } in
    let fitting : IsFitting d f = subst (λ (e : Desk). IsFitting e f) (sym c.self.view_is) c.requires.fitting in
    let missing : IsMissing d.journal f.job = subst (λ (e : Desk). IsMissing e.journal f.job) (sym c.self.view_is) c.requires.missing in
    let seen : f.snapshot.version ≡ d.version = subst (λ (e : Desk). f.snapshot.version ≡ e.version) (sym c.self.view_is) c.requires.seen in
    let few = room_for d f.job inv.0 fitting.listed missing in
    let none : next_store f.snapshot.store f.finding ≡ None = sym c.into_parts-job.ensures.next ∙ c.in_default.is in
    let len : c.len-at.result ≡ length d.journal = (let e = c.len-at.ensures in omega (arith, e, inside.journal.ok.0)) in
    let told = c.into_parts-job.ensures in
    let r = c.into_parts-job.result in
    let n = c.len-at.result + 1 in
    let places2 = set inside.places.items r.job n in
    let set_to : places2 ≡ set inside.places.items f.job n = ap (λ (j : ℕ). set inside.places.items j n) told.job in
    let same_entry : record { job = r.job; base = r.base; finding = r.finding } ≡ entry_of f =
    ap (λ (j : ℕ). record { job = j; base = r.base; finding = r.finding }) told.job
    ∙ (ap (λ (b : ℕ). record { job = f.job; base = b; finding = r.finding }) told.base ∙ ap (λ (g : Finding). record { job = f.job; base = f.base; finding = g }) told.finding) in
    let after = decided_without d f inv.0 inv.1 fitting missing seen inside.places.items places2 inside.marks.items c.len-at.result n inv.2 inv.3 len refl set_to none in
    let journal : c.push_reserved.new.self.items ≡ d.journal ++ entry_of f ∷ [] = c.push_reserved.ensures.items ∙ ap (λ (e : Entry). d.journal ++ e ∷ []) same_entry in
    len ∙ ap (λ (e : Desk). length e.journal) c.self.view_is

pub returns-in_default-clause-next : goal.returns-in_default-clause-next
returns-in_default-clause-next c =
    let inside = c.self.inside in
    let inv = c.self.invariant in
    let f = c.args.dossier in
    let d : Desk = record { charter = record { opening = inside.opening.value; terms = arc_value inside.terms; limit = inside.limit; source = source_of inside.origin; jobs = inside.jobs }; journal = inside.journal.items; version = inside.version; store = inside.tables } in
    let fitting : IsFitting d f = subst (λ (e : Desk). IsFitting e f) (sym c.self.view_is) c.requires.fitting in
    let missing : IsMissing d.journal f.job = subst (λ (e : Desk). IsMissing e.journal f.job) (sym c.self.view_is) c.requires.missing in
    let seen : f.snapshot.version ≡ d.version = subst (λ (e : Desk). f.snapshot.version ≡ e.version) (sym c.self.view_is) c.requires.seen in
    let few = room_for d f.job inv.0 fitting.listed missing in
    let none : next_store f.snapshot.store f.finding ≡ None = sym c.into_parts-job.ensures.next ∙ c.in_default.is in
    let len : c.len-at.result ≡ length d.journal = (let e = c.len-at.ensures in omega (arith, e, inside.journal.ok.0)) in
    let told = c.into_parts-job.ensures in
    let r = c.into_parts-job.result in
    let n = c.len-at.result + 1 in
    let places2 = set inside.places.items r.job n in
    let set_to : places2 ≡ set inside.places.items f.job n = ap (λ (j : ℕ). set inside.places.items j n) told.job in
    let same_entry : record { job = r.job; base = r.base; finding = r.finding } ≡ entry_of f =
    ap (λ (j : ℕ). record { job = j; base = r.base; finding = r.finding }) told.job
    ∙ (ap (λ (b : ℕ). record { job = f.job; base = b; finding = r.finding }) told.base ∙ ap (λ (g : Finding). record { job = f.job; base = f.base; finding = g }) told.finding) in
    let after = decided_without d f inv.0 inv.1 fitting missing seen inside.places.items places2 inside.marks.items c.len-at.result n inv.2 inv.3 len refl set_to none in
    let journal : c.push_reserved.new.self.items ≡ d.journal ++ entry_of f ∷ [] = c.push_reserved.ensures.items ∙ ap (λ (e : Entry). d.journal ++ e ∷ []) same_entry in
    ap (λ (j : List Entry). record { charter = d.charter; journal = j; version = d.version; store = d.store }) journal ∙ (sym after.0 ∙ ap (λ (e : Desk). decided e f) c.self.view_is)

pub invariant_of-self-2 : goal.invariant_of-self-2
invariant_of-self-2 c =
    let inside = c.self.inside in
    let inv = c.self.invariant in
    let f = c.args.dossier in
    let d : Desk = record { charter = record { opening = inside.opening.value; terms = arc_value inside.terms; limit = inside.limit; source = source_of inside.origin; jobs = inside.jobs }; journal = inside.journal.items; version = inside.version; store = inside.tables } in
    let fitting : IsFitting d f = subst (λ (e : Desk). IsFitting e f) (sym c.self.view_is) c.requires.fitting in
    let missing : IsMissing d.journal f.job = subst (λ (e : Desk). IsMissing e.journal f.job) (sym c.self.view_is) c.requires.missing in
    let seen : f.snapshot.version ≡ d.version = subst (λ (e : Desk). f.snapshot.version ≡ e.version) (sym c.self.view_is) c.requires.seen in
    let few = room_for d f.job inv.0 fitting.listed missing in
    let some : next_store f.snapshot.store f.finding ≡ Some c.in-Some.tables = sym c.into_parts-job.ensures.next ∙ c.in-Some.is in
    let len : c.len-at.result ≡ length d.journal = (let e = c.len-at.ensures in omega (arith, e, inside.journal.ok.0)) in
    let told = c.into_parts-job.ensures in
    let r = c.into_parts-job.result in
    let n = c.len-at.result + 1 in
    let places2 = set inside.places.items r.job n in
    let set_to : places2 ≡ set inside.places.items f.job n = ap (λ (j : ℕ). set inside.places.items j n) told.job in
    let same_entry : record { job = r.job; base = r.base; finding = r.finding } ≡ entry_of f =
    ap (λ (j : ℕ). record { job = j; base = r.base; finding = r.finding }) told.job
    ∙ (ap (λ (b : ℕ). record { job = f.job; base = b; finding = r.finding }) told.base ∙ ap (λ (g : Finding). record { job = f.job; base = f.base; finding = g }) told.finding) in
    let after = decided_with d f inv.0 inv.1 fitting missing seen inside.places.items places2 inside.marks.items c.len-at.result n inv.2 inv.3 len refl set_to c.in-Some.tables c.push_reserved-2.new.self.items some c.push_reserved-2.ensures.items in
    let journal : c.push_reserved-3.new.self.items ≡ d.journal ++ entry_of f ∷ [] = c.push_reserved-3.ensures.items ∙ ap (λ (e : Entry). d.journal ++ e ∷ []) same_entry in (
      subst (λ (j : List Entry). IsKept (record { charter = d.charter; journal = j; version = d.version + 1; store = c.in-Some.tables })) (sym journal) after.1.0,
      inv.1,
      subst (λ (j : List Entry). ArePlaces inside.jobs j places2) (sym journal) after.1.1,
      subst (λ (j : List Entry). AreMarks (d.version + 1) j c.push_reserved-2.new.self.items) (sym journal) after.1.2,
      (let a = inv.4 in let b = c.push_reserved-3.ensures.capacity in omega (arith, a, b)),
      (let a = inv.5 in let b = c.push_reserved-2.ensures.capacity in omega (arith, a, b)),
    )

pub returns-clause-place : goal.returns-clause-place
returns-clause-place c =
    let inside = c.self.inside in
    let inv = c.self.invariant in
    let f = c.args.dossier in
    let d : Desk = record { charter = record { opening = inside.opening.value; terms = arc_value inside.terms; limit = inside.limit; source = source_of inside.origin; jobs = inside.jobs }; journal = inside.journal.items; version = inside.version; store = inside.tables } in
    let fitting : IsFitting d f = subst (λ (e : Desk). IsFitting e f) (sym c.self.view_is) c.requires.fitting in
    let missing : IsMissing d.journal f.job = subst (λ (e : Desk). IsMissing e.journal f.job) (sym c.self.view_is) c.requires.missing in
    let seen : f.snapshot.version ≡ d.version = subst (λ (e : Desk). f.snapshot.version ≡ e.version) (sym c.self.view_is) c.requires.seen in
    let few = room_for d f.job inv.0 fitting.listed missing in
    let some : next_store f.snapshot.store f.finding ≡ Some c.in-Some.tables = sym c.into_parts-job.ensures.next ∙ c.in-Some.is in
    let len : c.len-at.result ≡ length d.journal = (let e = c.len-at.ensures in omega (arith, e, inside.journal.ok.0)) in
    let told = c.into_parts-job.ensures in
    let r = c.into_parts-job.result in
    let n = c.len-at.result + 1 in
    let places2 = set inside.places.items r.job n in
    let set_to : places2 ≡ set inside.places.items f.job n = ap (λ (j : ℕ). set inside.places.items j n) told.job in
    let same_entry : record { job = r.job; base = r.base; finding = r.finding } ≡ entry_of f =
    ap (λ (j : ℕ). record { job = j; base = r.base; finding = r.finding }) told.job
    ∙ (ap (λ (b : ℕ). record { job = f.job; base = b; finding = r.finding }) told.base ∙ ap (λ (g : Finding). record { job = f.job; base = f.base; finding = g }) told.finding) in
    let after = decided_with d f inv.0 inv.1 fitting missing seen inside.places.items places2 inside.marks.items c.len-at.result n inv.2 inv.3 len refl set_to c.in-Some.tables c.push_reserved-2.new.self.items some c.push_reserved-2.ensures.items in
    let journal : c.push_reserved-3.new.self.items ≡ d.journal ++ entry_of f ∷ [] = c.push_reserved-3.ensures.items ∙ ap (λ (e : Entry). d.journal ++ e ∷ []) same_entry in
    len ∙ ap (λ (e : Desk). length e.journal) c.self.view_is

pub returns-clause-next : goal.returns-clause-next
returns-clause-next c =
    let inside = c.self.inside in
    let inv = c.self.invariant in
    let f = c.args.dossier in
    let d : Desk = record { charter = record { opening = inside.opening.value; terms = arc_value inside.terms; limit = inside.limit; source = source_of inside.origin; jobs = inside.jobs }; journal = inside.journal.items; version = inside.version; store = inside.tables } in
    let fitting : IsFitting d f = subst (λ (e : Desk). IsFitting e f) (sym c.self.view_is) c.requires.fitting in
    let missing : IsMissing d.journal f.job = subst (λ (e : Desk). IsMissing e.journal f.job) (sym c.self.view_is) c.requires.missing in
    let seen : f.snapshot.version ≡ d.version = subst (λ (e : Desk). f.snapshot.version ≡ e.version) (sym c.self.view_is) c.requires.seen in
    let few = room_for d f.job inv.0 fitting.listed missing in
    let some : next_store f.snapshot.store f.finding ≡ Some c.in-Some.tables = sym c.into_parts-job.ensures.next ∙ c.in-Some.is in
    let len : c.len-at.result ≡ length d.journal = (let e = c.len-at.ensures in omega (arith, e, inside.journal.ok.0)) in
    let told = c.into_parts-job.ensures in
    let r = c.into_parts-job.result in
    let n = c.len-at.result + 1 in
    let places2 = set inside.places.items r.job n in
    let set_to : places2 ≡ set inside.places.items f.job n = ap (λ (j : ℕ). set inside.places.items j n) told.job in
    let same_entry : record { job = r.job; base = r.base; finding = r.finding } ≡ entry_of f =
    ap (λ (j : ℕ). record { job = j; base = r.base; finding = r.finding }) told.job
    ∙ (ap (λ (b : ℕ). record { job = f.job; base = b; finding = r.finding }) told.base ∙ ap (λ (g : Finding). record { job = f.job; base = f.base; finding = g }) told.finding) in
    let after = decided_with d f inv.0 inv.1 fitting missing seen inside.places.items places2 inside.marks.items c.len-at.result n inv.2 inv.3 len refl set_to c.in-Some.tables c.push_reserved-2.new.self.items some c.push_reserved-2.ensures.items in
    let journal : c.push_reserved-3.new.self.items ≡ d.journal ++ entry_of f ∷ [] = c.push_reserved-3.ensures.items ∙ ap (λ (e : Entry). d.journal ++ e ∷ []) same_entry in
    ap (λ (j : List Entry). record { charter = d.charter; journal = j; version = d.version + 1; store = c.in-Some.tables }) journal ∙ (sym after.0 ∙ ap (λ (e : Desk). decided e f) c.self.view_is)
