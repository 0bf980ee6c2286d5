-- The accepted entries since a version: one fewer since the next version, and none since the last.
use Rattle.std.proofs.Common.{ℕ, ◌+◌, ◌≤◌, ◌≡◌, refl, sym, ap, subst, ◌∙◌, arith, Bool, true, false, nat_lt, List, [], ◌∷◌, ◌++◌, length, get_or, drop, append_assoc, append-nil, ◌<◌}
use Rattle.std.specs.Prelude.{reverse, if◌then◌else◌}
use Rattle.std.specs.declared.option.Option.{Option}
use Rattle.std.specs.declared.option.Option.TheVariants.{Some, None}
use Rattle.std.proofs.lemmas.List.{length-reverse, reverse-append, length-drop, get_or-drop}
use Rattle.program_store.specs.declared.published.Proposal.{Proposal}
use Rattle.evidence.specs.declared.change.Change.{Change}
use Rattle.evidence.specs.declared.finding.Finding.{Finding}
use Rattle.evidence.specs.declared.finding.Finding.TheVariants.{Nothing, Judged}
use Rattle.evidence.specs.Findings.{accepted_count}
use Rattle.publish_desk.specs.declared.entry.Entry.{Entry}
use Rattle.publish_desk.specs.History.{rise_of, rise, version_of, change_if, change_at, changes_after, IfNamed, Publishes, MakesVersion, AreMarks}
use Rattle.publish_desk.proofs.Lists.{reverse_cons}
use Rattle.publish_desk.proofs.Places.{mark_at}

none_if : (at name : ℕ) (o : Option ℕ) → rise_of o ≡ 0 → change_if at name o ≡ []
none_if at name None e = refl
none_if at name (Some k) e = absurd (omega (arith, e))

none_at : (at : ℕ) (f : Finding) → rise f ≡ 0 → change_at at f ≡ []
none_at at Nothing e = refl
none_at at (Judged p a) e = none_if at p.name (accepted_count a) e

-- there are none after the present version
pub none_after : (v : ℕ) (h : List Entry) → version_of h ≤ v → changes_after v h ≡ []
none_after v [] le = refl
none_after v (e ∷ earlier) le = by_test (none_after v earlier) (nat_lt (version_of earlier) v) refl
  where
    by_test : (version_of earlier ≤ v → changes_after v earlier ≡ []) → (b : Bool) → nat_lt (version_of earlier) v ≡ b → ◌≡◌ {A = List Change} (if b then [] else changes_after v earlier ++ change_at (length earlier) e.finding) []
    by_test none true t = refl
    by_test none false t =
        let up : v ≤ version_of earlier = grind arith in
        ap (λ (l : List Change). l ++ change_at (length earlier) e.finding) (none (omega (arith, le))) ∙ none_at (length earlier) e.finding (omega (arith, le, up))

change_named : (at name : ℕ) (p : Proposal) (o : Option ℕ) → IfNamed name p o → (change_if at p.name o ≡ record { at = at; name = name } ∷ []) × (rise_of o ≡ 1)
change_named at name p None h = absurd h
change_named at name p (Some k) h = (ap (λ (n : ℕ). record { at = at; name = n } ∷ []) h, refl)

-- what is accepted for a name is one change, of that name
change_published : (at name : ℕ) (f : Finding) → Publishes f name → (change_at at f ≡ record { at = at; name = name } ∷ []) × (rise f ≡ 1)
change_published at name Nothing h = absurd h
change_published at name (Judged p a) h = change_named at name p (accepted_count a) h

-- the version doesn't fall
pub version_grows : (newer older : List Entry) → version_of older ≤ version_of (newer ++ older)
version_grows [] older = omega arith
version_grows (e ∷ newer) older = let h = version_grows newer older in omega (arith, h)

-- the entry that ended a version is the first change since
next_change : (newer : List Entry) (e : Entry) (older : List Entry) (v at name : ℕ) → version_of older ≡ v → at ≡ length older → Publishes e.finding name
    → changes_after v (newer ++ e ∷ older) ≡ record { at = at; name = name } ∷ changes_after (v + 1) (newer ++ e ∷ older)
next_change [] e older v at name there place published =
    let c : Change = record { at = at; name = name } in
    let kept : nat_lt (version_of older) v ≡ false = grind (arith, there) in
    let gone : nat_lt (version_of older) (v + 1) ≡ true = grind (arith, there) in
    ap (λ (b : Bool). if b then [] else changes_after v older ++ change_at (length older) e.finding) kept
    ∙ ap (λ (l : List Change). l ++ change_at (length older) e.finding) (none_after v older (omega (arith, there)))
    ∙ ap (λ (n : ℕ). change_at n e.finding) (sym place)
    ∙ (change_published at name e.finding published).0
    ∙ sym (ap (λ (b : Bool). c ∷ (if b then [] else changes_after (v + 1) older ++ change_at (length older) e.finding)) gone)
next_change (f ∷ newer) e older v at name there place published =
    let c : Change = record { at = at; name = name } in
    let h : List Entry = newer ++ e ∷ older in
    let more = version_grows newer (e ∷ older) in
    let one = (change_published at name e.finding published).1 in
    let kept : nat_lt (version_of h) v ≡ false = grind (arith, there, more, one) in
    let still : nat_lt (version_of h) (v + 1) ≡ false = grind (arith, there, more, one) in
    ap (λ (b : Bool). if b then [] else changes_after v h ++ change_at (length h) f.finding) kept
    ∙ ap (λ (l : List Change). l ++ change_at (length h) f.finding) (next_change newer e older v at name there place published)
    ∙ sym (ap (λ (b : Bool). c ∷ (if b then [] else changes_after (v + 1) h ++ change_at (length h) f.finding)) still)

pub made_change : (journal : List Entry) (v at name : ℕ) → MakesVersion journal v at name → changes_after v (reverse journal) ≡ record { at = at; name = name } ∷ changes_after (v + 1) (reverse journal)
made_change journal v at name m =
    subst (λ (h : List Entry). changes_after v h ≡ record { at = at; name = name } ∷ changes_after (v + 1) h) (sym turned)
    (next_change (reverse m.later) m.entry (reverse m.before) v at name m.there (m.place ∙ sym (length-reverse m.before)) m.accepted)
  where
    turned : reverse journal ≡ reverse m.later ++ m.entry ∷ reverse m.before
    turned =
        ap reverse m.split ∙ reverse-append m.before (m.entry ∷ m.later)
        ∙ ap (λ (l : List Entry). l ++ reverse m.before) (reverse_cons m.entry m.later)
        ∙ append_assoc (reverse m.later) (m.entry ∷ []) (reverse m.before)

-- ---- marks

-- the mark at a place since a version
pub since_mark : (journal : List Entry) (marks : List ℕ) (v i at : ℕ) → AreMarks (version_of (reverse journal)) journal marks → i < length (drop v marks) → at ≡ get_or (drop v marks) i at
    → (name : ℕ) × MakesVersion journal (v + i) at name
since_mark journal marks v i at h lt read =
    let few = length-drop v marks in
    let size = h.size in
    mark_at (version_of (reverse journal)) journal marks (v + i) at h (omega (arith, few, size, lt)) (read ∙ get_or-drop v marks i at)

-- one change more is noted
pub noted : (journal : List Entry) (v k at name : ℕ) (changes : List Change) → MakesVersion journal k at name → changes ++ changes_after k (reverse journal) ≡ changes_after v (reverse journal)
    → (changes ++ record { at = at; name = name } ∷ []) ++ changes_after (k + 1) (reverse journal) ≡ changes_after v (reverse journal)
noted journal v k at name changes made so_far =
    append_assoc changes (record { at = at; name = name } ∷ []) (changes_after (k + 1) (reverse journal))
    ∙ ap (λ (l : List Change). changes ++ l) (sym (made_change journal k at name made))
    ∙ so_far

-- all are
pub all_noted : (journal : List Entry) (v k : ℕ) (changes : List Change) → version_of (reverse journal) ≤ k → changes ++ changes_after k (reverse journal) ≡ changes_after v (reverse journal) → changes ≡ changes_after v (reverse journal)
all_noted journal v k changes le so_far =
    sym (append-nil changes) ∙ ap (λ (l : List Change). changes ++ l) (sym (none_after k (reverse journal) le)) ∙ so_far
