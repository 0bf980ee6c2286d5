use Rattle.std.proofs.Common.{ℕ, ◌+◌, ◌-◌, ◌<◌, ◌≤◌, ◌≡◌, ◌++◌, ◌∷◌, [], sym, ap, subst, ◌∙◌, arith, List, length, get_or, take, drop}
use Rattle.std.specs.Prelude.{reverse}
use Rattle.std.proofs.lemmas.List.{take_all, length-drop, get_or_default}
use Rattle.evidence.specs.declared.change.Change.{Change}
use Rattle.publish_desk.specs.declared.entry.Entry.{Entry}
use Rattle.publish_desk.specs.History.{changes_after, MakesVersion}
use Rattle.publish_desk.proofs.Places.{shown, same_name}
use Rattle.publish_desk.proofs.Changes.{since_mark, noted, all_noted}
use Rattle.publish_desk.proofs.desk.changes_at.Goals as goal

pub loop-at-preserved : goal.loop-at-preserved
loop-at-preserved c =
    let journal : List Entry = c.args.journal.now in
    let marks : List ℕ = c.args.marks.now in
    let v : ℕ = c.args.version in
    let i : ℕ = c.loop-at.at-index in
    let since : List ℕ = take (length marks - v) (drop v marks) in
    let few = length-drop v marks in
    let whole : since ≡ drop v marks = take_all (length marks - v) (drop v marks) (omega (arith, few)) in
    let within : i < length since = omega arith in
    let lt : i < length (drop v marks) = subst (λ (l : List ℕ). i < length l) whole within in
    let at : ℕ = get_or since i 0 in
    let made = since_mark journal marks v i at c.requires.marks lt (ap (λ (l : List ℕ). get_or l i 0) whole ∙ get_or_default (drop v marks) i 0 at lt) in
    let entry : Entry = c.index-journal-at.result in
    let s = shown journal (v + i) at made.0 entry made.1 in
    let name : made.0 ≡ c.name_of-name.result = same_name (get_or journal at entry).finding made.0 c.name_of-name.result s.1 c.name_of-name.ensures in
    let there : MakesVersion journal (v + i) at c.name_of-name.result = subst (λ (n : ℕ). MakesVersion journal (v + i) at n) name made.1 in
    let more = noted journal v (v + i) at c.name_of-name.result c.loop-at.changes.items there c.loop-at.invariant in
    let next : (v + i) + 1 ≡ v + (i + 1) = omega arith in
    subst (λ (l : List Change). l ++ changes_after (v + (i + 1)) (reverse journal) ≡ changes_after v (reverse journal)) (sym c.in_ok-push.ensures.items)
    (subst (λ (k : ℕ). (c.loop-at.changes.items ++ record { at = at; name = c.name_of-name.result } ∷ []) ++ changes_after k (reverse journal) ≡ changes_after v (reverse journal)) next more)

pub returns : goal.returns
returns c =
    let journal : List Entry = c.args.journal.now in
    let marks : List ℕ = c.args.marks.now in
    let v : ℕ = c.args.version in
    let i : ℕ = c.loop-at.at-index in
    let since : List ℕ = take (length marks - v) (drop v marks) in
    let few = length-drop v marks in
    let whole : since ≡ drop v marks = take_all (length marks - v) (drop v marks) (omega (arith, few)) in
    let size = c.requires.marks.size in
    let same : length since ≡ length marks - v = ap length whole ∙ few in
    let end : length since ≤ i = omega arith in
    all_noted journal v (v + i) c.loop-at.changes.items (omega (arith, size, same, end)) c.loop-at.invariant
