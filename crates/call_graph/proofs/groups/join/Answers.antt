use Rattle.std.proofs.Common.{ℕ, ◌≡◌, ◌-◌, ◌<◌, ◌≤◌, sym, ap, subst, ◌∙◌, List, ◌∷◌, Some, take, length, slice_get, reverse}
use Rattle.std.specs.Option.{option_copied}
use Rattle.call_graph.specs.Groups.{AreCutStarts}
use Rattle.call_graph.proofs.Joining.{IsCutting, cutting-more, cut-at, last-read}
use Rattle.call_graph.proofs.groups.join.Goals as goal

pub loop-start-preserved : goal.loop-start-preserved
loop-start-preserved c =
    let old : List ℕ = reverse c.args.starts.now.items in
    let cur : List ℕ = c.loop-start.starts.items in
    let start : ℕ = c.in-Some.start.now in
    let read : slice_get cur (length cur - 1) ≡ Some start =
    subst (λ (l : List ℕ). slice_get l (length l - 1) ≡ Some start) c.deref.ensures.value (sym c.last.ensures.value ∙ ap option_copied c.in-Some.is) in
    let left : c.pop.new.self.items ≡ take (length cur - 1) cur =
    c.pop.ensures.rest ∙ ap (λ n. take (n - 1) cur) (sym c.deref.ensures.len ∙ ap (λ (l : List ℕ). length l) c.deref.ensures.value) in
    let above : c.args.place < start = c.if-start-place.false in
    subst (λ (l : List ℕ). IsCutting old c.args.place (reverse l)) (sym left)
    (cutting-more old c.args.place start (reverse (take (length cur - 1) cur)) above (subst (λ (l : List ℕ). IsCutting old c.args.place l) (last-read cur start read) c.loop-start.invariant))

pub returns-then-start-place : goal.returns-then-start-place
returns-then-start-place c =
    let old : List ℕ = reverse c.args.starts.now.items in
    let cur : List ℕ = c.loop-start.starts.items in
    let start : ℕ = c.in-Some.start.now in
    let read : slice_get cur (length cur - 1) ≡ Some start =
    subst (λ (l : List ℕ). slice_get l (length l - 1) ≡ Some start) c.deref.ensures.value (sym c.last.ensures.value ∙ ap option_copied c.in-Some.is) in
    let top : reverse cur ≡ start ∷ reverse (take (length cur - 1) cur) = last-read cur start read in
    let le : start ≤ c.args.place = c.if-start-place.true in
    subst (λ (l : List ℕ). AreCutStarts old c.args.place l) (sym top)
    (cut-at old c.args.place start (reverse (take (length cur - 1) cur)) le (subst (λ (l : List ℕ). IsCutting old c.args.place l) top c.loop-start.invariant))
