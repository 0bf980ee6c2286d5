use Rattle.std.proofs.Common.{ℕ, ◌≡◌, ◌+◌, ◌<◌, refl, sym, ap, subst, ◌∙◌, true≢false, List, [], ◌∷◌, ◌++◌, Contains, length, take, drop, reverse, append-nil, nat_eq, ◌^◌, arith}
use Rattle.std.specs.Cmp.{nat_eq_equiv}
use Rattle.std.proofs.lemmas.List.{length_push}
use Rattle.std.proofs.lemmas.Map.Views.{Contains-from_any, list_any-from_Contains, exact_unsigned_eq}
use Rattle.indexmap.specs.IndexSet.{insert_key, insert_all}
use Rattle.loda_semantics.specs.Exec.{Library}
use Rattle.call_graph.specs.declared.groups.Frame.{Frame}
use Rattle.call_graph.specs.Walks.{frame}
use Rattle.call_graph.proofs.Sets.{insert_key-new}
use Rattle.call_graph.proofs.Trails.{frame-here, trail-last, trail-followed}
use Rattle.call_graph.proofs.Walking.{IsWalk, walk-first, walk-same, walk-top, walk-down, walk-up, walk-end, walk-stack, walk-starts, walk-root, end-len, path-top, path-none, starts-top, reverse-none}
use Rattle.call_graph.proofs.walk.Walk.visit.Goals as goal

path-len : (path rest : List Frame) (f : Frame) → path ≡ rest ++ f ∷ [] → length path ≡ length rest + 1
path-len path rest f is = ap (λ (l : List Frame). length l) is ∙ length_push rest f

pub returns-then-contains-clause-there : goal.returns-then-contains-clause-there
returns-then-contains-clause-there g c = Contains-from_any exact_unsigned_eq c.args.name c.args.self.now.done.keys (sym c.contains.ensures ∙ c.if-contains.true)

pub loop-frame-init : goal.loop-frame-init
loop-frame-init g c =
    let lib : Library = g.B.Library.programs c.args.lib.now in
    let name : ℕ = c.args.name in
    let done : List ℕ = c.args.self.now.done.keys in
    let new : Contains done name → ⊥ = λ there. true≢false (sym (list_any-from_Contains nat_eq_equiv name done there) ∙ sym c.contains.ensures ∙ c.if-contains.false) in
    walk-same lib done name done c.args.self.now.looped.items (name ∷ []) (0 ∷ []) c.enter.new.self.done.keys c.enter.new.self.looped.items c.enter.new.self.stack.keys
    (reverse c.enter.new.self.starts.items) (frame 0 0 ∷ []) (reverse c.enter.new.self.path.items)
    c.in_ok-enter.ensures.done c.in_ok-enter.ensures.looped
    (c.in_ok-enter.ensures.stack ∙ ap (λ (l : List ℕ). insert_key nat_eq l name) c.requires.stack)
    (ap (λ (l : List ℕ). reverse l) (c.in_ok-enter.ensures.starts ∙ ap (λ (l : List ℕ). l ++ length c.args.self.now.stack.keys ∷ []) c.requires.starts ∙ ap (λ (l : List ℕ). length l ∷ []) c.requires.stack))
    (ap (λ (l : List Frame). reverse l)
    (c.in_ok-enter.ensures.path ∙ ap (λ (l : List Frame). l ++ frame (length c.args.self.now.stack.keys) 0 ∷ []) c.requires.path
    ∙ ap (λ (l : List ℕ). frame (length l) 0 ∷ []) c.requires.stack))
    (walk-first lib done c.args.self.now.looped.items name c.requires.closed c.requires.looped new)

pub follow-requires-clause-within : goal.follow-requires-clause-within
follow-requires-clause-within g c =
    let lib : Library = g.B.Library.programs c.args.lib.now in
    let first : List ℕ = c.args.self.now.done.keys in
    let done : List ℕ = c.loop-frame.self.done.keys in
    let looped : List ℕ = c.loop-frame.self.looped.items in
    let stack : List ℕ = c.loop-frame.self.stack.keys in
    let starts : List ℕ = reverse c.loop-frame.self.starts.items in
    let f : Frame = c.in-Some.frame in
    let rest : List Frame = c.pop.new.self.items in
    let walk : IsWalk lib first c.args.name done looped stack starts (f ∷ reverse rest) =
    walk-top lib first c.args.name done looped stack starts c.loop-frame.self.path.items rest f c.in-Some.ensures.items c.loop-frame.invariant in
    walk.trail.within f (frame-here f (reverse rest))

pub follow-requires-clause-last : goal.follow-requires-clause-last
follow-requires-clause-last g c =
    let lib : Library = g.B.Library.programs c.args.lib.now in
    let first : List ℕ = c.args.self.now.done.keys in
    let done : List ℕ = c.loop-frame.self.done.keys in
    let looped : List ℕ = c.loop-frame.self.looped.items in
    let stack : List ℕ = c.loop-frame.self.stack.keys in
    let starts : List ℕ = reverse c.loop-frame.self.starts.items in
    let f : Frame = c.in-Some.frame in
    let rest : List Frame = c.pop.new.self.items in
    let walk : IsWalk lib first c.args.name done looped stack starts (f ∷ reverse rest) =
    walk-top lib first c.args.name done looped stack starts c.loop-frame.self.path.items rest f c.in-Some.ensures.items c.loop-frame.invariant in
    trail-last lib done stack starts f (reverse rest) walk.trail

pub follow-requires-clause-before : goal.follow-requires-clause-before
follow-requires-clause-before g c =
    let lib : Library = g.B.Library.programs c.args.lib.now in
    let first : List ℕ = c.args.self.now.done.keys in
    let done : List ℕ = c.loop-frame.self.done.keys in
    let looped : List ℕ = c.loop-frame.self.looped.items in
    let stack : List ℕ = c.loop-frame.self.stack.keys in
    let starts : List ℕ = reverse c.loop-frame.self.starts.items in
    let f : Frame = c.in-Some.frame in
    let rest : List Frame = c.pop.new.self.items in
    let walk : IsWalk lib first c.args.name done looped stack starts (f ∷ reverse rest) =
    walk-top lib first c.args.name done looped stack starts c.loop-frame.self.path.items rest f c.in-Some.ensures.items c.loop-frame.invariant in
    trail-followed lib done stack starts f (reverse rest) walk.trail

pub loop-frame-smaller-in-Continue-branch-3 : goal.loop-frame-smaller-in-Continue-branch-3
loop-frame-smaller-in-Continue-branch-3 g c =
    let e = c.in_ok-enter-in-Some-follow.ensures in
    let stack : List ℕ = c.loop-frame.self.stack.keys in
    let called : ℕ = c.in-Some-follow.called in
    let small : length c.loop-frame.self.done.keys + length stack < 2 ^ 64 = e.small in
    let done : length c.enter-in-Some-follow.new.self.done.keys ≡ length c.loop-frame.self.done.keys = ap (λ (l : List ℕ). length l) e.done in
    let more : length c.enter-in-Some-follow.new.self.stack.keys ≡ length stack + 1 =
    ap (λ (l : List ℕ). length l) (e.stack ∙ insert_key-new stack called c.in-Some-follow.ensures.stack) ∙ length_push stack called in
    let path : length c.loop-frame.self.path.items ≡ length c.pop.new.self.items + 1 = path-len c.loop-frame.self.path.items c.pop.new.self.items c.in-Some.frame c.in-Some.ensures.items in
    let on : length c.push.new.self.items ≡ length c.pop.new.self.items + 1 =
    path-len c.push.new.self.items c.pop.new.self.items (frame c.in-Some.frame.place c.in-Some-follow.next) c.in_ok-push-in-Some-follow.ensures.items in
    let down : length c.enter-in-Some-follow.new.self.path.items ≡ length c.push.new.self.items + 1 =
    path-len c.enter-in-Some-follow.new.self.path.items c.push.new.self.items (frame (length stack) 0) e.path in
    omega (arith, small, done, more, path, on, down)

pub loop-frame-preserved-in-Continue-branch-3 : goal.loop-frame-preserved-in-Continue-branch-3
loop-frame-preserved-in-Continue-branch-3 g c =
    let lib : Library = g.B.Library.programs c.args.lib.now in
    let first : List ℕ = c.args.self.now.done.keys in
    let done : List ℕ = c.loop-frame.self.done.keys in
    let looped : List ℕ = c.loop-frame.self.looped.items in
    let stack : List ℕ = c.loop-frame.self.stack.keys in
    let starts : List ℕ = reverse c.loop-frame.self.starts.items in
    let f : Frame = c.in-Some.frame in
    let rest : List Frame = c.pop.new.self.items in
    let walk : IsWalk lib first c.args.name done looped stack starts (f ∷ reverse rest) =
    walk-top lib first c.args.name done looped stack starts c.loop-frame.self.path.items rest f c.in-Some.ensures.items c.loop-frame.invariant in
    let e = c.in_ok-enter-in-Some-follow.ensures in
    let called : ℕ = c.in-Some-follow.called in
    let next : ℕ = c.in-Some-follow.next in
    let new : List ℕ = reverse c.follow.new.starts.items in
    walk-same lib first c.args.name done looped (stack ++ called ∷ []) (length stack ∷ new) _ _ _ _ (frame (length stack) 0 ∷ frame f.place next ∷ reverse rest) _
    e.done e.looped (e.stack ∙ insert_key-new stack called c.in-Some-follow.ensures.stack) (starts-top _ c.follow.new.starts.items (length stack) e.starts)
    (path-top _ c.push.new.self.items (frame (length stack) 0) e.path ∙ ap (λ (l : List Frame). frame (length stack) 0 ∷ l) (path-top c.push.new.self.items rest (frame f.place next) c.in_ok-push-in-Some-follow.ensures.items))
    (walk-down lib first c.args.name done looped stack starts f (reverse rest) walk new c.follow.ensures.grouped c.follow.ensures.fewer next called c.in-Some-follow.ensures.called c.in-Some-follow.ensures.done c.in-Some-follow.ensures.some)

pub end_group-requires : goal.end_group-requires
end_group-requires g c =
    let lib : Library = g.B.Library.programs c.args.lib.now in
    let first : List ℕ = c.args.self.now.done.keys in
    let done : List ℕ = c.loop-frame.self.done.keys in
    let looped : List ℕ = c.loop-frame.self.looped.items in
    let stack : List ℕ = c.loop-frame.self.stack.keys in
    let starts : List ℕ = reverse c.loop-frame.self.starts.items in
    let f : Frame = c.in-Some.frame in
    let rest : List Frame = c.pop.new.self.items in
    let walk : IsWalk lib first c.args.name done looped stack starts (f ∷ reverse rest) =
    walk-top lib first c.args.name done looped stack starts c.loop-frame.self.path.items rest f c.in-Some.ensures.items c.loop-frame.invariant in
    walk.trail.within f (frame-here f (reverse rest))

pub loop-frame-smaller-in-Continue-branch-4 : goal.loop-frame-smaller-in-Continue-branch-4
loop-frame-smaller-in-Continue-branch-4 g c =
    let lib : Library = g.B.Library.programs c.args.lib.now in
    let first : List ℕ = c.args.self.now.done.keys in
    let done : List ℕ = c.loop-frame.self.done.keys in
    let looped : List ℕ = c.loop-frame.self.looped.items in
    let stack : List ℕ = c.loop-frame.self.stack.keys in
    let starts : List ℕ = reverse c.loop-frame.self.starts.items in
    let f : Frame = c.in-Some.frame in
    let rest : List Frame = c.pop.new.self.items in
    let walk : IsWalk lib first c.args.name done looped stack starts (f ∷ reverse rest) =
    walk-top lib first c.args.name done looped stack starts c.loop-frame.self.path.items rest f c.in-Some.ensures.items c.loop-frame.invariant in
    let e = c.in_ok-end_group-in-None.ensures in
    let same : length c.end_group.new.self.done.keys + length c.end_group.new.self.stack.keys ≡ length done + length stack =
    ap (λ (l : List ℕ). length l + length c.end_group.new.self.stack.keys) e.done ∙ ap (λ (l : List ℕ). length (insert_all nat_eq done (drop f.place stack)) + length l) e.stack
    ∙ end-len lib done stack starts f.place walk.grouped (walk.trail.within f (frame-here f (reverse rest))) e.distinct in
    let path : length c.loop-frame.self.path.items ≡ length rest + 1 = path-len c.loop-frame.self.path.items rest f c.in-Some.ensures.items in
    let up : length c.end_group.new.self.path.items ≡ length rest = ap (λ (l : List Frame). length l) e.path in
    omega (arith, same, path, up)

pub loop-frame-preserved-in-Continue-branch-4 : goal.loop-frame-preserved-in-Continue-branch-4
loop-frame-preserved-in-Continue-branch-4 g c =
    let lib : Library = g.B.Library.programs c.args.lib.now in
    let first : List ℕ = c.args.self.now.done.keys in
    let done : List ℕ = c.loop-frame.self.done.keys in
    let looped : List ℕ = c.loop-frame.self.looped.items in
    let stack : List ℕ = c.loop-frame.self.stack.keys in
    let starts : List ℕ = reverse c.loop-frame.self.starts.items in
    let f : Frame = c.in-Some.frame in
    let rest : List Frame = c.pop.new.self.items in
    let walk : IsWalk lib first c.args.name done looped stack starts (f ∷ reverse rest) =
    walk-top lib first c.args.name done looped stack starts c.loop-frame.self.path.items rest f c.in-Some.ensures.items c.loop-frame.invariant in
    let e = c.in_ok-end_group-in-None.ensures in
    let more : List ℕ = c.end_group.new.self.looped.items in
    let new : List ℕ = reverse c.follow.new.starts.items in
    let left : List ℕ = reverse c.pop_start.new.starts.items in
    walk-same lib first c.args.name (insert_all nat_eq done (drop f.place stack)) more (take f.place stack) left _ _ _ _ (reverse rest) _
    e.done refl e.stack (ap (λ (l : List ℕ). reverse l) e.starts) (ap (λ (l : List Frame). reverse l) e.path)
    (walk-end lib first c.args.name done looped stack starts f (reverse rest) walk new c.follow.ensures.grouped c.follow.ensures.fewer c.in-None.ensures.none left (c.pop_start.ensures.yes c.if-pop_start.true) e.distinct more e.looped)

pub loop-frame-preserved : goal.loop-frame-preserved
loop-frame-preserved g c =
    let lib : Library = g.B.Library.programs c.args.lib.now in
    let first : List ℕ = c.args.self.now.done.keys in
    let done : List ℕ = c.loop-frame.self.done.keys in
    let looped : List ℕ = c.loop-frame.self.looped.items in
    let stack : List ℕ = c.loop-frame.self.stack.keys in
    let starts : List ℕ = reverse c.loop-frame.self.starts.items in
    let f : Frame = c.in-Some.frame in
    let rest : List Frame = c.pop.new.self.items in
    let walk : IsWalk lib first c.args.name done looped stack starts (f ∷ reverse rest) =
    walk-top lib first c.args.name done looped stack starts c.loop-frame.self.path.items rest f c.in-Some.ensures.items c.loop-frame.invariant in
    let new : List ℕ = reverse c.follow.new.starts.items in
    let not = c.pop_start.ensures.not c.if-pop_start.false in
    walk-same lib first c.args.name done looped stack new _ _ _ _ (reverse rest) _
    refl refl refl (ap (λ (l : List ℕ). reverse l) not.0) refl
    (walk-up lib first c.args.name done looped stack starts f (reverse rest) walk new c.follow.ensures.grouped c.follow.ensures.fewer c.in-None.ensures.none not.1)

pub returns-clause-settled : goal.returns-clause-settled
returns-clause-settled g c =
    let lib : Library = g.B.Library.programs c.args.lib.now in
    let first : List ℕ = c.args.self.now.done.keys in
    let done : List ℕ = c.loop-frame.self.done.keys in
    let looped : List ℕ = c.loop-frame.self.looped.items in
    let stack : List ℕ = c.loop-frame.self.stack.keys in
    let starts : List ℕ = reverse c.loop-frame.self.starts.items in
    let path : List Frame = c.loop-frame.self.path.items in
    let empty : path ≡ [] = path-none path c.pop.new.self.items _ c.in_default.ensures.cases.0 c.in_default.ensures.items c.in_default.ensures.rest in
    let walk : IsWalk lib first c.args.name done looped stack starts [] =
    subst (λ (l : List Frame). IsWalk lib first c.args.name done looped stack starts (reverse l)) empty c.loop-frame.invariant in
    record {
      closed = walk.grouped.closed;
      looped = walk.known;
      stack = walk-stack lib first c.args.name done looped stack starts walk;
      starts = reverse-none c.loop-frame.self.starts.items (walk-starts lib first c.args.name done looped stack starts walk);
      path = sym (append-nil c.pop.new.self.items) ∙ sym c.in_default.ensures.items ∙ empty;
    }

pub returns-clause-there : goal.returns-clause-there
returns-clause-there g c =
    let lib : Library = g.B.Library.programs c.args.lib.now in
    let first : List ℕ = c.args.self.now.done.keys in
    let done : List ℕ = c.loop-frame.self.done.keys in
    let looped : List ℕ = c.loop-frame.self.looped.items in
    let stack : List ℕ = c.loop-frame.self.stack.keys in
    let starts : List ℕ = reverse c.loop-frame.self.starts.items in
    let path : List Frame = c.loop-frame.self.path.items in
    let empty : path ≡ [] = path-none path c.pop.new.self.items _ c.in_default.ensures.cases.0 c.in_default.ensures.items c.in_default.ensures.rest in
    let walk : IsWalk lib first c.args.name done looped stack starts [] =
    subst (λ (l : List Frame). IsWalk lib first c.args.name done looped stack starts (reverse l)) empty c.loop-frame.invariant in
    walk-root lib first c.args.name done looped stack starts walk
