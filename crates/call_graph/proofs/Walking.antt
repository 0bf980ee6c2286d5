-- A walk down the calls, turn by turn.
use Rattle.std.proofs.Common.{ℕ, ◌+◌, ◌-◌, ◌≡◌, ◌⊎◌, ◌<◌, ◌≤◌, ◌↔◌, inl, inr, refl, sym, ap, subst, subst₂, ◌∙◌, List, [], ◌∷◌, ◌++◌, Contains, take, drop, length, length-append, length-drop, length-take-le, get_or, reverse, append-nil, nat_eq, IfSome, IfNone, arith}
use Rattle.std.specs.declared.option.Option.{Option}
use Rattle.std.specs.declared.option.Option.TheVariants.{Some, None}
use Rattle.std.specs.List.{IsDistinct}
use Rattle.std.proofs.lemmas.Bool.{cases_lt}
use Rattle.std.proofs.lemmas.List.{get_or_default, reverse-append, reverse-reverse}
use Rattle.std.proofs.lemmas.List.Elements.{Contains-get_or, Contains-append_left, Contains-push}
use Rattle.indexmap.specs.IndexSet.{insert_all}
use Rattle.loda_semantics.specs.Exec.{Library}
use Rattle.program_store.specs.Graph.{Reaches, OnCycle, NoCycle}
use Rattle.call_graph.specs.Closure.{CallsName, HasItsCalls, IsLeast}
use Rattle.call_graph.specs.Groups.{Descends, IsLeft, IsMet, IsGrouped}
use Rattle.call_graph.specs.Walks.{IsSettled, AddsLoop, frame}
use Rattle.call_graph.specs.declared.walk.Walk.{Walk}
use Rattle.call_graph.specs.declared.groups.Frame.{Frame}
use Rattle.call_graph.proofs.Paths.{reach_call}
use Rattle.call_graph.proofs.Sets.{cons-cases, cons-here, cons-more, insert_all-kept, insert_all-has, insert_all-new, distinct-drop}
use Rattle.call_graph.proofs.Trails.{IsLeftAt, IsTrail, frame-here, frame-more, trail-last}
use Rattle.call_graph.proofs.Entering.{entered, entered-trail}
use Rattle.call_graph.proofs.Leaving.{down-falls, down-within, down-started, down-pending, up-pending, up-trail}
use Rattle.call_graph.proofs.Ending.{ended, ended-trail, ended-looped, back-has, back-place, front-has}

-- a walk from a name, which began with the names `first` done; the starts and the path from their ends
pub record IsWalk (lib : Library) (first : List ℕ) (name : ℕ) (done looped stack starts : List ℕ) (path : List Frame) : Type 0 where
  pub grouped : IsGrouped lib done stack starts
  pub trail : IsTrail lib done stack starts path
  pub known : (q : ℕ) → Contains looped q ↔ (Contains done q × OnCycle lib q)
  pub kept : (q : ℕ) → Contains first q → Contains done q
  pub entered : Contains done name ⊎ Contains stack name

-- the same lists by other names
pub walk-same : (lib : Library) (first : List ℕ) (name : ℕ) (done looped stack starts done' looped' stack' starts' : List ℕ) (path path' : List Frame)
    → done' ≡ done → looped' ≡ looped → stack' ≡ stack → starts' ≡ starts → path' ≡ path
    → IsWalk lib first name done looped stack starts path → IsWalk lib first name done' looped' stack' starts' path'
walk-same lib first name done looped stack starts done' looped' stack' starts' path path' a b c d e walk =
    subst (λ (x : List ℕ). IsWalk lib first name x looped' stack' starts' path') (sym a)
    (subst (λ (x : List ℕ). IsWalk lib first name done x stack' starts' path') (sym b)
    (subst (λ (x : List ℕ). IsWalk lib first name done looped x starts' path') (sym c)
    (subst (λ (x : List ℕ). IsWalk lib first name done looped stack x path') (sym d)
    (subst (λ (x : List Frame). IsWalk lib first name done looped stack starts x) (sym e) walk))))

-- the last frame of the path is the first from its end
pub path-top : (path rest : List Frame) (f : Frame) → path ≡ rest ++ f ∷ [] → reverse path ≡ f ∷ reverse rest
path-top path rest f is = ap (λ (l : List Frame). reverse l) is ∙ reverse-append rest (f ∷ [])

-- and so are the starts
pub starts-top : (starts rest : List ℕ) (b : ℕ) → starts ≡ rest ++ b ∷ [] → reverse starts ≡ b ∷ reverse rest
starts-top starts rest b is = ap (λ (l : List ℕ). reverse l) is ∙ reverse-append rest (b ∷ [])

-- the walk, where its path has an end
pub walk-top : (lib : Library) (first : List ℕ) (name : ℕ) (done looped stack starts : List ℕ) (path rest : List Frame) (f : Frame) → path ≡ rest ++ f ∷ []
    → IsWalk lib first name done looped stack starts (reverse path) → IsWalk lib first name done looped stack starts (f ∷ reverse rest)
walk-top lib first name done looped stack starts path rest f is walk = subst (λ (l : List Frame). IsWalk lib first name done looped stack starts l) (path-top path rest f is) walk

module _ (lib : Library) where
  -- the walk begins
  pub walk-first : (done looped : List ℕ) (name : ℕ) → HasItsCalls lib done → ((q : ℕ) → Contains looped q ↔ (Contains done q × OnCycle lib q))
      → (Contains done name → ⊥) → IsWalk lib done name done looped (name ∷ []) (0 ∷ []) (frame 0 0 ∷ [])
  walk-first done looped name closed known new = record {
    grouped = entered lib done [] [] name (λ b there. absurd (omega arith)) none new (λ j lt. absurd (omega arith));
    trail = entered-trail lib done [] [] name (λ b there. absurd (omega arith)) [] tt (λ f there. absurd (omega arith)) (λ b there. absurd (omega arith)) (λ j lt n call. absurd (omega arith));
    known = known;
    kept = λ q there. there;
    entered = inr (Contains-push [] name);
  }
    where
      none : IsGrouped lib done [] []
      none = record {
        closed = closed;
        apart = λ q there h. absurd (omega arith);
        reach = λ j k low high up. absurd (omega arith);
        descends = tt;
        first = λ some. absurd (omega arith);
      }

  module _ (first : List ℕ) (root : ℕ) (done looped stack starts : List ℕ) (f : Frame) (fs : List Frame)
      (walk : IsWalk lib first root done looped stack starts (f ∷ fs))
      (new : List ℕ) (grouped : IsGrouped lib done stack new) (fewer : (b : ℕ) → Contains new b → Contains starts b) where
    within : f.place < length stack
    within = walk.trail.within f (frame-here f fs)

    pub new-last : (b : ℕ) → Contains new b → b ≤ f.place
    new-last b there = trail-last lib done stack starts f fs walk.trail b (fewer b there)

    -- it goes down to a new name
    module _ (next name : ℕ) (call : CallsName lib (get_or stack f.place 0) name) (not-done : Contains done name → ⊥)
        (followed : (n : ℕ) → CallsName lib (get_or stack f.place 0) n → IsMet done stack new f.place n ⊎ ((name ≡ n) ⊎ IsLeft lib (get_or stack f.place 0) next n)) where
      below : (b : ℕ) → Contains new b → b < length stack
      below b there = let le : b ≤ f.place = new-last b there in let lt : f.place < length stack = within in omega arith

      reached : (j : ℕ) → j < length stack → Reaches lib (get_or stack j 0) name
      reached j lt = reach_call lib (get_or stack j 0) (get_or stack f.place 0) (grouped.reach j f.place lt within (λ b there _. new-last b there)) call.0 call.1 name call.2

      pub walk-down : IsWalk lib first root done looped (stack ++ name ∷ []) (length stack ∷ new) (frame (length stack) 0 ∷ frame f.place next ∷ fs)
      walk-down = record {
        grouped = entered lib done stack new name below grouped not-done reached;
        trail = entered-trail lib done stack new name below (frame f.place next ∷ fs) (down-falls lib done stack starts f fs walk.trail new fewer next)
            (down-within lib done stack starts f fs walk.trail new fewer next) (down-started lib done stack starts f fs walk.trail new fewer next)
            (down-pending lib done stack starts f fs walk.trail new fewer next name followed);
        known = walk.known;
        kept = walk.kept;
        entered = elim walk.entered [ inl h ↦ inl h | inr h ↦ inr (Contains-append_left stack (name ∷ []) root h) ];
      }

    module _ (followed : (n : ℕ) → CallsName lib (get_or stack f.place 0) n → IsMet done stack new f.place n) where
      -- it goes up, and the group goes on
      pub walk-up : ((rest : List ℕ) → new ≡ f.place ∷ rest → ⊥) → IsWalk lib first root done looped stack new fs
      walk-up other = record {
        grouped = grouped;
        trail = up-trail lib done stack starts f fs walk.trail new fewer followed (apart new refl);
        known = walk.known;
        kept = walk.kept;
        entered = walk.entered;
      }
        where
          apart : (l : List ℕ) → new ≡ l → Contains l f.place → ⊥
          apart [] is there = absurd (omega arith)
          apart (b ∷ bs) is there =
              elim (cons-cases b bs f.place there) [
                | inl same ↦ other bs (subst (λ x. new ≡ x ∷ bs) same is)
                | inr h ↦ (
                    let descends : Descends (b ∷ bs) = subst Descends is grouped.descends in
                    let lt : f.place < b = descends.0 f.place h in
                    let le : b ≤ f.place = new-last b (subst (λ (l : List ℕ). Contains l b) (sym is) (cons-here b bs)) in
                    absurd (omega arith))
              ]

      -- it goes up, and the group ends
      pub walk-end : (rest : List ℕ) → new ≡ f.place ∷ rest → IsDistinct nat_eq stack → (more : List ℕ) → AddsLoop lib (drop f.place stack) looped more
          → IsWalk lib first root (insert_all nat_eq done (drop f.place stack)) more (take f.place stack) rest fs
      walk-end rest is distinct more adds =
          let grouped-at : IsGrouped lib done stack (f.place ∷ rest) = subst (IsGrouped lib done stack) is grouped in
          let pending = subst (λ (l : List ℕ). (j : ℕ) → j < length stack → (n : ℕ) → CallsName lib (get_or stack j 0) n → IsMet done stack l j n ⊎ IsLeftAt lib stack fs j n) is
          (up-pending lib done stack starts f fs walk.trail new fewer followed) in
          record {
            grouped = ended lib done stack rest f fs distinct within walk.trail.descends grouped-at pending;
            trail = ended-trail lib done stack rest f fs distinct within walk.trail.descends grouped-at pending (λ g there. walk.trail.within g (frame-more f fs g there))
                (λ b there. walk.trail.started b (fewer b (subst (λ (l : List ℕ). Contains l b) (sym is) (cons-more f.place rest b there))));
            known = ended-looped lib done stack rest f fs distinct within walk.trail.descends grouped-at pending looped more adds walk.known;
            kept = λ q there. insert_all-kept done (drop f.place stack) q (walk.kept q there);
            entered = elim walk.entered [
              | inl h ↦ inl (insert_all-kept done (drop f.place stack) root h)
              | inr h ↦ back-or-front h
            ];
          }
        where
          back-or-front : Contains stack root → Contains (insert_all nat_eq done (drop f.place stack)) root ⊎ Contains (take f.place stack) root
          back-or-front there =
              elim (cases_lt there.0 f.place) [
                | inl lt ↦ inr (front-has stack f.place root there lt)
                | inr le ↦
                    let e : get_or stack there.0 0 ≡ root = get_or_default stack there.0 0 root there.1 ∙ there.2 in
                    inl (insert_all-has done (drop f.place stack) root (subst (Contains (drop f.place stack)) e (back-has stack f.place there.0 le there.1)))
              ]

  -- the names of a group go over to those done, so their number stays
  pub end-len : (done stack starts : List ℕ) (place : ℕ) → IsGrouped lib done stack starts → place < length stack → IsDistinct nat_eq stack
      → length (insert_all nat_eq done (drop place stack)) + length (take place stack) ≡ length done + length stack
  end-len done stack starts place grouped lt distinct =
      let whole : length (insert_all nat_eq done (drop place stack)) ≡ length (done ++ drop place stack) =
      ap (λ (l : List ℕ). length l) (insert_all-new done (drop place stack) (distinct-drop place stack distinct) apart) in
      let sum : length (done ++ drop place stack) ≡ length done + length (drop place stack) = length-append done (drop place stack) in
      let back : length (drop place stack) ≡ length stack - place = length-drop place stack in
      let front : length (take place stack) ≡ place = (let le : place ≤ length stack = omega arith in length-take-le place stack le) in
      omega arith
    where
      apart : (q : ℕ) → Contains (drop place stack) q → Contains done q → ⊥
      apart q there h = let k = back-place stack place q there in grouped.apart q (subst (Contains stack) k.3 (Contains-get_or stack k.0 0 k.2)) h

  -- ---- the walk ends

  module _ (first : List ℕ) (root : ℕ) (done looped stack starts : List ℕ) (walk : IsWalk lib first root done looped stack starts []) where
    pub walk-starts : starts ≡ []
    walk-starts = none starts (λ b there. let g = walk.trail.started b there in absurd (omega arith))
      where
        none : (l : List ℕ) → ((b : ℕ) → Contains l b → ⊥) → l ≡ []
        none [] empty = refl
        none (b ∷ bs) empty = absurd (empty b (cons-here b bs))

    pub walk-stack : stack ≡ []
    walk-stack = by stack refl
      where
        by : (l : List ℕ) → stack ≡ l → stack ≡ []
        by [] is = is
        by (x ∷ xs) is =
            let some : 0 < length stack = subst (λ (l : List ℕ). 0 < length l) (sym is) (omega arith) in
            let there : Contains starts 0 = walk.grouped.first some in
            let g = walk.trail.started 0 there in absurd (omega arith)

    pub walk-root : Contains done root
    walk-root = elim walk.entered [ inl h ↦ h | inr h ↦ (let lt : h.0 < length stack = h.1 in let e : length stack ≡ 0 = ap (λ (l : List ℕ). length l) walk-stack in absurd (omega arith)) ]

-- a path with no end is empty
pub path-none : (path rest : List Frame) (n : ℕ) → n ≡ 0 → path ≡ rest ++ [] → rest ≡ take (n - 1) path → path ≡ []
path-none path rest n none is left = is ∙ append-nil rest ∙ left ∙ ap (λ (m : ℕ). take (m - 1) path) none

pub reverse-none : (xs : List ℕ) → reverse xs ≡ [] → xs ≡ []
reverse-none xs none = sym (reverse-reverse xs) ∙ ap (λ (l : List ℕ). reverse l) none

-- a walk that has found nothing
pub settled-first : (lib : Library) (walk : Walk) → walk.done.keys ≡ [] → walk.looped.items ≡ [] → walk.stack.keys ≡ [] → walk.starts.items ≡ [] → walk.path.items ≡ [] → IsSettled lib walk
settled-first lib walk done looped stack starts path = record {
  closed = subst (λ (l : List ℕ). HasItsCalls lib l) (sym done) (λ q there p e n call. absurd (omega arith));
  looped = λ q. subst₂ (λ (l d : List ℕ). Contains l q ↔ (Contains d q × OnCycle lib q)) (sym looped) (sym done) (λ there. absurd (omega arith), λ both. absurd (none both.0));
  stack = stack;
  starts = starts;
  path = path;
}
  where
    none : {q : ℕ} → Contains [] q → ⊥
    none there = absurd (omega arith)

-- where all names on a cycle are done, the least that is known is the least there is
module _ (lib : Library) (walk : Walk) (settled : IsSettled lib walk) (all : (q : ℕ) → OnCycle lib q → Contains walk.done.keys q) where
  pub least-cycle : (found : Option ℕ) → IfSome found (IsLeast (Contains walk.looped.items)) → IfSome found (IsLeast (OnCycle lib))
  least-cycle None least = tt
  least-cycle (Some q) least = (((settled.looped q).0 least.0).1, λ k lt on. least.1 k lt ((settled.looped k).1 (all k on, on)))

  pub none-cycle : (found : Option ℕ) → IfNone found ((q : ℕ) → Contains walk.looped.items q → ⊥) → IfNone found (NoCycle lib)
  none-cycle None none = λ q on. none q ((settled.looped q).1 (all q on, on))
  none-cycle (Some q) none = tt
