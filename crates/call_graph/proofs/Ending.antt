-- A group that ends: its names are done.
use Rattle.std.proofs.Common.{ℕ, ◌+◌, ◌-◌, ◌≡◌, ◌⊎◌, ◌<◌, ◌≤◌, ◌↔◌, inl, inr, sym, ap, subst, ◌∙◌, true≢false, List, ◌∷◌, Contains, take, drop, length, get_or, get_or-drop, get_or-take, length-drop, nat_eq, min, subst₂, length-take, length-take-le, eq-eqb, arith}
use Rattle.std.specs.List.{IsDistinct}
use Rattle.std.proofs.lemmas.Bool.{cases_lt}
use Rattle.std.proofs.lemmas.List.{get_or_default}
use Rattle.std.proofs.lemmas.List.Elements.{Contains-get_or, Contains-append_left, Contains-append_right, Contains-append_cases}
use Rattle.std.proofs.lemmas.Map.Keys.{apart_from_distinct}
use Rattle.indexmap.specs.IndexSet.{insert_all}
use Rattle.loda_semantics.specs.Exec.{Library}
use Rattle.program_store.specs.Graph.{Reaches, OnCycle}
use Rattle.call_graph.specs.Closure.{CallsName, HasItsCalls}
use Rattle.call_graph.specs.Groups.{IsLeft, IsMet, IsGrouped}
use Rattle.call_graph.specs.Walks.{IsLoop, AddsLoop}
use Rattle.call_graph.specs.declared.groups.Frame.{Frame}
use Rattle.call_graph.proofs.Paths.{stays, reach_self, reach_trans, reach_other}
use Rattle.call_graph.proofs.Sets.{cons-cases, cons-here, cons-more, insert_all-kept, insert_all-has, insert_all-cases}
use Rattle.call_graph.proofs.Trails.{Falls, IsLeftAt, IsTrail, frame-cases}

-- ---- the front and the back of a list

module _ (xs : List ℕ) (p : ℕ) where
  pub back-has : (k : ℕ) → p ≤ k → k < length xs → Contains (drop p xs) (get_or xs k 0)
  back-has k le lt =
      let len : length (drop p xs) ≡ length xs - p = length-drop p xs in
      let i : k - p < length (drop p xs) = omega arith in
      let e : p + (k - p) ≡ k = omega arith in
      subst (Contains (drop p xs)) (get_or-drop p xs (k - p) 0 ∙ ap (λ n. get_or xs n 0) e) (Contains-get_or (drop p xs) (k - p) 0 i)

  pub back-place : (q : ℕ) → Contains (drop p xs) q → (k : ℕ) × (p ≤ k) × (k < length xs) × (get_or xs k 0 ≡ q)
  back-place q there =
      let len : length (drop p xs) ≡ length xs - p = length-drop p xs in
      let i : there.0 < length (drop p xs) = there.1 in
      let lt : p + there.0 < length xs = omega arith in
      (p + there.0, omega arith, lt, sym (get_or-drop p xs there.0 0) ∙ get_or_default (drop p xs) there.0 0 q i ∙ there.2)

  pub front-place : (q : ℕ) → p ≤ length xs → Contains (take p xs) q → (k : ℕ) × (k < p) × (get_or xs k 0 ≡ q)
  front-place q le there =
      let len : length (take p xs) ≡ p = length-take-le p xs le in
      let i : there.0 < length (take p xs) = there.1 in
      let lt : there.0 < p = omega arith in
      (there.0, lt, sym (get_or-take p xs there.0 0 lt) ∙ get_or_default (take p xs) there.0 0 q i ∙ there.2)

  pub front-has : (q : ℕ) → (there : Contains xs q) → there.0 < p → Contains (take p xs) q
  front-has q there lt =
      let i : there.0 < length xs = there.1 in
      let len : there.0 < length (take p xs) = length-take-lt there.0 i lt in
      (there.0, len, get_or-take p xs there.0 q lt ∙ there.2)
    where
      length-take-lt : (k : ℕ) → k < length xs → k < p → k < length (take p xs)
      length-take-lt k high low = let e : length (take p xs) ≡ min p (length xs) = length-take p xs in omega arith

apart-at : (xs : List ℕ) → IsDistinct nat_eq xs → (i j : ℕ) → i < j → j < length xs → get_or xs i 0 ≡ get_or xs j 0 → ⊥
apart-at xs distinct i j lt high same =
    true≢false (sym (eq-eqb (get_or xs i 0) (get_or xs j 0) same) ∙ apart_from_distinct nat_eq xs i j 0 distinct lt high)

-- ---- the group of the last start

module _ (lib : Library) (done stack rest : List ℕ) (f : Frame) (fs : List Frame) (distinct : IsDistinct nat_eq stack)
    (here : f.place < length stack) (falls : Falls (f ∷ fs)) (grouped : IsGrouped lib done stack (f.place ∷ rest))
    (pending : (j : ℕ) → j < length stack → (n : ℕ) → CallsName lib (get_or stack j 0) n → IsMet done stack (f.place ∷ rest) j n ⊎ IsLeftAt lib stack fs j n) where
  abbrev place : ℕ
  place = f.place

  abbrev group : List ℕ
  group = drop place stack

  abbrev all : List ℕ
  all = insert_all nat_eq done group

  -- each call of the group leads to a name that is done or to the group
  calls-stay : (k : ℕ) → place ≤ k → k < length stack → (n : ℕ) → CallsName lib (get_or stack k 0) n
      → Contains done n ⊎ ((m : ℕ) × (place ≤ m) × (m < length stack) × (get_or stack m 0 ≡ n))
  calls-stay k le lt n call =
      elim (pending k lt n call) [
        | inl met ↦
            elim met [
              | inl h ↦ inl h
              | inr m ↦ inr (m.0, m.3 place (cons-here place rest) le, m.1, m.2)
            ]
        | inr left ↦ let under : left.0.place < place = falls.0 left.0 left.1 in let e : left.0.place ≡ k = left.2 in absurd (omega arith)
      ]

  all-closed : HasItsCalls lib all
  all-closed q there p e n call =
      elim (insert_all-cases done group q there) [
        | inl h ↦ insert_all-kept done group n (grouped.closed q h p e n call)
        | inr h ↦
            let k = back-place stack place q h in
            elim (calls-stay k.0 k.1 k.2 n (subst (λ x. CallsName lib x n) (sym k.3) (p, e, call))) [
              | inl old ↦ insert_all-kept done group n old
              | inr m ↦ insert_all-has done group n (subst (Contains group) m.3 (back-has stack place m.0 m.1 m.2))
            ]
      ]

  front-len : length (take place stack) ≡ place
  front-len = let le : place ≤ length stack = omega arith in length-take-le place stack le

  front-at : (j : ℕ) → j < place → get_or (take place stack) j 0 ≡ get_or stack j 0
  front-at j lt = get_or-take place stack j 0 lt

  front-apart : (q : ℕ) → Contains (take place stack) q → Contains all q → ⊥
  front-apart q front there =
      let le : place ≤ length stack = omega arith in
      let j = front-place stack place q le front in
      elim (insert_all-cases done group q there) [
        | inl h ↦ (let lt : j.0 < place = j.1 in let low : j.0 < length stack = omega arith in
            grouped.apart q (subst (Contains stack) j.2 (Contains-get_or stack j.0 0 low)) h)
        | inr h ↦ (
            let k = back-place stack place q h in
            let lt : j.0 < place = j.1 in
            let up : place ≤ k.0 = k.1 in
            let less : j.0 < k.0 = omega arith in
            apart-at stack distinct j.0 k.0 less k.2 (j.2 ∙ sym k.3))
      ]

  -- the groups before it stay
  pub ended : IsGrouped lib all (take place stack) rest
  ended = record {
    closed = all-closed;
    apart = front-apart;
    reach = λ j k low high up.
        let len : length (take place stack) ≡ place = front-len in
        let l : j < place = omega arith in
        let h : k < place = omega arith in
        let j-in : j < length stack = omega arith in
        let k-in : k < length stack = omega arith in
        subst₂ (Reaches lib) (sym (front-at j l)) (sym (front-at k h))
        (grouped.reach j k j-in k-in (λ b there le. elim (cons-cases place rest b there) [ inl same ↦ absurd (omega arith) | inr t ↦ up b t le ]));
    descends = grouped.descends.1;
    first = λ some.
        let len : length (take place stack) ≡ place = front-len in
        let pos : 0 < length stack = omega arith in
        elim (cons-cases place rest 0 (grouped.first pos)) [ inl same ↦ absurd (omega arith) | inr t ↦ t ];
  }

  ended-met : (j n : ℕ) → j < place → IsMet done stack (place ∷ rest) j n → IsMet all (take place stack) rest j n
  ended-met j n lt met =
      elim met [
        | inl h ↦ inl (insert_all-kept done group n h)
        | inr m ↦
            elim (cases_lt m.0 place) [
              | inl under ↦
                  inr (m.0, (let len : length (take place stack) ≡ place = front-len in omega arith), front-at m.0 under ∙ m.2, λ b there le. m.3 b (cons-more place rest b there) le)
              | inr over ↦ inl (insert_all-has done group n (subst (Contains group) m.2 (back-has stack place m.0 over m.1)))
            ]
      ]

  -- and so does the path above it
  pub ended-trail : (within : (g : Frame) → Contains fs g → g.place < length stack)
      → (started : (b : ℕ) → Contains rest b → (g : Frame) × Contains (f ∷ fs) g × (g.place ≡ b)) → IsTrail lib all (take place stack) rest fs
  ended-trail within started = record {
    descends = falls.1;
    within = λ g there. let len : length (take place stack) ≡ place = front-len in let lt : g.place < place = falls.0 g there in omega arith;
    started = λ b there.
        let g = started b there in
        elim (frame-cases f fs g.0 g.1) [
          | inl same ↦ (let e : f.place ≡ b = subst (λ (h : Frame). h.place ≡ b) (sym same) g.2 in let lt : b < place = grouped.descends.0 b there in absurd (omega arith))
          | inr h ↦ (g.0, h, g.2)
        ];
    pending = λ j low n call.
        let len : length (take place stack) ≡ place = front-len in
        let lt : j < place = omega arith in
        let j-in : j < length stack = omega arith in
        elim (pending j j-in n (subst (λ q. CallsName lib q n) (front-at j lt) call)) [
          | inl met ↦ inl (ended-met j n lt met)
          | inr left ↦ inr (left.0, left.1, left.2, subst (λ q. IsLeft lib q left.0.next n) (sym (front-at j lt)) left.3)
        ];
  }

  -- ---- whether the group is on a cycle

  within-group : (j k : ℕ) → j < length stack → k < length stack → place ≤ k → Reaches lib (get_or stack j 0) (get_or stack k 0)
  within-group j k low high le =
      grouped.reach j k low high
      (λ b there _. elim (cons-cases place rest b there) [ inl same ↦ omega arith | inr t ↦ (let lt : b < place = grouped.descends.0 b t in omega arith) ])

  -- two names of the group
  two : (j k : ℕ) → place ≤ j → place ≤ k → j < length stack → k < length stack → (get_or stack j 0 ≡ get_or stack k 0 → ⊥) → OnCycle lib (get_or stack j 0)
  two j k low le j-in k-in apart =
      let first = reach_other lib (get_or stack j 0) (get_or stack k 0) apart (within-group j k j-in k-in le) in
      (first.0, first.1, (first.2.0, first.2.1, reach_trans lib first.2.0 (get_or stack k 0) (get_or stack j 0) first.2.2 (within-group k j k-in j-in low)))

  len-group : length group ≡ length stack - place
  len-group = length-drop place stack

  group-first : get_or group 0 0 ≡ get_or stack place 0
  group-first = get_or-drop place stack 0 0 ∙ ap (λ i. get_or stack i 0) (let e : place + 0 ≡ place = omega arith in e)

  pub loop-on : IsLoop lib group → (q : ℕ) → Contains group q → OnCycle lib q
  loop-on loop q there =
      let k = back-place stack place q there in
      subst (OnCycle lib) k.3 (at k.0 k.1 k.2)
    where
      several : (k : ℕ) → place ≤ k → k < length stack → place + 1 < length stack → OnCycle lib (get_or stack k 0)
      several k le lt more =
          elim (cases_lt place k) [
            | inl above ↦
                let low : place ≤ place = omega arith in
                two k place le low lt here (λ same. apart-at stack distinct place k above lt (sym same))
            | inr under ↦
                let less : k < place + 1 = omega arith in
                let low : place ≤ place + 1 = omega arith in
                two k (place + 1) le low lt more (λ same. apart-at stack distinct k (place + 1) less more same)
          ]

      at : (k : ℕ) → place ≤ k → k < length stack → OnCycle lib (get_or stack k 0)
      at k le lt =
          elim (cases_lt (place + 1) (length stack)) [
            | inl more ↦ several k le lt more
            | inr one ↦
                elim loop [
                  | inl many ↦ (let len : length group ≡ length stack - place = len-group in let some : 1 < length group = many in absurd (omega arith))
                  | inr call ↦ (
                      let e : place ≡ k = omega arith in
                      let itself : CallsName lib (get_or stack place 0) (get_or stack place 0) = subst (λ x. CallsName lib x x) group-first call in
                      subst (λ i. OnCycle lib (get_or stack i 0)) e (itself.0, itself.1, (get_or stack place 0, itself.2, reach_self lib (get_or stack place 0))))
                ]
          ]

  pub loop-off : (IsLoop lib group → ⊥) → (q : ℕ) → Contains group q → OnCycle lib q → ⊥
  loop-off not-loop q there on =
      let k = back-place stack place q there in
      at k.0 k.1 k.2 (subst (OnCycle lib) (sym k.3) on)
    where
      at : (k : ℕ) → place ≤ k → k < length stack → OnCycle lib (get_or stack k 0) → ⊥
      at k le lt cycle =
          elim (cases_lt (place + 1) (length stack)) [
            | inl more ↦ (let len : length group ≡ length stack - place = len-group in not-loop (inl (omega arith)))
            | inr one ↦
                let name : ℕ = get_or stack k 0 in
                let next : ℕ = cycle.2.0 in
                elim (calls-stay k le lt next (cycle.0, cycle.1, cycle.2.1)) [
                  | inl old ↦
                      grouped.apart name (Contains-get_or stack k 0 lt) (stays lib done grouped.closed next name old cycle.2.2)
                  | inr m ↦ (
                      let low : place ≤ m.0 = m.1 in
                      let high : m.0 < length stack = m.2 in
                      let e : m.0 ≡ place = omega arith in
                      let e' : k ≡ place = omega arith in
                      let same : next ≡ get_or stack place 0 = sym m.3 ∙ ap (λ i. get_or stack i 0) e in
                      let first : name ≡ get_or group 0 0 = ap (λ i. get_or stack i 0) e' ∙ sym group-first in
                      not-loop (inr (subst₂ (CallsName lib) first (same ∙ sym group-first) (cycle.0, cycle.1, cycle.2.1))))
                ]
          ]

  -- so the names done that are on a cycle are known
  pub ended-looped : (old new : List ℕ) → AddsLoop lib group old new → ((q : ℕ) → Contains old q ↔ (Contains done q × OnCycle lib q))
      → (q : ℕ) → Contains new q ↔ (Contains all q × OnCycle lib q)
  ended-looped old new adds known q =
      elim adds [
        | inl adding ↦ subst (λ l. Contains l q ↔ (Contains all q × OnCycle lib q)) (sym adding.1) (
          λ there. elim (Contains-append_cases old group q there) [
            | inl h ↦ (insert_all-kept done group q ((known q).0 h).0, ((known q).0 h).1)
            | inr h ↦ (insert_all-has done group q h, loop-on adding.0 q h)
          ],
          λ both. elim (insert_all-cases done group q both.0) [
            | inl h ↦ Contains-append_left old group q ((known q).1 (h, both.1))
            | inr h ↦ Contains-append_right old group q h
          ],
        )
        | inr not ↦ subst (λ l. Contains l q ↔ (Contains all q × OnCycle lib q)) (sym not.1) (
          λ there. (insert_all-kept done group q ((known q).0 there).0, ((known q).0 there).1),
          λ both. elim (insert_all-cases done group q both.0) [
            | inl h ↦ (known q).1 (h, both.1)
            | inr h ↦ absurd (loop-off not.0 q h both.1)
          ],
        )
      ]
