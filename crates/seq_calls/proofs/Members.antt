-- What the finished runs of a run are.
use Rattle.std.proofs.Common.{ℕ, zero, suc, ◌-◌, ◌<◌, ◌≡◌, refl, sym, subst, arith, ℤ, inl, inr, List, [], ◌∷◌, ◌++◌, Contains, length, get_or}
use Rattle.std.specs.Prelude.{◌⊎◌}
use Rattle.std.proofs.lemmas.List.Elements.{Contains-append_left, Contains-append_right, Contains-append_cases}
use Rattle.loda_semantics.specs.declared.kinds.Pair.{Pair}
use Rattle.loda_semantics.specs.Exec.{Outcome, value, Calls, none, call, Library, run_name}
use Rattle.seq_calls.specs.declared.outcomes.NodeRun.{NodeRun}
use Rattle.seq_calls.specs.Frames.{pair, direct, steps_below, node_of, nodes_in, nodes_of}
use Rattle.seq_calls.specs.Runs.{IsRunOf}
use Rattle.seq_calls.proofs.Records.{AreAnswered, answered_name}

pub nil_cases : {X : Type 0} (x : X) → Contains [] x → ⊥
nil_cases x there = omega arith

-- a finished run of the pair is on the list
abbrev pub HasOf : List NodeRun → Pair → Type 0
HasOf nodes to = (k : NodeRun) × Contains nodes k × (k.pair ≡ to)

has_left : (a b : List NodeRun) (to : Pair) → HasOf a to → HasOf (a ++ b) to
has_left a b to h = (h.0, Contains-append_left a b h.0 h.1, h.2)

has_right : (a b : List NodeRun) (to : Pair) → HasOf b to → HasOf (a ++ b) to
has_right a b to h = (h.0, Contains-append_right a b h.0 h.1, h.2)

pub cons_cases : {X : Type 0} (y : X) (xs : List X) (x : X) → Contains (y ∷ xs) x → (y ≡ x) ⊎ Contains xs x
cons_cases y xs x h = by_place h.0 h.1 h.2
  where
    by_place : (i : ℕ) → i < length (y ∷ xs) → get_or (y ∷ xs) i x ≡ x → (y ≡ x) ⊎ Contains xs x
    by_place zero lt e = inl e
    by_place (suc i) lt e = inr (i, omega (arith, lt), e)

-- a direct call of a run that was answered has a finished run
direct_among : (lib : Library) (n : ℕ) (c : Calls) → AreAnswered lib n c → (to : Pair) → Contains (direct c) to → HasOf (nodes_in c) to
direct_among lib n none h to there = absurd (nil_cases to there)
direct_among lib n (call r y o inner rest) h to there = by_part (direct_among lib n rest h.2 to) (cons_cases (pair r y) (direct rest) to there)
  where
    itself : (z : Outcome) → z ≡ value h.0.0 h.0.1 → pair r y ≡ to → HasOf (node_of r y z inner) to
    itself z is e =
        subst (λ (z : Outcome). HasOf (node_of r y z inner) to) (sym is)
        (record { pair = pair r y; value = h.0.0; own = h.0.1 - steps_below inner; calls = direct inner }, (0, omega arith, refl), e)

    by_part : (Contains (direct rest) to → HasOf (nodes_in rest) to) → (pair r y ≡ to) ⊎ Contains (direct rest) to → HasOf ((nodes_in inner ++ node_of r y o inner) ++ nodes_in rest) to
    by_part later (inl e) =
        has_left (nodes_in inner ++ node_of r y o inner) (nodes_in rest) to (has_right (nodes_in inner) (node_of r y o inner) to (itself o h.0.2 e))
    by_part later (inr k) = has_right (nodes_in inner ++ node_of r y o inner) (nodes_in rest) to (later k)

-- what a finished run is, and that each of its direct calls is among a list of finished runs
abbrev IsMember : Library → ℕ → List NodeRun → NodeRun → Type 0
IsMember lib n nodes node = IsRunOf lib n node × ((to : Pair) → Contains node.calls to → HasOf nodes to)

more_left : (lib : Library) (n : ℕ) (a b : List NodeRun) (node : NodeRun) → IsMember lib n a node → IsMember lib n (a ++ b) node
more_left lib n a b node h = (h.0, λ called k. has_left a b called (h.1 called k))

more_right : (lib : Library) (n : ℕ) (a b : List NodeRun) (node : NodeRun) → IsMember lib n b node → IsMember lib n (a ++ b) node
more_right lib n a b node h = (h.0, λ called k. has_right a b called (h.1 called k))

-- the run itself, after those of its callees
last_member : (lib : Library) (n r : ℕ) (y v : ℤ) (used : ℕ) (c : Calls) → run_name lib r y n ≡ (value v used, c) → AreAnswered lib n c
    → (node : NodeRun) → Contains (node_of r y (value v used) c) node → IsMember lib n (nodes_in c ++ node_of r y (value v used) c) node
last_member lib n r y v used c is h node there =
    subst (IsMember lib n (nodes_in c ++ node_of r y (value v used) c)) (by_part (cons_cases itself [] node there)) (
      record { used = used; calls = c; ran = is; own = refl; direct_calls = refl },
      λ called k. has_left (nodes_in c) (node_of r y (value v used) c) called (direct_among lib n c h called k),
    )
  where
    itself : NodeRun
    itself = record { pair = pair r y; value = v; own = used - steps_below c; calls = direct c }

    by_part : (itself ≡ node) ⊎ Contains [] node → itself ≡ node
    by_part (inl e) = e
    by_part (inr k) = absurd (let lt = k.1 in omega (arith, lt))

members_in : (lib : Library) (n : ℕ) (c : Calls) → AreAnswered lib n c → (node : NodeRun) → Contains (nodes_in c) node → IsMember lib n (nodes_in c) node
members_in lib n none h node there = absurd (let lt = there.1 in omega (arith, lt))
members_in lib n (call r y o inner rest) h node there =
    by_rest (members_in lib n inner h.1 node) (members_in lib n rest h.2 node) (Contains-append_cases (nodes_in inner ++ node_of r y o inner) (nodes_in rest) node there)
  where
    this : Contains (node_of r y o inner) node → IsMember lib n (nodes_in inner ++ node_of r y o inner) node
    this k =
        subst (λ (z : Outcome). IsMember lib n (nodes_in inner ++ node_of r y z inner) node) (sym h.0.2)
        (last_member lib n r y h.0.0 h.0.1 inner h.0.3 h.1 node (subst (λ (z : Outcome). Contains (node_of r y z inner) node) h.0.2 k))

    by_inner : (Contains (nodes_in inner) node → IsMember lib n (nodes_in inner) node) → Contains (nodes_in inner) node ⊎ Contains (node_of r y o inner) node → IsMember lib n (nodes_in inner ++ node_of r y o inner) node
    by_inner deeper (inl k) = more_left lib n (nodes_in inner) (node_of r y o inner) node (deeper k)
    by_inner deeper (inr k) = this k

    by_rest : (Contains (nodes_in inner) node → IsMember lib n (nodes_in inner) node) → (Contains (nodes_in rest) node → IsMember lib n (nodes_in rest) node)
        → Contains (nodes_in inner ++ node_of r y o inner) node ⊎ Contains (nodes_in rest) node
        → IsMember lib n ((nodes_in inner ++ node_of r y o inner) ++ nodes_in rest) node
    by_rest deeper later (inl k) =
        more_left lib n (nodes_in inner ++ node_of r y o inner) (nodes_in rest) node (by_inner deeper (Contains-append_cases (nodes_in inner) (node_of r y o inner) node k))
    by_rest deeper later (inr k) = more_right lib n (nodes_in inner ++ node_of r y o inner) (nodes_in rest) node (later k)

pub members_are_runs : (lib : Library) (q : ℕ) (x v : ℤ) (n used : ℕ) (c : Calls) → run_name lib q x n ≡ (value v used, c)
    → (node : NodeRun) → Contains (nodes_of q x (run_name lib q x n)) node
    → IsRunOf lib n node × ((to : Pair) → Contains node.calls to → HasOf (nodes_of q x (run_name lib q x n)) to)
members_are_runs lib q x v n used c is node there =
    subst (λ (z : Outcome × Calls). IsMember lib n (nodes_of q x z) node) (sym is)
    (by_part (Contains-append_cases (nodes_in c) (node_of q x (value v used) c) node (subst (λ (z : Outcome × Calls). Contains (nodes_of q x z) node) is there)))
  where
    answered : AreAnswered lib n c
    answered = answered_name lib n q x v used c is

    by_part : Contains (nodes_in c) node ⊎ Contains (node_of q x (value v used) c) node → IsMember lib n (nodes_in c ++ node_of q x (value v used) c) node
    by_part (inl k) = more_left lib n (nodes_in c) (node_of q x (value v used) c) node (members_in lib n c answered node k)
    by_part (inr k) = last_member lib n q x v used c is answered node k
