-- What joined calls leave behind.
use Rattle.std.proofs.Common.{◌+◌, ◌≡◌, refl, sym, ap, ◌∙◌, arith, List, ◌∷◌, ◌++◌, append_assoc}
use Rattle.loda_semantics.specs.declared.kinds.Pair.{Pair}
use Rattle.loda_semantics.specs.Exec.{Calls, none, call, join, Ending, done, failed, spent, after_calls}
use Rattle.seq_calls.specs.declared.outcomes.NodeRun.{NodeRun}
use Rattle.seq_calls.specs.Frames.{direct, steps_below, nodes_in, node_of}

pub join-none : (c : Calls) → join c none ≡ c
join-none none = refl
join-none (call q x o inner rest) = ap (call q x o inner) (join-none rest)

pub join-assoc : (a b c : Calls) → join (join a b) c ≡ join a (join b c)
join-assoc none b c = refl
join-assoc (call q x o inner rest) b c = ap (call q x o inner) (join-assoc rest b c)

pub after-none : (r : Ending) → after_calls none r ≡ r
after-none (done m n c) = refl
after-none (failed k n c) = refl
after-none (spent n c) = refl

pub after-after : (a b : Calls) (r : Ending) → after_calls a (after_calls b r) ≡ after_calls (join a b) r
after-after a b (done m n c) = ap (done m n) (sym (join-assoc a b c))
after-after a b (failed k n c) = ap (failed k n) (sym (join-assoc a b c))
after-after a b (spent n c) = ap (spent n) (sym (join-assoc a b c))

pub direct_join : (a b : Calls) → direct (join a b) ≡ direct a ++ direct b
direct_join none b = refl
direct_join (call q x o inner rest) b = ap (λ (ps : List Pair). record { name = q; arg = x } ∷ ps) (direct_join rest b)

pub steps_join : (a b : Calls) → steps_below (join a b) ≡ steps_below a + steps_below b
steps_join none b = omega arith
steps_join (call q x o inner rest) b = let h = steps_join rest b in omega (arith, h)

pub nodes_join : (a b : Calls) → nodes_in (join a b) ≡ nodes_in a ++ nodes_in b
nodes_join none b = refl
nodes_join (call q x o inner rest) b =
    ap (λ (ns : List NodeRun). (nodes_in inner ++ node_of q x o inner) ++ ns) (nodes_join rest b)
    ∙ sym (append_assoc (nodes_in inner ++ node_of q x o inner) (nodes_in rest) (nodes_in b))
