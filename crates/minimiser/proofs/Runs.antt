-- A cut that gives the given values, each within the steps that the program took, is a good one, and no other is.
use Rattle.std.proofs.Common.{◌≡◌, ◌≤◌, ◌<◌, ◌+◌, ℕ, zero, suc, ℤ, List, [], ◌∷◌, ◌++◌, length, map, take, drop, get_or, refl, sym, ap, subst, ◌∙◌, arith, Bool, true, false, ◌&&◌, nat_le}
use Rattle.std.specs.Prelude.{All, Contains}
use Rattle.std.specs.Ordering.{int_eq}
use Rattle.std.specs.List.{list_all}
use Rattle.std.proofs.lemmas.Bool.{and_parts, and_from, leb-true, le-leb}
use Rattle.std.proofs.lemmas.Bool.Decides.{Decides-int_eq}
use Rattle.std.proofs.lemmas.List.Folds.{list_all-map}
use Rattle.std.proofs.lemmas.List.{take_more, take_all, map-append, length-map, get_or-map}
use Rattle.std.proofs.lemmas.List.Elements.{All-append, All-cons}
use Rattle.std.proofs.Math.Seq.{drop-cons}
use Rattle.loda_syntax.specs.Programs.{Text}
use Rattle.loda_semantics.specs.declared.kinds.FaultKind.{FaultKind}
use Rattle.loda_semantics.specs.Exec.{Outcome, value, fault, out, Calls, Library, run_text}
use Rattle.loda_semantics.proofs.Laws.{suffices}
use Rattle.minimiser.specs.declared.trying.Given.{Given}
use Rattle.minimiser.specs.Minimum.{is_no_worse, is_good}
use Rattle.minimiser.specs.Laws.{KeepsValues}
use Rattle.minimiser.specs.Given.{IsGivenRun, arguments, AreGiven, is_good_at, is_good_for, IsGoodRun, AreRunsOf}
use Rattle.seq_calls.specs.declared.outcomes.Outcome.TheVariants as told_as
use Rattle.seq_calls.specs.Frames.{told}
use Rattle.seq_calls.proofs.Values.{told_value}

and_false : (a : Bool) → (a && false) ≡ false
and_false true = refl
and_false false = refl

-- a value that took more steps is worse
worse : (v w : ℤ) (u n : ℕ) → (n ≤ u → ⊥) → is_no_worse (value v u) (value w n) ≡ false
worse v w u n never = by_test (nat_le n u) refl
  where
    by_test : (b : Bool) → nat_le n u ≡ b → (int_eq w v && b) ≡ false
    by_test true e = absurd (never (leb-true n u e))
    by_test false e = and_false (int_eq w v)

-- a run with fewer steps and one with more: a value of the first is the second's too, and back where it took few enough
record Agree (u : ℕ) (a b : Outcome × Calls) : Type 0 where
  more : (w : ℤ) (n : ℕ) (c : Calls) → a ≡ (value w n, c) → b ≡ (value w n, c)
  fewer : (w : ℤ) (n : ℕ) (c : Calls) → b ≡ (value w n, c) → n ≤ u → a ≡ (value w n, c)

no_value : (k : FaultKind) (w : ℤ) (m n : ℕ) (c d : Calls) → ◌≡◌ {A = Outcome × Calls} (fault k m, c) (value w n, d) → ⊥
no_value k w m n c d e = let z : fault k m ≡ value w n = ap (λ (p : Outcome × Calls). p.0) e in cc

no_steps : (w : ℤ) (m n : ℕ) (c d : Calls) → ◌≡◌ {A = Outcome × Calls} (out m, c) (value w n, d) → ⊥
no_steps w m n c d e = let z : out m ≡ value w n = ap (λ (p : Outcome × Calls). p.0) e in cc

same_test : (v : ℤ) (u : ℕ) (a b : Outcome × Calls) → Agree u a b → is_no_worse (value v u) a.0 ≡ is_no_worse (value v u) b.0
same_test v u (value w n, c) b agree = ap (λ (p : Outcome × Calls). is_no_worse (value v u) p.0) (sym (agree.more w n c refl))
same_test v u (fault k m, c) (value w n, d) agree = sym (worse v w u n (λ le. no_value k w m n c d (agree.fewer w n d refl le)))
same_test v u (fault k m, c) (fault j n, d) agree = refl
same_test v u (fault k m, c) (out n, d) agree = refl
same_test v u (out m, c) (value w n, d) agree = sym (worse v w u n (λ le. no_steps w m n c d (agree.fewer w n d refl le)))
same_test v u (out m, c) (fault j n, d) agree = refl
same_test v u (out m, c) (out n, d) agree = refl

-- it is enough to run for as many steps as the program took
enough : (lib : Library) (q : Text) (x v : ℤ) (u limit : ℕ) → u ≤ limit
    → is_no_worse (value v u) (run_text lib q x u).0 ≡ is_no_worse (value v u) (run_text lib q x limit).0
enough lib q x v u limit le = same_test v u (run_text lib q x u) (run_text lib q x limit) (record {
  more = λ w n c e. (suffices lib q x u limit w n c e).1 (let used = (suffices lib q x u limit w n c e).0 in omega (arith, used));
  fewer = λ w n c e few. (suffices lib q x limit u w n c e).1 few;
})

-- a value took no more steps than there were
within : (lib : Library) (p : Text) (x v : ℤ) (u limit : ℕ) → (run_text lib p x limit).0 ≡ value v u → u ≤ limit
within lib p x v u limit e = by_run (run_text lib p x limit) refl e
  where
    by_run : (ran : Outcome × Calls) → run_text lib p x limit ≡ ran → ran.0 ≡ value v u → u ≤ limit
    by_run (o, c) is e = (suffices lib p x limit limit v u c (is ∙ ap (λ (r : Outcome). (r, c)) e)).0

good_here : (lib : Library) (p q : Text) (limit : ℕ) (g : Given) → (run_text lib p g.arg limit).0 ≡ value g.value g.steps
    → is_no_worse (value g.value g.steps) (run_text lib q g.arg g.steps).0 ≡ is_no_worse (run_text lib p g.arg limit).0 (run_text lib q g.arg limit).0
good_here lib p q limit g e =
    enough lib q g.arg g.value g.steps limit (within lib p g.arg g.value g.steps limit e)
    ∙ ap (λ (o : Outcome). is_no_worse o (run_text lib q g.arg limit).0) (sym e)

good_each : (lib : Library) (p q : Text) (limit : ℕ) (given : List Given)
    → All (λ (g : Given). (run_text lib p g.arg limit).0 ≡ value g.value g.steps) given
    → is_good_for lib given q ≡ list_all (λ (g : Given). is_no_worse (run_text lib p g.arg limit).0 (run_text lib q g.arg limit).0) given
good_each lib p q limit [] each = refl
good_each lib p q limit (g ∷ gs) each =
    let here = good_here lib p q limit g (each 0 g (omega arith)) in
    let later = good_each lib p q limit gs (λ k d lt. each (suc k) d (omega arith)) in
    ap (λ (b : Bool). b && is_good_for lib gs q) here ∙ ap (λ (b : Bool). is_no_worse (run_text lib p g.arg limit).0 (run_text lib q g.arg limit).0 && b) later

-- So a cut is judged by the given values alone.
pub good_same : (lib : Library) (args : List ℤ) (limit : ℕ) (p q : Text) (given : List Given) → AreGiven lib args limit p given
    → is_good_for lib given q ≡ is_good lib args limit p q
good_same lib args limit p q given are =
    good_each lib p q limit given are.each
    ∙ sym (list_all-map (λ (x : ℤ). is_no_worse (run_text lib p x limit).0 (run_text lib q x limit).0) (λ (g : Given). g.arg) given)
    ∙ ap (λ (xs : List ℤ). is_good lib xs limit p q) (sym are.args_are)

-- ---- what a good cut keeps

passes_at : {X : Type 0} (test : X → Bool) (xs : List X) (x : X) → list_all test xs ≡ true → Contains xs x → test x ≡ true
passes_at test [] x all (k, lt, is) = absurd (omega arith)
passes_at {X} test (y ∷ ys) x all (zero, lt, is) = subst (λ (z : X). test z ≡ true) is (and_parts (test y) (list_all test ys) all).0
passes_at test (y ∷ ys) x all (suc k, lt, is) = passes_at test ys x (and_parts (test y) (list_all test ys) all).1 (k, omega arith, is)

no_worse_is : (v : ℤ) (used : ℕ) (o : Outcome) → is_no_worse (value v used) o ≡ true → (fewer : ℕ) × (o ≡ value v fewer) × (fewer ≤ used)
no_worse_is v used (value w n) e =
    let both = and_parts (int_eq w v) (nat_le n used) e in
    (n, ap (λ (z : ℤ). value z n) ((Decides-int_eq w v).0 both.0), leb-true n used both.1)
no_worse_is v used (fault k n) e = absurd (let z : false ≡ true = e in cc)
no_worse_is v used (out n) e = absurd (let z : false ≡ true = e in cc)

pub good_keeps : (lib : Library) (args : List ℤ) (limit : ℕ) (p q : Text) → is_good lib args limit p q ≡ true → KeepsValues lib args limit p q
good_keeps lib args limit p q good x v used there is =
    no_worse_is v used (run_text lib q x limit).0
    (subst (λ (o : Outcome). is_no_worse o (run_text lib q x limit).0 ≡ true) is
    (passes_at (λ (x : ℤ). is_no_worse (run_text lib p x limit).0 (run_text lib q x limit).0) args x good there))

pub keeps_itself : (lib : Library) (args : List ℤ) (limit : ℕ) (p : Text) → KeepsValues lib args limit p p
keeps_itself lib args limit p x v used there is = (used, is, omega arith)

pub keeps_on : (lib : Library) (args : List ℤ) (limit : ℕ) (p q r : Text) → KeepsValues lib args limit p q → KeepsValues lib args limit q r
    → KeepsValues lib args limit p r
keeps_on lib args limit p q r first then x v used there is =
    let a = first x v used there is in
    let b = then x v a.0 there a.1 in
    let more = a.2 in
    let fewer = b.2 in
    (b.0, b.1, omega (arith, more, fewer))

-- ---- where the program has no value

pub bad_at : (lib : Library) (args : List ℤ) (limit : ℕ) (p q : Text) (x : ℤ) → Contains args x
    → ((v : ℤ) (used : ℕ) → (run_text lib p x limit).0 ≡ value v used → ⊥) → is_good lib args limit p q ≡ false
bad_at lib args limit p q x there never = by_test (is_good lib args limit p q) refl
  where
    by_outcome : (o : Outcome) → (run_text lib p x limit).0 ≡ o → is_no_worse o (run_text lib q x limit).0 ≡ true → ⊥
    by_outcome (value v used) e h = never v used e
    by_outcome (fault k n) e h = let z : false ≡ true = h in cc
    by_outcome (out n) e h = let z : false ≡ true = h in cc

    by_test : (b : Bool) → is_good lib args limit p q ≡ b → b ≡ false
    by_test false e = refl
    by_test true e = absurd (by_outcome (run_text lib p x limit).0 refl
        (passes_at (λ (x : ℤ). is_no_worse (run_text lib p x limit).0 (run_text lib q x limit).0) args x e there))

-- ---- the given values, one by one

pub given_more : (lib : Library) (args : List ℤ) (limit : ℕ) (p : Text) (given : List Given) (i : ℕ) (x v : ℤ) (u : ℕ) → i < length args
    → x ≡ get_or args i x → AreGiven lib (take i args) limit p given → (run_text lib p x limit).0 ≡ value v u
    → AreGiven lib (take (i + 1) args) limit p (given ++ record { arg = x; value = v; steps = u } ∷ [])
given_more lib args limit p given i x v u lt here are ran =
    let one : List Given = record { arg = x; value = v; steps = u } ∷ [] in
    record {
      args_are = take_more args i x lt ∙ ap (λ (xs : List ℤ). xs ++ get_or args i x ∷ []) are.args_are
          ∙ ap (λ (y : ℤ). map (λ (g : Given). g.arg) given ++ y ∷ []) (sym here) ∙ sym (map-append (λ (g : Given). g.arg) given one);
      each = All-append (λ (g : Given). (run_text lib p g.arg limit).0 ≡ value g.value g.steps) given one are.each
          (All-cons (λ (g : Given). (run_text lib p g.arg limit).0 ≡ value g.value g.steps) (record { arg = x; value = v; steps = u }) [] ran (λ k d lt. absurd (omega arith)));
    }

-- one that is known, and the rest
pub good_from : (lib : Library) (q : Text) (given : List Given) (i : ℕ) (g : Given) → i < length given → g ≡ get_or given i g
    → is_good_for lib (drop i given) q ≡ (is_no_worse (value g.value g.steps) (run_text lib q g.arg g.steps).0 && is_good_for lib (drop (i + 1) given) q)
good_from lib q given i g lt here =
    let split : drop i given ≡ g ∷ drop (i + 1) given =
    drop-cons given i g lt ∙ ap (λ (h : Given). h ∷ drop (suc i) given) (sym here) ∙ ap (λ (n : ℕ). g ∷ drop n given) (let e : suc i ≡ i + 1 = omega arith in e) in
    ap (λ (gs : List Given). is_good_for lib gs q) split

-- it gives the known value, within the steps that the program took
pub gives_known : (lib : Library) (q : Text) (x v : ℤ) (u n : ℕ) → told (run_text lib q x u).0 ≡ told_as.Value v n
    → is_no_worse (value v u) (run_text lib q x u).0 ≡ true
gives_known lib q x v u n e =
    let o = told_value (run_text lib q x u).0 v n e in
    ap (is_no_worse (value v u)) o ∙ and_from (int_eq v v) (nat_le n u) ((Decides-int_eq v v).1 refl) (le-leb n u (within lib q x v n u o))

pub other_value : (lib : Library) (q : Text) (x v : ℤ) (u : ℕ) → ((n : ℕ) → told (run_text lib q x u).0 ≡ told_as.Value v n → ⊥)
    → is_no_worse (value v u) (run_text lib q x u).0 ≡ false
other_value lib q x v u never = by_test (is_no_worse (value v u) (run_text lib q x u).0) refl
  where
    by_test : (b : Bool) → is_no_worse (value v u) (run_text lib q x u).0 ≡ b → b ≡ false
    by_test false e = refl
    by_test true e = let w = no_worse_is v u (run_text lib q x u).0 e in absurd (never w.0 (ap told w.1))

-- ---- runs that are good

gives_in : (lib : Library) (q : Text) (x v : ℤ) (u n : ℕ) → (run_text lib q x u).0 ≡ value v n → is_no_worse (value v u) (run_text lib q x u).0 ≡ true
gives_in lib q x v u n o =
    ap (is_no_worse (value v u)) o ∙ and_from (int_eq v v) (nat_le n u) ((Decides-int_eq v v).1 refl) (le-leb n u (within lib q x v n u o))

pub good_run_is : (lib : Library) (q : Text) (g run : Given) → IsGoodRun lib q g run → is_good_at lib q g ≡ true
good_run_is lib q g run is = gives_in lib q g.arg g.value g.steps run.steps is.ran

pub good_told : (lib : Library) (q : Text) (g : Given) (v : ℤ) (n : ℕ) → v ≡ g.value → told (run_text lib q g.arg g.steps).0 ≡ told_as.Value v n
    → IsGoodRun lib q g (record { arg = g.arg; value = v; steps = n })
good_told lib q g v n same e = record {
  arg = refl;
  value_of = same;
  ran = told_value (run_text lib q g.arg g.steps).0 v n e ∙ ap (λ (z : ℤ). value z n) same;
}

-- the same within more steps
wider : (lib : Library) (q : Text) (x v : ℤ) (u limit n : ℕ) → u ≤ limit → (run_text lib q x u).0 ≡ value v n → (run_text lib q x limit).0 ≡ value v n
wider lib q x v u limit n le e = by_run (run_text lib q x u) refl e
  where
    by_run : (ran : Outcome × Calls) → run_text lib q x u ≡ ran → ran.0 ≡ value v n → (run_text lib q x limit).0 ≡ value v n
    by_run (o, c) is e =
        let s = suffices lib q x u limit v n c (is ∙ ap (λ (r : Outcome). (r, c)) e) in
        let used = s.0 in
        ap (λ (r : Outcome × Calls). r.0) (s.1 (omega (arith, used)))

pub runs_none : (lib : Library) (q : Text) (args : List ℤ) (limit : ℕ) → AreGiven lib (take 0 args) limit q []
runs_none lib q args limit = record { args_are = refl; each = λ k d lt. absurd (omega arith) }

pub runs_more : (lib : Library) (q : Text) (given runs : List Given) (i : ℕ) (g run : Given) → i < length given → g ≡ get_or given i g → IsGoodRun lib q g run
    → ((args : List ℤ) (limit : ℕ) (p : Text) → AreGiven lib args limit p given → AreGiven lib (take i args) limit q runs)
    → (args : List ℤ) (limit : ℕ) (p : Text) → AreGiven lib args limit p given → AreGiven lib (take (i + 1) args) limit q (runs ++ run ∷ [])
runs_more lib q given runs i g run lt here is so_far args limit p are =
    let len : length args ≡ length given = ap length are.args_are ∙ length-map given (λ (g : Given). g.arg) in
    let at : get_or args i run.arg ≡ g.arg =
    ap (λ (xs : List ℤ). get_or xs i run.arg) are.args_are
    ∙ get_or-map (λ (g : Given). g.arg) given i g run.arg lt ∙ ap (λ (h : Given). h.arg) (sym here) in
    let was : IsGivenRun lib limit p g = subst (IsGivenRun lib limit p) (sym here) (are.each i g lt) in
    let wide : (run_text lib q g.arg limit).0 ≡ value g.value run.steps =
    wider lib q g.arg g.value g.steps limit run.steps (within lib p g.arg g.value g.steps limit was) is.ran in
    let ran : (run_text lib q run.arg limit).0 ≡ value run.value run.steps =
    ap (λ (x : ℤ). (run_text lib q x limit).0) is.arg ∙ wide ∙ ap (λ (v : ℤ). value v run.steps) (sym is.value_of) in
    given_more lib args limit q runs i run.arg run.value run.steps (omega (arith, len, lt)) (is.arg ∙ sym at) (so_far args limit p are) ran

-- all of them
pub runs_all : (lib : Library) (q : Text) (given runs : List Given) (i : ℕ) → length given ≤ i
    → ((args : List ℤ) (limit : ℕ) (p : Text) → AreGiven lib args limit p given → AreGiven lib (take i args) limit q runs) → AreRunsOf lib q given runs
runs_all lib q given runs i end so_far args limit p are =
    let len : length args ≡ length given = ap length are.args_are ∙ length-map given (λ (g : Given). g.arg) in
    subst (λ (xs : List ℤ). AreGiven lib xs limit q runs) (take_all i args (omega (arith, len, end))) (so_far args limit p are)

-- those of a program that is known by them
pub given_all : (lib : Library) (limit : ℕ) (p : Text) (given : List Given) → All (IsGivenRun lib limit p) given → AreGiven lib (arguments given) limit p given
given_all lib limit p given each = record { args_are = refl; each = each }
