-- The values of a program, and the terms that it gives, one after the other.
use Rattle.std.proofs.Common.{ℕ, suc, ◌≡◌, ◌<◌, ◌≤◌, ◌+◌, ◌-◌, ℤ, pos, negsuc, sym, ap, ◌∙◌, List, [], ◌∷◌, ◌++◌, length, take, drop, get_or, set, refl, Bool, true, false, if◌then◌else◌, append_assoc, arith}
use Rattle.std.specs.Prelude.{Option, Some, None}
use Rattle.std.specs.Option.{option_map}
use Rattle.std.proofs.lemmas.Bool.{eqb-true, eq-eqb}
use Rattle.std.proofs.lemmas.List.{append-nil, take_all, take_more_set, drop_all}
use Rattle.std.proofs.Math.Seq.{drop-cons}
use Rattle.loda_syntax.specs.Programs.{Text}
use Rattle.loda_semantics.specs.Exec.{Outcome, value, fault, out, Library, run_text}
use Rattle.seq_calls.specs.declared.outcomes.Outcome.{Outcome as Told}
use Rattle.seq_calls.specs.declared.outcomes.Outcome.TheVariants as told_as
use Rattle.seq_calls.specs.Frames.{told}
use Rattle.seq_calls.specs.Values.{same_int, gives}
use Rattle.seq_calls.proofs.Values.{told_value}
use Rattle.proposer.specs.Short.{with_value, values_from, given_from}

-- these values, and those after them
abbrev pub behind : List ℤ → Option (List ℤ) → Option (List ℤ)
behind front vs = option_map (λ vs. front ++ vs) vs

behind_one : (front : List ℤ) (v : ℤ) (vs : Option (List ℤ)) → behind front (option_map (λ vs. v ∷ vs) vs) ≡ behind (front ++ v ∷ []) vs
behind_one front v None = refl
behind_one front v (Some vs) = ap (λ (xs : List ℤ). Some xs) (sym (append_assoc front (v ∷ []) vs))

pub behind_none : (vs : Option (List ℤ)) → behind [] vs ≡ vs
behind_none None = refl
behind_none (Some vs) = refl

-- one more value
pub values_next : (lib : Library) (limit : ℕ) (p : Text) (k many fewer : ℕ) (values : List ℤ) (x v : ℤ) (n : ℕ) (all : Option (List ℤ)) → x ≡ pos k
    → many ≡ suc fewer → k < length values → told (run_text lib p x limit).0 ≡ told_as.Value v n
    → behind (take k values) (values_from lib limit p k many) ≡ all
    → behind (take (k + 1) (set values k v)) (values_from lib limit p (k + 1) fewer) ≡ all
unfolding values_from
values_next lib limit p k many fewer values x v n all at size lt ran so_far =
    let got : (run_text lib p (pos k) limit).0 ≡ value v n = told_value _ v n (ap (λ (y : ℤ). told (run_text lib p y limit).0) (sym at) ∙ ran) in
    let step : values_from lib limit p k many ≡ option_map (λ vs. v ∷ vs) (values_from lib limit p (k + 1) fewer) =
    ap (values_from lib limit p k) size ∙ ap (λ (o : Outcome). with_value o (values_from lib limit p (k + 1) fewer)) got in
    ap (λ (front : List ℤ). behind front (values_from lib limit p (k + 1) fewer)) (take_more_set values k v lt)
    ∙ sym (behind_one (take k values) v (values_from lib limit p (k + 1) fewer))
    ∙ sym (ap (behind (take k values)) step) ∙ so_far

no_value_after : (front : List ℤ) → behind front None ≡ None
no_value_after front = refl

with_none : (o : Outcome) (vs : Option (List ℤ)) → ((v : ℤ) (n : ℕ) → o ≡ value v n → ⊥) → with_value o vs ≡ None
with_none (value v n) vs never = absurd (never v n refl)
with_none (fault k n) vs never = refl
with_none (out n) vs never = refl

-- a run without a value
pub values_missing : (lib : Library) (limit : ℕ) (p : Text) (k many fewer : ℕ) (front : List ℤ) (x : ℤ) (o : Told) (all : Option (List ℤ)) → x ≡ pos k
    → many ≡ suc fewer → told (run_text lib p x limit).0 ≡ o → ((v : ℤ) (n : ℕ) → o ≡ told_as.Value v n → ⊥)
    → behind front (values_from lib limit p k many) ≡ all → None ≡ all
unfolding values_from
values_missing lib limit p k many fewer front x o all at size ran never so_far =
    let none : with_value (run_text lib p (pos k) limit).0 (values_from lib limit p (k + 1) fewer) ≡ None =
    with_none _ (values_from lib limit p (k + 1) fewer) (λ v n e. never v n (sym ran ∙ ap (λ (y : ℤ). told (run_text lib p y limit).0) at ∙ ap told e)) in
    sym (ap (behind front) (ap (values_from lib limit p k) size ∙ none)) ∙ so_far

pub values_all : (lib : Library) (limit : ℕ) (p : Text) (k many : ℕ) (values : List ℤ) (all : Option (List ℤ)) → many ≡ 0 → length values ≤ k
    → behind (take k values) (values_from lib limit p k many) ≡ all → Some values ≡ all
unfolding values_from
values_all lib limit p k many values all size len so_far =
    ap (λ (xs : List ℤ). Some xs) (sym (append-nil (take k values) ∙ take_all k values len))
    ∙ sym (ap (λ (m : ℕ). behind (take k values) (values_from lib limit p k m)) size) ∙ so_far

-- ---- terms that are given

gives_value : (o : Outcome) (t : ℤ) (n : ℕ) → o ≡ value t n → gives o t ≡ true
gives_value o t n e = ap (λ (r : Outcome). gives r t) e ∙ same_itself t
  where
    same_itself : (t : ℤ) → same_int t t ≡ true
    same_itself (pos a) = eq-eqb a a refl
    same_itself (negsuc a) = eq-eqb a a refl

same_is : (a b : ℤ) → same_int a b ≡ true → a ≡ b
same_is (pos a) (pos b) e = ap pos (eqb-true a b e)
same_is (negsuc a) (negsuc b) e = ap negsuc (eqb-true a b e)
same_is (pos a) (negsuc b) e = absurd (let z : false ≡ true = e in cc)
same_is (negsuc a) (pos b) e = absurd (let z : false ≡ true = e in cc)

gives_is : (o : Outcome) (t : ℤ) → gives o t ≡ true → (n : ℕ) × (o ≡ value t n)
gives_is (value w n) t e = (n, ap (λ (z : ℤ). value z n) (same_is w t e))
gives_is (fault k n) t e = absurd (let z : false ≡ true = e in cc)
gives_is (out n) t e = absurd (let z : false ≡ true = e in cc)

other_fails : (o : Outcome) (t : ℤ) → ((n : ℕ) → told o ≡ told_as.Value t n → ⊥) → gives o t ≡ false
other_fails o t never = by_test (gives o t) refl
  where
    by_test : (b : Bool) → gives o t ≡ b → b ≡ false
    by_test false e = refl
    by_test true e = let w = gives_is o t e in absurd (never w.0 (ap told w.1))

-- the terms from a place on, of which one is known
from_here : (row : List ℤ) (k : ℕ) (t : ℤ) → k < length row → t ≡ get_or row k t → drop k row ≡ t ∷ drop (k + 1) row
from_here row k t lt here =
    drop-cons row k t lt ∙ ap (λ (u : ℤ). u ∷ drop (suc k) row) (sym here) ∙ ap (λ (n : ℕ). t ∷ drop n row) (let e : suc k ≡ k + 1 = omega arith in e)

-- one more term
pub given_next : (lib : Library) (limit : ℕ) (p : Text) (k : ℕ) (row : List ℤ) (x t : ℤ) (n all : ℕ) → x ≡ pos k → k < length row → t ≡ get_or row k t
    → told (run_text lib p x limit).0 ≡ told_as.Value t n → k + given_from lib limit p k (drop k row) ≡ all
    → (k + 1) + given_from lib limit p (k + 1) (drop (k + 1) row) ≡ all
given_next lib limit p k row x t n all at lt here ran so_far =
    let got : (run_text lib p (pos k) limit).0 ≡ value t n = told_value _ t n (ap (λ (y : ℤ). told (run_text lib p y limit).0) (sym at) ∙ ran) in
    let yes = gives_value (run_text lib p (pos k) limit).0 t n got in
    let step : given_from lib limit p k (drop k row) ≡ suc (given_from lib limit p (k + 1) (drop (k + 1) row)) =
    ap (given_from lib limit p k) (from_here row k t lt here) ∙ ap (λ (b : Bool). if b then suc (given_from lib limit p (k + 1) (drop (k + 1) row)) else 0) yes in
    omega (arith, step, so_far)

-- the first term that isn't given
pub given_until : (lib : Library) (limit : ℕ) (p : Text) (k : ℕ) (row : List ℤ) (x t : ℤ) (o : Told) (all : ℕ) → x ≡ pos k → k < length row → t ≡ get_or row k t
    → o ≡ told (run_text lib p x limit).0 → ((n : ℕ) → o ≡ told_as.Value t n → ⊥) → k + given_from lib limit p k (drop k row) ≡ all → k ≡ all
given_until lib limit p k row x t o all at lt here ran never so_far =
    let fails = other_fails (run_text lib p (pos k) limit).0 t (λ n e. never n (ran ∙ ap (λ (y : ℤ). told (run_text lib p y limit).0) at ∙ e)) in
    let step : given_from lib limit p k (drop k row) ≡ 0 =
    ap (given_from lib limit p k) (from_here row k t lt here) ∙ ap (λ (b : Bool). if b then suc (given_from lib limit p (k + 1) (drop (k + 1) row)) else 0) fails in
    omega (arith, step, so_far)

pub given_all : (lib : Library) (limit : ℕ) (p : Text) (k : ℕ) (row : List ℤ) (all : ℕ) → length row ≤ k → k + given_from lib limit p k (drop k row) ≡ all → k ≡ all
given_all lib limit p k row all end so_far =
    let none : given_from lib limit p k (drop k row) ≡ 0 = ap (given_from lib limit p k) (drop_all k row end) in
    omega (arith, none, so_far)
