-- What an accepted program keeps, with ample steps.
use Rattle.std.proofs.Common.{ℕ, suc, ◌-◌, ◌<◌, ◌≤◌, ◌≡◌, ◌≢◌, ◌==◌, sym, ap, subst, arith, ℤ, pos, true, false, inl, inr, refl, ◌∙◌, Option, None}
use Rattle.std.specs.Prelude.{if◌then◌else◌}
use Rattle.std.specs.declared.option.Option.TheVariants.{Some}
use Rattle.seq_calls.proofs.Values.{gives_value, gives_this}
use Rattle.seq_calls.specs.Frames.{steps_of}
use Rattle.seq_calls.specs.Values.{outcome, Gives, KeepsValue}
use Rattle.loda_syntax.specs.Programs.{Text}
use Rattle.loda_semantics.specs.declared.kinds.FaultKind.TheVariants.{Missing}
use Rattle.loda_semantics.specs.Exec.{Outcome, value, fault, Calls, none, Library, run_name, run_deep}
use Rattle.loda_semantics.proofs.Laws.{more_deep}
use Rattle.program_store.specs.Store.{Store, programs_of, with_program, checked_at, after}
use Rattle.program_store.specs.Graph.{NoCycle}
use Rattle.program_store.proofs.Puts.{published_program}
use Rattle.seq_calls.specs.Demand.{ample, InDem}
use Rattle.judge.specs.declared.answer.Answer.TheVariants.{Accepted}
use Rattle.judge.specs.Passed.{Terms, agree}
use Rattle.judge.specs.Sound.{Sound}
use Rattle.judge.specs.Judged.{IsNewChecked, IsJudged}
use Rattle.judge.proofs.Values.{true_unless, agree_gives, term_at, place_within}
use Rattle.judge.proofs.NewCycles.{no_new_cycle}
use Rattle.judge.proofs.Demanded.{demanded_runs}
use Rattle.demand_table.specs.Replaceable.{IsReplaceable}

-- a name with a value has a program
has_text : (lib : Library) (q : ℕ) (x v : ℤ) (n used : ℕ) (c : Calls) → run_name lib q x n ≡ (value v used, c) → (p : Text) × (lib q ≡ Some p)
has_text lib q x v n used c h = by_program (lib q) refl
  where
    by_program : (o : Option Text) → lib q ≡ o → (p : Text) × (lib q ≡ Some p)
    by_program None e = absurd (let z : (fault Missing 0, none) ≡ (value v used, c) = sym (ap (λ (o : Option Text). run_deep lib (suc n) o x n) e) ∙ h in let y : fault Missing 0 ≡ value v used = ap (λ (p : Outcome × Calls). p.0) z in cc)
    by_program (Some p) e = (p, e)

-- what is a value within a limit is that value with more steps
more_value : (lib : Library) (n m q : ℕ) (x v : ℤ) (used : ℕ) → n ≤ m → outcome lib q x n ≡ value v used → outcome lib q x m ≡ value v used
more_value lib n m q x v used le e =
    let full : run_name lib q x n ≡ (value v used, (run_name lib q x n).1) = ap (λ (z : Outcome). (z, (run_name lib q x n).1)) e in
    let more : run_name lib q x m ≡ (value v used, (run_name lib q x n).1) =
    more_deep lib (m - n) (suc n) (suc m) (lib q) x n m v used (run_name lib q x n).1 (omega (arith, le)) (omega arith) full in
    ap (λ (z : Outcome × Calls). z.0) more

-- and what is kept within it is kept
keeps_more : (lib1 lib2 : Library) (n m q : ℕ) (x : ℤ) → n ≤ m → KeepsValue lib1 lib2 n q x → KeepsValue lib1 lib2 m q x
keeps_more lib1 lib2 n m q x le k =
    let was = gives_value (outcome lib1 q x n) k.value k.was in
    let now = gives_value (outcome lib2 q x n) k.value k.now in
    let old = more_value lib1 n m q x k.value was.0 le was.1 in
    let new = more_value lib2 n m q x k.value now.0 le now.1 in
    record {
      value = k.value;
      was = gives_this (outcome lib1 q x m) k.value was.0 old;
      now = gives_this (outcome lib2 q x m) k.value now.0 new;
      no_dearer = (let a : steps_of (outcome lib1 q x m) ≡ was.0 = ap steps_of old in let b : steps_of (outcome lib2 q x m) ≡ now.0 = ap steps_of new in let c : steps_of (outcome lib1 q x n) ≡ was.0 = ap steps_of was.1 in let d : steps_of (outcome lib2 q x n) ≡ now.0 = ap steps_of now.1 in let e = k.no_dearer in omega (arith, a, b, c, d, e));
    }

put_elsewhere : (lib : Library) (q : ℕ) (p : Text) (r : ℕ) → r ≢ q → with_program lib q p r ≡ lib r
put_elsewhere lib q p r other = ap (λ b. if b then Some p else lib r) (let e : (r == q) ≡ false = grind arith in e)

put_there : (lib : Library) (q : ℕ) (p : Text) → with_program lib q p q ≡ Some p
put_there lib q p = ap (λ b. if b then Some p else lib q) (let e : (q == q) ≡ true = grind arith in e)

-- the steps don't rise where none is dearer
not_more : (a b : ℕ) → (a < b → ⊥) → b ≤ a
not_more a b h = grind arith

pub replaceable : (s : Store) (terms : Terms) (limit q : ℕ) (p : Text) (checked : ℕ) → limit ≤ ample → Sound s terms limit
    → IsJudged s terms limit q p (Accepted checked) → IsReplaceable s q p checked
replaceable s terms limit q p checked fits sound judged = record { acyclic = acyclic; values = values; keeps = keeps }
  where
    acyclic : NoCycle (after s q p)
    acyclic =
        no_new_cycle (programs_of s) (after s q p) q p (λ r other. put_elsewhere (programs_of s) q p r other) (put_there (programs_of s) q p)
        judged.1.unbroken.passes.enters.acyclic sound.acyclic

    -- there is a term below the count, and it is given
    given : IsNewChecked (after s q p) judged.0 q limit (checked_at s q) checked → (i : ℕ) → i < checked → (t : ℤ) × Gives (outcome (after s q p) q (pos i) limit) t
    given (inl all) i lt = let n = all.1 in let term = term_at judged.0 i (omega (arith, lt, n)) in (term.0, all.0 i term.0 lt term.1)
    given (inr cut) i lt =
        let n = place_within judged.0 checked cut.0.0 cut.0.1 in
        let term = term_at judged.0 i (omega (arith, lt, n)) in
        (term.0, cut.0.3 i term.0 lt term.1)

    values : (i : ℕ) → i < checked → (v : ℤ) × (used : ℕ) × (outcome (after s q p) q (pos i) ample ≡ value v used)
    values i lt =
        let term = given judged.1.unbroken.passes.checks i lt in
        let g = gives_value (outcome (after s q p) q (pos i) limit) term.0 term.1 in
        (term.0, g.0, more_value (after s q p) limit ample q (pos i) term.0 g.0 fits g.1)

    keeps : (x : ℤ) → InDem s q x → KeepsValue (programs_of s) (after s q p) ample q x
    keeps x d =
        let ran = demanded_runs s terms limit sound fits q x d in
        let text = has_text (programs_of s) q x ran.value_of limit ran.used ran.calls ran.is in
        let there = published_program s q text.0 text.1 in
        let old = outcome (programs_of s) q x limit in
        let new = outcome (after s q p) q x limit in
        let is : old ≡ value ran.value_of ran.used = ap (λ (z : Outcome × Calls). z.0) ran.is in
        let now : Gives new ran.value_of = agree_gives old new ran.value_of ran.used is (true_unless (agree old new) (λ f. judged.1.unbroken.unbroken there x (d, f))) in
        keeps_more (programs_of s) (after s q p) limit ample q x fits
        (record { value = ran.value_of; was = gives_this old ran.value_of ran.used is; now = now; no_dearer = not_more (steps_of old) (steps_of new) (λ l. judged.1.no_dearer there x (inr d, l)) })
