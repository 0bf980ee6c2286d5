-- What a replaced program leaves to others: each run of another name that is relied on.
use Rattle.std.proofs.Common.{ℕ, suc, ◌≤◌, ◌≡◌, ◌≢◌, refl, sym, ap, subst, ◌∙◌, arith, ℤ, inl, inr}
use Rattle.std.specs.Prelude.{◌⊎◌}
use Rattle.std.proofs.lemmas.Bool.{cases_eq}
use Rattle.std.specs.declared.option.Option.{Option}
use Rattle.loda_syntax.specs.Programs.{Text, instrs}
use Rattle.loda_syntax.specs.Trees.{tree_of}
use Rattle.loda_semantics.specs.Laws.{AllTrace, Cheaper}
use Rattle.loda_semantics.specs.Exec.{value, Calls, none, call, Library, run_deep, run_name}
use Rattle.loda_semantics.proofs.Simulation.{AllGood}
use Rattle.loda_semantics.proofs.Laws.{used_within, run_text-is}
use Rattle.loda_semantics.proofs.Keeps.{keeps_deep}
use Rattle.program_store.specs.Store.{Store, programs_of}
use Rattle.seq_calls.specs.Demand.{InTrace, ample, InDem, IsReliedOn}
use Rattle.seq_calls.specs.Runs.{HasValues, KeepsRun}
use Rattle.seq_calls.proofs.Own.{own_run}
use Rattle.seq_calls.proofs.Bounded.{cheaper_with, has_text, text_run}
use Rattle.seq_calls.proofs.Relied.{relied_run}

pub all_traced : (P : ℕ → ℤ → Type 0) (c : Calls) → ((r : ℕ) (y : ℤ) → InTrace r y c → P r y) → AllTrace P c
all_traced P none h = tt
all_traced P (call q x o inner rest) h =
    (h q x (inl (refl, refl)), all_traced P inner (λ r y t. h r y (inr (inl t))), all_traced P rest (λ r y t. h r y (inr (inr t))))

all_good : (Good : ℕ → ℤ → Type 0) (c : Calls) → ((q : ℕ) (x : ℤ) → InTrace q x c → Good q x) → AllGood (λ q x inner. Good q x) c
all_good Good none h = tt
all_good Good (call q x o inner rest) h = (h q x (inl (refl, refl)), all_good Good rest (λ r y t. h r y (inr (inr t))))

-- A run whose callees keep their values keeps its own, in no more steps, by the same direct calls and with as many steps of its own.
pub run_kept : (lib1 lib2 : Library) (r : ℕ) (y v : ℤ) (n used : ℕ) (c : Calls) → lib2 r ≡ lib1 r → run_name lib1 r y n ≡ (value v used, c)
    → ((q : ℕ) (x : ℤ) → InTrace q x c → Cheaper lib1 lib2 q x) → KeepsRun lib1 lib2 n r y
run_kept lib1 lib2 r y v n used c same is kept =
    let text = has_text lib1 r y v n used c is in
    let k = own_run (run_name lib1) (run_name lib2) (λ q x inner. Cheaper lib1 lib2 q x)
    (λ q z a b w u inner le cheap ran.
    let new = cheap a w u inner ran in
    let within : u ≤ a = used_within lib1 (suc a) (lib1 q) z a w u inner ran in
    let enough : new.0 ≤ b = (let l = new.2 in omega (arith, l, within, le)) in
    (new.0, new.1, new.3 b enough, new.2, within))
    (tree_of (instrs text.0)) y n v used c (sym (run_text-is lib1 text.0 y n) ∙ sym (text_run lib1 r text.0 y n text.1) ∙ is) (all_good (Cheaper lib1 lib2) c kept) in
    record {
      value_of = v;
      used = used;
      calls = c;
      less = k.0;
      now = k.1;
      was = is;
      is = text_run lib2 r text.0 y n (same ∙ text.1) ∙ run_text-is lib2 text.0 y n ∙ k.2;
      no_dearer = k.3;
      same_calls = k.4;
      same_own = k.5;
    }

module _ (s : Store) (values : HasValues s) (lib2 : Library) (q : ℕ) (elsewhere : (r : ℕ) → r ≢ q → lib2 r ≡ programs_of s r) (keeps : (x : ℤ) → InDem s q x → Cheaper (programs_of s) lib2 q x) where
  -- what is demanded is no dearer with the program put in
  cheaper : (r : ℕ) (x : ℤ) → InDem s r x → Cheaper (programs_of s) lib2 r x
  cheaper r x d = by_name (cases_eq r q)
    where
      by_name : (r ≡ q) ⊎ (r ≢ q) → Cheaper (programs_of s) lib2 r x
      by_name (inl same) = subst (λ (z : ℕ). Cheaper (programs_of s) lib2 z x) (sym same) (keeps x (subst (λ (z : ℕ). InDem s z x) same d))
      by_name (inr other) =
          let both = relied_run s values r x (inr d) in
          let ran = both.0 in
          let kept = keeps_deep (programs_of s) lib2 q (λ n ne. elsewhere n ne) (InDem s q) (λ y dy. keeps y dy)
          (suc ample) (suc ample) (programs_of s r) x ample ample ran.value_of ran.used ran.calls (omega arith) (omega arith) ran.is
          (all_traced (λ n y. n ≡ q → InDem s q y) ran.calls (λ n y t same. subst (λ (z : ℕ). InDem s z y) same (both.1 n y t))) in
          let there : run_name lib2 r x ample ≡ (value ran.value_of kept.0, kept.1) = ap (λ (o : Option Text). run_deep lib2 (suc ample) o x ample) (elsewhere r other) ∙ kept.2 in
          cheaper_with (programs_of s) lib2 r x ran.value_of ample ran.used kept.0 ran.calls kept.1 ran.is there kept.3

  pub others_stay : (r : ℕ) (y : ℤ) → r ≢ q → IsReliedOn s r y → KeepsRun (programs_of s) lib2 ample r y
  others_stay r y other relied =
      let both = relied_run s values r y relied in
      let ran = both.0 in
      run_kept (programs_of s) lib2 r y ran.value_of ample ran.used ran.calls (elsewhere r other) ran.is (λ z w t. cheaper z w (both.1 z w t))
