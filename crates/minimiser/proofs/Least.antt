-- The minimum is made cut by cut: how many cuts there may be doesn't matter, where they are as many as the instructions.
use Rattle.std.proofs.Common.{◌≡◌, ◌≤◌, ◌<◌, ◌+◌, ℕ, zero, suc, ℤ, List, [], ◌∷◌, length, refl, sym, ap, ◌∙◌, arith, inl, inr, Bool, true, false, cond}
use Rattle.std.specs.Prelude.{Option, Some, None, ◌⊎◌}
use Rattle.std.specs.List.{find, filter_map, cons_option, range_with_len}
use Rattle.std.proofs.lemmas.Bool.{both_ways, cases_lt}
use Rattle.loda_syntax.specs.Programs.{Text}
use Rattle.loda_syntax.specs.WellFormed.{IsProgram}
use Rattle.loda_semantics.specs.Exec.{Library}
use Rattle.minimiser.specs.Cuts.{cut_at}
use Rattle.minimiser.specs.Minimum.{is_good, first_good, minimum_of, after_cuts, minimum}
use Rattle.minimiser.specs.Laws.{HasNoGoodCut, IsFirstGoodCut, MinimumUnfolds}
use Rattle.minimiser.specs.Given.{AreGiven, is_good_for, if_good}
use Rattle.minimiser.specs.declared.trying.Given.{Given}
use Rattle.minimiser.proofs.Found.{found_from, FirstAt, found_none, found_some}
use Rattle.minimiser.proofs.Runs.{good_same}
use Rattle.minimiser.proofs.Parts.{length-cut, cut_from, cut_to, cut_within}

-- the first good cut's place
pub first_at : (lib : Library) (args : List ℤ) (limit : ℕ) (p q : Text) → first_good lib args limit p ≡ Some q
    → FirstAt (is_good lib args limit p) (cut_at p) 0 (0 + length p) q
first_at lib args limit p q e = found_some (is_good lib args limit p) (cut_at p) 0 (length p) q e

pub length-first : (lib : Library) (args : List ℤ) (limit : ℕ) (p q : Text) → first_good lib args limit p ≡ Some q → length q < length p
length-first lib args limit p q e = let f = first_at lib args limit p q e in length-cut p f.place q f.is

no_instr : (lib : Library) (args : List ℤ) (limit : ℕ) (p : Text) → length p ≤ 0 → first_good lib args limit p ≡ None
no_instr lib args limit [] h = refl
no_instr lib args limit (i ∷ is) h = absurd (omega arith)

made_none : (more : Text → Text) (p : Text) (o : Option Text) → o ≡ None → minimum_of more p o ≡ p
made_none more p o e = ap (minimum_of more p) e

after_none : (lib : Library) (args : List ℤ) (limit most : ℕ) (p : Text) → first_good lib args limit p ≡ None → after_cuts lib args limit most p ≡ p
unfolding after_cuts
after_none lib args limit zero p e = refl
after_none lib args limit (suc most) p e = made_none (after_cuts lib args limit most) p (first_good lib args limit p) e

same_after : (lib : Library) (args : List ℤ) (limit m n : ℕ) (p : Text) → length p ≤ m → length p ≤ n
    → after_cuts lib args limit m p ≡ after_cuts lib args limit n p
unfolding after_cuts
same_after lib args limit zero n p h k =
    let none = no_instr lib args limit p h in
    sym (after_none lib args limit n p none)
same_after lib args limit (suc m) zero p h k =
    let none = no_instr lib args limit p k in
    after_none lib args limit (suc m) p none
same_after lib args limit (suc m) (suc n) p h k =
    by_cut (first_good lib args limit p) refl (λ q a b. same_after lib args limit m n q a b)
  where
    by_cut : (o : Option Text) → first_good lib args limit p ≡ o
        → ((q : Text) → length q ≤ m → length q ≤ n → after_cuts lib args limit m q ≡ after_cuts lib args limit n q)
        → minimum_of (after_cuts lib args limit m) p o ≡ minimum_of (after_cuts lib args limit n) p o
    by_cut None e same = refl
    by_cut (Some q) e same = let shorter = length-first lib args limit p q e in same q (omega arith) (omega arith)

pub minimum_none : (lib : Library) (args : List ℤ) (limit : ℕ) (p : Text) → first_good lib args limit p ≡ None → minimum lib args limit p ≡ p
minimum_none lib args limit p e = after_none lib args limit (length p) p e

pub minimum_some : (lib : Library) (args : List ℤ) (limit : ℕ) (p q : Text) → first_good lib args limit p ≡ Some q
    → minimum lib args limit p ≡ minimum lib args limit q
unfolding after_cuts
minimum_some lib args limit p q e = by_length (length p) (length-first lib args limit p q e) refl
  where
    by_length : (n : ℕ) → length q < n → length p ≡ n → after_cuts lib args limit n p ≡ after_cuts lib args limit (length q) q
    by_length zero lt is = absurd (omega arith)
    by_length (suc n) lt is =
        ap (minimum_of (after_cuts lib args limit n) p) e ∙ same_after lib args limit n (length q) q (omega arith) (omega arith)

pub none_good : (lib : Library) (args : List ℤ) (limit : ℕ) (p : Text) → first_good lib args limit p ≡ None → HasNoGoodCut lib args limit p
none_good lib args limit p e place q cut good =
    let is = cut_to p place q cut in
    let within = cut_within p place q cut in
    both_ways (is_good lib args limit p q) (found_none (is_good lib args limit p) (cut_at p) 0 (length p) e place (omega arith) (omega (arith, within)) q is) good

same_place : (p q r : Text) (a b : ℕ) → a ≡ b → cut_at p a ≡ Some q → cut_at p b ≡ Some r → r ≡ q
same_place p q r a b same first second =
    let z : Some r ≡ Some q = sym second ∙ sym (ap (cut_at p) same) ∙ first in cc

-- the first good cut is the one that is found
first_found : (lib : Library) (args : List ℤ) (limit : ℕ) (p q : Text) → IsProgram p → IsFirstGoodCut lib args limit p q
    → first_good lib args limit p ≡ Some q
first_found lib args limit p q is f = by_found (first_good lib args limit p) refl
  where
    by_place : (r : Text) (g : FirstAt (is_good lib args limit p) (cut_at p) 0 (0 + length p) r)
        → (f.place < g.place) ⊎ (g.place ≤ f.place) → (g.place < f.place) ⊎ (f.place ≤ g.place) → r ≡ q
    by_place r g (inl lt) order = absurd (both_ways (is_good lib args limit p q) (g.first f.place (omega arith) lt q (cut_to p f.place q f.cut)) f.good)
    by_place r g (inr le) (inl lt) = absurd (f.first g.place r lt (cut_from p g.place r is g.is) g.passes)
    by_place r g (inr le) (inr ge) = same_place p q r f.place g.place (omega arith) (cut_to p f.place q f.cut) g.is

    by_found : (o : Option Text) → first_good lib args limit p ≡ o → o ≡ Some q
    by_found None e = absurd (none_good lib args limit p e f.place q f.cut f.good)
    by_found (Some r) e =
        let g = first_at lib args limit p r e in
        ap (λ (t : Text). Some t) (by_place r g (cases_lt f.place g.place) (cases_lt g.place f.place))

pub unfolds : (lib : Library) (args : List ℤ) (limit : ℕ) (p : Text) → IsProgram p → MinimumUnfolds lib args limit p
unfolds lib args limit p is = record {
  done = λ none. by_found none (first_good lib args limit p) refl;
  more = λ q f. minimum_some lib args limit p q (first_found lib args limit p q is f);
}
  where
    by_found : HasNoGoodCut lib args limit p → (o : Option Text) → first_good lib args limit p ≡ o → minimum lib args limit p ≡ p
    by_found none None e = minimum_none lib args limit p e
    by_found none (Some q) e =
        let g = first_at lib args limit p q e in
        absurd (none g.place q (cut_from p g.place q is g.is) g.passes)

-- ---- one place and then the rest

pub found_step : (lib : Library) (args : List ℤ) (limit : ℕ) (p : Text) (given : List Given) (place many more : ℕ) → many ≡ suc more
    → AreGiven lib args limit p given → if_good lib given (cut_at p place) ≡ None
    → found_from (is_good lib args limit p) (cut_at p) place many ≡ found_from (is_good lib args limit p) (cut_at p) (place + 1) more
found_step lib args limit p given place many more eq are none =
    ap (found_from (is_good lib args limit p) (cut_at p) place) eq
    ∙ by_cut (cut_at p place) (filter_map (cut_at p) (range_with_len (place + 1) more)) none
  where
    by_test : (q : Text) (rest : List Text) (b : Bool) → is_good_for lib given q ≡ b → cond b (Some q) None ≡ None
        → cond (is_good lib args limit p q) (Some q) (find (is_good lib args limit p) rest) ≡ find (is_good lib args limit p) rest
    by_test q rest true e never = absurd (let z : Some q ≡ None = never in cc)
    by_test q rest false e never = ap (λ (b : Bool). cond b (Some q) (find (is_good lib args limit p) rest)) (sym (good_same lib args limit p q given are) ∙ e)

    by_cut : (o : Option Text) (rest : List Text) → if_good lib given o ≡ None
        → find (is_good lib args limit p) (cons_option o rest) ≡ find (is_good lib args limit p) rest
    by_cut None rest never = refl
    by_cut (Some q) rest never = by_test q rest (is_good_for lib given q) refl never

pub found_here : (lib : Library) (args : List ℤ) (limit : ℕ) (p : Text) (given : List Given) (place many more : ℕ) (cut : Text) → many ≡ suc more
    → AreGiven lib args limit p given → if_good lib given (cut_at p place) ≡ Some cut
    → found_from (is_good lib args limit p) (cut_at p) place many ≡ Some cut
found_here lib args limit p given place many more cut eq are some =
    ap (found_from (is_good lib args limit p) (cut_at p) place) eq
    ∙ by_cut (cut_at p place) (filter_map (cut_at p) (range_with_len (place + 1) more)) some
  where
    by_test : (q : Text) (rest : List Text) (b : Bool) → is_good_for lib given q ≡ b → cond b (Some q) None ≡ Some cut
        → cond (is_good lib args limit p q) (Some q) (find (is_good lib args limit p) rest) ≡ Some cut
    by_test q rest true e is = ap (λ (b : Bool). cond b (Some q) (find (is_good lib args limit p) rest)) (sym (good_same lib args limit p q given are) ∙ e) ∙ is
    by_test q rest false e is = absurd (let z : None ≡ Some cut = is in cc)

    by_cut : (o : Option Text) (rest : List Text) → if_good lib given o ≡ Some cut → find (is_good lib args limit p) (cons_option o rest) ≡ Some cut
    by_cut None rest is = absurd (let z : None ≡ Some cut = is in cc)
    by_cut (Some q) rest is = by_test q rest (is_good_for lib given q) refl is

-- where the program has no value no cut is good
pub none_where_bad : (lib : Library) (args : List ℤ) (limit : ℕ) (p : Text) → ((q : Text) → is_good lib args limit p q ≡ false)
    → first_good lib args limit p ≡ None
none_where_bad lib args limit p bad = by_found (first_good lib args limit p) refl
  where
    by_found : (o : Option Text) → first_good lib args limit p ≡ o → o ≡ None
    by_found None e = refl
    by_found (Some q) e = let f = first_at lib args limit p q e in absurd (both_ways (is_good lib args limit p q) (bad q) f.passes)
