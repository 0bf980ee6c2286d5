-- The carry law: of the terms those matter alone that are eight or more in a row.
use Rattle.std.proofs.Common.{ℕ, ◌≤◌, ◌≡◌, ◌≢◌, refl, sym, ap, subst, ◌∙◌, arith, ℤ, Bool, true, false, nat_lt, inl, inr, List, [], ◌∷◌, length}
use Rattle.std.specs.Prelude.{◌⊎◌, if◌then◌else◌}
use Rattle.std.specs.declared.option.Option.{Option}
use Rattle.std.specs.declared.option.Option.TheVariants.{Some, None}
use Rattle.loda_syntax.specs.Programs.{Text}
use Rattle.program_store.specs.Store.{Store, put_in, IsPublished}
use Rattle.judge.specs.declared.answer.Answer.TheVariants.{Accepted}
use Rattle.judge.specs.Passed.{Terms}
use Rattle.judge.specs.Sound.{Sound}
use Rattle.judge.specs.Judged.{IsJudged}
use Rattle.judge.specs.Kept.{HasEight}
use Rattle.judge.proofs.Values.{decide}
use Rattle.program_store.proofs.Puts.{put_here, put_elsewhere}
use Rattle.carry_over.specs.Stores.{ComesBy}
use Rattle.carry_over.specs.Carries.{Carries}
use Rattle.carry_over.proofs.Meeting.{meets, alike}
use Rattle.carry_over.proofs.Cases.{judged_same}

-- the rows of eight terms and more
abbrev wide_row : Option (List ℤ) → Option (List ℤ)
wide_row None = None
wide_row (Some row) = if nat_lt (length row) 8 then None else Some row

abbrev wide : Terms → Terms
wide terms q = wide_row (terms q)

wide_eight : (terms : Terms) → HasEight (wide terms)
wide_eight terms q row e = by_row (terms q) e
  where
    by_test : (full : List ℤ) (b : Bool) → nat_lt (length full) 8 ≡ b → ◌≡◌ {A = Option (List ℤ)} (if b then None else Some full) (Some row) → 8 ≤ length row
    by_test full true t is = absurd cc
    by_test full false t is = let same : full ≡ row = cc in let le : 8 ≤ length full = grind arith in subst (λ (l : List ℤ). 8 ≤ length l) same le

    by_row : (o : Option (List ℤ)) → wide_row o ≡ Some row → 8 ≤ length row
    by_row None is = absurd cc
    by_row (Some full) is = by_test full (nat_lt (length full) 8) refl is

wide_same : (terms : Terms) (q : ℕ) (row : List ℤ) → terms q ≡ Some row → 8 ≤ length row → wide terms q ≡ Some row
wide_same terms q row e le =
    let test : nat_lt (length row) 8 ≡ false = grind (arith, le) in
    ap wide_row e ∙ ap (λ (b : Bool). if b then None else Some row) test

wide_sound : (s : Store) (terms : Terms) (limit : ℕ) → Sound s terms limit → Sound s (wide terms) limit
wide_sound s terms limit sound = record {
  acyclic = sound.acyclic;
  each = λ q e there.
      let each = sound.each q e there in
      let l1 = each.2 in
      let l2 = each.3 in
      (each.0, wide_same terms q each.0 each.1 (omega (arith, l1, l2)), each.2, each.3, each.4);
}

wide_judged : (s : Store) (terms : Terms) (limit q : ℕ) (p : Text) (k : ℕ) → (h : IsJudged s terms limit q p (Accepted k)) → 8 ≤ length h.0 → IsJudged s (wide terms) limit q p (Accepted k)
wide_judged s terms limit q p k h le = (
  h.0,
  record {
    unbroken = record {
      passes = record {
        enters = record { listed = wide_same terms q h.0 h.1.unbroken.passes.enters.listed le; acyclic = h.1.unbroken.passes.enters.acyclic };
        checks = h.1.unbroken.passes.checks;
      };
      unbroken = h.1.unbroken.unbroken;
    };
    no_dearer = h.1.no_dearer;
  },
  h.2,
)

-- ---- names stay published

put_stays : (s : Store) (q : ℕ) (p : Text) (k r : ℕ) → IsPublished s r → IsPublished (put_in s q p k) r
put_stays s q p k r h = by_name (decide r q)
  where
    by_name : (r ≡ q) ⊎ (r ≢ q) → IsPublished (put_in s q p k) r
    by_name (inl same) = subst (λ (z : ℕ). IsPublished (put_in s q p k) z) (sym same) (record { program = p; checked = k }, put_here s q p k)
    by_name (inr other) = (h.0, put_elsewhere s q p k r other ∙ h.1)

stays : (terms : Terms) (limit : ℕ) (s : Store) (names : List ℕ) (s2 : Store) → ComesBy terms limit s names s2 → (r : ℕ) → IsPublished s r → IsPublished s2 r
stays terms limit s [] s2 h r there = subst (λ (z : Store). IsPublished z r) (sym h) there
stays terms limit s (q ∷ qs) s2 h r there = stays terms limit (put_in s q h.0 h.1) qs s2 h.3 r (put_stays s q h.0 h.1 r there)

-- a published name of a sound store has a row of eight terms
long_row : (s : Store) (terms : Terms) (limit : ℕ) → Sound s terms limit → (r : ℕ) (row : List ℤ) → terms r ≡ Some row → IsPublished s r → 8 ≤ length row
long_row s terms limit sound r row listed there =
    let each = sound.each r there.0 there.1 in
    let l1 = each.2 in
    let l2 = each.3 in
    let both : Some each.0 ≡ Some row = sym each.1 ∙ listed in
    let same : each.0 ≡ row = cc in
    subst (λ (l : List ℤ). 8 ≤ length l) same (omega (arith, l1, l2))

wide_comes : (terms : Terms) (limit : ℕ) (s : Store) (names : List ℕ) (s2 : Store) → ComesBy terms limit s names s2 → Sound s2 terms limit → ComesBy (wide terms) limit s names s2
wide_comes terms limit s [] s2 h sound = h
wide_comes terms limit s (r ∷ rs) s2 h sound =
    let there : IsPublished (put_in s r h.0 h.1) r = (record { program = h.0; checked = h.1 }, put_here s r h.0 h.1) in
    let le = long_row s2 terms limit sound r h.2.0 h.2.1.unbroken.passes.enters.listed (stays terms limit (put_in s r h.0 h.1) rs s2 h.3 r there) in
    (h.0, h.1, wide_judged s terms limit r h.0 h.1 h.2 le, wide_comes terms limit (put_in s r h.0 h.1) rs s2 h.3 sound)

-- ---- the law

pub carries : (s : Store) (terms : Terms) (limit : ℕ) (names : List ℕ) (s2 : Store) (q : ℕ) (p : Text) → Carries s terms limit names s2 q p
carries s terms limit names s2 q p = λ follows none.
    let eight = wide_eight terms in
    let sound = wide_sound s terms limit follows.was_sound in
    let comes = wide_comes terms limit s names s2 follows.comes follows.sound in (
      meets s (wide terms) limit names s2 q p follows.fits eight sound comes none,
      judged_same s s2 terms limit q p (alike s (wide terms) limit names s2 q p follows.fits eight sound comes none),
    )
