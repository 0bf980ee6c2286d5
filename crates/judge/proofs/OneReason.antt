-- A store that isn't sound has one reason.
use Rattle.std.proofs.Common.{ℕ, ◌<◌, ◌≡◌, sym, ap, subst, ◌∙◌, arith, ℤ, pos, inl, inr, List, length}
use Rattle.std.specs.Prelude.{◌⊎◌}
use Rattle.std.specs.declared.option.Option.TheVariants.{Some, None}
use Rattle.program_store.specs.declared.published.Published.{Published}
use Rattle.program_store.specs.Store.{Store, published_at, programs_of}
use Rattle.program_store.specs.Graph.{NoCycle}
use Rattle.seq_calls.specs.Values.{outcome}
use Rattle.judge.specs.declared.answer.Got.{Got}
use Rattle.judge.specs.declared.answer.Unsound.{Unsound}
use Rattle.judge.specs.declared.answer.Unsound.TheVariants.{Cycle, NoRow, Count, Unmet}
use Rattle.judge.specs.Passed.{Terms, got_of, FailsFirst}
use Rattle.judge.specs.Sound.{Sound, IsEntrySound, SoundBelow, IsUnsound}
use Rattle.judge.specs.One.{HasOneReason}
use Rattle.judge.proofs.OneAnswer.{same_row, fails_same, not_below}

order : (m n : ℕ) → (m < n) ⊎ ((n < m) ⊎ (m ≡ n))
order m n = grind arith

module _ (s : Store) (terms : Terms) (limit : ℕ) where
  -- an entry that breaks a rule, and none below it does
  record Breaks (name : ℕ) : Type 0 where
    entry : Published
    acyclic : NoCycle (programs_of s)
    below : SoundBelow s terms limit name
    there : published_at s name ≡ Some entry
    broken : IsEntrySound s terms limit name entry → ⊥

  names_same : (a b : ℕ) → Breaks a → Breaks b → a ≡ b
  names_same a b h k = by_order (order a b)
    where
      by_order : (a < b) ⊎ ((b < a) ⊎ (a ≡ b)) → a ≡ b
      by_order (inl l) = absurd (h.broken (k.below a h.entry l h.there))
      by_order (inr (inl l)) = absurd (k.broken (h.below b k.entry l k.there))
      by_order (inr (inr e)) = e

  no_row : (q : ℕ) (a : List ℤ) → terms q ≡ Some a → terms q ≡ None → ⊥
  no_row q a e f = let g : Some a ≡ None = sym e ∙ f in cc

  breaks_row : (name : ℕ) → IsUnsound s terms limit (NoRow name) → Breaks name
  breaks_row name h = record { entry = h.2; acyclic = h.0; below = h.1; there = h.3; broken = λ k. no_row name k.0 k.1 h.4 }

  breaks_count : (name checked usable : ℕ) → IsUnsound s terms limit (Count name checked usable) → Breaks name
  breaks_count name checked usable h = record { entry = h.2; acyclic = h.0; below = h.1; there = h.4; broken = λ k. by_case k h.8 }
    where
      by_case : IsEntrySound s terms limit name h.2 → (checked < 8) ⊎ (usable < checked) → ⊥
      by_case k (inl l) = let e = h.6 in let m = k.2 in omega (arith, e, m, l)
      by_case k (inr l) =
          let rows : length k.0 ≡ length h.3 = ap length (same_row terms name k.0 h.3 k.1 h.5) in
          let e = h.6 in let f = h.7 in let m = k.3 in
          omega (arith, e, f, m, l, rows)

  breaks_term : (name index : ℕ) (got : Got) → IsUnsound s terms limit (Unmet name index got) → Breaks name
  breaks_term name index got h = record {
    entry = h.2;
    acyclic = h.0;
    below = h.1;
    there = h.4;
    broken = λ k.
        let rows : h.3 ≡ k.0 = same_row terms name h.3 k.0 h.5 k.1 in
        let l = not_below (programs_of s) k.0 name limit index h.2.checked (subst (λ (r : List ℤ). FailsFirst (programs_of s) r name limit index) rows h.9) k.4 in
        let m = h.8 in
        omega (arith, l, m);
  }

  entries_same : (a b : ℕ) (e f : Published) → a ≡ b → published_at s a ≡ Some e → published_at s b ≡ Some f → e ≡ f
  entries_same a b e f same h k = let g : Some e ≡ Some f = sym h ∙ ap (published_at s) same ∙ k in cc

  rows_same : (a b : ℕ) (e f : List ℤ) → a ≡ b → terms a ≡ Some e → terms b ≡ Some f → e ≡ f
  rows_same a b e f same h k = same_row terms b e f (subst (λ (n : ℕ). terms n ≡ Some e) same h) k

  cycles_same : (a b : ℕ) → IsUnsound s terms limit (Cycle a) → IsUnsound s terms limit (Cycle b) → a ≡ b
  cycles_same a b h k = by_order (order a b)
    where
      by_order : (a < b) ⊎ ((b < a) ⊎ (a ≡ b)) → a ≡ b
      by_order (inl l) = absurd (k.1 a l h.0)
      by_order (inr (inl l)) = absurd (h.1 b l k.0)
      by_order (inr (inr e)) = e

  one : (u w : Unsound) → IsUnsound s terms limit u → IsUnsound s terms limit w → u ≡ w
  one (Cycle a) (Cycle b) h k = ap (λ (n : ℕ). Cycle n) (cycles_same a b h k)
  one (Cycle a) (NoRow b) h k = absurd (k.0 a h.0)
  one (Cycle a) (Count b c d) h k = absurd (k.0 a h.0)
  one (Cycle a) (Unmet b i g) h k = absurd (k.0 a h.0)
  one (NoRow a) (Cycle b) h k = absurd (h.0 b k.0)
  one (Count a c d) (Cycle b) h k = absurd (h.0 b k.0)
  one (Unmet a i g) (Cycle b) h k = absurd (h.0 b k.0)
  one (NoRow a) (NoRow b) h k = ap (λ (n : ℕ). NoRow n) (names_same a b (breaks_row a h) (breaks_row b k))
  one (NoRow a) (Count b c d) h k = let e = names_same a b (breaks_row a h) (breaks_count b c d k) in absurd (no_row b k.3 k.5 (subst (λ (n : ℕ). terms n ≡ None) e h.4))
  one (NoRow a) (Unmet b i g) h k = let e = names_same a b (breaks_row a h) (breaks_term b i g k) in absurd (no_row b k.3 k.5 (subst (λ (n : ℕ). terms n ≡ None) e h.4))
  one (Count a c d) (NoRow b) h k = let e = names_same a b (breaks_count a c d h) (breaks_row b k) in absurd (no_row b h.3 (subst (λ (n : ℕ). terms n ≡ Some h.3) e h.5) k.4)
  one (Unmet a i g) (NoRow b) h k = let e = names_same a b (breaks_term a i g h) (breaks_row b k) in absurd (no_row b h.3 (subst (λ (n : ℕ). terms n ≡ Some h.3) e h.5) k.4)
  one (Count a c d) (Count b x y) h k =
      let e = names_same a b (breaks_count a c d h) (breaks_count b x y k) in
      let counts : c ≡ x = h.6 ∙ ap (λ (z : Published). z.checked) (entries_same a b h.2 k.2 e h.4 k.4) ∙ sym k.6 in
      let terms_same : d ≡ y = h.7 ∙ ap length (rows_same a b h.3 k.3 e h.5 k.5) ∙ sym k.7 in
      ap (λ (n : ℕ). Count n c d) e ∙ ap (λ (n : ℕ). Count b n d) counts ∙ ap (λ (n : ℕ). Count b x n) terms_same
  one (Count a c d) (Unmet b i g) h k =
      let e = names_same a b (breaks_count a c d h) (breaks_term b i g k) in
      absurd (counts_clash a b c d i g h k e h.8)
    where
      counts_clash : (a b c d i : ℕ) (g : Got) (h : IsUnsound s terms limit (Count a c d)) (k : IsUnsound s terms limit (Unmet b i g)) → a ≡ b → (c < 8) ⊎ (d < c) → ⊥
      counts_clash a b c d i g h k e by =
          let f : c ≡ k.2.checked = h.6 ∙ ap (λ (z : Published). z.checked) (entries_same a b h.2 k.2 e h.4 k.4) in
          let r : d ≡ length k.3 = h.7 ∙ ap length (rows_same a b h.3 k.3 e h.5 k.5) in
          let low = k.6 in let high = k.7 in
          elim by [ inl l ↦ omega (arith, f, low, l) | inr l ↦ omega (arith, f, r, high, l) ]
  one (Unmet a i g) (Count b c d) h k =
      let e = names_same a b (breaks_term a i g h) (breaks_count b c d k) in
      absurd (counts_clash e k.8)
    where
      counts_clash : a ≡ b → (c < 8) ⊎ (d < c) → ⊥
      counts_clash e by =
          let f : h.2.checked ≡ c = ap (λ (z : Published). z.checked) (entries_same a b h.2 k.2 e h.4 k.4) ∙ sym k.6 in
          let r : length h.3 ≡ d = ap length (rows_same a b h.3 k.3 e h.5 k.5) ∙ sym k.7 in
          let low = h.6 in let high = h.7 in
          elim by [ inl l ↦ omega (arith, f, low, l) | inr l ↦ omega (arith, f, r, high, l) ]
  one (Unmet a i g) (Unmet b j f) h k =
      let e = names_same a b (breaks_term a i g h) (breaks_term b j f k) in
      let rows : k.3 ≡ h.3 = sym (rows_same a b h.3 k.3 e h.5 k.5) in
      let mine : FailsFirst (programs_of s) h.3 a limit j = subst (λ (n : ℕ). FailsFirst (programs_of s) h.3 n limit j) (sym e) (subst (λ (r : List ℤ). FailsFirst (programs_of s) r b limit j) rows k.9) in
      let places : i ≡ j = fails_same (programs_of s) h.3 a limit i j h.9 mine in
      let gots : g ≡ f = h.10 ∙ ap (λ (n : ℕ). got_of (outcome (programs_of s) a (pos n) limit)) places ∙ ap (λ (n : ℕ). got_of (outcome (programs_of s) n (pos j) limit)) e ∙ sym k.10 in
      ap (λ (n : ℕ). Unmet n i g) e ∙ ap (λ (n : ℕ). Unmet b n g) places ∙ ap (λ (z : Got). Unmet b j z) gots

  never_both : (u : Unsound) → IsUnsound s terms limit u → Sound s terms limit → ⊥
  never_both (Cycle a) h sound = sound.acyclic a h.0
  never_both (NoRow a) h sound = let b = breaks_row a h in b.broken (sound.each a b.entry b.there)
  never_both (Count a c d) h sound = let b = breaks_count a c d h in b.broken (sound.each a b.entry b.there)
  never_both (Unmet a i g) h sound = let b = breaks_term a i g h in b.broken (sound.each a b.entry b.there)

pub one_reason : (s : Store) (terms : Terms) (limit : ℕ) → HasOneReason s terms limit
one_reason s terms limit = record { one = one s terms limit; never_both = never_both s terms limit }
