-- Starts of groups that are cut, and groups that are joined.
use Rattle.std.proofs.Common.{ℕ, ◌+◌, ◌≡◌, ◌<◌, ◌≤◌, inl, inr, refl, sym, ap, ◌∙◌, ◌-◌, Some, None, slice_get, List, [], ◌∷◌, ◌++◌, Contains, take, length, get_or, reverse, arith}
use Rattle.std.proofs.lemmas.List.{get_or_default, take_all, take_more, reverse-append}
use Rattle.std.proofs.lemmas.Option.{slice_get_cases}
use Rattle.std.proofs.lemmas.Bool.{cases_lt}
use Rattle.loda_semantics.specs.Exec.{Library}
use Rattle.program_store.specs.Graph.{Reaches}
use Rattle.call_graph.specs.Closure.{CallsName}
use Rattle.call_graph.specs.Groups.{Descends, IsUpTo, IsMet, AreCutStarts, IsGrouped}
use Rattle.call_graph.proofs.Paths.{reach_call, reach_trans}
use Rattle.call_graph.proofs.Sets.{cons-cases, cons-more}

-- the starts that are left hold each up to the place
pub record IsCutting (old : List ℕ) (k : ℕ) (left : List ℕ) : Type 0 where
  pub descends : Descends left
  pub kept : (b : ℕ) → Contains old b → b ≤ k → Contains left b
  pub from : (b : ℕ) → Contains left b → Contains old b

module _ (old : List ℕ) (k : ℕ) where
  pub cutting-first : Descends old → IsCutting old k old
  cutting-first descends = record {
    descends = descends;
    kept = λ b there le. there;
    from = λ b there. there;
  }

  pub cutting-more : (b : ℕ) (bs : List ℕ) → k < b → IsCutting old k (b ∷ bs) → IsCutting old k bs
  cutting-more b bs above cutting = record {
    descends = cutting.descends.1;
    kept = λ c there le. elim (cons-cases b bs c (cutting.kept c there le)) [ inl same ↦ absurd (omega arith) | inr h ↦ h ];
    from = λ c there. cutting.from c (cons-more b bs c there);
  }

  pub cut-none : IsCutting old k [] → AreCutStarts old k []
  cut-none cutting = record {
    descends = cutting.descends;
    kept = cutting.kept;
    cut = λ b there. absurd (omega arith);
  }

  pub cut-at : (b : ℕ) (bs : List ℕ) → b ≤ k → IsCutting old k (b ∷ bs) → AreCutStarts old k (b ∷ bs)
  cut-at b bs le cutting = record {
    descends = cutting.descends;
    kept = cutting.kept;
    cut = λ c there.
        (cutting.from c there, elim (cons-cases b bs c there) [ inl same ↦ omega arith | inr h ↦ let lt : c < b = cutting.descends.0 c h in omega arith ]);
  }

module _ (lib : Library) (done stack starts : List ℕ) (new : List ℕ) where
  -- what has been met stays so where groups are joined
  pub met-fewer : ((b : ℕ) → Contains new b → Contains starts b) → (j n : ℕ) → IsMet done stack starts j n → IsMet done stack new j n
  met-fewer fewer j n met = elim met [ inl h ↦ inl h | inr m ↦ inr (m.0, m.1, m.2, λ b h le. m.3 b (fewer b h) le) ]

  module _ (grouped : IsGrouped lib done stack starts) (place k : ℕ) (here : place < length stack) (there : k < length stack)
      (last : (b : ℕ) → Contains starts b → b ≤ place) (call : CallsName lib (get_or stack place 0) (get_or stack k 0)) (cut : AreCutStarts starts k new) where
    joined-reach : (i j : ℕ) → i < length stack → j < length stack → IsUpTo new i j → Reaches lib (get_or stack i 0) (get_or stack j 0)
    joined-reach i j low high up =
        elim (cases_lt i k) [
          | inl lt ↦ grouped.reach i j low high (λ b h le. let under : b ≤ k = omega arith in up b (cut.kept b h under) le)
          | inr le ↦
              let down = grouped.reach i place low here (λ b h _. last b h) in
              let back = reach_call lib (get_or stack i 0) (get_or stack place 0) down call.0 call.1 (get_or stack k 0) call.2 in
              let on = grouped.reach k j there high (λ b h under. let low : b ≤ i = omega arith in up b (cut.kept b h under) low) in
              reach_trans lib (get_or stack i 0) (get_or stack k 0) (get_or stack j 0) back on
        ]

    -- a call of the last group to an stack name joins the groups from that name's own on
    pub joined : IsGrouped lib done stack new
    joined = record {
      closed = grouped.closed;
      apart = grouped.apart;
      reach = joined-reach;
      descends = cut.descends;
      first = λ some. cut.kept 0 (grouped.first some) (omega arith);
    }

-- ---- the last of a list is the first from its end

pub last-read : (xs : List ℕ) (x : ℕ) → slice_get xs (length xs - 1) ≡ Some x → reverse xs ≡ x ∷ reverse (take (length xs - 1) xs)
last-read xs x read =
    elim (slice_get_cases xs (length xs - 1)).1 [
      | inl w ↦
          let i : ℕ = length xs - 1 in
          let lt : i < length xs = w.1 in
          let e : i + 1 ≡ length xs = omega arith in
          let same : get_or xs i 0 ≡ x = get_or_default xs i 0 w.0 lt ∙ w.3 ∙ the_same w.0 x (sym w.2 ∙ read) in
          let whole : xs ≡ take i xs ++ x ∷ [] =
          sym (take_all (i + 1) xs (let le : length xs ≤ i + 1 = omega arith in le)) ∙ take_more xs i 0 lt ∙ ap (λ y. take i xs ++ y ∷ []) same in
          ap (λ (l : List ℕ). reverse l) whole ∙ reverse-append (take i xs) (x ∷ [])
      | inr past ↦ nothing (sym past.1 ∙ read)
    ]
  where
    the_same : (a b : ℕ) → Some a ≡ Some b → a ≡ b
    the_same a b e = cc

    nothing : {A : Type 0} → None ≡ Some x → A
    nothing h = absurd cc

pub last-none : (xs : List ℕ) → slice_get xs (length xs - 1) ≡ None → reverse xs ≡ []
last-none [] read = refl
last-none (x ∷ xs) read =
    elim (slice_get_cases (x ∷ xs) (length (x ∷ xs) - 1)).1 [
      | inl w ↦ nothing w.0 (sym read ∙ w.2)
      | inr past ↦ (let le : length (x ∷ xs) ≤ length (x ∷ xs) - 1 = past.0 in absurd (omega arith))
    ]
  where
    nothing : {A : Type 0} (y : ℕ) → None ≡ Some y → A
    nothing y h = absurd cc
