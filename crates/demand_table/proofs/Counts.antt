-- How the number of things with a property changes when the property does.
use Rattle.std.proofs.Common.{ℕ, suc, ◌<◌, ◌≤◌, ◌≡◌, ◌⊎◌, inl, inr, refl, sym, ap, subst, ◌∙◌, List, [], ◌∷◌, Contains, length, arith}
use Rattle.std.proofs.lemmas.List.Elements.{Contains-append_cases, Contains-push_cases}
use Rattle.demand_table.specs.Counts.{AllDiffer, IsCount}

module _ {X : Type 0} where
  pub nil-cases : (x : X) → Contains [] x → ⊥
  nil-cases x there = omega arith

  pub cons-cases : (y : X) (ys : List X) (x : X) → Contains (y ∷ ys) x → (y ≡ x) ⊎ Contains ys x
  cons-cases y ys x there =
      elim (Contains-append_cases (y ∷ []) ys x there) [ inl h ↦ elim (Contains-push_cases [] y x h) [ inl none ↦ absurd (nil-cases x none) | inr e ↦ inl e ] | inr h ↦ inr h ]

  pub cons-here : (x : X) (xs : List X) → Contains (x ∷ xs) x
  cons-here x xs = (0, omega arith, refl)

  pub cons-same : (y : X) (ys : List X) (x : X) → y ≡ x → Contains (y ∷ ys) x
  cons-same y ys x e = subst (Contains (y ∷ ys)) e (cons-here y ys)

  pub cons-more : (y : X) (ys : List X) (x : X) → Contains ys x → Contains (y ∷ ys) x
  cons-more y ys x h = (suc h.0, omega arith, h.2)

  -- the list without one of its things
  pub record IsWithout (xs : List X) (x : X) (ys : List X) : Type 0 where
    pub differ : AllDiffer ys
    pub length_is : length xs ≡ suc (length ys)
    pub kept : (y : X) → Contains xs y → (y ≡ x → ⊥) → Contains ys y
    pub within : (y : X) → Contains ys y → Contains xs y
    pub gone : Contains ys x → ⊥

  pub without : (xs : List X) (x : X) → AllDiffer xs → Contains xs x → (ys : List X) × IsWithout xs x ys
  without [] x differ there = absurd (nil-cases x there)
  without (z ∷ zs) x differ there = elim (cons-cases z zs x there) [ inl e ↦ here e | inr h ↦ later h (without zs x differ.1 h) ]
    where
      here : z ≡ x → (ys : List X) × IsWithout (z ∷ zs) x ys
      here e = (
        zs,
        record {
          differ = differ.1;
          length_is = refl;
          kept = λ y h other. elim (cons-cases z zs y h) [ inl same ↦ absurd (other (sym same ∙ e)) | inr h ↦ h ];
          within = λ y h. cons-more z zs y h;
          gone = subst (λ w. Contains zs w → ⊥) e differ.0;
        },
      )

      later : Contains zs x → (ys : List X) × IsWithout zs x ys → (ys : List X) × IsWithout (z ∷ zs) x ys
      later h rest = (
        z ∷ rest.0,
        record {
          differ = (λ at. differ.0 (rest.1.within z at), rest.1.differ);
          length_is = ap suc rest.1.length_is;
          kept = λ y at other. elim (cons-cases z zs y at) [ inl same ↦ cons-same z rest.0 y same | inr at ↦ cons-more z rest.0 y (rest.1.kept y at other) ];
          within = λ y at. elim (cons-cases z rest.0 y at) [ inl same ↦ cons-same z zs y same | inr at ↦ cons-more z zs y (rest.1.within y at) ];
          gone = λ at. elim (cons-cases z rest.0 x at) [ inl same ↦ differ.0 (subst (Contains zs) (sym same) h) | inr at ↦ rest.1.gone at ];
        },
      )

  -- different things that all stand on a list are no more than it has
  pub no_longer : (xs ys : List X) → AllDiffer xs → AllDiffer ys → ((x : X) → Contains xs x → Contains ys x) → length xs ≤ length ys
  no_longer [] ys differ others within = omega arith
  no_longer (x ∷ xs) ys differ others within =
      let rest = without ys x others (within x (cons-here x xs)) in
      let fewer : length xs ≤ length rest.0 = no_longer xs rest.0 differ.1 rest.1.differ
      (λ y h. rest.1.kept y (within y (cons-more x xs y h)) (λ e. differ.0 (subst (Contains xs) e h))) in
      let e = rest.1.length_is in
      omega arith

  module _ (P : X → Type 0) where
    pub count_same : (Q : X → Type 0) (n : ℕ) → ((x : X) → P x → Q x) → ((x : X) → Q x → P x) → IsCount P n → IsCount Q n
    count_same Q n to from h = record {
      things = h.things;
      differ = h.differ;
      exact = λ x. (λ q. (h.exact x).0 (from x q), λ at. to x ((h.exact x).1 at));
      count = h.count;
    }

    -- one thing more
    pub count_more : (Q : X → Type 0) (n : ℕ) (x : X) → (P x → ⊥) → ((y : X) → Q y → (y ≡ x) ⊎ P y) → Q x → ((y : X) → P y → Q y) → IsCount P n → IsCount Q (suc n)
    count_more Q n x new from here to h = record {
      things = x ∷ h.things;
      differ = (λ at. new ((h.exact x).1 at), h.differ);
      exact = λ y. (
        λ q. elim (from y q) [ inl e ↦ cons-same x h.things y (sym e) | inr p ↦ cons-more x h.things y ((h.exact y).0 p) ],
        λ at. elim (cons-cases x h.things y at) [ inl e ↦ subst Q e here | inr at ↦ to y ((h.exact y).1 at) ],
      );
      count = ap suc h.count;
    }

    -- one thing fewer
    pub count_less : (Q : X → Type 0) (n : ℕ) (x : X) → P x → (Q x → ⊥) → ((y : X) → P y → (y ≡ x → ⊥) → Q y) → ((y : X) → Q y → P y) → IsCount P n
        → (m : ℕ) × (n ≡ suc m) × IsCount Q m
    count_less Q n x here gone to from h =
        let rest = without h.things x h.differ ((h.exact x).0 here) in (
          length rest.0,
          sym h.count ∙ rest.1.length_is,
          record {
            things = rest.0;
            differ = rest.1.differ;
            exact = λ y. (
              λ q. rest.1.kept y ((h.exact y).0 (from y q)) (λ e. gone (subst Q e q)),
              λ at. to y ((h.exact y).1 (rest.1.within y at)) (λ e. rest.1.gone (subst (Contains rest.0) e at)),
            );
            count = refl;
          },
        )

    pub count_le : (Q : X → Type 0) (n m : ℕ) → ((x : X) → P x → Q x) → IsCount P n → IsCount Q m → n ≤ m
    count_le Q n m to h k =
        let le : length h.things ≤ length k.things = no_longer h.things k.things h.differ k.differ (λ x at. (k.exact x).0 (to x ((h.exact x).1 at))) in
        let e = h.count in
        let f = k.count in
        omega arith

    pub count_none : ((x : X) → P x → ⊥) → (n : ℕ) → IsCount P n → n ≡ 0
    count_none none n h = by h.things refl
      where
        by : (xs : List X) → h.things ≡ xs → n ≡ 0
        by [] e = sym h.count ∙ ap length e
        by (x ∷ xs) e = absurd (none x ((h.exact x).1 (subst (λ l. Contains l x) (sym e) (cons-here x xs))))

    pub none_of_zero : IsCount P 0 → (x : X) → P x → ⊥
    none_of_zero h x p = by h.things h.count ((h.exact x).0 p)
      where
        by : (xs : List X) → length xs ≡ 0 → Contains xs x → ⊥
        by [] e at = nil-cases x at
        by (y ∷ ys) e at = omega arith

    pub count_some : (n : ℕ) (x : X) → IsCount P n → P x → 0 < n
    count_some n x h p = by h.things h.count ((h.exact x).0 p)
      where
        by : (xs : List X) → length xs ≡ n → Contains xs x → 0 < n
        by [] e at = absurd (nil-cases x at)
        by (y ∷ ys) e at = omega arith

    pub some_of_count : (n : ℕ) → 0 < n → IsCount P n → (x : X) × P x
    some_of_count n lt h = by h.things refl
      where
        by : (xs : List X) → h.things ≡ xs → (x : X) × P x
        by [] e = let f : length h.things ≡ 0 = ap length e in let g = h.count in absurd (omega arith)
        by (x ∷ xs) e = (x, (h.exact x).1 (subst (λ l. Contains l x) (sym e) (cons-here x xs)))

  pub count_one : (P : X → Type 0) (n m : ℕ) → IsCount P n → IsCount P m → n ≡ m
  count_one P n m h k =
      let a : n ≤ m = count_le P P n m (λ x p. p) h k in
      let b : m ≤ n = count_le P P m n (λ x p. p) k h in
      omega arith
