-- Each step keeps the rule.
use Rattle.std.proofs.Common.{◌≡◌, ◌≢◌, ℕ, zero, suc, ◌<◌, ◌≤◌, List, [], ◌∷◌, ◌++◌, length, set, get_or, Some, Bool, true, false, true≢false, refl, sym, ap, ◌∙◌, subst, ⊎_elim, arith, inl, inr, eqb, eq-eqb, ne_eqb, append-nil, append_assoc, length-append}
use mathlib.Core.Logic.{dite}
use mathlib.Core.Option.{some, none, some-injective, some-ne-none}
use mathlib.Core.List.{IsPrefix}
use native.Mathlib.Decide.{ℕ_discrete}
use prog.Atomic.{either}
use lib.ListN.{get_elem?}
use Rattle.std.specs.Prelude.{Option, nat_lt, cond}
use Rattle.std.proofs.lemmas.Bool.Decides.{nat_tests}
use Rattle.atomic_table.specs.Table.{State, Act, keeps, takes, gives as gives_slot, step, Allows, Valid, homes_after, carried_after, put_back, rest, Splits, Joins, opening}
use Rattle.atomic_table.proofs.Lists.{at_set, set_again, at_snoc}
use Rattle.turnstile.specs.declared.known.Tracked.{Tracked}
use Rattle.turnstile.specs.Seats.{failed, turning, resting, adding, told_of, longer, IsGiven}
use Rattle.turnstile.specs.Rule.{Carrier, Follows, Ruled, tracking}
use Rattle.turnstile.specs.Steps.{Took, Raised, Gave, Peeked, Compared, Offers, Counted, split_off, spent, taken_in, compared}

off : {A : Type 0} → true ≡ false → A
off e = absurd (true≢false e)

module _ {K : Type 0} (Q : ℕ → K → Type 0) where
  -- what holds of each view after one was changed
  pub each_set : (views : List K) (id : ℕ) (w : K) → ((j : ℕ) (k : K) → j ≢ id → get_elem? views j ≡ some k → Q j k) → Q id w → (j : ℕ) (k : K) → get_elem? (set views id w) j ≡ some k → Q j k
  each_set views id w others mine j k e =
      ⊎_elim
      (λ (x : (j ≡ id) × (w ≡ k)). subst (λ (y : ℕ × K). Q y.0 y.1) (λ i. (sym x.0 i, x.1 i)) mine)
      (λ (x : (j ≢ id) × (get_elem? views j ≡ some k)). others j k x.0 x.1)
      (at_set views id j w k e)

module _ {E : Type 0} where
  pub prefix_is : (xs ys : List E) → xs ≡ ys → IsPrefix xs ys
  prefix_is xs ys e = ([], append-nil xs ∙ e)

  pub prefix_snoc : (xs ys : List E) (e : E) → IsPrefix xs ys → IsPrefix xs (ys ++ e ∷ [])
  prefix_snoc xs ys e p = (p.0 ++ e ∷ [], sym (append_assoc xs p.0 (e ∷ [])) ∙ ap (λ l. l ++ e ∷ []) p.1)

  pub prefix_length : (xs ys : List E) → IsPrefix xs ys → length xs ≤ length ys
  prefix_length xs ys p = omega (arith, length-append xs p.0, ap length p.1)

  snoc_same : (xs : List E) (a b : E) → xs ++ a ∷ [] ≡ xs ++ b ∷ [] → a ≡ b
  snoc_same [] a b e = cc
  snoc_same (x ∷ xs) a b e = snoc_same xs a b (cc)

  -- of two beginnings of one list, the shorter begins the other
  shorter : (xs ys log : List E) → IsPrefix xs log → IsPrefix ys log → length xs ≤ length ys → IsPrefix xs ys
  shorter [] ys log p q le = (ys, refl)
  shorter (x ∷ xs) [] log p q le = absurd (omega arith)
  shorter (x ∷ xs) (y ∷ ys) [] p q le = absurd (cc p.1)
  shorter (x ∷ xs) (y ∷ ys) (z ∷ log) p q le =
      let same : x ≡ y = cc (p.1, q.1) in
      let rest = shorter xs ys log (p.0, cc p.1) (q.0, cc q.1) (omega arith) in
      (rest.0, λ i. same i ∷ rest.1 i)

  abbrev Covers : List E → List E → List E → List E → Type 0
  Covers xs ys log l = IsPrefix xs l × IsPrefix ys l × IsPrefix l log

  covers_as : (xs ys log : List E) → IsPrefix xs log → IsPrefix ys log → (b : Bool) → nat_lt (length xs) (length ys) ≡ b → Covers xs ys log (cond b ys xs)
  covers_as xs ys log p q true e = let less : length xs < length ys = grind (arith, nat_tests) in (shorter xs ys log p q (omega arith), prefix_is ys ys refl, q)
  covers_as xs ys log p q false e = let more : length ys ≤ length xs = grind (arith, nat_tests) in (prefix_is xs xs refl, shorter ys xs log q p (omega arith), p)

  -- the longer of two beginnings of one list
  pub covers : (xs ys log : List E) → IsPrefix xs log → IsPrefix ys log → Covers xs ys log (longer xs ys)
  covers xs ys log p q = covers_as xs ys log p q (nat_lt (length xs) (length ys)) refl

module _ {V E F : Type 0} (list : V → List E) (fixed : V → F) (key : V) where
  -- The turn is taken, or found held.
  pub takes_turn : (slots id : ℕ) (m : Carrier V E F) → m.0.known.turn ≡ false → m.1 ≡ []
      → Allows (Ruled list fixed key) slots id m 1 (λ n. either (eqb n 0) 1 n) (Took list fixed (step slots 1 0 1 none) m)
  takes_turn slots id m idle empty s r _ at _ = subst P (sym r.words) (dite (ℕ_discrete r.turn 0) hit miss)
    where
      R : State (Option V) (Tracked E F) → Type 0
      R = Ruled list fixed key

      P : List ℕ → Type 0
      P ws = (w : Tracked E F) × (a : Act (Option V)) × Valid s.homes m.1 a
          × R record { words = set ws 1 (either (eqb (get_or ws 1 0) 0) 1 (get_or ws 1 0)); homes = homes_after s.homes m.1 a; views = set s.views id w }
          × Took list fixed (step slots 1 0 1 none) m (get_or ws 1 0) (w, carried_after m.1 a)

      mine : Follows r.log r.turn r.holder (fixed key) id m.0
      mine = r.each_seat id m.0 at

      others : r.turn ≡ 0 → (j : ℕ) (k : Tracked E F) → j ≢ id → get_elem? s.views j ≡ some k → Follows r.log 1 id (fixed key) j k
      others free j k apart e =
          let n = r.each_seat j k e in
          record { began = n.began; beside = n.beside; told = n.told; turned = λ t. let held = (n.turned t).0 in absurd (omega arith); fixed = n.fixed }

      hit : r.turn ≡ 0 → P (length r.log ∷ r.turn ∷ [])
      hit free =
          let h = r.home free in
          let v = h.0 in
          let w = record m.0 { known = turning (list v) m.0.known } in (
            w,
            takes 0 (Some v),
            ap (λ hs. get_elem? hs 0) h.1,
            record {
              log = r.log;
              turn = 1;
              holder = id;
              words = ap (λ b. length r.log ∷ either b 1 r.turn ∷ []) (eq-eqb r.turn 0 free);
              home = λ z. absurd (omega arith);
              away = λ _. ap (λ hs. set hs 0 none) h.1;
              each_seat = each_set (Follows r.log 1 id (fixed key)) s.views id w (others free)
                  record { began = prefix_is (list v) r.log h.2; beside = mine.beside; told = mine.told; turned = λ _. (refl, refl, h.2); fixed = mine.fixed };
            },
            (
              λ _. (
                v,
                ap (λ l. (w, (0, Some v) ∷ l)) empty,
                record {
                  began = subst (IsPrefix m.0.known.seen) (sym h.2) mine.began;
                  told = subst (λ l. m.0.known.told ≤ length l) (sym h.2) mine.told;
                  fixed_is = λ x is. h.3 ∙ sym (mine.fixed x is);
                },
              ),
              λ held. absurd (held free),
            ),
          )

      miss : r.turn ≢ 0 → P (length r.log ∷ r.turn ∷ [])
      miss held =
          let w = record m.0 { known = failed m.0.known } in (
            w,
            keeps,
            tt,
            record {
              log = r.log;
              turn = r.turn;
              holder = r.holder;
              words = ap (λ b. length r.log ∷ either b 1 r.turn ∷ []) (ne_eqb r.turn 0 held);
              home = r.home;
              away = r.away;
              each_seat = each_set (Follows r.log r.turn r.holder (fixed key)) s.views id w (λ j k apart e. r.each_seat j k e)
                  record { began = mine.began; beside = mine.beside; told = mine.told; turned = mine.turned; fixed = mine.fixed };
            },
            (λ free. absurd (held free), λ _. ap (λ l. (w, l)) empty),
          )

  -- The length is raised, by a seat that announces its value.
  raises_length : (slots id taken count : ℕ) (m : Carrier V E F) (v : V) (e : E) → m.0.known.turn ≡ true → taken ≡ length m.0.known.seen → count ≡ length (list v) → list v ≡ m.0.known.seen ++ e ∷ []
      → Allows (Ruled list fixed key) slots id m 0 (λ n. either (eqb n taken) count n) (Raised list (step slots 0 taken count (some (Some v))) m)
  raises_length slots id taken count m v e turned held counts more s r _ at _ = subst P (sym r.words) goes
    where
      P : List ℕ → Type 0
      P ws = (w : Tracked E F) × (a : Act (Option V)) × Valid s.homes m.1 a
          × Ruled list fixed key record { words = set ws 0 (either (eqb (get_or ws 0 0) taken) count (get_or ws 0 0)); homes = homes_after s.homes m.1 a; views = set s.views id w }
          × Raised list (step slots 0 taken count (some (Some v))) m (get_or ws 0 0) (w, carried_after m.1 a)

      mine : Follows r.log r.turn r.holder (fixed key) id m.0
      mine = r.each_seat id m.0 at

      same : m.0.known.seen ≡ r.log
      same = (mine.turned turned).2

      log : List E
      log = r.log ++ e ∷ []

      others : (j : ℕ) (k : Tracked E F) → j ≢ id → get_elem? s.views j ≡ some k → Follows log r.turn r.holder (fixed key) j k
      others j k apart here =
          let n = r.each_seat j k here in
          record {
            began = prefix_snoc k.known.seen r.log e n.began;
            beside = prefix_snoc k.beside r.log e n.beside;
            told = let t = n.told in omega (arith, length-append r.log (e ∷ []));
            turned = λ t. absurd (apart ((n.turned t).1 ∙ sym (mine.turned turned).1));
            fixed = n.fixed;
          }

      found : length r.log ≡ taken
      found = ap length (sym same) ∙ sym held

      counted : count ≡ length log
      counted = counts ∙ ap length more ∙ ap (λ l. length (l ++ e ∷ [])) same

      goes : P (length r.log ∷ r.turn ∷ [])
      goes =
          let w = record m.0 { known = adding e m.0.known } in (
            w,
            keeps,
            tt,
            record {
              log = log;
              turn = r.turn;
              holder = r.holder;
              words = ap (λ b. either b count (length r.log) ∷ r.turn ∷ []) (eq-eqb (length r.log) taken found) ∙ ap (λ n. n ∷ r.turn ∷ []) counted;
              home = λ z. let t = (mine.turned turned).0 in absurd (omega arith);
              away = r.away;
              each_seat = each_set (Follows log r.turn r.holder (fixed key)) s.views id w others
                  record {
                    began = prefix_is (m.0.known.seen ++ e ∷ []) log (ap (λ l. l ++ e ∷ []) same);
                    beside = prefix_snoc m.0.beside r.log e mine.beside;
                    told = let t = mine.told in omega (arith, length-append r.log (e ∷ []));
                    turned = λ t. ((mine.turned t).0, (mine.turned t).1, ap (λ l. l ++ e ∷ []) same);
                    fixed = mine.fixed;
                  };
            },
            (
              refl,
              λ v' e' said more'.
                  let announced : Some v ≡ Some v' = some-injective _ _ said in
                  let which : v ≡ v' = cc in
                  let entry : e ≡ e' = snoc_same m.0.known.seen e e' (sym more ∙ ap list which ∙ more') in ap (λ x. record m.0 { known = adding x m.0.known }) entry,
            ),
          )

  raises_given : (slots id taken count : ℕ) (m : Carrier V E F) (v : V) → m.0.known.turn ≡ true → taken ≡ length m.0.known.seen → count ≡ length (list v) → IsGiven m.0.known.seen (list v) → taken < count
      → Allows (Ruled list fixed key) slots id m 0 (λ n. either (eqb n taken) count n) (Raised list (step slots 0 taken count (some (Some v))) m)
  raises_given slots id taken count m v turned held counts (inl same) less = absurd (omega (arith, ap length same))
  raises_given slots id taken count m v turned held counts (inr more) less = raises_length slots id taken count m v more.0 turned held counts more.1

  -- the same for what the seat offers, where it is longer than what was taken
  pub raises : (slots id taken count : ℕ) (m : Carrier V E F) (slot : Option V) → m.0.known.turn ≡ true → taken ≡ length m.0.known.seen → Offers list m.0.known.seen slot count → taken < count
      → Allows (Ruled list fixed key) slots id m 0 (λ n. either (eqb n taken) count n) (Raised list (step slots 0 taken count (some slot)) m)
  raises slots id taken count m slot turned held offer less =
      subst (λ (x : Option V). Allows (Ruled list fixed key) slots id m 0 (λ n. either (eqb n taken) count n) (Raised list (step slots 0 taken count (some x)) m)) (sym offer.1)
      (raises_given slots id taken count m offer.0 turned held offer.2 offer.3 less)

  -- The slot and the turn are given.
  gives_turn : (slots id : ℕ) (m : Carrier V E F) (v : V) → m.0.known.turn ≡ true → m.1 ≡ (0, Some v) ∷ [] → list v ≡ m.0.known.seen → m.0.fixed ≡ Some (fixed v)
      → Allows (Ruled list fixed key) slots id m 1 (λ _. 0) (λ _. Gave (step slots 1 0 0 none) m 0)
  gives_turn slots id m v turned has same fixed_is s r _ at _ = subst P (sym r.words) goes
    where
      R : State (Option V) (Tracked E F) → Type 0
      R = Ruled list fixed key

      P : List ℕ → Type 0
      P ws = (w : Tracked E F) × (a : Act (Option V)) × Valid s.homes m.1 a
          × R record { words = set ws 1 0; homes = homes_after s.homes m.1 a; views = set s.views id w }
          × Gave (step slots 1 0 0 none) m 0 (w, carried_after m.1 a)

      mine : Follows r.log r.turn r.holder (fixed key) id m.0
      mine = r.each_seat id m.0 at

      held : r.turn ≢ 0
      held z = let t = (mine.turned turned).0 in omega arith

      others : (j : ℕ) (k : Tracked E F) → j ≢ id → get_elem? s.views j ≡ some k → Follows r.log 0 0 (fixed key) j k
      others j k apart here =
          let n = r.each_seat j k here in
          record { began = n.began; beside = n.beside; told = n.told; turned = λ t. absurd (apart ((n.turned t).1 ∙ sym (mine.turned turned).1)); fixed = n.fixed }

      goes : P (length r.log ∷ r.turn ∷ [])
      goes =
          let w = record m.0 { known = resting m.0.known } in (
            w,
            gives_slot,
            tt,
            record {
              log = r.log;
              turn = 0;
              holder = 0;
              words = refl;
              home = λ _. (v, ap (put_back s.homes) has ∙ ap (λ hs. set hs 0 (some (Some v))) (r.away held), same ∙ (mine.turned turned).2, mine.fixed (fixed v) fixed_is);
              away = λ n. absurd (n refl);
              each_seat = each_set (Follows r.log 0 0 (fixed key)) s.views id w others
                  record { began = mine.began; beside = mine.beside; told = mine.told; turned = λ t. off (sym t); fixed = mine.fixed };
            },
            ap (λ l. (w, rest l)) has,
          )

  gives_given : (slots id : ℕ) (m : Carrier V E F) (k : Tracked E F) (v : V) → k.known.turn ≡ true → m.1 ≡ (0, Some v) ∷ [] → k.fixed ≡ Some (fixed v) → IsGiven k.known.seen (list v)
      → (list v ≡ k.known.seen → m.0 ≡ k) → ((e : E) → list v ≡ k.known.seen ++ e ∷ [] → m.0 ≡ record k { known = adding e k.known })
      → Allows (Ruled list fixed key) slots id m 1 (λ _. 0) (λ _. Gave (step slots 1 0 0 none) m 0)
  gives_given slots id m k v turned has fixed_is (inl same) stays adds =
      let is = stays same in gives_turn slots id m v (ap (λ x. x.known.turn) is ∙ turned) has (same ∙ ap (λ x. x.known.seen) (sym is)) (ap (λ x. x.fixed) is ∙ fixed_is)
  gives_given slots id m k v turned has fixed_is (inr more) stays adds =
      let is = adds more.0 more.1 in gives_turn slots id m v (ap (λ x. x.known.turn) is ∙ turned) has (more.1 ∙ ap (λ x. x.known.seen) (sym is)) (ap (λ x. x.fixed) is ∙ fixed_is)

  -- the same for a seat whose value has been counted and lies in the slot
  pub gives : (slots id : ℕ) (m : Carrier V E F) (k : Tracked E F) (v : V) → k.known.turn ≡ true → m.1 ≡ (0, Some v) ∷ [] → k.fixed ≡ Some (fixed v) → IsGiven k.known.seen (list v) → Counted (list v) k m.0
      → Allows (Ruled list fixed key) slots id m 1 (λ _. 0) (λ _. Gave (step slots 1 0 0 none) m 0)
  gives slots id m k v turned has fixed_is given counted = gives_given slots id m k v turned has fixed_is given counted.0 counted.1

  -- a load of the length, after which the seat knows w
  loads : (slots id : ℕ) (m : Carrier V E F) (then : ℕ → Carrier V E F → Type 0)
      → ((log : List E) (turn holder : ℕ) → Follows log turn holder (fixed key) id m.0 → (w : Tracked E F) × Follows log turn holder (fixed key) id w × then (length log) (w, m.1))
      → Allows (Ruled list fixed key) slots id m 0 (λ n. n) then
  loads slots id m then tells s r _ at _ = subst P (sym r.words) goes
    where
      P : List ℕ → Type 0
      P ws = (w : Tracked E F) × (a : Act (Option V)) × Valid s.homes m.1 a
          × Ruled list fixed key record { words = set ws 0 (get_or ws 0 0); homes = homes_after s.homes m.1 a; views = set s.views id w }
          × then (get_or ws 0 0) (w, carried_after m.1 a)

      goes : P (length r.log ∷ r.turn ∷ [])
      goes =
          let t = tells r.log r.turn r.holder (r.each_seat id m.0 at) in (
            t.0,
            keeps,
            tt,
            record {
              log = r.log;
              turn = r.turn;
              holder = r.holder;
              words = refl;
              home = r.home;
              away = r.away;
              each_seat = each_set (Follows r.log r.turn r.holder (fixed key)) s.views id t.0 (λ j k apart e. r.each_seat j k e) t.1;
            },
            t.2,
          )

  -- The length is loaded.
  pub peeks : (slots id : ℕ) (m : Carrier V E F) → Allows (Ruled list fixed key) slots id m 0 (λ n. n) (Peeked (step slots 0 0 0 none) m)
  peeks slots id m = loads slots id m (Peeked (step slots 0 0 0 none) m) (λ log turn holder k. (
    record m.0 { known = told_of (length log) m.0.known },
    record { began = k.began; beside = k.beside; told = omega arith; turned = k.turned; fixed = k.fixed },
    (refl, prefix_length m.0.known.seen log k.began, k.told),
  ))

  -- What the seat has seen is compared with what it took in.
  pub compares : (slots id : ℕ) (m : Carrier V E F) → m.0.known.turn ≡ false → Allows (Ruled list fixed key) slots id m 0 (λ n. n) (Compared (step slots 0 0 0 none) m)
  compares slots id m idle = loads slots id m (Compared (step slots 0 0 0 none) m) (λ log turn holder k.
      let c = covers m.0.known.seen m.0.beside log k.began k.beside in (
        compared m.0,
        record { began = c.2; beside = (log, refl); told = k.told; turned = λ t. off (sym t ∙ idle); fixed = k.fixed },
        (refl, c.0, c.1),
      ))

  -- A seat is split from another.
  pub splits : (id : ℕ) (k : Tracked E F) → Splits (Ruled list fixed key) id k k (split_off k)
  splits id k s r at = record {
    log = r.log;
    turn = r.turn;
    holder = r.holder;
    words = r.words;
    home = r.home;
    away = r.away;
    each_seat = λ j u e. ⊎_elim
        (λ was. r.each_seat j u (subst (λ l. get_elem? l j ≡ some u) (set_again s.views id k at) was))
        (λ (same : split_off k ≡ u). subst (Follows r.log r.turn r.holder (fixed key) j) same
        (let mine = r.each_seat id k at in record { began = mine.began; beside = (r.log, refl); told = mine.told; turned = λ t. off (sym t); fixed = mine.fixed }))
        (at_snoc (set s.views id k) (split_off k) u j e);
  }

  -- A seat takes in another.
  pub joins : (id : ℕ) (k : Tracked E F) (other : ℕ) (o : Tracked E F) → k.known.turn ≡ false → o.known.turn ≡ false → Joins (Ruled list fixed key) id k other o (taken_in k o) spent
  joins id k other o idle rests s r at apart there =
      let Q : ℕ → Tracked E F → Type 0 = Follows r.log r.turn r.holder (fixed key) in
      let mine : Q id k = r.each_seat id k at in
      let theirs : Q other o = ⊎_elim
      (λ (t : (other ≡ id) × (taken_in k o ≡ o)). absurd (apart t.0))
      (λ (t : (other ≢ id) × (get_elem? s.views other ≡ some o)). r.each_seat other o t.1)
      (at_set s.views id other (taken_in k o) o there)
      in
      let both : Q id (taken_in k o) = record {
        began = mine.began;
        beside = theirs.began;
        told = let a = mine.told in let b = theirs.told in omega arith;
        turned = λ t. off (sym t ∙ idle);
        fixed = mine.fixed;
      }
      in
      let gone : Q other spent = record { began = (r.log, refl); beside = (r.log, refl); told = omega arith; turned = λ t. off (sym t); fixed = λ x is. absurd (cc) } in
      record {
        log = r.log;
        turn = r.turn;
        holder = r.holder;
        words = r.words;
        home = r.home;
        away = r.away;
        each_seat = each_set Q (set s.views id (taken_in k o)) other spent (λ j u _ e. each_set Q s.views id (taken_in k o) (λ i y _ e'. r.each_seat i y e') both j u e) gone;
      }

-- the table at the start
pub starts : {V E F : Type 0} (list : V → List E) (fixed : V → F) (v : V) → Ruled list fixed v (opening (length (list v) ∷ 0 ∷ []) (Some v ∷ []) (tracking (list v) (fixed v)))
starts {V} {E} {F} list fixed v = record {
  log = list v;
  turn = 0;
  holder = 0;
  words = refl;
  home = λ _. (v, refl, refl, refl);
  away = λ n. absurd (n refl);
  each_seat = one;
}
  where
    one : (j : ℕ) (k : Tracked E F) → get_elem? (tracking (list v) (fixed v) ∷ []) j ≡ some k → Follows (list v) 0 0 (fixed v) j k
    one zero k e = subst (Follows (list v) 0 0 (fixed v) 0) (some-injective _ _ e)
        record { began = prefix_is (list v) (list v) refl; beside = (list v, refl); told = omega arith; turned = λ t. off (sym t); fixed = λ x is. cc }
    one (suc j) k e = absurd (some-ne-none k (sym e))

-- the same, as the words, the slots and the key are known
pub starts_as : {V E F : Type 0} (list : V → List E) (fixed : V → F) (v key : V) (count : ℕ) (slots : List (Option V)) → key ≡ v → count ≡ length (list v) → slots ≡ Some v ∷ []
    → Ruled list fixed key (opening (count ∷ 0 ∷ []) slots (tracking (list key) (fixed key)))
starts_as {V} {E} {F} list fixed v key count slots key_is count_is slots_are =
    subst (λ (x : V × (ℕ × List (Option V))). Ruled list fixed x.0 (opening (x.1.0 ∷ 0 ∷ []) x.1.1 (tracking (list x.0) (fixed x.0)))) (λ i. (sym key_is i, (sym count_is i, sym slots_are i))) (starts list fixed v)
