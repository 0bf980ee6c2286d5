-- Leaving out of a log the writes of cells that have an earlier one in it.
use Rattle.std.proofs.Common.{ℕ, zero, suc, ◌+◌, ◌<◌, ◌≤◌, ◌≡◌, ◌≢◌, refl, sym, ap, subst, ◌∙◌, arith, ℤ, Bool, true, false, List, [], ◌∷◌, ◌++◌, get_or, set, take, drop, length}
use Rattle.std.specs.Prelude.{◌==◌, ◌||◌, if◌then◌else◌}
use Rattle.std.proofs.Math.Seq.{take-suc, take-suc-set}
use Rattle.std.proofs.lemmas.List.{get_or-set_same, get_or-set_other, get_or_default, get_or-drop, drop-append-le, drop-set-lt, drop_all, drop-drop, take-set-le, take-take, take_all, take-append-drop, length-take-le, length-append, length-set}
use Rattle.std.proofs.lemmas.List.Elements.{All-set}
use Rattle.loda_semantics.specs.Memory.{Memory, set_cell}
use Rattle.lex_loops.specs.declared.cells.Written.{Written}
use Rattle.lex_loops.specs.Memories.{before, IsWithin, Shortens}
use Rattle.lex_loops.proofs.Memories.{before-append}

-- whether a log has a write of a cell
abbrev pub has : ℕ → List Written → Bool
has a [] = false
has a (w ∷ ws) = (a == w.address) || has a ws

or_true : (b : Bool) → (b || true) ≡ true
or_true true = refl
or_true false = refl

or_false : (b : Bool) → (b || false) ≡ b
or_false true = refl
or_false false = refl

or_or : (a b c : Bool) → ((a || b) || c) ≡ (a || (b || c))
or_or true b c = refl
or_or false b c = refl

has-append : (a : ℕ) (xs ys : List Written) → has a (xs ++ ys) ≡ (has a xs || has a ys)
has-append a [] ys = refl
has-append a (x ∷ xs) ys = ap (λ (b : Bool). (a == x.address) || b) (has-append a xs ys) ∙ sym (or_or (a == x.address) (has a xs) (has a ys))

-- a write at another cell
elsewhere : (ws : List Written) (m : Memory) (a : ℕ) (v : ℤ) (c : ℕ) → (c == a) ≡ false → before ws (set_cell m a v) c ≡ before ws m c
elsewhere [] m a v c e = ap (λ (t : Bool). if t then v else m c) e
elsewhere (w ∷ ws) m a v c e = ap (λ (z : ℤ). if c == w.address then w.value else z) (elsewhere ws m a v c e)

-- what a cell held before its first write doesn't hang on what it holds after that
settled : (ws : List Written) (m : Memory) (a : ℕ) (v : ℤ) → has a ws ≡ true → before ws (set_cell m a v) ≡ before ws m
settled [] m a v h = absurd cc
settled (w ∷ ws) m a v h = by_test (λ k. settled ws m a v k) (a == w.address) refl h
  where
    at : (e : a ≡ w.address) (c : ℕ) (t : Bool) → (c == w.address) ≡ t → (if t then w.value else before ws (set_cell m a v) c) ≡ (if t then w.value else before ws m c)
    at e c true is = refl
    at e c false is = elsewhere ws m a v c (ap (λ (z : ℕ). c == z) e ∙ is)

    by_test : (has a ws ≡ true → before ws (set_cell m a v) ≡ before ws m) → (t : Bool) → (a == w.address) ≡ t → (t || has a ws) ≡ true → set_cell (before ws (set_cell m a v)) w.address w.value ≡ set_cell (before ws m) w.address w.value
    by_test rest true is h = λ i c. at (grind arith) c (c == w.address) refl i
    by_test rest false is h = ap (λ (z : Memory). set_cell z w.address w.value) (rest h)

-- A log being gone over from a place on: the first kept ones are those of the writes so far that have no earlier one, and the
-- cells that have a write among them are seen.
pub record Forgets (from place kept n : ℕ) (old log : List Written) (seen : List Bool) : Type 0 where
  pub above : from ≤ kept
  pub below : kept ≤ place
  pub size : length log ≡ length old
  pub firsts : take from log ≡ take from old
  pub rest : drop place log ≡ drop place old
  pub same : (m : Memory) → before (drop from (take kept log)) m ≡ before (drop from (take place old)) m
  pub cells : length seen ≡ n
  pub sees : (a : ℕ) → a < n → get_or seen a false ≡ has a (drop from (take kept log))
  pub within : IsWithin n log

pub forgets-none : (from n : ℕ) (log : List Written) (seen : List Bool) → length seen ≡ n → ((a : ℕ) → a < n → get_or seen a false ≡ false) → from ≤ length log → IsWithin n log
    → Forgets from from from n log log seen
forgets-none from n log seen cells unseen le within = record {
  above = omega arith;
  below = omega arith;
  size = refl;
  firsts = refl;
  rest = refl;
  same = λ m. refl;
  cells = cells;
  sees = λ a lt. unseen a lt ∙ sym (ap (has a) (none_past from log le));
  within = within;
}
  where
    none_past : (k : ℕ) (xs : List Written) → k ≤ length xs → drop k (take k xs) ≡ []
    none_past k xs le = drop_all k (take k xs) (let e = length-take-le k xs le in omega (arith, e))

module _ (from place kept n : ℕ) (old log : List Written) (seen : List Bool) (r : Forgets from place kept n old log seen) (more : place < length log) (w d : Written) (is : get_or log place d ≡ w) where
  -- the write that is gone over, of the old log
  here : get_or old place d ≡ w
  here =
      let at = λ (xs : List Written). (let e : place + 0 ≡ place = omega arith in get_or-drop place xs 0 d ∙ ap (λ (k : ℕ). get_or xs k d) e) in
      sym (at old) ∙ ap (λ (xs : List Written). get_or xs 0 d) (sym r.rest) ∙ at log ∙ is

  further : drop from (take (suc place) old) ≡ drop from (take place old) ++ w ∷ []
  further =
      let lt : place < length old = (let s = r.size in omega (arith, s, more)) in
      let short : length (take place old) ≡ place = length-take-le place old (omega arith) in
      ap (drop from) (take-suc old place d lt ∙ ap (λ (x : Written). take place old ++ x ∷ []) here)
      ∙ drop-append-le from (take place old) (w ∷ []) (let a = r.above in let b = r.below in omega (arith, a, b, short))

  beyond : (xs : List Written) → drop place xs ≡ drop place old → drop (suc place) xs ≡ drop (suc place) old
  beyond xs e = drops xs ∙ ap (drop 1) e ∙ sym (drops old)
    where
      drops : (ys : List Written) → drop (suc place) ys ≡ drop 1 (drop place ys)
      drops ys = (let k : suc place ≡ place + 1 = omega arith in ap (λ (j : ℕ). drop j ys) k) ∙ sym (drop-drop 1 place ys)

  pub cell : w.address < n
  cell = subst (λ (z : Written). z.address < n) is (r.within place d more)

  -- a cell that has none yet
  pub forgets-first : get_or seen w.address false ≡ false → Forgets from (suc place) (suc kept) n old (set log kept w) (set seen w.address true)
  forgets-first unseen =
      let lt : kept < length log = (let b = r.below in omega (arith, b, more)) in
      let short : length (take kept log) ≡ kept = length-take-le kept log (omega arith) in
      let longer : drop from (take (suc kept) (set log kept w)) ≡ drop from (take kept log) ++ w ∷ [] =
      ap (drop from) (take-suc-set log kept w lt) ∙ drop-append-le from (take kept log) (w ∷ []) (let a = r.above in omega (arith, a, short)) in
      record {
        above = (let a = r.above in omega (arith, a));
        below = (let b = r.below in omega (arith, b));
        size = length-set log kept w ∙ r.size;
        firsts = take-set-le from log kept w r.above ∙ r.firsts;
        rest = drop-set-lt (suc place) log kept w (let b = r.below in omega (arith, b)) ∙ beyond log r.rest;
        same = λ m. ap (λ (ws : List Written). before ws m) longer
            ∙ before-append (drop from (take kept log)) (w ∷ []) m
            ∙ r.same (set_cell m w.address w.value)
            ∙ sym (before-append (drop from (take place old)) (w ∷ []) m)
            ∙ sym (ap (λ (ws : List Written). before ws m) further);
        cells = length-set seen w.address true ∙ r.cells;
        sees = λ a in_range. by_test a in_range (a == w.address) refl ∙ sym (ap (has a) longer ∙ has-append a (drop from (take kept log)) (w ∷ []));
        within = All-set (λ z. z.address < n) log kept w cell r.within;
      }
    where
      by_test : (a : ℕ) → a < n → (t : Bool) → (a == w.address) ≡ t → get_or (set seen w.address true) a false ≡ (has a (drop from (take kept log)) || (t || false))
      by_test a in_range true e =
          let k : a ≡ w.address = grind arith in
          ap (λ (z : ℕ). get_or (set seen w.address true) z false) k ∙ get_or-set_same seen w.address true false (let c = r.cells in let i = cell in omega (arith, c, i)) ∙ sym (or_true (has a (drop from (take kept log))))
      by_test a in_range false e =
          let k : a ≢ w.address = grind arith in
          get_or-set_other seen w.address a true false k ∙ r.sees a in_range ∙ sym (or_false (has a (drop from (take kept log))))

  -- one that has
  pub forgets-later : get_or seen w.address false ≡ true → Forgets from (suc place) kept n old log seen
  forgets-later known = record {
    above = r.above;
    below = (let b = r.below in omega (arith, b));
    size = r.size;
    firsts = r.firsts;
    rest = beyond log r.rest;
    same = λ m. sym (settled (drop from (take kept log)) m w.address w.value (sym (r.sees w.address cell) ∙ known))
        ∙ r.same (set_cell m w.address w.value)
        ∙ sym (before-append (drop from (take place old)) (w ∷ []) m)
        ∙ sym (ap (λ (ws : List Written). before ws m) further);
    cells = r.cells;
    sees = r.sees;
    within = r.within;
  }

-- ---- what the code has

-- whether a cell is seen, as it is read
seen_at : (seen : List Bool) (w : Written) (a : ℕ) (b t : Bool) → a ≡ w.address → b ≡ get_or seen a b → b ≡ t → w.address < length seen → get_or seen w.address false ≡ t
seen_at seen w a b t cell read is lt =
    get_or_default seen w.address false b lt ∙ ap (λ (k : ℕ). get_or seen k b) (sym cell) ∙ sym read ∙ is

pub next-later : (from place kept n : ℕ) (old log : List Written) (seen : List Bool) → Forgets from place kept n old log seen → place < length log → (w : Written) → w ≡ get_or log place w
    → (a : ℕ) (b : Bool) → a ≡ w.address → b ≡ get_or seen a b → b ≡ true → Forgets from (place + 1) kept n old log seen
next-later from place kept n old log seen r more w is a b cell_is read known =
    let lt : w.address < length seen = (let c = cell from place kept n old log seen r more w w (sym is) in let s = r.cells in omega (arith, c, s)) in
    let e : suc place ≡ place + 1 = omega arith in
    subst (λ (k : ℕ). Forgets from k kept n old log seen) e (forgets-later from place kept n old log seen r more w w (sym is) (seen_at seen w a b true cell_is read known lt))

pub next-first : (from place kept n : ℕ) (old log : List Written) (seen : List Bool) → Forgets from place kept n old log seen → place < length log → (w : Written) → w ≡ get_or log place w
    → (a : ℕ) (b : Bool) → a ≡ w.address → b ≡ get_or seen a b → b ≡ false → Forgets from (place + 1) (kept + 1) n old (set log kept w) (set seen a true)
next-first from place kept n old log seen r more w is a b cell_is read unseen =
    let lt : w.address < length seen = (let c = cell from place kept n old log seen r more w w (sym is) in let s = r.cells in omega (arith, c, s)) in
    let e : suc place ≡ place + 1 = omega arith in
    let f : suc kept ≡ kept + 1 = omega arith in
    subst (λ (k : ℕ). Forgets from k (kept + 1) n old (set log kept w) (set seen a true)) e
    (subst (λ (k : ℕ). Forgets from (suc place) k n old (set log kept w) (set seen a true)) f
    (subst (λ (k : ℕ). Forgets from (suc place) (suc kept) n old (set log kept w) (set seen k true)) (sym cell_is)
    (forgets-first from place kept n old log seen r more w w (sym is) (seen_at seen w a b false cell_is read unseen lt))))

-- where all of it has been gone over
pub forgotten : (from place kept n : ℕ) (old log log' : List Written) (seen : List Bool) → Forgets from place kept n old log seen → length old ≤ place → place ≤ length old → log' ≡ take kept log → Shortens from old log'
forgotten from place kept n old log log' seen r all le cut = record {
  long = (let e = ap length cut in let s = length-take-le kept log (let b = r.below in let z = r.size in omega (arith, b, z, le)) in let a = r.above in omega (arith, e, s, a));
  same = λ j m within. ap (λ (ws : List Written). before (drop j ws) m) cut ∙ parts (take kept log) j m within kept_long
      ∙ ap (λ (z : Memory). before (drop j (take from (take kept log))) z) (r.same m)
      ∙ ap (λ (ws : List Written). before (drop j ws) (before (drop from (take place old)) m)) firsts
      ∙ ap (λ (ws : List Written). before (drop j (take from old)) (before (drop from ws) m)) (take_all place old all)
      ∙ sym (parts old j m within (let a = r.above in let b = r.below in omega (arith, a, b, le)));
}
  where
    kept_long : from ≤ length (take kept log)
    kept_long = let s = length-take-le kept log (let b = r.below in let z = r.size in omega (arith, b, z, le)) in let a = r.above in omega (arith, s, a)

    firsts : take from (take kept log) ≡ take from old
    firsts = take-take from kept log r.above ∙ r.firsts

    parts : (xs : List Written) (j : ℕ) (m : Memory) → j ≤ from → from ≤ length xs → before (drop j xs) m ≡ before (drop j (take from xs)) (before (drop from xs) m)
    parts xs j m le long =
        let s = length-take-le from xs long in
        ap (λ (ws : List Written). before (drop j ws) m) (sym (take-append-drop from xs))
        ∙ ap (λ (ws : List Written). before ws m) (drop-append-le j (take from xs) (drop from xs) (omega (arith, s, le)))
        ∙ before-append (drop j (take from xs)) (drop from xs) m
