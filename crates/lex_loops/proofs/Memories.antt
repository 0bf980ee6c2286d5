-- Cells, and logs of what writes replaced.
use Rattle.std.proofs.Common.{ℕ, zero, suc, ◌+◌, ◌-◌, ◌<◌, ◌≤◌, ◌≡◌, ◌≢◌, refl, sym, ap, subst, ◌∙◌, arith, ℤ, pos, Bool, true, false, nat_lt, List, [], ◌∷◌, ◌++◌, get_or, set, take, drop, length, replicate}
use Rattle.std.specs.Prelude.{◌==◌, ◌&&◌, ◌||◌, not, int_lt, if◌then◌else◌, IsTrue}
use Rattle.std.proofs.lemmas.List.{get_or-set_same, get_or-set_other, get_or_past, get_or_append_left, length-append, drop-append-le, append_assoc, append-nil, take_all, take-append-le, get_or_push}
use Rattle.std.proofs.lemmas.List.Elements.{All-append}
use Rattle.loda_semantics.specs.Memory.{Memory, set_cell, clear_cells, is_less}
use Rattle.lex_loops.specs.declared.cells.Written.{Written}
use Rattle.lex_loops.specs.Memories.{memory_of, before, written, IsWithin, Replaces}

-- writing a cell that is kept
pub memory_of-set : (cells : List ℤ) (a : ℕ) (v : ℤ) → a < length cells → memory_of (set cells a v) ≡ set_cell (memory_of cells) a v
memory_of-set cells a v lt = λ i c. by_test c (c == a) refl i
  where
    by_test : (c : ℕ) (t : Bool) → (c == a) ≡ t → memory_of (set cells a v) c ≡ (if t then v else memory_of cells c)
    by_test c true e = let h : c ≡ a = grind arith in ap (λ z. get_or (set cells a v) z (pos 0)) h ∙ get_or-set_same cells a v (pos 0) lt
    by_test c false e = let h : c ≢ a = grind arith in get_or-set_other cells a c v (pos 0) h

-- more cells, that hold 0
pub memory_of-zeros : (cells : List ℤ) (n : ℕ) → memory_of (cells ++ replicate n (pos 0)) ≡ memory_of cells
memory_of-zeros cells n = λ i c. at cells c i
  where
    zeros : (n c : ℕ) → get_or (replicate n (pos 0)) c (pos 0) ≡ pos 0
    zeros zero c = refl
    zeros (suc n) zero = refl
    zeros (suc n) (suc c) = zeros n c

    at : (cells : List ℤ) (c : ℕ) → memory_of (cells ++ replicate n (pos 0)) c ≡ memory_of cells c
    at [] c = zeros n c
    at (x ∷ cells) zero = refl
    at (x ∷ cells) (suc c) = at cells c

-- a cell that is set to what it holds, and twice
set_cell-twice : (m : Memory) (a : ℕ) (v : ℤ) → set_cell (set_cell m a v) a (m a) ≡ m
set_cell-twice m a v = λ i c. by_test c (c == a) refl i
  where
    by_test : (c : ℕ) (t : Bool) → (c == a) ≡ t → (if t then m a else (if t then v else m c)) ≡ m c
    by_test c true e = ap m (let h : a ≡ c = grind arith in h)
    by_test c false e = refl

pub before-append : (xs ys : List Written) (m : Memory) → before (xs ++ ys) m ≡ before xs (before ys m)
before-append [] ys m = refl
before-append (x ∷ xs) ys m = ap (λ m. set_cell m x.address x.value) (before-append xs ys m)

-- a write that is logged
pub logs : (log : List Written) (m : Memory) (a : ℕ) (v : ℤ) → Replaces log m (log ++ written a (m a) ∷ []) (set_cell m a v)
logs log m a v = record { writes = written a (m a) ∷ []; log = refl; memory = set_cell-twice m a v }

-- no write
pub replaces-same : (log log' : List Written) (m m' : Memory) → log' ≡ log → m' ≡ m → Replaces log m log' m'
replaces-same log log' m m' same is = record { writes = []; log = same ∙ sym (append-nil log); memory = is }

-- some writes, and then some more
pub replaces-more : (log1 log2 log3 : List Written) (m1 m2 m3 : Memory) → Replaces log1 m1 log2 m2 → Replaces log2 m2 log3 m3 → Replaces log1 m1 log3 m3
replaces-more log1 log2 log3 m1 m2 m3 r s = record {
  writes = r.writes ++ s.writes;
  log = s.log ∙ ap (λ l. l ++ s.writes) r.log ∙ append_assoc log1 r.writes s.writes;
  memory = before-append r.writes s.writes m3 ∙ ap (before r.writes) s.memory ∙ r.memory;
}

-- what was before the writes since a place in the log doesn't change as the log grows
pub before-replaces : (log log' : List Written) (m m' : Memory) (k : ℕ) → Replaces log m log' m' → k ≤ length log → before (drop k log') m' ≡ before (drop k log) m
before-replaces log log' m m' k r le =
    ap (λ l. before (drop k l) m') r.log
    ∙ ap (λ l. before l m') (drop-append-le k log r.writes le)
    ∙ before-append (drop k log) r.writes m'
    ∙ ap (before (drop k log)) r.memory

pub within-more : (n n' : ℕ) (log : List Written) → n ≤ n' → IsWithin n log → IsWithin n' log
within-more n n' log le h = λ k d lt. let here = h k d lt in omega (arith, here)

-- one write, that is logged where a loop is open
pub replaces-write : (logged : Bool) (log log1 log2 log' : List Written) (cells cells1 cells2 cells' : List ℤ) (a : ℕ) (v : ℤ)
    → log1 ≡ log → log2 ≡ (if logged then log1 ++ written a (memory_of cells1 a) ∷ [] else log1) → log' ≡ log2
    → memory_of cells1 ≡ memory_of cells → cells2 ≡ cells1 → memory_of cells' ≡ set_cell (memory_of cells2) a v
    → IsTrue logged → Replaces log (memory_of cells) log' (memory_of cells')
replaces-write true log log1 log2 log' cells cells1 cells2 cells' a v l1 l2 l3 m1 m2 m3 h = record {
  writes = written a (memory_of cells1 a) ∷ [];
  log = l3 ∙ l2 ∙ ap (λ l. l ++ written a (memory_of cells1 a) ∷ []) l1;
  memory = ap (λ (z : Memory). set_cell z a (memory_of cells1 a)) (m3 ∙ ap (λ cs. set_cell (memory_of cs) a v) m2) ∙ set_cell-twice (memory_of cells1) a v ∙ m1;
}
replaces-write false log log1 log2 log' cells cells1 cells2 cells' a v l1 l2 l3 m1 m2 m3 h = cc

pub within-write : (logged : Bool) (log log1 log2 log' : List Written) (n n' a : ℕ) (v : ℤ)
    → log1 ≡ log → log2 ≡ (if logged then log1 ++ written a v ∷ [] else log1) → log' ≡ log2 → n ≤ n' → a < n' → IsWithin n log → IsWithin n' log'
within-write true log log1 log2 log' n n' a v l1 l2 l3 le lt h =
    subst (IsWithin n') (sym (l3 ∙ l2 ∙ ap (λ l. l ++ written a v ∷ []) l1)) (All-append (λ w. w.address < n') log (written a v ∷ []) (within-more n n' log le h) only)
  where
    only : IsWithin n' (written a v ∷ [])
    only zero d h = lt
    only (suc k) d h = absurd (omega arith)
within-write false log log1 log2 log' n n' a v l1 l2 l3 le lt h = subst (IsWithin n') (sym (l3 ∙ l2 ∙ l1)) (within-more n n' log le h)

-- cells that were filled up with 0
pub memory_of-more : (cells cells' : List ℤ) (n k : ℕ) (z : ℤ) → cells' ≡ take n cells ++ replicate k z → z ≡ pos 0 → length cells ≤ n → memory_of cells' ≡ memory_of cells
memory_of-more cells cells' n k z is nought le =
    ap memory_of (is ∙ ap (λ x. take n cells ++ replicate k x) nought ∙ ap (λ cs. cs ++ replicate k (pos 0)) (take_all n cells le)) ∙ memory_of-zeros cells k

-- writes being undone, down to a length of the log
pub record IsUndoing (len : ℕ) (old_log : List Written) (old : List ℤ) (log : List Written) (now : List ℤ) : Type 0 where
  pub memory : before (drop len log) (memory_of now) ≡ before (drop len old_log) (memory_of old)
  pub kept : take len log ≡ take len old_log
  pub left : len ≤ length log
  pub within : IsWithin (length now) log
  pub cells : length now ≡ length old

-- the newest write is undone
pub undoes-one : (len : ℕ) (old_log log log' log2 : List Written) (old cells cells' : List ℤ) (w : Written) → IsUndoing len old_log old log cells
    → log ≡ log' ++ w ∷ [] → log2 ≡ log' → len < length log → memory_of cells' ≡ set_cell (memory_of cells) w.address w.value → length cells' ≡ length cells
    → IsUndoing len old_log old log2 cells'
undoes-one len old_log log log' log2 old cells cells' w r is popped more write same =
    subst (λ l. IsUndoing len old_log old l cells') (sym popped) (undoes len old_log log log' old cells cells' w r is more write same)
  where
    undoes : (len : ℕ) (old_log log log' : List Written) (old cells cells' : List ℤ) (w : Written) → IsUndoing len old_log old log cells
        → log ≡ log' ++ w ∷ [] → len < length log → memory_of cells' ≡ set_cell (memory_of cells) w.address w.value → length cells' ≡ length cells
        → IsUndoing len old_log old log' cells'
    undoes len old_log log log' old cells cells' w r is more write same =
        let size : length log ≡ length log' + 1 = (let e = ap length is in omega (arith, e, length-append log' (w ∷ []))) in
        let le : len ≤ length log' = omega arith in
        record {
          memory = ap (before (drop len log')) write ∙ sym (before-append (drop len log') (w ∷ []) (memory_of cells)) ∙ ap (λ l. before l (memory_of cells)) (sym (ap (drop len) is ∙ drop-append-le len log' (w ∷ []) le)) ∙ r.memory;
          kept = sym (take-append-le len log' (w ∷ []) le) ∙ ap (take len) (sym is) ∙ r.kept;
          left = le;
          within = λ k d lt. subst (λ n. (get_or log' k d).address < n) (sym same) (subst (λ (z : Written). z.address < length cells) (ap (λ l. get_or l k d) is ∙ get_or_append_left log' (w ∷ []) d k lt) (r.within k d (omega arith)));
          cells = same ∙ r.cells;
        }

-- the last write of a log within the cells
pub last-within : (n : ℕ) (log log' : List Written) (w : Written) → log ≡ log' ++ w ∷ [] → IsWithin n log → w.address < n
last-within n log log' w is h =
    subst (λ (z : Written). z.address < n) (ap (λ l. get_or l (length log') w) is ∙ get_or_push log' w w (length log') refl)
    (h (length log') w (let e = ap length is in omega (arith, e, length-append log' (w ∷ []))))

-- the comparison of two regions, one cell on
pub less-negative : (k c : ℕ) (new old : Memory) → 0 < k → int_lt (new c) (pos 0) ≡ true → is_less k c new old ≡ false
less-negative zero c new old lt e = absurd (omega arith)
less-negative (suc k) c new old lt e = ap (λ b. not b && (int_lt (new c) (old c) || (not (int_lt (old c) (new c)) && is_less k (suc c) new old))) e

pub less-below : (k c : ℕ) (new old : Memory) → 0 < k → int_lt (new c) (pos 0) ≡ false → int_lt (new c) (old c) ≡ true → is_less k c new old ≡ true
less-below zero c new old lt e f = absurd (omega arith)
less-below (suc k) c new old lt e f =
    ap (λ b. not b && (int_lt (new c) (old c) || (not (int_lt (old c) (new c)) && is_less k (suc c) new old))) e
    ∙ ap (λ b. b || (not (int_lt (old c) (new c)) && is_less k (suc c) new old)) f

pub less-above : (k c : ℕ) (new old : Memory) → 0 < k → int_lt (new c) (pos 0) ≡ false → int_lt (new c) (old c) ≡ false → int_lt (old c) (new c) ≡ true → is_less k c new old ≡ false
less-above zero c new old lt e f g = absurd (omega arith)
less-above (suc k) c new old lt e f g =
    ap (λ b. not b && (int_lt (new c) (old c) || (not (int_lt (old c) (new c)) && is_less k (suc c) new old))) e
    ∙ ap (λ b. b || (not (int_lt (old c) (new c)) && is_less k (suc c) new old)) f
    ∙ ap (λ b. not b && is_less k (suc c) new old) g

pub less-past : (k c : ℕ) (new old : Memory) → 0 < k → int_lt (new c) (pos 0) ≡ false → int_lt (new c) (old c) ≡ false → int_lt (old c) (new c) ≡ false
    → is_less k c new old ≡ is_less (k - 1) (c + 1) new old
less-past zero c new old lt e f g = absurd (omega arith)
less-past (suc k) c new old lt e f g =
    ap (λ b. not b && (int_lt (new c) (old c) || (not (int_lt (old c) (new c)) && is_less k (suc c) new old))) e
    ∙ ap (λ b. b || (not (int_lt (old c) (new c)) && is_less k (suc c) new old)) f
    ∙ ap (λ b. not b && is_less k (suc c) new old) g
    ∙ (let h : k ≡ suc k - 1 = omega arith in let j : suc c ≡ c + 1 = omega arith in ap (λ n. is_less n (suc c) new old) h ∙ ap (λ a. is_less (suc k - 1) a new old) j)

pub less-step : (k place start : ℕ) (new old : Memory) (x y z : ℤ) (d : ℕ) → place < k → d ≡ place → x ≡ new (start + d) → y ≡ old (start + d) → z ≡ pos 0
    → false ≡ int_lt x z → false ≡ int_lt x y → false ≡ int_lt y x
    → is_less (k - place) (start + place) new old ≡ is_less (k - (place + 1)) (start + (place + 1)) new old
less-step k place start new old x y z d lt dp xn yo zp e f g =
    let xn2 : x ≡ new (start + place) = xn ∙ ap (λ j. new (start + j)) dp in
    let yo2 : y ≡ old (start + place) = yo ∙ ap (λ j. old (start + j)) dp in
    less-past (k - place) (start + place) new old (omega arith)
    (sym (ap (λ v. int_lt v (pos 0)) xn2) ∙ sym (ap (int_lt x) zp) ∙ sym e)
    (sym (ap (λ v. int_lt v (old (start + place))) xn2) ∙ sym (ap (int_lt x) yo2) ∙ sym f)
    (sym (ap (λ v. int_lt v (new (start + place))) yo2) ∙ sym (ap (int_lt y) xn2) ∙ sym g)
    ∙ (let h : k - place - 1 ≡ k - (place + 1) = omega arith in let j : start + place + 1 ≡ start + (place + 1) = omega arith in
    ap (λ n. is_less n (start + place + 1) new old) h ∙ ap (λ a. is_less (k - (place + 1)) a new old) j)

-- cells being cleared
pub record IsClearing (start place : ℕ) (logged : Bool) (old_log : List Written) (old : List ℤ) (log : List Written) (now : List ℤ) : Type 0 where
  pub memory : memory_of now ≡ clear_cells (memory_of old) start place
  pub replaces : IsTrue logged → Replaces old_log (memory_of old) log (memory_of now)
  pub within : IsWithin (length old) old_log → IsWithin (length now) log
  pub len : length old ≤ length now

-- one more cell is cleared
clear_cells-more : (m : Memory) (start place : ℕ) → set_cell (clear_cells m start place) (start + place) (pos 0) ≡ clear_cells m start (place + 1)
clear_cells-more m start place = λ i c. by_tests c (c == start + place) (nat_lt c start) (nat_lt c (start + place)) (nat_lt c (start + (place + 1))) refl refl refl refl i
  where
    by_tests : (c : ℕ) (e b1 b2 b3 : Bool) → (c == start + place) ≡ e → nat_lt c start ≡ b1 → nat_lt c (start + place) ≡ b2 → nat_lt c (start + (place + 1)) ≡ b3
        → ◌≡◌ {A = ℤ} (if e then pos 0 else (if not b1 && b2 then pos 0 else m c)) (if not b1 && b3 then pos 0 else m c)
    by_tests c true true b2 b3 h h1 h2 h3 = absurd (let k : c ≡ start + place = grind arith in let k1 : c < start = grind arith in omega arith)
    by_tests c true false b2 true h h1 h2 h3 = refl
    by_tests c true false b2 false h h1 h2 h3 = absurd (let k : c ≡ start + place = grind arith in let k3 : start + (place + 1) ≤ c = grind arith in omega arith)
    by_tests c false true b2 b3 h h1 h2 h3 = refl
    by_tests c false false true true h h1 h2 h3 = refl
    by_tests c false false true false h h1 h2 h3 = absurd (let k2 : c < start + place = grind arith in let k3 : start + (place + 1) ≤ c = grind arith in omega arith)
    by_tests c false false false true h h1 h2 h3 = absurd (let k : c ≢ start + place = grind arith in let k2 : start + place ≤ c = grind arith in let k3 : c < start + (place + 1) = grind arith in k (omega arith))
    by_tests c false false false false h h1 h2 h3 = refl

-- cells past the last one are clear
clear_cells-past : (m : Memory) (cells : List ℤ) (start place count : ℕ) → memory_of cells ≡ clear_cells m start place → length cells ≤ start + place → place ≤ count
    → memory_of cells ≡ clear_cells m start count
clear_cells-past m cells start place count is past le = λ i c. by_tests c (nat_lt c start) (nat_lt c (start + place)) (nat_lt c (start + count)) refl refl refl (ap (λ (f : Memory). f c) is) i
  where
    by_tests : (c : ℕ) (b1 b2 b3 : Bool) → nat_lt c start ≡ b1 → nat_lt c (start + place) ≡ b2 → nat_lt c (start + count) ≡ b3
        → memory_of cells c ≡ (if not b1 && b2 then pos 0 else m c) → memory_of cells c ≡ (if not b1 && b3 then pos 0 else m c)
    by_tests c true b2 b3 h1 h2 h3 h = h
    by_tests c false true true h1 h2 h3 h = h
    by_tests c false true false h1 h2 h3 h = absurd (let k2 : c < start + place = grind arith in let k3 : start + count ≤ c = grind arith in omega arith)
    by_tests c false false true h1 h2 h3 h = let k2 : start + place ≤ c = grind arith in get_or_past cells c (pos 0) (omega arith)
    by_tests c false false false h1 h2 h3 h = h

pub clears-one : (start place : ℕ) (logged : Bool) (log1 log2 log3 : List Written) (cells1 cells2 cells3 : List ℤ) (a : ℕ) (z : ℤ)
    → IsClearing start place logged log1 cells1 log2 cells2 → a ≡ start + place → z ≡ pos 0
    → memory_of cells3 ≡ set_cell (memory_of cells2) a z → (IsTrue logged → Replaces log2 (memory_of cells2) log3 (memory_of cells3))
    → (IsWithin (length cells2) log2 → IsWithin (length cells3) log3) → length cells2 ≤ length cells3
    → IsClearing start (place + 1) logged log1 cells1 log3 cells3
clears-one start place logged log1 log2 log3 cells1 cells2 cells3 a z r at nought write replaces within len = record {
  memory = write ∙ ap (λ (m : Memory). set_cell m a z) r.memory ∙ ap (λ k. set_cell (clear_cells (memory_of cells1) start place) k z) at
      ∙ ap (set_cell (clear_cells (memory_of cells1) start place) (start + place)) nought ∙ clear_cells-more (memory_of cells1) start place;
  replaces = λ h. replaces-more log1 log2 log3 (memory_of cells1) (memory_of cells2) (memory_of cells3) (r.replaces h) (replaces h);
  within = λ h. within (r.within h);
  len = (let l = r.len in omega (arith, l));
}

pub clears-past : (start place count : ℕ) (logged : Bool) (log1 log2 : List Written) (cells1 cells2 : List ℤ)
    → IsClearing start place logged log1 cells1 log2 cells2 → length cells2 ≤ start + place → place ≤ count → memory_of cells2 ≡ clear_cells (memory_of cells1) start count
clears-past start place count logged log1 log2 cells1 cells2 r past le = clear_cells-past (memory_of cells1) cells2 start place count r.memory past le
