-- What a cut takes out is an instruction or a loop whole, and what it leaves is a program.
use Rattle.std.proofs.Common.{◌≡◌, ◌≤◌, ◌<◌, ◌+◌, ◌-◌, ℕ, zero, suc, List, [], ◌∷◌, ◌++◌, length, take, drop, refl, sym, ap, subst, ◌∙◌, arith, append_assoc, length-append, length-drop}
use Rattle.std.specs.Prelude.{Option, Some, None, All}
use Rattle.std.specs.Option.{option_map}
use Rattle.std.proofs.lemmas.List.{take-append-drop, length-take-le}
use Rattle.std.proofs.Math.Seq.{take-append_seam, drop-append_seam}
use Rattle.std.proofs.lemmas.List.Elements.{All-append, All-take, All-drop}
use Rattle.loda_syntax.specs.declared.instr.Instr.{Instr}
use Rattle.loda_syntax.specs.declared.instr.Instr.TheVariants.{Arith, Clear, LoopStart, LoopEnd, Call}
use Rattle.loda_syntax.specs.Programs.{Text}
use Rattle.loda_syntax.specs.WellFormed.{IsInstr, IsBalanced, IsProgram}
use Rattle.minimiser.specs.Cuts.{behind_loop, rest_behind, cut_at}
use Rattle.minimiser.specs.Laws.{IsPart, IsCut}

-- ---- from the left to the right

-- the end of a loop stands in the list: before it what is balanced, and behind it what is balanced around it
record Ended (depth outer : ℕ) (is : List Instr) : Type 0 where
  body : List Instr
  whole : is ≡ body ++ (LoopEnd ∷ behind_loop depth is)
  inside : IsBalanced depth body
  outside : IsBalanced outer (behind_loop depth is)

ended : (is : List Instr) (depth outer opened : ℕ) → opened ≡ depth + suc outer → IsBalanced opened is → Ended depth outer is
ended [] depth outer opened eq h = absurd (omega arith)
ended (Arith v t s ∷ is) depth outer opened eq h =
    let e = ended is depth outer opened eq h in
    record { body = Arith v t s ∷ e.body; whole = ap (λ (xs : List Instr). Arith v t s ∷ xs) e.whole; inside = e.inside; outside = e.outside }
ended (Clear c n ∷ is) depth outer opened eq h =
    let e = ended is depth outer opened eq h in
    record { body = Clear c n ∷ e.body; whole = ap (λ (xs : List Instr). Clear c n ∷ xs) e.whole; inside = e.inside; outside = e.outside }
ended (Call t q ∷ is) depth outer opened eq h =
    let e = ended is depth outer opened eq h in
    record { body = Call t q ∷ e.body; whole = ap (λ (xs : List Instr). Call t q ∷ xs) e.whole; inside = e.inside; outside = e.outside }
ended (LoopStart c n ∷ is) depth outer opened eq h =
    let e = ended is (suc depth) outer (suc opened) (omega arith) h in
    record { body = LoopStart c n ∷ e.body; whole = ap (λ (xs : List Instr). LoopStart c n ∷ xs) e.whole; inside = e.inside; outside = e.outside }
ended (LoopEnd ∷ is) depth outer zero eq h = absurd h
ended (LoopEnd ∷ is) zero outer (suc opened) eq h =
    let same : opened ≡ outer = omega arith in
    record { body = []; whole = refl; inside = refl; outside = subst (λ (d : ℕ). IsBalanced d is) same h }
ended (LoopEnd ∷ is) (suc depth) outer (suc opened) eq h =
    let e = ended is depth outer opened (omega arith) h in
    record { body = LoopEnd ∷ e.body; whole = ap (λ (xs : List Instr). LoopEnd ∷ xs) e.whole; inside = e.inside; outside = e.outside }

-- the list is a part and then the rest, which is balanced as the list was
pub record Begins (depth : ℕ) (is rest : List Instr) : Type 0 where
  pub part : List Instr
  pub whole : is ≡ part ++ rest
  pub is_part : IsPart part
  pub balanced : IsBalanced depth rest

one : (i : Instr) (depth : ℕ) (is rest : List Instr) → IsPart (i ∷ []) → IsBalanced depth is → Some is ≡ Some rest → Begins depth (i ∷ is) rest
one i depth is rest part h e =
    let same : is ≡ rest = cc in
    record {
      part = i ∷ [];
      whole = ap (λ (xs : List Instr). i ∷ xs) same;
      is_part = part;
      balanced = subst (λ (xs : List Instr). IsBalanced depth xs) same h;
    }

pub begins : (is rest : List Instr) (depth : ℕ) → rest_behind is ≡ Some rest → IsBalanced depth is → Begins depth is rest
begins [] rest depth e h = absurd (let z : None ≡ Some rest = e in cc)
begins (LoopEnd ∷ is) rest depth e h = absurd (let z : None ≡ Some rest = e in cc)
begins (Arith v t s ∷ is) rest depth e h = one (Arith v t s) depth is rest refl h e
begins (Clear c n ∷ is) rest depth e h = one (Clear c n) depth is rest refl h e
begins (Call t q ∷ is) rest depth e h = one (Call t q) depth is rest refl h e
begins (LoopStart c n ∷ is) rest depth e h =
    let l = ended is 0 depth (suc depth) (omega arith) h in
    let same : behind_loop 0 is ≡ rest = cc in
    let split : is ≡ (l.body ++ LoopEnd ∷ []) ++ behind_loop 0 is = l.whole ∙ sym (append_assoc l.body (LoopEnd ∷ []) (behind_loop 0 is)) in
    record {
      part = LoopStart c n ∷ (l.body ++ LoopEnd ∷ []);
      whole = ap (λ (xs : List Instr). LoopStart c n ∷ xs) (split ∙ ap (λ (xs : List Instr). (l.body ++ LoopEnd ∷ []) ++ xs) same);
      is_part = (l.body, refl, l.inside);
      balanced = subst (λ (xs : List Instr). IsBalanced depth xs) same l.outside;
    }

-- what stands from a place on in a balanced list is balanced, where so many loops are open there
balanced_from : (is : List Instr) (place depth : ℕ) → IsBalanced depth is → (opened : ℕ) × IsBalanced opened (drop place is)
balanced_from is zero depth h = (depth, h)
balanced_from [] (suc place) depth h = (depth, h)
balanced_from (Arith v t s ∷ is) (suc place) depth h = balanced_from is place depth h
balanced_from (Clear c n ∷ is) (suc place) depth h = balanced_from is place depth h
balanced_from (Call t q ∷ is) (suc place) depth h = balanced_from is place depth h
balanced_from (LoopStart c n ∷ is) (suc place) depth h = balanced_from is place (suc depth) h
balanced_from (LoopEnd ∷ is) (suc place) zero h = absurd h
balanced_from (LoopEnd ∷ is) (suc place) (suc depth) h = balanced_from is place depth h

-- where the second list is balanced wherever the first one is, so it is behind any instruction
under : (x : Instr) (depth : ℕ) (xs ys : List Instr) → ((d : ℕ) → IsBalanced d xs → IsBalanced d ys)
    → IsBalanced depth (x ∷ xs) → IsBalanced depth (x ∷ ys)
under (Arith v t s) depth xs ys keeps h = keeps depth h
under (Clear c n) depth xs ys keeps h = keeps depth h
under (LoopStart c n) depth xs ys keeps h = keeps (suc depth) h
under LoopEnd zero xs ys keeps h = h
under LoopEnd (suc depth) xs ys keeps h = keeps depth h
under (Call t q) depth xs ys keeps h = keeps depth h

balanced_cut : (is : List Instr) (place depth : ℕ) (rest : List Instr) → rest_behind (drop place is) ≡ Some rest → IsBalanced depth is
    → IsBalanced depth (take place is ++ rest)
balanced_cut is zero depth rest e h = (begins is rest depth e h).balanced
balanced_cut [] (suc place) depth rest e h = absurd (let z : None ≡ Some rest = e in cc)
balanced_cut (x ∷ xs) (suc place) depth rest e h = under x depth xs _ (λ d b. balanced_cut xs place d rest e b) h

pub filled : (part : List Instr) → IsPart part → 0 < length part
filled [] h = absurd h
filled (i ∷ is) h = omega arith

-- ---- what is left

pub length-behind_loop : (is : List Instr) (depth : ℕ) → length (behind_loop depth is) ≤ length is
length-behind_loop [] depth = omega arith
length-behind_loop (Arith v t s ∷ is) depth = omega (arith, length-behind_loop is depth)
length-behind_loop (Clear c n ∷ is) depth = omega (arith, length-behind_loop is depth)
length-behind_loop (Call t q ∷ is) depth = omega (arith, length-behind_loop is depth)
length-behind_loop (LoopStart c n ∷ is) depth = omega (arith, length-behind_loop is (suc depth))
length-behind_loop (LoopEnd ∷ is) zero = omega arith
length-behind_loop (LoopEnd ∷ is) (suc depth) = omega (arith, length-behind_loop is depth)

length-one : (is rest : List Instr) → Some is ≡ Some rest → length rest < length is + 1
length-one is rest e = let same : is ≡ rest = cc in omega (arith, ap length same)

pub length-behind : (is rest : List Instr) → rest_behind is ≡ Some rest → length rest < length is
length-behind [] rest e = absurd (let z : None ≡ Some rest = e in cc)
length-behind (LoopEnd ∷ is) rest e = absurd (let z : None ≡ Some rest = e in cc)
length-behind (Arith v t s ∷ is) rest e = omega (arith, length-one is rest e)
length-behind (Clear c n ∷ is) rest e = omega (arith, length-one is rest e)
length-behind (Call t q ∷ is) rest e = omega (arith, length-one is rest e)
length-behind (LoopStart c n ∷ is) rest e = let same : behind_loop 0 is ≡ rest = cc in omega (arith, length-behind_loop is 0, ap length same)

-- what is made of an option
pub record Mapped {X Y : Type 0} (f : X → Y) (o : Option X) (y : Y) : Type 0 where
  pub from : X
  pub is : o ≡ Some from
  pub gives : f from ≡ y

pub mapped : {X Y : Type 0} (f : X → Y) (o : Option X) (y : Y) → option_map f o ≡ Some y → Mapped f o y
mapped f None y e = absurd (let z : None ≡ Some y = e in cc)
mapped f (Some x) y e = record { from = x; is = refl; gives = let z : Some (f x) ≡ Some y = e in cc }

pub rest_of_cut : (p : Text) (place : ℕ) (q : Text) → cut_at p place ≡ Some q → Mapped (λ rest. take place p ++ rest) (rest_behind (drop place p)) q
rest_of_cut p place q e = mapped (λ rest. take place p ++ rest) (rest_behind (drop place p)) q e

pub length-cut : (p : Text) (place : ℕ) (q : Text) → cut_at p place ≡ Some q → length q < length p
length-cut p place q e =
    let m = rest_of_cut p place q e in
    let shorter = length-behind (drop place p) m.from m.is in
    let front = ap length (take-append-drop place p) in
    omega (arith, ap length m.gives, length-append (take place p) m.from, length-append (take place p) (drop place p), front, shorter)

-- what is left is a program
pub program-cut : (p rest : List Instr) (place : ℕ) → rest_behind (drop place p) ≡ Some rest → IsProgram p → IsProgram (take place p ++ rest)
program-cut p rest place e is =
    let from = balanced_from p place 0 is.balanced in
    let b = begins (drop place p) rest from.0 e from.1 in
    let shorter = length-behind (drop place p) rest e in
    let front = ap length (take-append-drop place p) in
    let dropped : drop (length b.part) (drop place p) ≡ rest = ap (drop (length b.part)) b.whole ∙ drop-append_seam b.part rest in
    record {
      short = omega (arith, length-append (take place p) rest, length-append (take place p) (drop place p), front, shorter, is.short);
      each = All-append IsInstr _ _ (All-take IsInstr place p is.each)
          (subst (λ (xs : List Instr). All IsInstr xs) dropped (All-drop IsInstr (length b.part) _ (All-drop IsInstr place p is.each)));
      balanced = balanced_cut p place 0 rest e is.balanced;
    }

-- ---- the law

pub cut_from : (p : Text) (place : ℕ) (q : Text) → IsProgram p → cut_at p place ≡ Some q → IsCut p place q
cut_from p place q is e =
    let m = rest_of_cut p place q e in
    let from = balanced_from p place 0 is.balanced in
    let b = begins (drop place p) m.from from.0 m.is from.1 in
    let some = filled b.part b.is_part in
    let there : place ≤ length p = omega (arith, length-drop place p, ap length b.whole, length-append b.part m.from, some) in
    record {
      front = take place p;
      part = b.part;
      rest = m.from;
      whole = sym (take-append-drop place p) ∙ ap (λ (xs : List Instr). take place p ++ xs) b.whole;
      begins = sym (length-take-le place p there);
      is_part = b.is_part;
      left = sym m.gives;
    }

-- a loop's end is found behind a balanced body
loop_found : (body rest : List Instr) (depth : ℕ) → IsBalanced depth body → behind_loop depth (body ++ (LoopEnd ∷ rest)) ≡ rest
loop_found [] rest zero h = refl
loop_found [] rest (suc depth) h = absurd (omega arith)
loop_found (Arith v t s ∷ is) rest depth h = loop_found is rest depth h
loop_found (Clear c n ∷ is) rest depth h = loop_found is rest depth h
loop_found (Call t q ∷ is) rest depth h = loop_found is rest depth h
loop_found (LoopStart c n ∷ is) rest depth h = loop_found is rest (suc depth) h
loop_found (LoopEnd ∷ is) rest zero h = absurd h
loop_found (LoopEnd ∷ is) rest (suc depth) h = loop_found is rest depth h

found : (part rest : List Instr) → IsPart part → rest_behind (part ++ rest) ≡ Some rest
found [] rest h = absurd h
found (LoopEnd ∷ is) rest h = absurd h
found (Arith v t s ∷ is) rest h = ap (λ (xs : List Instr). Some (xs ++ rest)) h
found (Clear c n ∷ is) rest h = ap (λ (xs : List Instr). Some (xs ++ rest)) h
found (Call t q ∷ is) rest h = ap (λ (xs : List Instr). Some (xs ++ rest)) h
found (LoopStart c n ∷ is) rest h =
    let shape : is ++ rest ≡ h.0 ++ (LoopEnd ∷ rest) = ap (λ (xs : List Instr). xs ++ rest) h.1 ∙ append_assoc h.0 (LoopEnd ∷ []) rest in
    ap (λ (xs : List Instr). Some (behind_loop 0 xs)) shape ∙ ap (λ (xs : List Instr). Some xs) (loop_found h.0 rest 0 h.2)

pub cut_to : (p : Text) (place : ℕ) (q : Text) → IsCut p place q → cut_at p place ≡ Some q
cut_to p place q c =
    let behind_it : drop place p ≡ c.part ++ c.rest =
    ap (λ (n : ℕ). drop n p) c.begins ∙ ap (drop (length c.front)) c.whole ∙ drop-append_seam c.front (c.part ++ c.rest) in
    let before : take place p ≡ c.front =
    ap (λ (n : ℕ). take n p) c.begins ∙ ap (take (length c.front)) c.whole ∙ take-append_seam c.front (c.part ++ c.rest) in
    let rest : rest_behind (drop place p) ≡ Some c.rest = ap rest_behind behind_it ∙ found c.part c.rest c.is_part in
    ap (λ (o : Option (List Instr)). option_map (λ rest. take place p ++ rest) o) rest ∙ ap (λ (xs : List Instr). Some (xs ++ c.rest)) before
    ∙ ap (λ (xs : List Instr). Some xs) (sym c.left)

pub cut_within : (p : Text) (place : ℕ) (q : Text) → IsCut p place q → place < length p
cut_within p place q c =
    let some = filled c.part c.is_part in
    let begins = c.begins in
    omega (arith, ap length c.whole, length-append c.front (c.part ++ c.rest), length-append c.part c.rest, some, begins)
