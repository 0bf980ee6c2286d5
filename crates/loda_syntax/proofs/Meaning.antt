-- Each text has one program or one first fault.
use Rattle.std.proofs.Common.{◌≡◌, ◌≤◌, ◌+◌, ℕ, zero, suc, List, [], ◌∷◌, ◌++◌, length, map, true, false, nat_lt, refl, sym, ap, ◌∙◌, subst, inl, inr, arith, append_assoc, length-append}
use Rattle.std.specs.Prelude.{Option, Some, None, IsSome, Result, Ok, Err, ◌⊎◌}
use Rattle.std.specs.List.{filter_map}
use Rattle.std.proofs.lemmas.List.{append-nil}
use Rattle.std.proofs.lemmas.Bool.{le-ltb}
use Rattle.loda_syntax.specs.declared.instr.Instr.{Instr}
use Rattle.loda_syntax.specs.declared.instr.Instr.TheVariants.{Arith, Clear, LoopStart, LoopEnd, Call}
use Rattle.loda_syntax.specs.declared.error.SyntaxKind.{SyntaxKind}
use Rattle.loda_syntax.specs.declared.error.SyntaxKind.TheVariants as kinds
use Rattle.loda_syntax.specs.WellFormed.{IsBalanced, open_loops}
use Rattle.loda_syntax.specs.Programs.{Text}
use Rattle.loda_syntax.specs.Lines.{text_lines}
use Rattle.loda_syntax.specs.Grammar.{line_read}
use Rattle.loda_syntax.specs.Reading.{Draft, TextFault, open_after, draft_of, with_instr, with_line, fault_at, with_lines, closed, closed_by, empty_draft, text_read}
use Rattle.loda_syntax.specs.Laws.{Stand, IsTextOf, IsFirstFault, BadLine, OpenLine, BadText, HasOneMeaning, CanonReadsBack}
use Rattle.loda_syntax.proofs.Drafts.{open_more, at_line, one_line, bad_line, no_instr, some_instr, with_one, past}
use Rattle.loda_syntax.proofs.Causes.{goes, first, reads, faults, through_arith, through_clear, through_call}
use Rattle.loda_syntax.proofs.Round.{reads_back}
use Rattle.loda_syntax.specs.declared.instr.TheConstants.{MOST_INSTRS}

-- ---- lines and their instructions

abbrev onto : Option Instr → List Instr → List Instr
onto None is = is
onto (Some i) is = i ∷ is

-- the first line of several and its instruction
record Uncons (text : List ℕ) (texts : List (List ℕ)) (is : List Instr) : Type 0 where
  instr : Option Instr
  read : line_read text ≡ Ok instr
  rest : List Instr
  stand : Stand texts rest
  list : is ≡ onto instr rest

filtered : (o : Option Instr) (os : List (Option Instr)) → filter_map (λ x. x) (o ∷ os) ≡ onto o (filter_map (λ x. x) os)
filtered None os = refl
filtered (Some i) os = refl

uncons_by : (text : List ℕ) (texts : List (List ℕ)) (is : List Instr) (read : List (Option Instr)) → map line_read (text ∷ texts) ≡ map (λ o. Ok o) read → is ≡ filter_map (λ o. o) read → Uncons text texts is
uncons_by text texts is [] each list = absurd cc
uncons_by text texts is (o ∷ os) each list = record {
  instr = o;
  read = cc;
  rest = filter_map (λ x. x) os;
  stand = record { read = os; each = cc; list = refl };
  list = list ∙ filtered o os;
}

uncons : (text : List ℕ) (texts : List (List ℕ)) (is : List Instr) → Stand (text ∷ texts) is → Uncons text texts is
uncons text texts is s = uncons_by text texts is s.read s.each s.list

none_stand_by : (is : List Instr) (read : List (Option Instr)) → map line_read [] ≡ map (λ o. Ok o) read → is ≡ filter_map (λ o. o) read → is ≡ []
none_stand_by is [] each list = list
none_stand_by is (o ∷ os) each list = absurd cc

none_stand : (is : List Instr) → Stand [] is → is ≡ []
none_stand is s = none_stand_by is s.read s.each s.list

-- ---- reading on, where no line is bad

-- the draft after lines that are good
record Reaches (line : ℕ) (d : Draft) (texts : List (List ℕ)) (is : List Instr) (loops : ℕ) : Type 0 where
  draft : Draft
  reads : with_lines line d texts ≡ Ok draft
  list : draft.list ≡ d.list ++ is
  open_at : length draft.open_at ≡ loops

-- the loops that are open after an instruction
record Next (line : ℕ) (i : Instr) (o : List ℕ) (is : List Instr) (loops : ℕ) : Type 0 where
  next : List ℕ
  opens : open_after line i o ≡ Ok next
  left : open_loops (length next) is ≡ Some loops

next_open : (line : ℕ) (i : Instr) (o : List ℕ) (is : List Instr) (loops : ℕ) → open_loops (length o) (i ∷ is) ≡ Some loops → Next line i o is loops
next_open line (LoopStart c n) o is loops e = record { next = line ∷ o; opens = refl; left = e }
next_open line LoopEnd [] is loops e = absurd cc
next_open line LoopEnd (m ∷ o) is loops e = record { next = o; opens = refl; left = e }
next_open line (Arith v t s) o is loops e = record { next = o; opens = refl; left = sym (through_arith v t s (length o) is) ∙ e }
next_open line (Clear c n) o is loops e = record { next = o; opens = refl; left = sym (through_clear c n (length o) is) ∙ e }
next_open line (Call t q) o is loops e = record { next = o; opens = refl; left = sym (through_call t q (length o) is) ∙ e }

on_from : (line : ℕ) (d next : Draft) (text : List ℕ) (texts : List (List ℕ)) (is all : List Instr) (loops : ℕ) → fault_at line (with_line line d text) ≡ Ok next → next.list ++ is ≡ d.list ++ all → Reaches (line + 1) next texts is loops → Reaches line d (text ∷ texts) all loops
on_from line d next text texts is all loops one same r = record {
  draft = r.draft;
  reads = one_line line d next text texts one ∙ r.reads;
  list = r.list ∙ same;
  open_at = r.open_at;
}

reaches : (line : ℕ) (d : Draft) (texts : List (List ℕ)) (is : List Instr) (loops : ℕ) → Stand texts is → open_loops (length d.open_at) is ≡ Some loops → length d.list + length is ≤ MOST_INSTRS → Reaches line d texts is loops
unfolding with_lines
reaches line d [] is loops stand e few =
    let none = none_stand is stand in
    let same : Some (length d.open_at) ≡ Some loops = rw none at e in
    record { draft = d; reads = refl; list = rw none (sym (append-nil d.list)); open_at = cc }
reaches line d (text ∷ texts) is loops stand e few = let u = uncons text texts is stand in reaches_by line d text texts is loops u.instr u.rest u.read u.stand u.list e few (λ next. reaches (line + 1) next texts u.rest loops u.stand)
  where
    reaches_by : (line : ℕ) (d : Draft) (text : List ℕ) (texts : List (List ℕ)) (is : List Instr) (loops : ℕ) (o : Option Instr) (rest : List Instr) → line_read text ≡ Ok o → Stand texts rest → is ≡ onto o rest → open_loops (length d.open_at) is ≡ Some loops → length d.list + length is ≤ MOST_INSTRS
        → ((next : Draft) → open_loops (length next.open_at) rest ≡ Some loops → length next.list + length rest ≤ MOST_INSTRS → Reaches (line + 1) next texts rest loops) → Reaches line d (text ∷ texts) is loops
    reaches_by line d text texts is loops None rest read stand list e few rec =
        let same : open_loops (length d.open_at) rest ≡ Some loops = ap (open_loops (length d.open_at)) (sym list) ∙ e in
        let size : length d.list + length rest ≤ MOST_INSTRS = rw list at few in
        on_from line d d text texts rest is loops (no_instr line d text read) (ap (λ (js : List Instr). d.list ++ js) (sym list)) (rec d same size)
    reaches_by line d text texts is loops (Some i) rest read stand list e few rec =
        let n = next_open line i d.open_at rest loops (ap (open_loops (length d.open_at)) (sym list) ∙ e) in
        let size : length d.list + length (i ∷ rest) ≤ MOST_INSTRS = rw list at few in
        let next = draft_of (d.list ++ i ∷ []) n.next in
        let one : fault_at line (with_line line d text) ≡ Ok next = ap (fault_at line) (some_instr line d text i read) ∙ with_one line d i n.next (ap (fault_at line) n.opens) (omega arith) in
        on_from line d next text texts rest is loops one (append_assoc d.list (i ∷ []) rest ∙ ap (λ (js : List Instr). d.list ++ js) (sym list)) (rec next n.left (simp length-append (omega arith)))

-- ---- a program

loops_of : (is : List Instr) (depth : ℕ) → IsBalanced depth is → open_loops depth is ≡ Some 0
loops_of [] depth h = let e : depth ≡ 0 = h in ap (λ (k : ℕ). Some k) e
loops_of (LoopStart c n ∷ is) depth h = loops_of is (suc depth) h
loops_of (LoopEnd ∷ is) zero h = absurd h
loops_of (LoopEnd ∷ is) (suc depth) h = loops_of is depth h
loops_of (Arith v t s ∷ is) zero h = loops_of is zero h
loops_of (Arith v t s ∷ is) (suc depth) h = loops_of is (suc depth) h
loops_of (Clear c n ∷ is) zero h = loops_of is zero h
loops_of (Clear c n ∷ is) (suc depth) h = loops_of is (suc depth) h
loops_of (Call t q ∷ is) zero h = loops_of is zero h
loops_of (Call t q ∷ is) (suc depth) h = loops_of is (suc depth) h

closed_so : (d : Draft) (o : List ℕ) → length o ≡ 0 → closed_by d.list o ≡ Ok d.list
closed_so d [] e = refl
closed_so d (m ∷ ms) e = absurd (omega arith)

pub reads_so : (bytes : List ℕ) (p : Text) → IsTextOf bytes p → text_read bytes ≡ Ok p
unfolding text_read
reads_so bytes p r =
    let to = reaches 1 empty_draft (text_lines bytes) p 0 r.stand (loops_of p 0 r.formed.balanced) (omega (arith, r.formed.short)) in
    let shut : closed to.draft ≡ Ok p = closed_so to.draft to.draft.open_at to.open_at ∙ ap (λ (is : List Instr). Ok is) to.list in
    rw to.reads shut

-- ---- a line that is bad

bad_after : (line : ℕ) (d e : Draft) (before : List (List ℕ)) (text : List ℕ) (after : List (List ℕ)) (kind : SyntaxKind) (at_line : ℕ) → with_lines line d before ≡ Ok e → at_line ≡ length before + line → with_line at_line e text ≡ Err kind
    → with_lines line d (before ++ text ∷ after) ≡ Err (record { line = at_line; kind = kind })
unfolding with_lines
bad_after line d e [] text after kind at_line w n bad =
    let same : d ≡ e = cc in
    let here : at_line ≡ line = omega (arith, n) in
    let bad_here : with_line line d text ≡ Err kind = subst (λ (k : ℕ). with_line k d text ≡ Err kind) here (subst (λ (x : Draft). with_line at_line x text ≡ Err kind) (sym same) bad) in
    rw here (bad_line line d text after (record { line = line; kind = kind }) (ap (fault_at line) bad_here))
bad_after line d e (t ∷ before) text after kind at_line w n bad =
    let f = first line d e t before w in
    one_line line d f.next t (before ++ text ∷ after) f.whole ∙ bad_after (line + 1) f.next e before text after kind at_line f.rest (omega (arith, n)) bad

never_opens : (line : ℕ) (i : Instr) (o : List ℕ) → open_loops (length o) (i ∷ []) ≡ None → open_after line i o ≡ Err kinds.LoopClose
never_opens line (LoopStart c n) o e = absurd cc
never_opens line LoopEnd [] e = refl
never_opens line LoopEnd (m ∷ o) e = absurd cc
never_opens line (Arith v t s) o e = let f : Some (length o) ≡ None = sym (through_arith v t s (length o) []) ∙ e in absurd cc
never_opens line (Clear c n) o e = let f : Some (length o) ≡ None = sym (through_clear c n (length o) []) ∙ e in absurd cc
never_opens line (Call t q) o e = let f : Some (length o) ≡ None = sym (through_call t q (length o) []) ∙ e in absurd cc

some_of : (o : Option ℕ) → IsSome o → (k : ℕ) × (o ≡ Some k)
some_of None h = absurd (let f : false ≡ true = h in cc)
some_of (Some k) h = (k, refl)

bad_instr : (line : ℕ) (d : Draft) (text : List ℕ) (i : Instr) (kind : SyntaxKind) (loops : open_loops 0 d.list ≡ Some (length d.open_at)) → line_read text ≡ Ok (Some i) → IsFirstFault d.list (Ok (Some i)) kind → with_line line d text ≡ Err kind
unfolding with_instr
bad_instr line d text i kind loops read (inl h) =
    let none : open_loops (length d.open_at) (i ∷ []) ≡ None = sym (open_more d.list 0 (length d.open_at) i loops) ∙ h.0 in
    let shut = never_opens line i d.open_at none in
    some_instr line d text i read ∙ rw (shut, h.1) refl
bad_instr line d text i kind loops read (inr h) =
    let k = some_of (open_loops 0 (d.list ++ i ∷ [])) h.0 in
    let n = next_open line i d.open_at [] k.0 (sym (open_more d.list 0 (length d.open_at) i loops) ∙ k.1) in
    let full = past (nat_lt (length d.list) MOST_INSTRS) (draft_of (d.list ++ i ∷ []) n.next) kinds.TooLong (le-ltb (length d.list) MOST_INSTRS h.1) in
    some_instr line d text i read ∙ rw (n.opens, full, h.2) refl

first_fault_so : (line : ℕ) (d : Draft) (text : List ℕ) (kind : SyntaxKind) (loops : open_loops 0 d.list ≡ Some (length d.open_at)) → (r : Result (Option Instr) SyntaxKind) → line_read text ≡ r → IsFirstFault d.list r kind → with_line line d text ≡ Err kind
unfolding with_line
first_fault_so line d text kind loops (Err own) read h = rw (read, h) refl
first_fault_so line d text kind loops (Ok None) read h = absurd h
first_fault_so line d text kind loops (Ok (Some i)) read h = bad_instr line d text i kind loops read h

bad_line_so : (bytes : List ℕ) (line : ℕ) (kind : SyntaxKind) → BadLine bytes line kind → text_read bytes ≡ Err (record { line = line; kind = kind })
unfolding text_read
bad_line_so bytes line kind b =
    let k = some_of (open_loops 0 b.list) b.begin.ends in
    let to = reaches 1 empty_draft b.before b.list k.0 b.begin.stand k.1 (omega (arith, b.begin.short)) in
    let list : to.draft.list ≡ b.list = to.list in
    let loops : open_loops 0 to.draft.list ≡ Some (length to.draft.open_at) = ap (open_loops 0) list ∙ k.1 ∙ ap (λ (n : ℕ). Some n) (sym to.open_at) in
    let bad = first_fault_so line to.draft b.text kind loops (line_read b.text) refl (subst (λ (is : List Instr). IsFirstFault is (line_read b.text) kind) (sym list) b.fault) in
    let whole : with_lines 1 empty_draft (text_lines bytes) ≡ Err (record { line = line; kind = kind }) = ap (with_lines 1 empty_draft) b.cut ∙ bad_after 1 empty_draft to.draft b.before b.text b.after kind line to.reads b.number bad in
    rw whole refl

-- ---- a loop that isn't ended

-- lines, and then others
record Parts (line : ℕ) (d e : Draft) (before after : List (List ℕ)) : Type 0 where
  between : Draft
  front : with_lines line d before ≡ Ok between
  back : with_lines (length before + line) between after ≡ Ok e

parts : (line : ℕ) (d e : Draft) (before after : List (List ℕ)) → with_lines line d (before ++ after) ≡ Ok e → Parts line d e before after
unfolding with_lines
parts line d e [] after w = record { between = d; front = refl; back = let z : 0 + line ≡ line = omega arith in rw z w }
parts line d e (t ∷ before) after w =
    let f = first line d e t (before ++ after) w in
    let p = parts (line + 1) f.next e before after f.rest in
    record {
      between = p.between;
      front = one_line line d f.next t before f.whole ∙ p.front;
      back = let z : length (t ∷ before) + line ≡ length before + (line + 1) = omega arith in rw z p.back;
    }

-- the loops that were open stay below those that are opened
record Above (base o : List ℕ) (count : ℕ) : Type 0 where
  upper : List ℕ
  whole : o ≡ upper ++ base
  many : length upper ≡ count

-- the same after one line
record Step (base o : List ℕ) (is : List Instr) (loops : ℕ) : Type 0 where
  upper : List ℕ
  whole : o ≡ upper ++ base
  left : open_loops (length upper) is ≡ Some loops

step_instr : (line : ℕ) (i : Instr) (o next : List ℕ) (is : List Instr) (base upper : List ℕ) (loops : ℕ) → open_after line i o ≡ Ok next → o ≡ upper ++ base → open_loops (length upper) (i ∷ is) ≡ Some loops → Step base next is loops
step_instr line (LoopStart c n) o next is base upper loops opens e l = let same : line ∷ o ≡ next = cc in record { upper = line ∷ upper; whole = sym same ∙ ap (λ (ms : List ℕ). line ∷ ms) e; left = l }
step_instr line LoopEnd o next is base [] loops opens e l = absurd cc
step_instr line LoopEnd [] next is base (m ∷ upper) loops opens e l = absurd cc
step_instr line LoopEnd (x ∷ o) next is base (m ∷ upper) loops opens e l = let same : o ≡ next = cc in let rest : o ≡ upper ++ base = cc in record { upper = upper; whole = sym same ∙ rest; left = l }
step_instr line (Arith v t s) o next is base upper loops opens e l = let same : o ≡ next = cc in record { upper = upper; whole = sym same ∙ e; left = sym (through_arith v t s (length upper) is) ∙ l }
step_instr line (Clear c n) o next is base upper loops opens e l = let same : o ≡ next = cc in record { upper = upper; whole = sym same ∙ e; left = sym (through_clear c n (length upper) is) ∙ l }
step_instr line (Call t q) o next is base upper loops opens e l = let same : o ≡ next = cc in record { upper = upper; whole = sym same ∙ e; left = sym (through_call t q (length upper) is) ∙ l }

above_step : (line : ℕ) (d next : Draft) (is : List Instr) (base upper : List ℕ) (loops : ℕ) (o : Option Instr) → with_instr line d o ≡ Ok next → d.open_at ≡ upper ++ base → open_loops (length upper) (onto o is) ≡ Some loops → Step base next.open_at is loops
unfolding with_instr
above_step line d next is base upper loops None w e l = let same : d ≡ next = cc in record { upper = upper; whole = ap (λ (x : Draft). x.open_at) (sym same) ∙ e; left = l }
above_step line d next is base upper loops (Some i) w e l = step_instr line i d.open_at next.open_at is base upper loops (goes line d i next w).opens e l

above : (line : ℕ) (d e : Draft) (texts : List (List ℕ)) (is : List Instr) (base upper : List ℕ) (loops : ℕ) → with_lines line d texts ≡ Ok e → Stand texts is → d.open_at ≡ upper ++ base → open_loops (length upper) is ≡ Some loops → Above base e.open_at loops
unfolding with_lines
above line d e [] is base upper loops w stand o l =
    let same : d ≡ e = cc in
    let none = none_stand is stand in
    let count : Some (length upper) ≡ Some loops = rw none at l in
    record { upper = upper; whole = ap (λ (x : Draft). x.open_at) (sym same) ∙ o; many = cc }
above line d e (text ∷ texts) is base upper loops w stand o l =
    let f = first line d e text texts w in
    let u = uncons text texts is stand in
    let same : Ok f.instr ≡ Ok u.instr = sym f.read ∙ u.read in
    let instr : f.instr ≡ u.instr = cc in
    let step = above_step line d f.next u.rest base upper loops u.instr (subst (λ (x : Option Instr). with_instr line d x ≡ Ok f.next) instr f.with) o (ap (open_loops (length upper)) (sym u.list) ∙ l) in
    above (line + 1) f.next e texts u.rest base step.upper loops f.rest u.stand step.whole step.left

starts_at : (line : ℕ) (d next : Draft) (text : List ℕ) (c n : ℕ) → line_read text ≡ Ok (Some (LoopStart c n)) → (o : Option Instr) → line_read text ≡ Ok o → with_instr line d o ≡ Ok next → next.open_at ≡ line ∷ d.open_at
unfolding with_instr
starts_at line d next text c n r o read w =
    let same : Ok (Some (LoopStart c n)) ≡ Ok o = sym r ∙ read in
    let it : Some (LoopStart c n) ≡ o = cc in
    let g = goes line d (LoopStart c n) next (subst (λ (x : Option Instr). with_instr line d x ≡ Ok next) (sym it) w) in
    let o = g.opens in cc

open_so_by : (list : List Instr) (o : List ℕ) (m : ℕ) (ms : List ℕ) → o ≡ m ∷ ms → closed_by list o ≡ Err (record { line = m; kind = kinds.LoopOpen })
open_so_by list [] m ms e = absurd cc
open_so_by list (x ∷ o) m ms e = let same : x ≡ m = cc in rw same refl

no_upper : (o : List ℕ) → length o ≡ 0 → o ≡ []
no_upper [] e = refl
no_upper (m ∷ o) e = absurd (omega arith)

open_line_so : (bytes : List ℕ) (line : ℕ) → OpenLine bytes line → text_read bytes ≡ Err (record { line = line; kind = kinds.LoopOpen })
unfolding text_read
open_line_so bytes line b =
    let k = some_of (open_loops 0 b.list) b.begin.ends in
    let to = reaches 1 empty_draft (text_lines bytes) b.list k.0 b.begin.stand k.1 (omega (arith, b.begin.short)) in
    let p = parts 1 empty_draft to.draft b.before (b.text ∷ b.after) (ap (with_lines 1 empty_draft) (sym b.cut) ∙ to.reads) in
    let f = first (length b.before + 1) p.between to.draft b.text b.after p.back in
    let here : f.next.open_at ≡ (length b.before + 1) ∷ p.between.open_at = starts_at (length b.before + 1) p.between f.next b.text b.start b.len b.starts f.instr f.read f.with in
    let a = above (length b.before + 1 + 1) f.next to.draft b.after b.inner f.next.open_at [] 0 f.rest b.stand refl (loops_of b.inner 0 b.ended) in
    let none = no_upper a.upper a.many in
    let open_is : to.draft.open_at ≡ line ∷ p.between.open_at = a.whole ∙ ap (λ (ms : List ℕ). ms ++ f.next.open_at) none ∙ here ∙ ap (λ (n : ℕ). n ∷ p.between.open_at) (sym b.number) in
    let shut : closed to.draft ≡ Err (record { line = line; kind = kinds.LoopOpen }) = open_so_by to.draft.list to.draft.open_at line p.between.open_at open_is in
    rw to.reads shut

bad_so : (bytes : List ℕ) (line : ℕ) (kind : SyntaxKind) → BadText bytes line kind → text_read bytes ≡ Err (record { line = line; kind = kind })
bad_so bytes line kind (inl b) = bad_line_so bytes line kind b
bad_so bytes line kind (inr h) = let k = h.0 in open_line_so bytes line h.1 ∙ ap (λ (x : SyntaxKind). Err (record { line = line; kind = x })) (sym k)

-- ---- one meaning

abbrev fault_of : ℕ → SyntaxKind → TextFault
fault_of line kind = record { line = line; kind = kind }

one_of : (bytes : List ℕ) (r : Result Text TextFault) → text_read bytes ≡ r → ((p : Text) × IsTextOf bytes p) ⊎ ((line : ℕ) × (kind : SyntaxKind) × BadText bytes line kind)
one_of bytes (Ok p) e = inl (p, reads bytes p e)
one_of bytes (Err f) e = inr (f.line, f.kind, faults bytes f e)

same_program : (p q : Text) (r : Result Text TextFault) → r ≡ Ok p → r ≡ Ok q → p ≡ q
same_program p q r a b = let e : Ok p ≡ Ok q = sym a ∙ b in cc

same_fault : (m n : ℕ) (j k : SyntaxKind) (r : Result Text TextFault) → r ≡ Err (record { line = m; kind = j }) → r ≡ Err (record { line = n; kind = k }) → (m ≡ n) × (j ≡ k)
same_fault m n j k r a b =
    let e : Err (fault_of m j) ≡ Err (fault_of n k) = sym a ∙ b in
    let f : fault_of m j ≡ fault_of n k = cc in
    (ap (λ (x : TextFault). x.line) f, ap (λ (x : TextFault). x.kind) f)

not_both : (p : Text) (n : ℕ) (k : SyntaxKind) (r : Result Text TextFault) → r ≡ Ok p → r ≡ Err (record { line = n; kind = k }) → ⊥
not_both p n k r a b = let e : Ok p ≡ Err (fault_of n k) = sym a ∙ b in cc

pub one_meaning : (bytes : List ℕ) → HasOneMeaning bytes
one_meaning bytes = record {
  some = one_of bytes (text_read bytes) refl;
  one_program = λ p q a b. same_program p q (text_read bytes) (reads_so bytes p a) (reads_so bytes q b);
  one_fault = λ m n j k a b. same_fault m n j k (text_read bytes) (bad_so bytes m j a) (bad_so bytes n k b);
  never_both = λ p n k a b. not_both p n k (text_read bytes) (reads_so bytes p a) (bad_so bytes n k b);
}

pub reads_again : (bytes : List ℕ) (p : Text) → IsTextOf bytes p → CanonReadsBack p
reads_again bytes p r = reads_back p r.formed
