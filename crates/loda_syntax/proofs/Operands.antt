-- The operands of a line, by the commas between them.
use Rattle.std.proofs.Common.{◌≡◌, ◌<◌, ◌≤◌, ℕ, suc, List, [], ◌∷◌, length, map, Bool, true, false, cond, nat_lt, nat_eq, ◌||◌, refl, ap, ◌∙◌, arith}
use Rattle.std.specs.Prelude.{Err, ◌==◌}
use Rattle.std.specs.List.{slice_split}
use Rattle.std.proofs.lemmas.Bool.{lt-ltb, le-ltb, eqb-true}
use Rattle.std.proofs.lemmas.List.Splits.{length-slice_split}
use Rattle.std.proofs.lemmas.List.{length-map}
use Rattle.loda_syntax.specs.declared.operand.Written.{Written}
use Rattle.loda_syntax.specs.declared.error.SyntaxKind.TheVariants.{BadOperand}
use Rattle.loda_syntax.specs.Cuts.{IsFirstPass, IsUncut}
use Rattle.text_parts.specs.Blanks.{trim}
use Rattle.loda_syntax.specs.Lines.{cut_operands}
use Rattle.loda_syntax.specs.Grammar.{operand_read, operands_read, all_read}

abbrev pub comma : ℕ → Bool
comma b = b == 44

texts_cut : (text first rest : List ℕ) → IsFirstPass comma text first rest → cut_operands text ≡ trim first ∷ map trim (slice_split comma rest)
unfolding cut_operands
texts_cut [] first rest cut = let lt : length rest < 0 = cut.shorter in absurd (omega arith)
texts_cut (b ∷ bs) first rest cut = ap (map trim) cut.parts

-- ---- too few and too many

none_of_two : (text : List ℕ) → operands_read 2 2 [] ≡ Err BadOperand
unfolding operands_read all_read
none_of_two text = refl

one_of_two : (text : List ℕ) → operands_read 2 2 (text ∷ []) ≡ Err BadOperand
unfolding operands_read all_read
one_of_two text = refl

pub one_too_few : (text : List ℕ) → IsUncut comma text → operands_read 2 2 (cut_operands text) ≡ Err BadOperand
unfolding cut_operands
one_too_few [] h = none_of_two []
one_too_few (b ∷ bs) h = ap (λ (ts : List (List ℕ)). operands_read 2 2 (map trim ts)) h.parts ∙ one_of_two (trim (b ∷ bs))

second_true : {A : Type 0} (a b c : Bool) (x y : A) → b ≡ true → cond (a || b || c) x y ≡ x
second_true true b c x y e = refl
second_true false true c x y e = refl
second_true false false c x y e = absurd cc

more : (xs : List ℕ) → 1 ≤ length (slice_split comma xs)
more xs = omega (arith, length-slice_split comma xs)

two_and_more : (least : ℕ) (a b : List ℕ) (cs : List (List ℕ)) → 1 ≤ length cs → operands_read least 2 (a ∷ b ∷ cs) ≡ Err BadOperand
unfolding operands_read all_read
two_and_more least a b cs le = second_true _ _ _ _ _ (lt-ltb 2 (length (map operand_read (a ∷ b ∷ cs))) (simp length-map (omega arith)))

pub too_many : (text first rest second last : List ℕ) → IsFirstPass comma text first rest → IsFirstPass comma rest second last → operands_read 2 2 (cut_operands text) ≡ Err BadOperand
too_many text first rest second last cut again =
    let e : cut_operands text ≡ trim first ∷ trim second ∷ map trim (slice_split comma last) = texts_cut text first rest cut ∙ ap (λ (ts : List (List ℕ)). trim first ∷ map trim ts) again.parts in
    let le : 1 ≤ length (map trim (slice_split comma last)) = simp length-map (more last) in
    ap (operands_read 2 2) e ∙ two_and_more 2 (trim first) (trim second) (map trim (slice_split comma last)) le

-- ---- as many as there should be

two_texts : (text first rest : List ℕ) → IsFirstPass comma text first rest → IsUncut comma rest → cut_operands text ≡ trim first ∷ trim rest ∷ []
two_texts text first rest cut last = texts_cut text first rest cut ∙ ap (λ (ts : List (List ℕ)). trim first ∷ map trim ts) last.parts

pub two_read : (text first rest : List ℕ) → IsFirstPass comma text first rest → IsUncut comma rest → operands_read 2 2 (cut_operands text) ≡ all_read 2 2 (operand_read (trim first) ∷ operand_read (trim rest) ∷ [])
unfolding operands_read
two_read text first rest cut last = ap (operands_read 2 2) (two_texts text first rest cut last)

pub none_too_few : (text : List ℕ) → nat_eq (length text) 0 ≡ true → operands_read 1 2 (cut_operands text) ≡ Err BadOperand
unfolding operands_read all_read cut_operands
none_too_few [] e = refl
none_too_few (b ∷ bs) e = let z : suc (length bs) ≡ 0 = eqb-true (suc (length bs)) 0 e in absurd (omega arith)

one_text : (text : List ℕ) → nat_eq (length text) 0 ≡ false → IsUncut comma text → operands_read 1 2 (cut_operands text) ≡ all_read 1 2 (operand_read (trim text) ∷ [])
unfolding operands_read cut_operands
one_text [] e h = absurd cc
one_text (b ∷ bs) e h = ap (λ (ts : List (List ℕ)). all_read 1 2 (map operand_read (map trim ts))) h.parts

pub one_read : (text : List ℕ) (w : Written) → nat_eq (length text) 0 ≡ false → IsUncut comma text → w ≡ operand_read (trim text) → operands_read 1 2 (cut_operands text) ≡ all_read 1 2 (w ∷ [])
one_read text w e h is = rw is (one_text text e h)

least_free : (a b : List ℕ) (cs : List (List ℕ)) → operands_read 1 2 (a ∷ b ∷ cs) ≡ operands_read 2 2 (a ∷ b ∷ cs)
unfolding operands_read all_read
least_free a b cs =
    let each = map operand_read (a ∷ b ∷ cs) in
    let one : nat_lt (length each) 1 ≡ false = le-ltb (length each) 1 (simp length-map (omega arith)) in
    let two : nat_lt (length each) 2 ≡ false = le-ltb (length each) 2 (simp length-map (omega arith)) in
    rw (one, two) refl

parts_of : (xs : List (List ℕ)) → 1 ≤ length xs → (y : List ℕ) × (ys : List (List ℕ)) × (xs ≡ y ∷ ys)
parts_of [] le = absurd (omega arith)
parts_of (y ∷ ys) le = (y, ys, refl)

pub one_or_two_read : (text first rest : List ℕ) → IsFirstPass comma text first rest → operands_read 1 2 (cut_operands text) ≡ operands_read 2 2 (cut_operands text)
one_or_two_read text first rest cut =
    let p = parts_of (slice_split comma rest) (more rest) in
    let e : cut_operands text ≡ trim first ∷ trim p.0 ∷ map trim p.1 = texts_cut text first rest cut ∙ ap (λ (ts : List (List ℕ)). trim first ∷ map trim ts) p.2 in
    rw e (least_free (trim first) (trim p.0) (map trim p.1))
