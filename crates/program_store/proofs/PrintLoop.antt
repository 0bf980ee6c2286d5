-- Printing the entries of a store one after the other, as the loop does.
use Rattle.std.proofs.Common.{ℕ, ◌≡◌, ◌<◌, sym, ap, subst, ◌∙◌, List, [], ◌∷◌, ◌++◌, append_assoc, Bor, true, false, rules}
use Rattle.std.specs.Prelude.{Option, Some, None, IsSome, is_some}
use Rattle.std.specs.Option.{option_copied}
use Rattle.std.proofs.lemmas.List.{append-nil}
use Rattle.loda_syntax.specs.Answers.{AddsFront}
use Rattle.program_store.specs.declared.published.Published.{Published}
use Rattle.program_store.specs.Store.{Store, published_at, IsStore}
use Rattle.program_store.specs.StoreText.{published_text, store_text}
use Rattle.program_store.proofs.Rising.{text_above, text_above-zero, text_above-next, text_above-none}

-- the first part of a text's beginning is a first part of the text
pub AddsFront-longer : (old new text more : List ℕ) → AddsFront old new text → AddsFront old new (text ++ more)
AddsFront-longer old new text more adds = record {
  front = adds.front;
  rest = adds.rest ++ more;
  added = adds.added;
  whole = sym (append_assoc adds.front adds.rest more) ∙ ap (λ (t : List ℕ). t ++ more) adds.whole;
}

pub AddsFront-header : (old new header text : List ℕ) → AddsFront old new (header ++ 10 ∷ []) → AddsFront old new (header ++ 10 ∷ text)
AddsFront-header old new header text adds = subst (λ (t : List ℕ). AddsFront old new t) (append_assoc header (10 ∷ []) text) (AddsFront-longer old new (header ++ 10 ∷ []) text adds)

-- the entries up to a name were printed
pub record Printed (s : Store) (old : List ℕ) (last : ℕ) (out : List ℕ) : Type 0 where
  pub printed : List ℕ
  pub out_is : out ≡ old ++ printed
  pub left : IsStore s → printed ++ text_above s last ≡ store_text s

pub printed_none : (s : Store) (old : List ℕ) → Printed s old 0 old
printed_none s old = record { printed = []; out_is = sym (append-nil old); left = λ kept. text_above-zero s kept }

module _ (s : Store) (old : List ℕ) (last : ℕ) (out : List ℕ) (so_far : Printed s old last out) (kept : IsStore s) where
  pub printed_next : (n : ℕ) (e : Published) (new : List ℕ) → last < n → published_at s n ≡ Some e → ((k : ℕ) → last < k → k < n → published_at s k ≡ None) → new ≡ out ++ published_text (n, e) → Printed s old n new
  printed_next n e new lt found none is = record {
    printed = so_far.printed ++ published_text (n, e);
    out_is = is ∙ ap (λ (t : List ℕ). t ++ published_text (n, e)) so_far.out_is ∙ append_assoc old so_far.printed (published_text (n, e));
    left = λ kept. append_assoc so_far.printed (published_text (n, e)) (text_above s n) ∙ ap (λ (t : List ℕ). so_far.printed ++ t) (sym (text_above-next s last n e kept lt found none)) ∙ so_far.left kept;
  }

  pub printed_front : (n : ℕ) (e : Published) (new : List ℕ) → last < n → published_at s n ≡ Some e → ((k : ℕ) → last < k → k < n → published_at s k ≡ None) → AddsFront out new (published_text (n, e)) → AddsFront old new (store_text s)
  printed_front n e new lt found none adds = record {
    front = so_far.printed ++ adds.front;
    rest = adds.rest ++ text_above s n;
    added = adds.added ∙ ap (λ (t : List ℕ). t ++ adds.front) so_far.out_is ∙ append_assoc old so_far.printed adds.front;
    whole =
        append_assoc so_far.printed adds.front (adds.rest ++ text_above s n)
        ∙ ap (λ (t : List ℕ). so_far.printed ++ t) (sym (append_assoc adds.front adds.rest (text_above s n)) ∙ ap (λ (t : List ℕ). t ++ text_above s n) adds.whole ∙ sym (text_above-next s last n e kept lt found none))
        ∙ so_far.left kept;
  }

  pub printed_all : ((k : ℕ) → last < k → published_at s k ≡ None) → out ≡ old ++ store_text s
  printed_all none =
      so_far.out_is
      ∙ ap (λ (t : List ℕ). old ++ t) (sym (append-nil so_far.printed) ∙ ap (λ (t : List ℕ). so_far.printed ++ t) (sym (text_above-none s last kept none)) ∙ so_far.left kept)

-- what is published is found
pub found_some : (o : Option (Bor Published)) (value : Option Published) → option_copied o ≡ value → IsSome value → IsSome o
found_some None value is there = let none : false ≡ true = ap is_some is ∙ there in absurd cc
found_some (Some r) value is there = search rules
