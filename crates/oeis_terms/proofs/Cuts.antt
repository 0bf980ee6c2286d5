-- Cutting after a byte, from the front.
use Rattle.std.proofs.Common.{◌≡◌, ℕ, ◌+◌, ◌<◌, ◌≤◌, true, false, eqb, List, [], ◌∷◌, ◌++◌, length, take, drop, get_or, refl, sym, ap, ◌∙◌, append_assoc}
use Rattle.std.specs.Prelude.{Option, Some, None}
use Rattle.std.specs.Option.{option_map}
use Rattle.std.proofs.lemmas.List.{append-nil, drop_more, take_more, drop_all}
use Rattle.oeis_terms.specs.Cut.{first_cut}

-- a cut, with bytes put before it
abbrev pub after : List ℕ → Option (List ℕ × List ℕ) → Option (List ℕ × List ℕ)
after front cut = option_map (λ p. (front ++ p.0, p.1)) cut

after-after : (front : List ℕ) (b : ℕ) (cut : Option (List ℕ × List ℕ)) → after front (option_map (λ p. (b ∷ p.0, p.1)) cut) ≡ after (front ++ b ∷ []) cut
after-after front b None = refl
after-after front b (Some p) = ap (λ (t : List ℕ). Some (t, p.1)) (sym (append_assoc front (b ∷ []) p.0))

pub after_none : (cut : Option (List ℕ × List ℕ)) → after [] cut ≡ cut
after_none None = refl
after_none (Some p) = refl

pub goes_on : (c : ℕ) (text : List ℕ) (at : ℕ) (all : Option (List ℕ × List ℕ)) → at < length text → eqb (get_or text at 0) c ≡ false → after (take at text) (first_cut c (drop at text)) ≡ all
    → after (take (at + 1) text) (first_cut c (drop (at + 1) text)) ≡ all
goes_on c text at all lt differs so_far =
    let b = get_or text at 0 in
    let one : first_cut c (drop at text) ≡ option_map (λ p. (b ∷ p.0, p.1)) (first_cut c (drop (at + 1) text)) = rw (drop_more text at 0 lt, differs) refl in
    rw (take_more text at 0 lt) (sym (after-after (take at text) b (first_cut c (drop (at + 1) text))) ∙ ap (after (take at text)) (sym one) ∙ so_far)

pub stops : (c : ℕ) (text : List ℕ) (at : ℕ) (all : Option (List ℕ × List ℕ)) → at < length text → eqb (get_or text at 0) c ≡ true → after (take at text) (first_cut c (drop at text)) ≡ all
    → all ≡ Some (take at text, drop (at + 1) text)
stops c text at all lt same so_far =
    let one : first_cut c (drop at text) ≡ Some ([], drop (at + 1) text) = rw (drop_more text at 0 lt, same) refl in
    sym so_far ∙ ap (after (take at text)) one ∙ ap (λ (t : List ℕ). Some (t, drop (at + 1) text)) (append-nil (take at text))

pub ends : (c : ℕ) (text : List ℕ) (at : ℕ) (all : Option (List ℕ × List ℕ)) → length text ≤ at → after (take at text) (first_cut c (drop at text)) ≡ all → all ≡ None
ends c text at all le so_far = let none : drop at text ≡ [] = drop_all at text le in sym so_far ∙ ap (λ (t : List ℕ). after (take at text) (first_cut c t)) none
