-- Pieces and lines by the first cut, and lines without what stands at their end.
use Rattle.std.proofs.Common.{◌≡◌, ℕ, zero, suc, ◌+◌, ◌-◌, ◌<◌, ◌≤◌, Bool, true, false, cond, eqb, List, [], ◌∷◌, ◌++◌, length, take, get_or, refl, sym, ap, ◌∙◌, arith}
use Rattle.std.specs.Prelude.{Option, Some, None}
use Rattle.std.specs.Option.{option_map}
use Rattle.std.proofs.lemmas.List.{take_more}
use Rattle.text_parts.specs.Blanks.{is_blank, trim_back}
use Rattle.oeis_terms.specs.Cut.{first_cut, Pieces, pieces, with_byte, lines}

abbrev pub cut_pieces : ℕ → List ℕ → Option (List ℕ × List ℕ) → Pieces
cut_pieces c bs None = record { ended = []; rest = bs }
cut_pieces c bs (Some p) = record { ended = p.0 ∷ (pieces c p.1).ended; rest = (pieces c p.1).rest }

with_cut : (c b : ℕ) (bs : List ℕ) (cut : Option (List ℕ × List ℕ)) (p : Pieces) → p ≡ cut_pieces c bs cut
    → with_byte b p.ended p.rest ≡ cut_pieces c (b ∷ bs) (option_map (λ q. (b ∷ q.0, q.1)) cut)
with_cut c b bs None p e = rw e refl
with_cut c b bs (Some q) p e = rw e refl

cut_step : (c b : ℕ) (bs : List ℕ) (same : Bool) → pieces c bs ≡ cut_pieces c bs (first_cut c bs)
    → cond same (record { ended = [] ∷ (pieces c bs).ended; rest = (pieces c bs).rest }) (with_byte b (pieces c bs).ended (pieces c bs).rest)
    ≡ cut_pieces c (b ∷ bs) (cond same (Some ([], bs)) (option_map (λ p. (b ∷ p.0, p.1)) (first_cut c bs)))
cut_step c b bs true e = refl
cut_step c b bs false e = with_cut c b bs (first_cut c bs) (pieces c bs) e

pub pieces-cut : (c : ℕ) (bs : List ℕ) → pieces c bs ≡ cut_pieces c bs (first_cut c bs)
unfolding pieces
pieces-cut c [] = refl
pieces-cut c (b ∷ bs) = cut_step c b bs (eqb b c) (pieces-cut c bs)

abbrev pub cut_lines : List ℕ → Option (List ℕ × List ℕ) → List (List ℕ)
cut_lines text None = text ∷ []
cut_lines text (Some p) = p.0 ∷ lines p.1

pub lines-cut : (text : List ℕ) (cut : Option (List ℕ × List ℕ)) → cut ≡ first_cut 10 text → lines text ≡ cut_lines text cut
unfolding lines
lines-cut text None e = let is : pieces 10 text ≡ cut_pieces 10 text None = pieces-cut 10 text ∙ ap (cut_pieces 10 text) (sym e) in rw is refl
lines-cut text (Some p) e = let is : pieces 10 text ≡ cut_pieces 10 text (Some p) = pieces-cut 10 text ∙ ap (cut_pieces 10 text) (sym e) in rw is refl
