-- The entries that lead from one store to another, with their programs and counts.
use Rattle.std.proofs.Common.{ℕ, zero, suc, ◌≡◌, ◌≢◌, refl, sym, ap, arith, List, [], ◌∷◌, Contains}
use Rattle.loda_syntax.specs.Programs.{Text}
use Rattle.program_store.specs.Store.{Store, put_in}
use Rattle.judge.specs.declared.answer.Answer.TheVariants.{Accepted}
use Rattle.judge.specs.Passed.{Terms}
use Rattle.judge.specs.Judged.{IsJudged}
use Rattle.carry_over.specs.Stores.{ComesBy}

pub record Put : Type 0 where
  pub name : ℕ
  pub program : Text
  pub checked : ℕ

abbrev pub after_put : Store → Put → Store
after_put s e = put_in s e.name e.program e.checked

-- the second store comes from the first by these entries
abbrev pub ComesByPuts : Terms → ℕ → Store → List Put → Store → Type 0
ComesByPuts terms limit s [] s2 = s2 ≡ s
ComesByPuts terms limit s (e ∷ es) s2 = IsJudged s terms limit e.name e.program (Accepted e.checked) × ComesByPuts terms limit (after_put s e) es s2

abbrev pub put_names : List Put → List ℕ
put_names [] = []
put_names (e ∷ es) = e.name ∷ put_names es

pub entries_of : (terms : Terms) (limit : ℕ) (s : Store) (names : List ℕ) (s2 : Store) → ComesBy terms limit s names s2
    → (es : List Put) × ComesByPuts terms limit s es s2 × (put_names es ≡ names)
entries_of terms limit s [] s2 h = ([], h, refl)
entries_of terms limit s (r ∷ rs) s2 h =
    let rest = entries_of terms limit (put_in s r h.0 h.1) rs s2 h.3 in
    (record { name = r; program = h.0; checked = h.1 } ∷ rest.0, (h.2, rest.1), ap (λ (l : List ℕ). r ∷ l) rest.2)

-- no entry has the name
abbrev pub IsApart : ℕ → List Put → Type 0
IsApart r [] = Unit {0}
IsApart r (e ∷ es) = (r ≢ e.name) × IsApart r es

pub apart_of : (r : ℕ) (es : List Put) → (Contains (put_names es) r → ⊥) → IsApart r es
apart_of r [] h = tt
apart_of r (e ∷ es) h = (λ is. h (zero, omega arith, sym is), apart_of r es (λ c. h (suc c.0, (let lt = c.1 in omega (arith, lt)), c.2)))
