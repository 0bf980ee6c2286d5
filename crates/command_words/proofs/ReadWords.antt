-- The words of the command line: their keys, and their values.
use Rattle.std.proofs.Common.{◌≡◌, ℕ, ◌+◌, Bool, true, false, List, [], ◌∷◌, map, length, drop, refl, sym, ap, subst}
use Rattle.std.specs.Prelude.{Option, Some, None, nat_eq, ◌||◌}
use Rattle.std.specs.Str.{IsCharBoundary}
use Rattle.std.specs.Str.Pattern.{FindsTextPrefix}
use Rattle.std.specs.List.{starts_with, list_any, list_all}
use Rattle.std.proofs.lemmas.Str.Pattern.{starts_text}
use Rattle.command_words.specs.Words.{value_in, optional, has_only}

-- ---- the keys of words

list_any-map : {X Y : Type 0} (p : X → Bool) (h : Y → X) (ys : List Y) → list_any p (map h ys) ≡ list_any (λ y. p (h y)) ys
list_any-map p h [] = refl
list_any-map p h (y ∷ ys) = ap (λ b. p (h y) || b) (list_any-map p h ys)

pub has_only_mapped : {K W : Type 0} (key_text : K → List ℕ) (keys : List K) (word_text : W → List ℕ) (words : List W)
    → has_only (map key_text keys) (map word_text words) ≡ list_all (λ word. list_any (λ key. starts_with nat_eq (word_text word) (key_text key)) keys) words
has_only_mapped key_text keys word_text [] = refl
has_only_mapped key_text keys word_text (word ∷ words) =
    rw (list_any-map (λ key. starts_with nat_eq (word_text word) key) key_text keys, has_only_mapped key_text keys word_text words) refl

-- ---- the value behind a key

pub no_key : (key word : List ℕ) → FindsTextPrefix key word None → value_in key word ≡ None
no_key key word h = rw (← starts_text false key word h) refl

abbrev pub Strips : List ℕ → List ℕ → List ℕ → Type 0
Strips key word value = (n : ℕ) × FindsTextPrefix key word (Some n) × (value ≡ drop n word) × (length value + n ≡ length word)

pub a_key : (key word value : List ℕ) → Strips key word value → value_in key word ≡ Some value
a_key key word value h =
    let here : h.0 ≡ length key = h.1.0 in
    let e : value ≡ drop (length key) word = rw (← here) h.2 in
    let there = starts_text true key word (h.0, h.1, subst (λ (k : ℕ). IsCharBoundary word k) (sym here) h.1.2) in
    rw (← there, ← e) refl

-- ---- a key that may stand once

-- what a value that was found and the values of the words behind it come to
abbrev pub with_found : Option (List ℕ) → List (List ℕ) → Option (Option (List ℕ))
with_found None vs = optional vs
with_found (Some v) [] = Some (Some v)
with_found (Some v) (w ∷ vs) = None
