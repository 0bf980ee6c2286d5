-- The names of a store, one after the other.
use Rattle.std.proofs.Common.{ℕ, ◌≡◌, slice_index, ◌<◌, ◌≤◌, ◌+◌, sym, ap, ◌∙◌, List, [], ◌∷◌, ◌++◌, length, map, append_assoc, length-append, arith, refl, true, false}
use Rattle.std.specs.Prelude.{Option, Some, None, IsSome, All, nat_lt}
use Rattle.std.specs.Option.{option_map_or}
use Rattle.std.specs.FinMap.{entries}
use Rattle.std.proofs.lemmas.Bool.{lt-ltb}
use Rattle.std.proofs.lemmas.List.{append-nil}
use Rattle.std.proofs.lemmas.List.Elements.{All-append, All-cons}
use Rattle.program_store.specs.declared.published.Published.{Published}
use Rattle.program_store.specs.Store.{Store, published_at, IsStore}
use Rattle.program_store.proofs.Rising.{Rising, above, above_next, above_all, entries-rising, published-find}
use Rattle.text_parts.specs.Names.{IsName}
use Rattle.generator.specs.Names.{AreNames}
use Rattle.mutator.specs.Mutating.{mutated}
use Rattle.word_stream.specs.Words.{below, rest}
use Rattle.rand_core.specs.Stream.{Stream}
use Rattle.loda_syntax.specs.Programs.{Text}
use Rattle.proposer.specs.Short.{names_of, program_published}

abbrev name_of : ℕ × Published → ℕ
name_of entry = entry.0

abbrev names_above : Store → ℕ → List ℕ
names_above s a = map name_of (above a (entries s))

above_least : (low a : ℕ) (es : List (ℕ × Published)) → Rising low es → a ≤ low → above a es ≡ es
above_least low a [] rising le = refl
above_least low a (e ∷ es) rising le =
    let first = rising.0 in
    let yes : nat_lt a e.0 ≡ true = lt-ltb a e.0 (omega (arith, first)) in
    rw yes (ap (λ (fs : List (ℕ × Published)). e ∷ fs) (above_least e.0 a es rising.1 (omega (arith, first))))

-- these are the names up to the last one
pub record Listed (s : Store) (last : ℕ) (names : List ℕ) : Type 0 where
  pub left : IsStore s → names ++ names_above s last ≡ names_of s
  pub few : length names ≤ last
  pub each : All IsName names
  pub there : All (λ (n : ℕ). IsSome (published_at s n)) names

pub listed_none : (s : Store) → Listed s 0 []
listed_none s = record {
  left = λ kept. ap (map name_of) (above_least 0 0 (entries s) (entries-rising s kept) (omega arith));
  few = omega arith;
  each = λ k d lt. absurd (omega arith);
  there = λ k d lt. absurd (omega arith);
}

is_some : (o : Option Published) → IsSome o → (e : Published) × (o ≡ Some e)
is_some None h = absurd (let z : false ≡ true = h in cc)
is_some (Some e) h = (e, refl)

pub listed_next : (s : Store) (last n : ℕ) (names : List ℕ) → Listed s last names → last < n → IsName n → IsSome (published_at s n)
    → ((k : ℕ) → last < k → k < n → published_at s k ≡ None) → Listed s n (names ++ n ∷ [])
listed_next s last n names so_far lt named found none =
    let few = so_far.few in
    record {
      left = λ kept.
          let e = is_some (published_at s n) found in
          let next = above_next 0 last n e.0 (entries s) (entries-rising s kept) lt (sym (published-find s n) ∙ e.1) (λ k more less. sym (published-find s k) ∙ none k more less) in
          append_assoc names (n ∷ []) (names_above s n) ∙ ap (λ (ns : List ℕ). names ++ ns) (sym (ap (map name_of) next)) ∙ so_far.left kept;
      few = omega (arith, length-append names (n ∷ []), few, lt);
      each = All-append IsName names (n ∷ []) so_far.each (All-cons IsName n [] named (λ k d lt. absurd (omega arith)));
      there = All-append (λ (n : ℕ). IsSome (published_at s n)) names (n ∷ []) so_far.there
          (All-cons (λ (n : ℕ). IsSome (published_at s n)) n [] found (λ k d lt. absurd (omega arith)));
    }

pub listed_all : (s : Store) (last : ℕ) (names : List ℕ) → Listed s last names → IsStore s → ((k : ℕ) → last < k → published_at s k ≡ None)
    → names ≡ names_of s
listed_all s last names so_far kept none =
    sym (append-nil names)
    ∙ ap (λ (ns : List ℕ). names ++ ns) (sym (ap (map name_of) (above_all 0 last (entries s) (entries-rising s kept) (λ k more. sym (published-find s k) ∙ none k more))))
    ∙ so_far.left kept

pub are_names : (s : Store) (last : ℕ) (names : List ℕ) → Listed s last names → last ≤ 999999 → AreNames names
are_names s last names so_far small = let few = so_far.few in record { few = omega (arith, few, small); each = so_far.each }

-- ---- which program is made

-- one of the names was drawn, and this is its program
pub changed_is : (s : Store) (names : List ℕ) (place n : ℕ) (words after : Stream) (e : Published) → published_at s (slice_index names place) ≡ Some e
    → place ≡ below n words → n ≡ length names → after ≡ rest words
    → (mutated names e.program after).0 ≡ (mutated names (program_published s (slice_index names (below (length names) words))) (rest words)).0
changed_is s names place n words after e found drawn count left =
    let at : place ≡ below (length names) words = drawn ∙ ap (λ (m : ℕ). below m words) count in
    let program : e.program ≡ program_published s (slice_index names (below (length names) words)) =
    sym (ap (λ (o : Option Published). option_map_or (λ (e : Published). e.program) o []) found) ∙ ap (λ (k : ℕ). program_published s (slice_index names k)) at in
    ap (λ (w : Stream). (mutated names e.program w).0) left ∙ ap (λ (p : Text). (mutated names p (rest words)).0) program
