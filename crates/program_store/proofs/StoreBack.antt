-- The text of a store is read as that store.
use Rattle.std.proofs.Common.{ℕ, ◌≡◌, ◌<◌, ◌≤◌, ◌⊎◌, inl, inr, Bool, true, false, cond, List, [], ◌∷◌, ◌++◌, map, refl, sym, ap, ◌∙◌, arith}
use Rattle.std.specs.Prelude.{Option, Some, None, Ok}
use Rattle.std.specs.List.{concat}
use Rattle.std.specs.Ordering.{nat_cmp, eq_by_cmp}
use Rattle.std.specs.Cmp.{nat_cmp_total}
use Rattle.std.specs.FinMap as fin
use Rattle.std.specs.FinMap.{find, entries, get-entries, get-empty, get-insert, same_map, nat_cmp-IsAntisymmetric}
use Rattle.std.proofs.lemmas.Bool.Decides.{nat_tests}
use Rattle.loda_syntax.specs.WellFormed.{IsProgram}
use Rattle.loda_syntax.specs.Programs.{instrs}
use Rattle.loda_syntax.specs.Canon.{canon}
use Rattle.loda_syntax.proofs.Round.{reads_back}
use Rattle.program_store.specs.declared.published.Published.{Published}
use Rattle.text_parts.specs.Names.{IsName}
use Rattle.program_store.specs.Store.{Store, published_at, put_all, IsStore}
use Rattle.program_store.specs.Sections.{Cut, is_inner, cut_from}
use Rattle.program_store.specs.Headers.{store_header}
use Rattle.program_store.specs.Files.{entry_fault, entry_read, entries_read, program_read, store_read}
use Rattle.program_store.specs.StoreText.{published_text, store_text, StoreReadsBack}
use Rattle.program_store.proofs.Cutting.{at_header, cut-nil}
use Rattle.program_store.proofs.HeaderBack.{header_back}
use Rattle.program_store.proofs.SectionBack.{entry_begins, entry_cut}
use Rattle.program_store.proofs.Rising.{Rising, find_here, find_there, rising_find, lt_or_le, entries-rising}

abbrev Entries : Type 0
Entries = List (ℕ × Published)

-- ---- entries that a file may have

pub record IsGood (q : ℕ) (e : Published) : Type 0 where
  pub named : IsName q
  pub formed : IsProgram (instrs e.program)
  pub least : 8 ≤ e.checked
  pub greatest : e.checked ≤ 32768

abbrev AllGood : Entries → Type 0
AllGood [] = Unit {0}
AllGood (e ∷ es) = IsGood e.0 e.1 × AllGood es

in_tail : (q : ℕ) (e : Published) (f : ℕ × Published) (fs : Entries) → Rising f.0 fs → find nat_cmp q fs ≡ Some e → (f.0 < q) ⊎ (q ≤ f.0) → find nat_cmp q (f ∷ fs) ≡ Some e
in_tail q e f fs rising found (inl past) = find_there q f fs (λ same. absurd (omega arith)) ∙ found
in_tail q e f fs rising found (inr le) = let none = rising_find f.0 q fs rising le in absurd cc

all_good : (low : ℕ) (es : Entries) → Rising low es → ((q : ℕ) (e : Published) → find nat_cmp q es ≡ Some e → IsGood q e) → AllGood es
all_good low [] rising good = tt
all_good low (f ∷ fs) rising good = (good f.0 f.1 (find_here f.0 f fs refl), all_good f.0 fs rising.1 (λ q e found. good q e (in_tail q e f fs rising.1 found (lt_or_le f.0 q))))

-- ---- the entries are read

no_fault : (last q count : ℕ) → last < q → 8 ≤ count → count ≤ 32768 → entry_fault last q count ≡ None
no_fault last q count lt low high = grind (arith, nat_tests)

entry_back : (last n q : ℕ) (e : Published) → last < q → IsGood q e → entry_read last (record { line = n; header = store_header q e.checked ++ 10 ∷ []; text = canon e.program }) ≡ Ok (q, e)
unfolding entry_read program_read
entry_back last n q e lt good =
    let low = good.least in
    let high = good.greatest in
    let header = header_back q e.checked good.named (omega arith) (omega arith) in
    let fault = no_fault last q e.checked lt low high in
    let program = reads_back e.program good.formed in
    rw (header, fault, program) refl

abbrev text_of_entries : Entries → List ℕ
text_of_entries es = concat (map published_text es)

entries_begin : (es : Entries) → is_inner 61 (text_of_entries es) ≡ false
entries_begin [] = refl
entries_begin (e ∷ es) = entry_begins e.0 e.1 (text_of_entries es)

entries_back : (es : Entries) (last n : ℕ) → Rising last es → AllGood es → entries_read last (cut_from 61 n (text_of_entries es)).sections ≡ Ok es
unfolding entries_read
entries_back [] last n rising good = ap (λ (c : Cut). entries_read last c.sections) (cut-nil 61 n)
entries_back (e ∷ es) last n rising good =
    let high = good.0.greatest in
    let cut = entry_cut n e.0 e.1 (text_of_entries es) good.0.formed (omega arith) (entries_begin es) in
    let one = entry_back last n e.0 e.1 rising.0 good.0 in
    let more = entries_back es e.0 cut.next rising.1 good.1 in
    ap (entries_read last) cut.sections ∙ rw (one, more) refl

-- ---- the store that they make

or_else : Option Published → Option Published → Option Published
or_else None other = other
or_else (Some e) other = Some e

by_name : (same : Bool) (found : Option Published) (e : Published) (old : Option Published) → (same ≡ true → found ≡ None) → or_else found (cond same (Some e) old) ≡ or_else (cond same (Some e) found) old
unfolding or_else
by_name true found e old none = rw (none refl) refl
by_name false found e old none = refl

get-put_all : (s : Store) (low : ℕ) (es : Entries) (q : ℕ) → Rising low es → fin.get (put_all s es) q ≡ or_else (find nat_cmp q es) (fin.get s q)
unfolding or_else
get-put_all s low [] q rising = refl
get-put_all s low (f ∷ fs) q rising =
    get-put_all (fin.insert s f.0 f.1) f.0 fs q rising.1
    ∙ ap (or_else (find nat_cmp q fs)) (get-insert nat_cmp_total s f.0 f.1 q)
    ∙ by_name (eq_by_cmp nat_cmp q f.0) (find nat_cmp q fs) f.1 (fin.get s q) (λ same. rising_find f.0 q fs rising.1 (grind (arith, nat_tests)))

or_nothing : (found : Option Published) → or_else found None ≡ found
unfolding or_else
or_nothing None = refl
or_nothing (Some e) = refl

put_all-entries : (s : Store) → Rising 0 (entries s) → put_all fin.empty (entries s) ≡ s
put_all-entries s rising = same_map nat_cmp_total nat_cmp-IsAntisymmetric _ _ (λ q.
    get-put_all fin.empty 0 (entries s) q rising ∙ ap (or_else (find nat_cmp q (entries s))) (get-empty nat_cmp q) ∙ or_nothing (find nat_cmp q (entries s)) ∙ sym (get-entries s q))

-- ---- the whole text

pub store_back : (s : Store) → IsStore s → StoreReadsBack s
unfolding store_text store_read
store_back s kept counts =
    let rising = entries-rising s kept in
    let found : (q : ℕ) (e : Published) → find nat_cmp q (entries s) ≡ Some e → published_at s q ≡ Some e = λ q e h. get-entries s q ∙ h in
    let good = all_good 0 (entries s) rising (λ q e h.
    record { named = kept.named q e (found q e h); formed = kept.well_formed q e (found q e h); least = counts.least q e (found q e h); greatest = counts.greatest q e (found q e h) }) in
    let text = text_of_entries (entries s) in
    let before : (cut_from 61 1 text).before ≡ [] = at_header 61 1 text (entries_begin (entries s)) in
    let read = entries_back (entries s) 0 1 rising good in
    rw (before, read) (ap (λ (m : Store). Ok m) (put_all-entries s rising))
