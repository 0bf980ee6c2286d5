-- Reading the sections of a file one after the other, as the loops do.
use Rattle.std.proofs.Common.{◌≡◌, ℕ, ◌+◌, List, [], ◌∷◌, ◌++◌, refl, sym, ap, subst, ◌∙◌, append_assoc, length, length-append, arith}
use Rattle.std.specs.Prelude.{find, Option, Some, None, Result, Ok, Err}
use Rattle.std.specs.Option.{option_map}
use Rattle.std.specs.FinMap as map
use Rattle.std.proofs.lemmas.List.{append-nil}
use Rattle.text_parts.specs.Results.{◌>>=◌}
use Rattle.program_store.specs.declared.errors.StoreKind.TheVariants.{BadHeader}
use Rattle.program_store.specs.declared.errors.StoreError.{StoreError}
use Rattle.program_store.specs.declared.published.Published.{Published}
use Rattle.program_store.specs.declared.published.Proposal.{Proposal}
use Rattle.program_store.specs.Store.{Store, put_all}
use Rattle.program_store.specs.Sections.{Line, Section, Cut, cut_from}
use Rattle.program_store.specs.Files.{StoreFault, fault, no_header, after_lines, entry_read, entries_read, store_read, proposal_read, proposals_read, candidates_read}
use Rattle.program_store.specs.Answers.{ReadsAs}
use Rattle.program_store.proofs.Cutting.{is_found}
use Rattle.program_store.proofs.Sectioned.{Answers-bind}

-- ---- the lines before the first header

not_found : (o : Option Line) → None ≡ option_map (λ (line : Line). line.number) o → o ≡ None
not_found None e = refl
not_found (Some line) e = absurd cc

bad_line : {A : Type 0} (o : Option Line) (n : ℕ) (next : Result A StoreFault) → Some n ≡ option_map (λ (line : Line). line.number) o → no_header o next ≡ fault n BadHeader
bad_line None n next e = absurd cc
bad_line (Some line) n next e = let same : n ≡ line.number = cc in ap (λ n. fault n BadHeader) (sym same)

-- the same cut, of the same bytes from the same line on
pub cut_same : (sign sign' n n' : ℕ) (bytes bytes' : List ℕ) → sign ≡ sign' → n ≡ n' → bytes ≡ bytes' → cut_from sign n bytes ≡ cut_from sign' n' bytes'
cut_same sign sign' n n' bytes bytes' s l b = λ i. cut_from (s i) (l i) (b i)

-- ---- a store file

-- the store with the entries that are still read
abbrev pub puts : Store → Result (List (ℕ × Published)) StoreFault → Result Store StoreFault
puts s read = read >>= λ entries. Ok (put_all s entries)

puts_first : (s : Store) (entry : ℕ × Published) (read : Result (List (ℕ × Published)) StoreFault) → puts s (read >>= λ entries. Ok (entry ∷ entries)) ≡ puts (map.insert s entry.0 entry.1) read
puts_first s entry (Ok entries) = refl
puts_first s entry (Err e) = refl

module _ (bytes rest : List ℕ) (sign n : ℕ) (same : cut_from sign n rest ≡ cut_from 61 1 bytes) where
  pub store_begins : (left : Cut) → None ≡ option_map (λ (line : Line). line.number) (find is_found (cut_from sign n rest).before) → left ≡ record { before = []; sections = (cut_from sign n rest).sections }
      → puts map.empty (entries_read 0 left.sections) ≡ store_read bytes
  unfolding store_read
  store_begins left none kept =
      ap (λ (c : Cut). puts map.empty (entries_read 0 c.sections)) kept
      ∙ sym (ap (λ (c : Cut). after_lines c.before (puts map.empty (entries_read 0 c.sections))) (sym same)
      ∙ ap (λ (o : Option Line). no_header o (puts map.empty (entries_read 0 (cut_from sign n rest).sections))) (not_found (find is_found (cut_from sign n rest).before) none))

  pub store_bad_line : (line : ℕ) → Some line ≡ option_map (λ (line : Line). line.number) (find is_found (cut_from sign n rest).before) → store_read bytes ≡ fault line BadHeader
  unfolding store_read
  store_bad_line line found = ap (λ (c : Cut). after_lines c.before (puts map.empty (entries_read 0 c.sections))) (sym same) ∙ bad_line (find is_found (cut_from sign n rest).before) line _ found

pub one_entry : (s : Store) (last name : ℕ) (e : Published) (section : Section) (before after : List Section) (all : Result Store StoreFault) → before ≡ section ∷ after → entry_read last section ≡ Ok (name, e)
    → puts s (entries_read last before) ≡ all → puts (map.insert s name e) (entries_read name after) ≡ all
unfolding entries_read
one_entry s last name e section before after all cut is so_far =
    let one : entries_read last before ≡ (entries_read name after >>= λ entries. Ok ((name, e) ∷ entries)) = rw (cut, is) refl in
    sym (puts_first s (name, e) (entries_read name after)) ∙ ap (puts s) (sym one) ∙ so_far

pub bad_entry : (s : Store) (last : ℕ) (error : StoreError) (section : Section) (before after : List Section) (all : Result Store StoreFault) → before ≡ section ∷ after → ReadsAs {A = ℕ × Published} (Err error) (entry_read last section)
    → puts s (entries_read last before) ≡ all → ReadsAs {A = Store} (Err error) all
unfolding entries_read
bad_entry s last error section before after all cut h so_far =
    let one : entries_read last before ≡ (entry_read last section >>= λ entry. entries_read entry.0 after >>= λ entries. Ok (entry ∷ entries)) = rw cut refl in
    subst (λ (r : Result Store StoreFault). ReadsAs {A = Store} (Err error) r) (ap (puts s) (sym one) ∙ so_far)
    (Answers-bind error _ _ (Answers-bind error (entry_read last section) _ h))

pub no_entry : (s : Store) (last : ℕ) (sections : List Section) (all : Result Store StoreFault) → sections ≡ [] → puts s (entries_read last sections) ≡ all → all ≡ Ok s
unfolding entries_read
no_entry s last sections all cut so_far =
    let one : entries_read last sections ≡ Ok [] = rw cut refl in
    sym so_far ∙ ap (puts s) one

-- ---- a candidates file

-- the proposals that were read before, and those that are still read
abbrev pub with_front : List Proposal → Result (List Proposal) StoreFault → Result (List Proposal) StoreFault
with_front front read = read >>= λ proposals. Ok (front ++ proposals)

regroup : (front : List Proposal) (proposal : Proposal) (read : Result (List Proposal) StoreFault) → with_front front (read >>= λ proposals. Ok (proposal ∷ proposals)) ≡ with_front (front ++ proposal ∷ []) read
regroup front proposal (Ok proposals) = ap (λ (list : List Proposal). Ok list) (sym (append_assoc front (proposal ∷ []) proposals))
regroup front proposal (Err e) = refl

none_before : (read : Result (List Proposal) StoreFault) → with_front [] read ≡ read
none_before (Ok proposals) = refl
none_before (Err e) = refl

module _ (bytes rest : List ℕ) (sign n : ℕ) (same : cut_from sign n rest ≡ cut_from 63 1 bytes) where
  pub candidates_begin : (left : Cut) → None ≡ option_map (λ (line : Line). line.number) (find is_found (cut_from sign n rest).before) → left ≡ record { before = []; sections = (cut_from sign n rest).sections }
      → with_front [] (proposals_read 1 left.sections) ≡ candidates_read bytes
  unfolding candidates_read
  candidates_begin left none kept =
      ap (λ (c : Cut). with_front [] (proposals_read 1 c.sections)) kept
      ∙ none_before (proposals_read 1 (cut_from sign n rest).sections)
      ∙ sym (ap (λ (c : Cut). after_lines c.before (proposals_read 1 c.sections)) (sym same)
      ∙ ap (λ (o : Option Line). no_header o (proposals_read 1 (cut_from sign n rest).sections)) (not_found (find is_found (cut_from sign n rest).before) none))

  pub candidates_bad_line : (line : ℕ) → Some line ≡ option_map (λ (line : Line). line.number) (find is_found (cut_from sign n rest).before) → candidates_read bytes ≡ fault line BadHeader
  unfolding candidates_read
  candidates_bad_line line found = ap (λ (c : Cut). after_lines c.before (proposals_read 1 c.sections)) (sym same) ∙ bad_line (find is_found (cut_from sign n rest).before) line _ found

pub one_proposal : (front : List Proposal) (number : ℕ) (proposal : Proposal) (section : Section) (before after : List Section) (all : Result (List Proposal) StoreFault) → before ≡ section ∷ after → proposal_read number section ≡ Ok proposal
    → with_front front (proposals_read number before) ≡ all → with_front (front ++ proposal ∷ []) (proposals_read (number + 1) after) ≡ all
unfolding proposals_read
one_proposal front number proposal section before after all cut is so_far =
    let one : proposals_read number before ≡ (proposals_read (number + 1) after >>= λ proposals. Ok (proposal ∷ proposals)) = rw (cut, is) refl in
    sym (regroup front proposal (proposals_read (number + 1) after)) ∙ ap (with_front front) (sym one) ∙ so_far

pub bad_proposal : (front : List Proposal) (number : ℕ) (error : StoreError) (section : Section) (before after : List Section) (all : Result (List Proposal) StoreFault) → before ≡ section ∷ after → ReadsAs {A = Proposal} (Err error) (proposal_read number section)
    → with_front front (proposals_read number before) ≡ all → ReadsAs {A = List Proposal} (Err error) all
unfolding proposals_read
bad_proposal front number error section before after all cut h so_far =
    let one : proposals_read number before ≡ (proposal_read number section >>= λ proposal. proposals_read (number + 1) after >>= λ proposals. Ok (proposal ∷ proposals)) = rw cut refl in
    subst (λ (r : Result (List Proposal) StoreFault). ReadsAs {A = List Proposal} (Err error) r) (ap (with_front front) (sym one) ∙ so_far)
    (Answers-bind error _ _ (Answers-bind error (proposal_read number section) _ h))

pub no_proposal : (front : List Proposal) (number : ℕ) (sections : List Section) (all : Result (List Proposal) StoreFault) → sections ≡ [] → with_front front (proposals_read number sections) ≡ all → all ≡ Ok front
unfolding proposals_read
no_proposal front number sections all cut so_far =
    let one : proposals_read number sections ≡ Ok [] = rw cut refl in
    sym so_far ∙ ap (with_front front) one ∙ ap (λ (list : List Proposal). Ok list) (append-nil front)

pub next_number : (front new : List Proposal) (proposal : Proposal) (sections : List Section) (all : Result (List Proposal) StoreFault) → new ≡ front ++ proposal ∷ [] → with_front (front ++ proposal ∷ []) (proposals_read (length front + 1 + 1) sections) ≡ all
    → with_front new (proposals_read (length new + 1) sections) ≡ all
next_number front new proposal sections all is h =
    let count : length new + 1 ≡ length front + 1 + 1 = omega (arith, ap length is, length-append front (proposal ∷ [])) in
    (λ i. with_front (is i) (proposals_read (count i) sections)) ∙ h
