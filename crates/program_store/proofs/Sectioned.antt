-- What is read of a section, from what is found of its header and its text.
use Rattle.std.proofs.Common.{◌≡◌, ℕ, ◌+◌, ◌≤◌, min, true, false, refl, sym, ap, subst, ◌∙◌, arith}
use Rattle.std.specs.Prelude.{nat_lt, Option, Some, None, Result, Ok, Err}
use Rattle.std.proofs.lemmas.Bool.Decides.{nat_tests}
use Rattle.text_parts.specs.Results.{◌>>=◌}
use Rattle.loda_syntax.specs.Programs.{Text}
use Rattle.program_store.specs.declared.errors.StoreKind.{StoreKind}
use Rattle.program_store.specs.declared.errors.StoreKind.TheVariants.{BadHeader, TooMany}
use Rattle.program_store.specs.declared.errors.StoreError.{StoreError}
use Rattle.program_store.specs.declared.errors.StoreError.TheVariants as errors
use Rattle.program_store.specs.declared.published.Published.{Published}
use Rattle.program_store.specs.declared.published.Proposal.{Proposal}
use Rattle.program_store.specs.Sections.{Section}
use Rattle.program_store.specs.Headers.{capped_header}
use Rattle.program_store.specs.Files.{StoreFault, fault, entry_fault, entry_in_file, proposal_in_file, program_read}
use Rattle.program_store.specs.Answers.{ReadsAs}
use Rattle.program_store.specs.declared.candidates.TheConstants.{MOST_JOBS}
use Rattle.program_store.specs.declared.headers.TheConstants.{PAST_COUNTS}

pub header_none : (h : Option (ℕ × ℕ)) → None ≡ capped_header h → h ≡ None
header_none None e = refl
header_none (Some x) e = absurd cc

header_some : (h : Option (ℕ × ℕ)) (name checked : ℕ) → Some (name, checked) ≡ capped_header h → (count : ℕ) × (h ≡ Some (name, count)) × (checked ≡ min count PAST_COUNTS)
header_some None name checked e = absurd cc
header_some (Some x) name checked e = let same : (name, checked) ≡ (x.0, min x.1 PAST_COUNTS) = cc in (x.1, ap (λ n. Some (n, x.1)) (sym (ap (λ (p : ℕ × ℕ). p.0) same)), ap (λ (p : ℕ × ℕ). p.1) same)

-- a count past the limit is refused as the limit is
fault-capped : (last name count : ℕ) → entry_fault last name (min count PAST_COUNTS) ≡ entry_fault last name count
fault-capped last name count = grind (arith, nat_tests)

counted : (last name checked : ℕ) → entry_fault last name checked ≡ None → checked ≤ 32768
counted last name checked e = grind (arith, nat_tests)

-- an error that answers the first of two readings answers both
pub Answers-bind : {A B : Type 0} (error : StoreError) (read : Result A StoreFault) (next : A → Result B StoreFault) → ReadsAs {A = A} (Err error) read → ReadsAs {A = B} (Err error) (read >>= next)
Answers-bind {A = A} errors.Failed read next h = h
Answers-bind {A = A} (errors.FileTooLarge size) read next h = h
Answers-bind {A = A} (errors.LineTooLong line) read next h = h
Answers-bind {A = A} (errors.Bad line kind) read next h = ap (λ (r : Result A StoreFault). r >>= next) h
Answers-bind {A = A} errors.Memory read next h = h

module _ (last : ℕ) (section : Section) (h : Option (ℕ × ℕ)) where
  pub entry_unread : None ≡ capped_header h → entry_in_file last section h ≡ fault section.line BadHeader
  entry_unread e = ap (entry_in_file last section) (header_none h e)

  pub entry_refused : (name checked : ℕ) (kind : StoreKind) → Some (name, checked) ≡ capped_header h → entry_fault last name checked ≡ Some kind → entry_in_file last section h ≡ fault section.line kind
  entry_refused name checked kind e refused =
      let found = header_some h name checked e in
      let same : entry_fault last name found.0 ≡ Some kind = sym (fault-capped last name found.0) ∙ ap (entry_fault last name) (sym found.2) ∙ refused in
      ap (entry_in_file last section) found.1 ∙ rw same refl

  pub entry_kept : (name checked : ℕ) → Some (name, checked) ≡ capped_header h → entry_fault last name checked ≡ None
      → entry_in_file last section h ≡ (program_read section >>= λ program. Ok (name, record { program = program; checked = checked }))
  entry_kept name checked e kept =
      let found = header_some h name checked e in
      let few = counted last name checked kept in
      let count : found.0 ≡ checked = omega (arith, few, found.2) in
      let same : entry_fault last name found.0 ≡ None = ap (entry_fault last name) count ∙ kept in
      ap (entry_in_file last section) found.1 ∙ rw same (ap (λ n. program_read section >>= λ program. Ok (name, record { program = program; checked = n })) count)

  pub Answers-entry : (name checked : ℕ) (error : StoreError) → Some (name, checked) ≡ capped_header h → entry_fault last name checked ≡ None → ReadsAs {A = Text} (Err error) (program_read section) → ReadsAs {A = ℕ × Published} (Err error) (entry_in_file last section h)
  Answers-entry name checked error e kept h0 = subst (λ (r : Result (ℕ × Published) StoreFault). ReadsAs {A = ℕ × Published} (Err error) r) (sym (entry_kept name checked e kept)) (Answers-bind error (program_read section) _ h0)

  pub entry_whole : (name checked : ℕ) (program : Text) → Some (name, checked) ≡ capped_header h → entry_fault last name checked ≡ None → program_read section ≡ Ok program → entry_in_file last section h ≡ Ok (name, record { program = program; checked = checked })
  entry_whole name checked program e kept is = entry_kept name checked e kept ∙ ap (λ (r : Result Text StoreFault). r >>= λ program. Ok (name, record { program = program; checked = checked })) is

module _ (before : ℕ) (section : Section) (h : Option ℕ) where
  pub proposal_unread : None ≡ h → proposal_in_file (before + 1) section h ≡ fault section.line BadHeader
  proposal_unread e = ap (proposal_in_file (before + 1) section) (sym e)

  pub proposal_refused : (name : ℕ) → Some name ≡ h → before ≡ MOST_JOBS → proposal_in_file (before + 1) section h ≡ fault section.line TooMany
  proposal_refused name e last =
      let more : nat_lt MOST_JOBS (before + 1) ≡ true = grind (arith, nat_tests) in
      ap (proposal_in_file (before + 1) section) (sym e) ∙ rw more refl

  proposal_kept : (name : ℕ) → Some name ≡ h → (before ≡ MOST_JOBS → ⊥) → before ≤ MOST_JOBS → proposal_in_file (before + 1) section h ≡ (program_read section >>= λ program. Ok (record { name = name; program = program }))
  proposal_kept name e other le =
      let few : nat_lt MOST_JOBS (before + 1) ≡ false = grind (arith, nat_tests) in
      ap (proposal_in_file (before + 1) section) (sym e) ∙ rw few refl

  pub proposal_whole : (name : ℕ) (program : Text) → Some name ≡ h → (before ≡ MOST_JOBS → ⊥) → before ≤ MOST_JOBS → program_read section ≡ Ok program → proposal_in_file (before + 1) section h ≡ Ok (record { name = name; program = program })
  proposal_whole name program e other le is = proposal_kept name e other le ∙ ap (λ (r : Result Text StoreFault). r >>= λ program. Ok (record { name = name; program = program })) is

  pub Answers-proposal : (name : ℕ) (error : StoreError) → Some name ≡ h → (before ≡ MOST_JOBS → ⊥) → before ≤ MOST_JOBS → ReadsAs {A = Text} (Err error) (program_read section) → ReadsAs {A = Proposal} (Err error) (proposal_in_file (before + 1) section h)
  Answers-proposal name error e other le h0 = subst (λ (r : Result Proposal StoreFault). ReadsAs {A = Proposal} (Err error) r) (sym (proposal_kept name e other le)) (Answers-bind error (program_read section) _ h0)
