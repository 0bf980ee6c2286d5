-- Which store a store file stands for, and which proposals a candidates file, or the first fault of each.
use Rattle.std.specs.Prelude.{ℕ, ◌+◌, List, [], ◌∷◌, find, ◌==◌, ◌&&◌, not, nat_le, nat_lt, if◌then◌else◌, Option, Some, None, Result, Ok, Err, Bool, false}
use Rattle.std.specs.FinMap as map
use Rattle.text_parts.specs.Results.{◌>>=◌}
use Rattle.text_parts.specs.Blanks.{trim_front}
use Rattle.loda_syntax.specs.Programs.{Text}
use Rattle.loda_syntax.specs.Reading.{TextFault, text_read}
use Rattle.program_store.specs.declared.errors.StoreKind.{StoreKind}
use Rattle.program_store.specs.declared.errors.StoreKind.TheVariants.{BadHeader, Repeated, OutOfOrder, BadCount, TooMany, Syntax}
use Rattle.program_store.specs.declared.published.Published.{Published}
use Rattle.program_store.specs.declared.published.Proposal.{Proposal}
use Rattle.program_store.specs.Store.{Store, put_all}
use Rattle.program_store.specs.Sections.{Line, Section, bare, cut_from}
use Rattle.program_store.specs.Headers.{store_header_read, candidate_header_read}
use Rattle.program_store.specs.declared.candidates.TheConstants.{MOST_JOBS}

-- a fault, and the line of the file that it stands in, counted from 1
pub record StoreFault : Type 0 where
  pub line : ℕ
  pub kind : StoreKind

-- this fault at this line
abbrev pub fault : {A : Type 0} → ℕ → StoreKind → Result A StoreFault
fault line kind = Err (record { line = line; kind = kind })

-- a fault that there may be, else what follows
abbrev pub unless_kind : {A : Type 0} → ℕ → Option StoreKind → Result A StoreFault → Result A StoreFault
unless_kind line None next = next
unless_kind line (Some kind) next = fault line kind

-- ---- the lines before the first header

-- whether bytes begin with anything but `;`
abbrev pub is_text : List ℕ → Bool
is_text [] = false
is_text (b ∷ bs) = not (b == 59)

-- whether there is more in the line than blanks and a comment, which begins with `;`
unfoldable pub has_text : List ℕ → Bool
has_text line = is_text (trim_front (bare line))

-- such a line is a bad header
abbrev pub no_header : {A : Type 0} → Option Line → Result A StoreFault → Result A StoreFault
no_header None next = next
no_header (Some line) next = fault line.number BadHeader

-- the fault of the first such line before the first header, else what follows
abbrev pub after_lines : {A : Type 0} → List Line → Result A StoreFault → Result A StoreFault
after_lines before next = no_header (find (λ (line : Line). has_text line.bytes) before) next

-- ---- a section's program

-- a fault of the text behind a header, whose line 1 is the line after the header's
abbrev pub in_file : {A : Type 0} → ℕ → TextFault → Result A StoreFault
in_file header text_fault = fault (header + text_fault.line) (Syntax text_fault.kind)

-- the program, or its fault in the file
abbrev pub program_in_file : ℕ → Result Text TextFault → Result Text StoreFault
program_in_file header (Ok program) = Ok program
program_in_file header (Err text_fault) = in_file header text_fault

-- the program of a section's text, or its fault in the file
unfoldable pub program_read : Section → Result Text StoreFault
program_read section = program_in_file section.line (text_read section.text)

-- ---- a store file

-- what is wrong with a header's name and count, where `last` is the name of the section before it, or 0 where there is none
abbrev pub entry_fault : ℕ → ℕ → ℕ → Option StoreKind
entry_fault last name count = if name == last then Some Repeated else (if nat_lt name last then Some OutOfOrder else (if nat_le 8 count && nat_le count 32768 then None else Some BadCount))

-- the entry of a section by what its header was read as
abbrev pub entry_in_file : ℕ → Section → Option (ℕ × ℕ) → Result (ℕ × Published) StoreFault
entry_in_file last section None = fault section.line BadHeader
entry_in_file last section (Some header) = unless_kind section.line (entry_fault last header.0 header.1) (program_read section >>= λ program. Ok (header.0, record { program = program; checked = header.1 }))

-- the entry of a section, or the first of its faults
unfoldable pub entry_read : ℕ → Section → Result (ℕ × Published) StoreFault
entry_read last section = entry_in_file last section (store_header_read section.header)

-- the entries of the sections, or the first fault
unfoldable pub entries_read : ℕ → List Section → Result (List (ℕ × Published)) StoreFault
entries_read last [] = Ok []
entries_read last (section ∷ sections) = do
  entry ← entry_read last section
  entries ← entries_read entry.0 sections
  Ok (entry ∷ entries)

-- the store of a file's bytes, or the file's first fault
unfoldable pub store_read : List ℕ → Result Store StoreFault
store_read bytes =
    let cut = cut_from 61 1 bytes in
    after_lines cut.before (entries_read 0 cut.sections >>= λ entries. Ok (put_all map.empty entries))

-- ---- a candidates file

-- the proposal of a section by what its header was read as
abbrev pub proposal_in_file : ℕ → Section → Option ℕ → Result Proposal StoreFault
proposal_in_file number section None = fault section.line BadHeader
proposal_in_file number section (Some name) = unless_kind section.line (if nat_lt MOST_JOBS number then Some TooMany else None) (program_read section >>= λ program. Ok (record { name = name; program = program }))

-- the proposal of a section, which is the section of this number, counted from 1, or the first of its faults
unfoldable pub proposal_read : ℕ → Section → Result Proposal StoreFault
proposal_read number section = proposal_in_file number section (candidate_header_read section.header)

-- the proposals of the sections, of which the first has this number, or the first fault
unfoldable pub proposals_read : ℕ → List Section → Result (List Proposal) StoreFault
proposals_read number [] = Ok []
proposals_read number (section ∷ sections) = do
  proposal ← proposal_read number section
  proposals ← proposals_read (number + 1) sections
  Ok (proposal ∷ proposals)

-- the proposals of a file's bytes, or the file's first fault
unfoldable pub candidates_read : List ℕ → Result (List Proposal) StoreFault
candidates_read bytes =
    let cut = cut_from 63 1 bytes in
    after_lines cut.before (proposals_read 1 cut.sections)
