-- What a command writes is one function of the words and the files.
use Rattle.std.proofs.Common.{ℕ, ◌≡◌, refl, sym, ap, subst, ◌∙◌, arith, List, [], ◌∷◌, length}
use Rattle.std.specs.Prelude.{reverse}
use Rattle.std.proofs.lemmas.List.{length-reverse, reverse-reverse}
use Rattle.program_store.specs.Store.{Store}
use Rattle.publish_desk.specs.declared.charter.Charter.{Charter}
use Rattle.publish_desk.specs.declared.entry.Entry.{Entry}
use Rattle.publish_desk.specs.Desk.{Desk, IsKept, history, origin_of, terms_of}
use Rattle.publish_desk.specs.History.{replay, version_of, IsLegal, IsInOrder}
use Rattle.publish_desk.specs.Report.{report}
use Rattle.loda_mine.specs.declared.files.Contents.{Contents}
use Rattle.command_words.specs.declared.request.Task.{Task}
use Rattle.command_words.specs.declared.request.Task.TheVariants.{Publish, Check, Eval, Made, Mine}
use Rattle.command_words.specs.declared.request.Kind.{Kind}
use Rattle.command_words.specs.declared.request.Kind.TheVariants as kinds
use Rattle.command_words.specs.Words.{Request, IsPlain}
use Rattle.loda_mine.specs.Answer.{IsDecided, IsMined, Writes, WritesMade, made_contents}
use Rattle.loda_mine.specs.Outputs.{summary_text}
use Rattle.loda_mine.specs.Run.{HasOneOutput}
use Rattle.publish_desk.proofs.OneJournal.{one}
use Rattle.loda_mine.proofs.Journals.{charter_of, seeded_charter, as_many}

-- a desk of this charter with so many entries, in order
record IsOrdered (c : Charter) (n : ℕ) (d : Desk) : Type 0 where
  charter : d.charter ≡ c
  kept : IsKept d
  in_order : IsInOrder (history d)
  size : length d.journal ≡ n

module _ (c : Charter) (n : ℕ) (d b : Desk) (h : IsOrdered c n d) (k : IsOrdered c n b) where
  -- what the charter says of a desk's journal
  legal_by : (e : Desk) → IsOrdered c n e → IsLegal c.opening (terms_of c) c.limit (origin_of c) c.jobs (history e)
  legal_by e i = subst (λ (z : Charter). IsLegal z.opening (terms_of z) z.limit (origin_of z) z.jobs (history e)) i.charter i.kept.legal

  store_by : (e : Desk) → IsOrdered c n e → e.store ≡ replay c.opening (history e)
  store_by e i = i.kept.store ∙ ap (λ (z : Charter). replay z.opening (history e)) i.charter

  same_history : history d ≡ history b
  same_history =
      one c.opening c.terms c.limit c.source c.jobs (history d) (history b) (length-reverse d.journal ∙ h.size ∙ sym k.size ∙ sym (length-reverse b.journal))
      (legal_by d h) (legal_by b k) h.in_order k.in_order

  same_journal : d.journal ≡ b.journal
  same_journal = sym (reverse-reverse d.journal) ∙ ap reverse same_history ∙ reverse-reverse b.journal

  same_version : d.version ≡ b.version
  same_version = h.kept.version ∙ ap version_of same_history ∙ sym k.kept.version

  same_store : d.store ≡ b.store
  same_store = store_by d h ∙ ap (replay c.opening) same_history ∙ sym (store_by b k)

  one_report : report d.journal d.version d.store ≡ report b.journal b.version b.store
  one_report =
      ap (λ j. report j d.version d.store) same_journal ∙ ap (λ v. report b.journal v d.store) same_version ∙ ap (report b.journal b.version) same_store

  one_summary : (names rows : ℕ) → summary_text names rows d.journal d.version ≡ summary_text names rows b.journal b.version
  one_summary names rows = ap (λ j. summary_text names rows j d.version) same_journal ∙ ap (λ v. summary_text names rows b.journal v) same_version

decided_order : (contents : Contents) (limit : ℕ) (d : Desk) → IsDecided contents limit d → IsOrdered (charter_of contents limit) (length contents.candidates) d
decided_order contents limit d h = record { charter = h.charter; kept = h.kept; in_order = h.in_order; size = h.whole }

-- one worker has as many entries as there are jobs
mined_order : (contents : Contents) (limit seed jobs : ℕ) (d : Desk) → IsMined contents limit seed jobs 1 d → IsOrdered (seeded_charter contents limit seed jobs) jobs d
mined_order contents limit seed jobs d h = record {
  charter = h.charter;
  kept = h.kept;
  in_order = h.in_order refl;
  size = as_many d h.kept (h.in_order refl) h.whole ∙ ap (λ (c : Charter). c.jobs) h.charter;
}

one_made : (kind : Kind) (n limit : ℕ) (a b : List ℕ) → WritesMade kind n limit a → WritesMade kind n limit b → a ≡ b
one_made kinds.Terms n limit a b h k = h ∙ sym k
one_made kinds.Store n limit a b h k = h ∙ sym k
one_made kinds.Candidates n limit a b h k = h ∙ sym k
one_made kinds.Run n limit a b h k =
    let inside = made_contents n in
    let c = charter_of inside limit in
    let size = length inside.candidates in
    h.2 ∙ one_summary c size h.0 k.0 (decided_order inside limit h.0 h.1) (decided_order inside limit k.0 k.1) n _ ∙ sym k.2

-- one worker
abbrev IsAlone : Task → Type 0
IsAlone (Mine seed jobs workers) = workers ≡ 1
IsAlone task = Unit {0}

one_mined : (contents : Contents) (limit seed jobs workers : ℕ) (a b : List ℕ) → workers ≡ 1 → Writes (Mine seed jobs workers) limit contents a → Writes (Mine seed jobs workers) limit contents b → a ≡ b
one_mined contents limit seed jobs workers a b alone h k =
    let c = seeded_charter contents limit seed jobs in
    let left : IsMined contents limit seed jobs 1 h.0 = subst (λ (n : ℕ). IsMined contents limit seed jobs n h.0) alone h.1 in
    let right : IsMined contents limit seed jobs 1 k.0 = subst (λ (n : ℕ). IsMined contents limit seed jobs n k.0) alone k.1 in
    h.2 ∙ one_report c jobs h.0 k.0 (mined_order contents limit seed jobs h.0 left) (mined_order contents limit seed jobs k.0 right) ∙ sym k.2

one_written : (task : Task) (limit : ℕ) (contents : Contents) (a b : List ℕ) → IsAlone task → Writes task limit contents a → Writes task limit contents b → a ≡ b
one_written Publish limit contents a b alone h k =
    let c = charter_of contents limit in
    let size = length contents.candidates in
    h.2 ∙ one_report c size h.0 k.0 (decided_order contents limit h.0 h.1) (decided_order contents limit k.0 k.1) ∙ sym k.2
one_written Check limit contents a b alone h k = h.1 ∙ sym k.1
one_written (Eval name arg) limit contents a b alone h k = h.2 ∙ sym k.2
one_written (Made n kind) limit contents a b alone h k = one_made kind n limit a b h k
one_written (Mine seed jobs workers) limit contents a b alone h k = one_mined contents limit seed jobs workers a b alone h k

plain_alone : (task : Task) → IsPlain task → IsAlone task
plain_alone Publish h = tt
plain_alone Check h = tt
plain_alone (Eval name arg) h = tt
plain_alone (Made n kind) h = tt
plain_alone (Mine seed jobs workers) h = absurd h

-- what a command without workers writes
pub one_output : (request : Request) (contents : Contents) → IsPlain request.task → HasOneOutput request contents
one_output request contents plain a b h k = one_written request.task request.limit contents a b (plain_alone request.task plain) h k

-- what `mine` writes with one worker
pub one_mine_output : (request : Request) (contents : Contents) (seed jobs : ℕ) → request.task ≡ Mine seed jobs 1 → HasOneOutput request contents
one_mine_output request contents seed jobs is a b h k = one_written request.task request.limit contents a b (subst IsAlone (sym is) refl) h k
