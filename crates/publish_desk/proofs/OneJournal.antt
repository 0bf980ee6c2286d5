-- One worker's journal is one.
use Rattle.std.proofs.Common.{ℕ, ◌≡◌, refl, sym, ap, subst, ◌∙◌, arith, List, [], ◌∷◌, length}
use Rattle.std.specs.declared.option.Option.TheVariants.{Some, None}
use Rattle.program_store.specs.declared.published.Proposal.{Proposal}
use Rattle.program_store.specs.Store.{Store}
use Rattle.judge.specs.declared.answer.Answer.{Answer}
use Rattle.oeis_terms.specs.Table.{Table, row_of}
use Rattle.judge.specs.Passed.{Terms}
use Rattle.judge.specs.Judged.{IsJudged}
use Rattle.judge.proofs.OneAnswer.{one_answer}
use Rattle.evidence.specs.declared.finding.Finding.{Finding}
use Rattle.evidence.specs.declared.finding.Finding.TheVariants.{Nothing, Judged}
use Rattle.evidence.specs.Findings.{IsTrueFinding}
use Rattle.proposer.specs.Short.{short}
use Rattle.proposer.specs.Proposed.{first_of_list}
use Rattle.proposer.proofs.Chosen.{one_first}
use Rattle.publish_desk.specs.declared.charter.Source.{Source}
use Rattle.publish_desk.specs.declared.charter.Source.TheVariants.{Listed, Seeded}
use Rattle.publish_desk.specs.declared.entry.Entry.{Entry}
use Rattle.publish_desk.specs.History.{IsSingle, replay, version_of, store_at, proposal_of}
use Rattle.publish_desk.specs.Desk.{IsFrom}
use Rattle.publish_desk.specs.OneJournal.{IsOneJournal}

-- ---- each job has one proposal in each store

pub one_proposal : (table : Table) (limit : ℕ) (source : Source) → IsSingle (IsFrom table limit source)
one_proposal table limit (Listed candidates) job s a b h k = h ∙ sym k
one_proposal table limit (Seeded seed) job s a b h k =
    let list = short s table limit seed job in
    one_first s (row_of table) limit (first_of_list list) list a b h k

-- ---- and one finding

one_finding : (s : Store) (terms : Terms) (limit : ℕ) (f g : Finding) → proposal_of f ≡ proposal_of g → IsTrueFinding s terms limit f → IsTrueFinding s terms limit g → f ≡ g
one_finding s terms limit Nothing Nothing e h k = refl
one_finding s terms limit Nothing (Judged q b) e h k = absurd (let z : None ≡ Some q = e in cc)
one_finding s terms limit (Judged p a) Nothing e h k = absurd (let z : Some p ≡ None = e in cc)
one_finding s terms limit (Judged p a) (Judged q b) e h k =
    let z : Some p ≡ Some q = e in
    let same : p ≡ q = cc in
    let there : IsJudged s terms limit p.name p.program b = subst (λ (r : Proposal). IsJudged s terms limit r.name r.program b) (sym same) k in
    ap (λ (c : Answer). Judged p c) (one_answer s terms limit p.name p.program a b h there) ∙ ap (λ (r : Proposal). Judged r b) same

one_entry : (a b : Entry) → a.job ≡ b.job → a.base ≡ b.base → a.finding ≡ b.finding → a ≡ b
one_entry a b i j k =
    ap (λ (n : ℕ). record { job = n; base = a.base; finding = a.finding }) i
    ∙ (ap (λ (n : ℕ). record { job = b.job; base = n; finding = a.finding }) j
    ∙ ap (λ (f : Finding). record { job = b.job; base = b.base; finding = f }) k)

pub one : (opening : Store) (table : Table) (limit : ℕ) (source : Source) (jobs : ℕ) → IsOneJournal opening table limit source jobs
one opening table limit source jobs [] [] size h k i j = refl
one opening table limit source jobs [] (b ∷ bs) size h k i j = absurd (omega (arith, size))
one opening table limit source jobs (a ∷ es) [] size h k i j = absurd (omega (arith, size))
one opening table limit source jobs (a ∷ es) (b ∷ bs) size h k i j = joined (one opening table limit source jobs es bs (omega (arith, size)) h.0 k.0 i.0 j.0)
  where
    joined : es ≡ bs → a ∷ es ≡ b ∷ bs
    joined rest = ap (λ (l : List Entry). a ∷ l) rest ∙ ap (λ (e : Entry). e ∷ bs) (one_entry a b job base (one_finding (replay opening bs) (row_of table) limit a.finding b.finding proposal (subst (λ (l : List Entry). IsTrueFinding (replay opening l) (row_of table) limit a.finding) rest h.1.finding) k.1.finding))
      where
        job : a.job ≡ b.job
        job = i.1 ∙ ap length rest ∙ sym j.1

        base : a.base ≡ b.base
        base = i.2 ∙ ap version_of rest ∙ sym j.2

        proposal : proposal_of a.finding ≡ proposal_of b.finding
        proposal =
            one_proposal table limit source b.job (store_at opening bs b.base) (proposal_of a.finding) (proposal_of b.finding)
            (subst (λ (n : ℕ). IsFrom table limit source n (store_at opening bs b.base) (proposal_of a.finding)) job
            (subst (λ (v : ℕ). IsFrom table limit source a.job (store_at opening bs v) (proposal_of a.finding)) base
            (subst (λ (l : List Entry). IsFrom table limit source a.job (store_at opening l a.base) (proposal_of a.finding)) rest h.1.proposed)))
            k.1.proposed
