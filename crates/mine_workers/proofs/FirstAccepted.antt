-- The first proposal of a list that is accepted, as far as the list was tried.
use Rattle.std.proofs.Common.{ℕ, ◌+◌, ◌<◌, ◌≤◌, ◌≡◌, sym, ap, subst, ◌∙◌, inl, inr, List, [], ◌∷◌, length, drop, get_or, arith, Bool, true, false}
use Rattle.std.specs.Prelude.{All}
use Rattle.std.specs.List.{AllByRecursion}
use Rattle.std.proofs.lemmas.List.Elements.{All-from_recursion, recursion_from_All}
use Rattle.std.specs.declared.option.Option.{Option}
use Rattle.std.specs.declared.option.Option.TheVariants.{Some, None}
use Rattle.std.proofs.lemmas.List.{drop_more, drop_all}
use Rattle.program_store.specs.declared.published.Proposal.{Proposal}
use Rattle.program_store.specs.Store.{Store}
use Rattle.judge.specs.declared.answer.Answer.TheVariants.{Accepted}
use Rattle.judge.specs.Passed.{Terms}
use Rattle.judge.specs.Judged.{IsJudged}
use Rattle.judge.proofs.OneAnswer.{one_answer}
use Rattle.evidence.specs.declared.finding.Finding.{Finding}
use Rattle.evidence.specs.declared.finding.Finding.TheVariants.{Nothing, Judged}
use Rattle.evidence.specs.Findings.{IsTrueFinding}
use Rattle.proposer.specs.Proposed.{IsAccepted, IsFirstAccepted, IsChosen}
use Rattle.publish_desk.specs.History.{proposal_of}
use Rattle.mine_workers.specs.Accepting.{IsAcceptedFinding}

module _ (s : Store) (terms : Terms) (limit : ℕ) where
  -- ---- what a finding tells of its proposal

  pub accepted : (f : Finding) (p : Proposal) → IsTrueFinding s terms limit f → proposal_of f ≡ Some p → IsAcceptedFinding f → IsAccepted s terms limit p
  accepted f p told about h =
      let there : IsTrueFinding s terms limit (Judged h.0 (Accepted h.1)) = subst (IsTrueFinding s terms limit) h.2 told in
      let same : Some h.0 ≡ Some p = sym (ap proposal_of h.2) ∙ about in
      let is : h.0 ≡ p = cc in
      subst (IsAccepted s terms limit) is (h.1, there)

  -- judging has one answer
  pub refused : (f : Finding) (p : Proposal) → IsTrueFinding s terms limit f → proposal_of f ≡ Some p → (IsAcceptedFinding f → ⊥) → IsAccepted s terms limit p → ⊥
  refused Nothing p told about h a = let e : None ≡ Some p = about in cc
  refused (Judged q answer) p told about h a =
      let same : Some q ≡ Some p = about in
      let is : p ≡ q = cc in
      let there : IsJudged s terms limit q.name q.program (Accepted a.0) = subst (λ (r : Proposal). IsJudged s terms limit r.name r.program (Accepted a.0)) is a.1 in
      h (q, a.0, ap (λ (b : _). Judged q b) (one_answer s terms limit q.name q.program answer (Accepted a.0) told there))

  -- the same, by a test
  module _ (f g : Finding) (p : Proposal) (b : Bool) (test : (b ≡ true → IsAcceptedFinding g) × (IsAcceptedFinding g → b ≡ true)) (is : g ≡ f) (told : IsTrueFinding s terms limit f) (about : proposal_of f ≡ Some p) where
    pub accepted_by : b ≡ true → IsAccepted s terms limit p
    accepted_by e = accepted f p told about (subst IsAcceptedFinding is (test.0 e))

    pub refused_by : b ≡ false → IsAccepted s terms limit p → ⊥
    refused_by e = refused f p told about (λ h. let clash : false ≡ true = sym e ∙ test.1 (subst IsAcceptedFinding (sym is) h) in cc)

  -- ---- a list

  -- what is chosen of the rest of the list is chosen of the whole
  abbrev pub IsRest : Option Proposal → List Proposal → ℕ → Type 0
  IsRest default list i = (o : Option Proposal) → IsFirstAccepted s terms limit default (drop i list) o → IsFirstAccepted s terms limit default list o

  module _ (default : Option Proposal) (list : List Proposal) (i : ℕ) (rest : IsRest default list i) where
    module _ (p : Proposal) (lt : i < length list) (is : p ≡ get_or list i p) where
      here : drop i list ≡ p ∷ drop (i + 1) list
      here = drop_more list i p lt ∙ ap (λ (x : Proposal). x ∷ drop (i + 1) list) (sym is)

      pub rest_more : (IsAccepted s terms limit p → ⊥) → IsRest default list (i + 1)
      rest_more refuses = λ o h. rest o (subst (λ (l : List Proposal). IsFirstAccepted s terms limit default l o) (sym here) (inr (refuses, h)))

      pub rest_accepted : (o : Option Proposal) → IsAccepted s terms limit p → o ≡ Some p → IsFirstAccepted s terms limit default list o
      rest_accepted o accepts e = rest o (subst (λ (l : List Proposal). IsFirstAccepted s terms limit default l o) (sym here) (inl (accepts, e)))

    pub rest_none : (o : Option Proposal) → length list ≤ i → o ≡ default → IsFirstAccepted s terms limit default list o
    rest_none o le e = rest o (subst (λ (l : List Proposal). IsFirstAccepted s terms limit default l o) (sym (drop_all i list le)) e)

  -- ---- a list with a first member

  module _ (list : List Proposal) (head : Proposal) (tail : List Proposal) (split : list ≡ head ∷ tail) (o : Option Proposal) where
    pub head_chosen : IsAccepted s terms limit head → o ≡ Some head → IsChosen s terms limit list o
    head_chosen accepts e = subst (λ (l : List Proposal). IsChosen s terms limit l o) (sym split) (inl (accepts, e))

    pub tail_chosen : (IsAccepted s terms limit head → ⊥) → IsFirstAccepted s terms limit (Some head) tail o → IsChosen s terms limit list o
    tail_chosen refuses h = subst (λ (l : List Proposal). IsChosen s terms limit l o) (sym split) (inr (refuses, h))

  pub none_chosen : (list : List Proposal) (o : Option Proposal) → length list ≡ 0 → o ≡ None → IsChosen s terms limit list o
  none_chosen [] o size e = e
  none_chosen (p ∷ ps) o size e = absurd (let z : length (p ∷ ps) ≡ 0 = size in omega (arith, z))

-- what holds of each member holds of the first and of the others
pub each_of : (P : Proposal → Type 0) (list : List Proposal) (head : Proposal) (tail : List Proposal) → list ≡ head ∷ tail → All P list → P head × All P tail
each_of P list head tail split h =
    let each : AllByRecursion P (head ∷ tail) = recursion_from_All P (head ∷ tail) (subst (All P) split h) in
    (each.0, All-from_recursion P tail each.1)
