-- The first that is accepted, else the first, else none, is one.
use Rattle.std.proofs.Common.{ℕ, ◌≡◌, sym, ◌∙◌, inl, inr, List, [], ◌∷◌}
use Rattle.std.specs.declared.option.Option.{Option}
use Rattle.program_store.specs.declared.published.Proposal.{Proposal}
use Rattle.program_store.specs.Store.{Store}
use Rattle.judge.specs.Passed.{Terms}
use Rattle.proposer.specs.Proposed.{IsFirstAccepted}

pub one_first : (s : Store) (terms : Terms) (limit : ℕ) (default : Option Proposal) (list : List Proposal) (a b : Option Proposal)
    → IsFirstAccepted s terms limit default list a → IsFirstAccepted s terms limit default list b → a ≡ b
one_first s terms limit default [] a b h k = h ∙ sym k
one_first s terms limit default (p ∷ ps) a b (inl h) (inl k) = h.1 ∙ sym k.1
one_first s terms limit default (p ∷ ps) a b (inl h) (inr k) = absurd (k.0 h.0)
one_first s terms limit default (p ∷ ps) a b (inr h) (inl k) = absurd (h.0 k.0)
one_first s terms limit default (p ∷ ps) a b (inr h) (inr k) = one_first s terms limit default ps a b h.1 k.1
