-- The accepted entries of a legal journal since a version lead from its store at that version to its present one.
use Rattle.std.proofs.Common.{ℕ, ◌+◌, ◌≤◌, ◌≡◌, refl, sym, ap, subst, ◌∙◌, arith, Bool, true, false, eqb, nat_lt, List, [], ◌∷◌, ◌++◌, length, append-nil}
use Rattle.std.specs.Prelude.{if◌then◌else◌}
use Rattle.loda_syntax.specs.Programs.{Text}
use Rattle.program_store.specs.declared.published.Proposal.{Proposal}
use Rattle.program_store.specs.Store.{Store, put_in}
use Rattle.judge.specs.declared.answer.Answer.{Answer}
use Rattle.judge.specs.declared.answer.Answer.TheVariants.{Accepted, Unlisted, Cycle, WrongTerm, BrokenDependant, Costlier, NoGain}
use Rattle.judge.specs.Passed.{Terms}
use Rattle.judge.specs.Judged.{IsJudged}
use Rattle.evidence.specs.declared.change.Change.{Change}
use Rattle.evidence.specs.declared.finding.Finding.{Finding}
use Rattle.evidence.specs.declared.finding.Finding.TheVariants.{Nothing, Judged}
use Rattle.evidence.specs.Findings.{IsTrueFinding}
use Rattle.carry_over.specs.Stores.{ComesBy}
use Rattle.carry_over.specs.Changed.{changed_names}
use Rattle.carry_over.proofs.Touching.{names_append}
use Rattle.publish_desk.specs.declared.entry.Entry.{Entry}
use Rattle.publish_desk.specs.History.{OriginRule, store_after, rise, replay, version_of, store_at, change_at, changes_after, IsLegal}
use Rattle.publish_desk.proofs.Publish.{rise_small}
use Rattle.publish_desk.proofs.Changes.{none_after}

-- ---- one more entry

comes_more : (terms : Terms) (limit : ℕ) (s : Store) (names : List ℕ) (s1 : Store) → ComesBy terms limit s names s1
    → (r : ℕ) (p : Text) (k : ℕ) → IsJudged s1 terms limit r p (Accepted k) → ComesBy terms limit s (names ++ r ∷ []) (put_in s1 r p k)
comes_more terms limit s [] s1 h r p k j =
    (p, k, subst (λ (z : Store). IsJudged z terms limit r p (Accepted k)) h j, ap (λ (z : Store). put_in z r p k) h)
comes_more terms limit s (q ∷ qs) s1 h r p k j = (h.0, h.1, h.2, comes_more terms limit (put_in s q h.0 h.1) qs s1 h.3 r p k j)

module _ (terms : Terms) (limit : ℕ) (s : Store) (cs : List Change) (s1 : Store) (comes : ComesBy terms limit s (changed_names cs) s1) (at : ℕ) where
  -- the changes lead to the store after the finding
  abbrev ComesOn : Finding → Type 0
  ComesOn f = ComesBy terms limit s (changed_names (cs ++ change_at at f)) (store_after f s1)

  none_more : ComesBy terms limit s (changed_names (cs ++ [])) s1
  none_more = subst (λ (l : List Change). ComesBy terms limit s (changed_names l) s1) (sym (append-nil cs)) comes

  finding_more : (f : Finding) → IsTrueFinding s1 terms limit f → ComesOn f
  finding_more Nothing h = none_more
  finding_more (Judged p (Accepted checked)) j =
      subst (λ (l : List ℕ). ComesBy terms limit s l (put_in s1 p.name p.program checked)) (sym (names_append cs (record { at = at; name = p.name } ∷ [])))
      (comes_more terms limit s (changed_names cs) s1 comes p.name p.program checked j)
  finding_more (Judged p Unlisted) j = none_more
  finding_more (Judged p (Cycle through)) j = none_more
  finding_more (Judged p (WrongTerm index g)) j = none_more
  finding_more (Judged p (BrokenDependant a caller index was now)) j = none_more
  finding_more (Judged p (Costlier a was now)) j = none_more
  finding_more (Judged p NoGain) j = none_more

-- ---- the journal

module _ (opening : Store) (terms : Terms) (limit : ℕ) (origin : OriginRule) (jobs : ℕ) (v : ℕ) where
  abbrev Lead : List Entry → Store → List Change → Type 0
  Lead journal s cs = ComesBy terms limit s (changed_names cs) (replay opening journal)

  pub changes_lead : (journal : List Entry) → IsLegal opening terms limit origin jobs journal → v ≤ version_of journal
      → ComesBy terms limit (store_at opening journal v) (changed_names (changes_after v journal)) (replay opening journal)
  changes_lead [] legal le = refl
  changes_lead (e ∷ earlier) legal le = by_version (λ up. changes_lead earlier legal.0 up) (eqb (version_of (e ∷ earlier)) v) refl
    where
      -- the present version
      now : eqb (version_of (e ∷ earlier)) v ≡ true → Lead (e ∷ earlier) (replay opening (e ∷ earlier)) (changes_after v (e ∷ earlier))
      now t =
          let is : version_of (e ∷ earlier) ≡ v = grind arith in
          subst (λ (cs : List Change). Lead (e ∷ earlier) (replay opening (e ∷ earlier)) cs) (sym (none_after v (e ∷ earlier) (omega (arith, is)))) refl

      -- an earlier one
      before : eqb (version_of (e ∷ earlier)) v ≡ false → (v ≤ version_of earlier → Lead earlier (store_at opening earlier v) (changes_after v earlier)) → Lead (e ∷ earlier) (store_at opening earlier v) (changes_after v (e ∷ earlier))
      before t go =
          let not : version_of (e ∷ earlier) ≡ v → ⊥ = (λ is. let y : eqb (version_of (e ∷ earlier)) v ≡ true = grind arith in let z : false ≡ true = sym t ∙ y in cc) in
          let few = rise_small e.finding in
          let up : v ≤ version_of earlier = grind (arith, few, le, not) in
          let test : nat_lt (version_of earlier) v ≡ false = grind (arith, up) in
          let is : changes_after v earlier ++ change_at (length earlier) e.finding ≡ changes_after v (e ∷ earlier)
          = ap (λ (b : Bool). if b then [] else changes_after v earlier ++ change_at (length earlier) e.finding) (sym test) in
          subst (λ (cs : List Change). Lead (e ∷ earlier) (store_at opening earlier v) cs) is
          (finding_more terms limit (store_at opening earlier v) (changes_after v earlier) (replay opening earlier) (go up) (length earlier) e.finding legal.1.finding)

      by_version : (v ≤ version_of earlier → Lead earlier (store_at opening earlier v) (changes_after v earlier)) → (b : Bool) → eqb (version_of (e ∷ earlier)) v ≡ b → Lead (e ∷ earlier) (if b then replay opening (e ∷ earlier) else store_at opening earlier v) (changes_after v (e ∷ earlier))
      by_version go true t = now t
      by_version go false t = before t go
