-- The replies to a proposal, with their finished runs and steps.
use Rattle.std.proofs.Common.{ℕ, ◌+◌, ◌*◌, ◌<◌, ◌≤◌, ◌≡◌, refl, sym, ap, subst, ◌∙◌, arith, ℤ, pos, inl, inr, List, [], length, Contains}
use Rattle.std.specs.Prelude.{◌⊎◌, ◌↔◌, max, slice_get, IsTrue, IfSome, IfNone}
use Rattle.std.specs.declared.option.Option.{Option}
use Rattle.std.specs.declared.option.Option.TheVariants.{Some, None}
use Rattle.seq_calls.specs.Frames.{steps_of}
use Rattle.seq_calls.specs.Values.{outcome, Gives}
use Rattle.loda_syntax.specs.Programs.{Text, instrs}
use Rattle.loda_semantics.specs.Exec.{value}
use Rattle.program_store.specs.declared.published.Published.{Published}
use Rattle.program_store.specs.declared.published.Proposal.{Proposal}
use Rattle.program_store.specs.Store.{Store, published_at, programs_of, checked_at, checked_in, after}
use Rattle.seq_calls.specs.declared.outcomes.NodeRun.{NodeRun}
use Rattle.seq_calls.specs.Demand.{ample, InDem, IsReliedOn, LeastCaller}
use Rattle.judge.specs.declared.answer.Got.{Got}
use Rattle.judge.specs.declared.answer.Got.TheVariants as got
use Rattle.judge.specs.declared.answer.Answer.{Answer}
use Rattle.judge.specs.declared.answer.Answer.TheVariants.{Accepted, Unlisted, Cycle, WrongTerm, BrokenDependant, Costlier, NoGain}
use Rattle.judge.specs.Passed.{Terms, got_of, PassesBelow}
use Rattle.judge.specs.Misses.{IsFirstMiss}
use Rattle.judge.specs.Sound.{Sound}
use Rattle.judge.specs.Changes.{IsSoundStore}
use Rattle.judge.specs.Judged.{LeastWith, IsNewChecked, Breaks, Gainless, Enters, Passes, IsJudged}
use Rattle.judge.proofs.Values.{place_within, term_at}
use Rattle.judge.proofs.Keep.{grows}
use Rattle.judge.proofs.Fresh.{judged_new}
use Rattle.demand_table.specs.Replaceable.{AreRuns}
use Rattle.demand_table.specs.Nodes.{IsAscending, ListsDem}
use Rattle.evidence.specs.declared.comparing.Dearer.{Dearer}
use Rattle.evidence.specs.declared.comparing.Compared.TheVariants.{Kept}
use Rattle.evidence.specs.declared.weighing.Weighed.{Weighed}
use Rattle.evidence.specs.Runs.{AreRunsAt, AreFirst, IsFirst}
use Rattle.evidence.specs.Trials.{IsDearerAt, IsLeastDearer, IsLeastOrNone, IsLesserOf, IsCompared, KeepsAt, SameStepsBelow, GivesTerm, AreSpent, AreSpentOnTerms, AreSpentOnDemanded, IsTried, IsWeighed, IsWeighedFor}
use Rattle.evidence.proofs.Weights.{refusal, acceptance, given_values, counted, wrong_term, judged_costlier, judged_no_gain, judged_gain, judged_broken, least_relied, runs_are, runs_new}

pub passed_values : (s : Store) (limit q : ℕ) (p : Text) (row : List ℤ) (old k : ℕ) → IsNewChecked (after s q p) row q limit old k → (x : ℤ) → IsFirst k x → (v : ℤ) × (used : ℕ) × (outcome (after s q p) q x limit ≡ value v used)
passed_values s limit q p row old k (inl all) = given_values s limit q p row k (let e = all.1 in omega (arith, e)) all.0
passed_values s limit q p row old k (inr cut) = given_values s limit q p row k (let l = place_within row k cut.0.0 cut.0.1 in omega (arith, l)) cut.0.3

-- ---- a published name

module _ (s : Store) (limit : ℕ) (proposal : Proposal) (k : ℕ) (e : Published) (there : published_at s proposal.name ≡ Some e) (w : Weighed) where
  pub broken_reply : (at was : ℤ) (now : Got) (caller index : ℕ) → w.answer ≡ BrokenDependant at caller index was now → w.runs ≡ [] → LeastWith (Breaks s limit proposal.name proposal.program) at
      → Gives (outcome (programs_of s) proposal.name at limit) was → now ≡ got_of (outcome (after s proposal.name proposal.program) proposal.name at limit) → LeastCaller s proposal.name at caller index → IsWeighedFor s limit proposal k w
  broken_reply at was now caller index is none least gives got first = λ terms row sound passes.
      refusal s terms limit proposal w (BrokenDependant at caller index was now) is refl none
      (judged_broken s limit proposal.name proposal.program k e there at was now caller index terms row passes least gives got first)

  module _ (first : Option Dearer) (second : Option Dearer) (least : Option Dearer) (lesser : IsLesserOf first second least) (kept : KeepsAt s limit proposal.name proposal.program (InDem s proposal.name))
      (a : IsLeastOrNone s limit proposal.name proposal.program (IsFirst e.checked) first) (b : IsLeastOrNone s limit proposal.name proposal.program (InDem s proposal.name) second) where
    relied : IsLeastOrNone s limit proposal.name proposal.program (IsReliedOn s proposal.name) least
    relied = least_relied s limit proposal.name proposal.program e there first second least lesser a b

    pub costlier_reply : (d : Dearer) → least ≡ Some d → w.answer ≡ Costlier d.at d.was d.now → w.runs ≡ [] → IsWeighedFor s limit proposal k w
    costlier_reply d found is empty = λ terms row sound passes.
        refusal s terms limit proposal w (Costlier d.at d.was d.now) is refl empty
        (judged_costlier s limit proposal.name proposal.program k e there kept terms row passes d
        (subst (λ (o : Option Dearer). IsLeastOrNone s limit proposal.name proposal.program (IsReliedOn s proposal.name) o) found relied))

    module _ (free : least ≡ None) where
      no_dearer : (y : ℤ) → IsReliedOn s proposal.name y → IsDearerAt s limit proposal.name proposal.program y → ⊥
      no_dearer = subst (λ (o : Option Dearer). IsLeastOrNone s limit proposal.name proposal.program (IsReliedOn s proposal.name) o) free relied

      pub no_gain_reply : Gainless s limit proposal.name proposal.program k → w.answer ≡ NoGain → w.runs ≡ [] → IsWeighedFor s limit proposal k w
      no_gain_reply gainless is none = λ terms row sound passes.
          refusal s terms limit proposal w NoGain is refl none (judged_no_gain s limit proposal.name proposal.program k e there kept terms row passes no_dearer gainless)

      pub gain_reply : limit ≤ ample → (Gainless s limit proposal.name proposal.program k → ⊥) → w.answer ≡ Accepted k
          → AreRunsAt (after s proposal.name proposal.program) proposal.name limit (λ x. IsFirst k x ⊎ InDem s proposal.name x) w.runs → IsWeighedFor s limit proposal k w
      gain_reply few gain is runs = λ terms row sound passes.
          acceptance s terms limit proposal w k is (judged_gain s limit proposal.name proposal.program k e there kept terms row passes no_dearer gain)
          (runs_are s limit proposal.name proposal.program k w.runs few (passed_values s limit proposal.name proposal.program row (checked_at s proposal.name) k passes.checks) kept runs)

-- ---- no gain

pub gainless_if : (s : Store) (limit q : ℕ) (p : Text) (checked : ℕ) (e : Published) → published_at s q ≡ Some e → checked ≡ e.checked → length (instrs e.program) ≤ length (instrs p) → SameStepsBelow s limit q p e.checked → Gainless s limit q p checked
gainless_if s limit q p checked e there count size same = (
  count ∙ sym here,
  λ i lt. same i (let h = here in omega (arith, h, lt)),
  λ f at. let g : Some f ≡ Some e = sym at ∙ there in let is : f ≡ e = cc in subst (λ (z : Published). length (instrs z.program) ≤ length (instrs p)) (sym is) size,
)
  where
    here : checked_at s q ≡ e.checked
    here = ap checked_in there

pub same_of_gainless : (s : Store) (limit q : ℕ) (p : Text) (checked : ℕ) (e : Published) → published_at s q ≡ Some e → Gainless s limit q p checked → (checked ≡ e.checked) × (length (instrs e.program) ≤ length (instrs p)) × SameStepsBelow s limit q p e.checked
same_of_gainless s limit q p checked e there g = (g.0 ∙ here, g.2 e there, λ i lt. g.1 i (let h = here in omega (arith, h, lt)))
  where
    here : checked_at s q ≡ e.checked
    here = ap checked_in there

-- ---- what was tried

module _ (s : Store) (limit : ℕ) (proposal : Proposal) (k old : ℕ) (miss : Option Got) (old_is : old ≡ checked_at s proposal.name) where
  pub wrong_reply : (w : Weighed) (g : Got) → miss ≡ Some g → (g ≡ got.OutOfSteps → k < max 8 old) → w.answer ≡ WrongTerm k g → w.runs ≡ []
      → (terms : Terms) (row : List ℤ) → IsTried s terms limit proposal row k miss → IsWeighed s terms limit proposal w
  wrong_reply w g e late is none terms row tried =
      refusal s terms limit proposal w (WrongTerm k g) is refl none
      (wrong_term s terms limit proposal.name proposal.program row k old miss g old_is e tried.enters tried.first late)

  module _ (right : (g : Got) → miss ≡ Some g → (g ≡ got.OutOfSteps) × (max 8 old ≤ k)) where
    pub passing : (terms : Terms) (row : List ℤ) → IsTried s terms limit proposal row k miss → Passes s terms limit proposal.name proposal.program row k
    passing terms row tried = record { enters = tried.enters; checks = counted s limit proposal.name proposal.program row k old miss old_is tried.first right }

    pub growing : (terms : Terms) (row : List ℤ) → IsTried s terms limit proposal row k miss → old ≤ k
    growing terms row tried =
        let h = grows s terms limit proposal.name row k (after s proposal.name proposal.program) tried.sound tried.enters.listed (passing terms row tried).checks in
        let i = old_is in omega (arith, h, i)

    pub new_reply : (w : Weighed) (costs : List ℕ) (runs : List NodeRun) → limit ≤ ample → published_at s proposal.name ≡ None → length costs ≡ k → AreFirst (after s proposal.name proposal.program) proposal.name limit costs runs → w.answer ≡ Accepted k → w.runs ≡ runs
        → (terms : Terms) (row : List ℤ) → IsTried s terms limit proposal row k miss → IsWeighed s terms limit proposal w
    new_reply w costs runs few free count first is same terms row tried =
        let passes = passing terms row tried in
        acceptance s terms limit proposal w k is (judged_new s terms limit proposal.name proposal.program row k passes free)
        (subst (λ (l : List NodeRun). AreRuns s proposal.name proposal.program k l) (sym same)
        (runs_new s limit proposal.name proposal.program k runs few (terms, tried.sound) free (passed_values s limit proposal.name proposal.program row (checked_at s proposal.name) k passes.checks)
        (subst (λ (n : ℕ). AreRunsAt (after s proposal.name proposal.program) proposal.name limit (IsFirst n) runs) count first.frames)))

-- ---- steps

nothing_up : IsAscending []
nothing_up = λ i j a b lt ea eb. absurd cc

pub none_spent : (s : Store) (q limit before now : ℕ) → now ≡ before → AreSpentOnDemanded s q limit before now
none_spent s q limit before now e = record { demanded = []; demands = λ x c. absurd (let l = c.1 in omega (arith, l)); ascending = nothing_up; bound = (let f = e in omega (arith, f)) }

pub demanded_spent : (s : Store) (q limit before now : ℕ) (xs : List ℤ) → ListsDem s q xs → now ≤ before + length xs * limit → AreSpentOnDemanded s q limit before now
demanded_spent s q limit before now xs dem bound = record { demanded = xs; demands = λ x c. (dem.each x).0 c; ascending = dem.ascending; bound = bound }

module _ (s : Store) (terms : Terms) (limit q : ℕ) (p : Text) where
  pub unspent : (before now : ℕ) → now ≡ before → AreSpent s terms limit q p before now
  unspent before now e = record { given = 0; demanded = []; gives = λ i lt. absurd (omega (arith, lt)); demands = λ x c. absurd (let l = c.1 in omega (arith, l)); ascending = nothing_up; bound = (let f = e in omega (arith, f)) }

  add_up : (before mid now a b : ℕ) → mid ≤ before + (a + 1) * limit → now ≤ mid + b * limit → now ≤ before + (a + 1 + b) * limit
  add_up before mid now a b h k = omega (arith, h, k)

  pub spent_both : (row : List ℤ) (before mid now : ℕ) → terms q ≡ Some row → AreSpentOnTerms (after s q p) row q limit before mid → AreSpentOnDemanded s q limit mid now → AreSpent s terms limit q p before now
  spent_both row before mid now listed a b = record {
    given = a.given;
    demanded = b.demanded;
    gives = gives;
    demands = b.demands;
    ascending = b.ascending;
    bound = add_up before mid now a.given (length b.demanded) a.bound b.bound;
  }
    where
      gives : (i : ℕ) → i < a.given → GivesTerm (after s q p) terms limit q i
      gives i lt = let within = a.within in let term = term_at row i (omega (arith, within, lt)) in (row, term.0, listed, term.1, a.gives i term.0 lt term.1)

pub if_some : {A : Type 0} (o : Option A) (a : A) (P : A → Type 0) → o ≡ Some a → IfSome o P → P a
if_some o a P e h = subst (λ (z : Option _). IfSome z P) e h

pub if_none : {A : Type 0} (o : Option A) (P : Type 0) → o ≡ None → IfNone o P → P
if_none o P e h = subst (λ (z : Option _). IfNone z P) e h

pub demanded_spent_by : (s : Store) (q limit before now : ℕ) (xs ys : List ℤ) → ys ≡ xs → ListsDem s q xs → now ≤ before + length ys * limit → AreSpentOnDemanded s q limit before now
demanded_spent_by s q limit before now xs ys e dem bound = demanded_spent s q limit before now ys (subst (λ (l : List ℤ). ListsDem s q l) (sym e) dem) bound

pub moved_tried : (s : Store) (terms : Terms) (limit : ℕ) (proposal : Proposal) (row : List ℤ) (miss : Option Got) (n m : ℕ) → n ≡ m → IsTried s terms limit proposal row n miss → IsTried s terms limit proposal row m miss
moved_tried s terms limit proposal row miss n m e h = subst (λ (k : ℕ). IsTried s terms limit proposal row k miss) e h
