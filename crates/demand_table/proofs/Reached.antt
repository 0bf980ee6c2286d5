-- Names that join the lists under the names that they call.
use Rattle.std.proofs.Common.{ℕ, ◌≡◌, ◌⊎◌, inl, inr, refl, sym, ap, subst, ◌∙◌, Bool, true, false, List, [], ◌∷◌, ◌++◌, Contains, arith}
use Rattle.std.specs.Prelude.{not}
use Rattle.std.specs.declared.option.Option.{Option}
use Rattle.std.specs.declared.option.Option.TheVariants.{Some}
use Rattle.std.specs.declared.cmp.Ordering.{Ordering}
use Rattle.std.specs.declared.cmp.Ordering.TheVariants.{Less, Equal, Greater}
use Rattle.std.specs.Option.{option_map_or}
use Rattle.std.specs.Ordering.{nat_cmp, ordering_then, is_eq}
use Rattle.std.specs.FinMap as map
use Rattle.std.specs.FinMap.{gets, nat_cmp-IsAntisymmetric}
use Rattle.std.specs.BTreeMap as tree
use Rattle.std.specs.BTreeSet as sorted
use Rattle.std.specs.BTreeSet.{BTreeSet}
use Rattle.std.proofs.lemmas.Grind.{common_steps}
use Rattle.std.proofs.lemmas.Bool.{cases_eq}
use Rattle.std.proofs.lemmas.List.Elements.{Contains-append_left, Contains-push, Contains-push_cases}
use Rattle.text_parts.specs.Names.{IsName}
use Rattle.loda_semantics.specs.declared.kinds.Pair.{Pair}
use Rattle.seq_calls.specs.declared.outcomes.NodeRun.{NodeRun}
use Rattle.demand_table.specs.declared.names.Names.{Names}
use Rattle.demand_table.specs.Upward.{names_filed_under}
use Rattle.demand_table.specs.Reaching.{Index, Grows, HasCalls, HasRuns, IsMetCalls, call_cmp}

pub get_put_same : {T : Type 0} (m : map.FinMap nat_cmp T) (n : ℕ) (v : T) → map.get (map.insert m n v) n ≡ Some v
get_put_same m n v = grind (arith, gets, common_steps)

pub get_put_other : {T : Type 0} (m : map.FinMap nat_cmp T) (n : ℕ) (v : T) (q : ℕ) → (q ≡ n → ⊥) → map.get (map.insert m n v) q ≡ map.get m q
get_put_other m n v q ne = grind (arith, gets, common_steps)

list_of : Option Names → List ℕ
list_of o = option_map_or (λ (v : Names). v.list.items) o []

-- ---- one name more

module _ (old new : Index) (to from : ℕ) (v : Names) (put : new ≡ map.insert old to v) (grown : v.list.items ≡ names_filed_under old to ++ from ∷ []) where
  under_here : names_filed_under new to ≡ names_filed_under old to ++ from ∷ []
  under_here = ap (λ (m : Index). names_filed_under m to) put ∙ ap (λ (o : Option Names). option_map_or (λ (v : Names). v.list.items) o []) (get_put_same old to v) ∙ grown

  under_other : (q : ℕ) → (q ≡ to → ⊥) → names_filed_under new q ≡ names_filed_under old q
  under_other q other = ap (λ (m : Index). names_filed_under m q) put ∙ ap (λ (o : Option Names). option_map_or (λ (v : Names). v.list.items) o []) (get_put_other old to v q other)

  pub joined_here : Contains (names_filed_under new to) from
  joined_here = subst (λ (l : List ℕ). Contains l from) (sym under_here) (Contains-push (names_filed_under old to) from)

  pub joined_grows : Grows old new
  joined_grows q r at = by (cases_eq q to)
    where
      by : (q ≡ to) ⊎ (q ≡ to → ⊥) → Contains (names_filed_under new q) r
      by (inl e) =
          subst (λ (k : ℕ). Contains (names_filed_under new k) r) (sym e)
          (subst (λ (l : List ℕ). Contains l r) (sym under_here)
          (Contains-append_left (names_filed_under old to) (from ∷ []) r (subst (λ (k : ℕ). Contains (names_filed_under old k) r) e at)))
      by (inr other) = subst (λ (l : List ℕ). Contains l r) (sym (under_other q other)) at

pub grows_on : (a b c : Index) → Grows a b → Grows b c → Grows a c
grows_on a b c f g to from at = g to from (f to from at)

-- ---- what was met

calls_apart : (a b c d : ℕ) → ((c ≡ a) → (d ≡ b) → ⊥) → tree.is_at (call_cmp (a, b)) (c, d) ≡ false
calls_apart a b c d other = by (nat_cmp a c) refl (nat_cmp b d) refl
  where
    by : (o : Ordering) → nat_cmp a c ≡ o → (u : Ordering) → nat_cmp b d ≡ u → is_eq (ordering_then o u) ≡ false
    by Less e u f = refl
    by Greater e u f = refl
    by Equal e Less f = refl
    by Equal e Greater f = refl
    by Equal e Equal f = absurd (other (sym (nat_cmp-IsAntisymmetric a c e)) (sym (nat_cmp-IsAntisymmetric b d f)))

pub met_calls : (old new : BTreeSet (ℕ × ℕ)) (was now : Index) (to from : ℕ) → sorted.Updates call_cmp old new (to, from) true
    → IsMetCalls old was → Grows was now → (IsName to → Contains (names_filed_under now to) from) → IsMetCalls new now
met_calls old new was now to from updates h grows here t f at name = by (cases_eq t to) (cases_eq f from)
  where
    rest : ((t ≡ to) → (f ≡ from) → ⊥) → Contains (names_filed_under now t) f
    rest other = grows t f (h t f (sym (updates.2 (t, f) (calls_apart to from t f other)) ∙ at) name)

    by : (t ≡ to) ⊎ (t ≡ to → ⊥) → (f ≡ from) ⊎ (f ≡ from → ⊥) → Contains (names_filed_under now t) f
    by (inl e) (inl g) =
        subst (λ (k : ℕ). Contains (names_filed_under now t) k) (sym g) (subst (λ (k : ℕ). Contains (names_filed_under now k) from) (sym e) (here (subst IsName e name)))
    by (inr other) g = rest (λ e g. other e)
    by (inl e) (inr other) = rest (λ e g. other g)

pub was_met_call : (met : BTreeSet (ℕ × ℕ)) (index : Index) (to from : ℕ) (added : Bool) → IsMetCalls met index → added ≡ not (sorted.contains call_cmp met (to, from)) → added ≡ false
    → IsName to → Contains (names_filed_under index to) from
was_met_call met index to from added h is no' = h to from (by (sorted.contains call_cmp met (to, from)) (sym is ∙ no'))
  where
    by : (b : Bool) → not b ≡ false → b ≡ true
    by true f = refl
    by false f = cc

-- ---- the calls of a run, so far

pub record IsReaching (first now : Index) (met : BTreeSet (ℕ × ℕ)) (from : ℕ) (done : List Pair) : Type 0 where
  pub grows : Grows first now
  pub met_calls : IsMetCalls met now
  pub calls : HasCalls now from done

pub reaching_more : (first was now : Index) (old new : BTreeSet (ℕ × ℕ)) (from : ℕ) (done : List Pair) (call : Pair) → IsReaching first was old from done
    → sorted.Updates call_cmp old new (call.name, from) true → Grows was now → (IsName call.name → Contains (names_filed_under now call.name) from) → IsReaching first now new from (done ++ call ∷ [])
reaching_more first was now old new from done call h updates grows here = record {
  grows = grows_on first was now h.grows grows;
  met_calls = met_calls old new was now call.name from updates h.met_calls grows here;
  calls = λ to at name. elim (Contains-push_cases done call to at) [
    | inl at' ↦ grows to.name from (h.calls to at' name)
    | inr e ↦ subst (λ (p : Pair). Contains (names_filed_under now p.name) from) e (here (subst (λ (p : Pair). IsName p.name) (sym e) name))
  ];
}

-- ---- the runs, so far

pub record HasReached (first now : Index) (met : BTreeSet (ℕ × ℕ)) (done : List NodeRun) : Type 0 where
  pub grows : Grows first now
  pub met_calls : IsMetCalls met now
  pub runs : HasRuns now done

pub reached_more : (first was now : Index) (old new : BTreeSet (ℕ × ℕ)) (done : List NodeRun) (run : NodeRun) → HasReached first was old done
    → Grows was now → IsMetCalls new now → HasCalls now run.pair.name run.calls → HasReached first now new (done ++ run ∷ [])
reached_more first was now old new done run h grows met calls = record {
  grows = grows_on first was now h.grows grows;
  met_calls = met;
  runs = λ r at. elim (Contains-push_cases done run r at) [
    | inl at' ↦ λ to in' name. grows to.name r.pair.name (h.runs r at' to in' name)
    | inr e ↦ subst (λ (r : NodeRun). HasCalls now r.pair.name r.calls) e calls
  ];
}
