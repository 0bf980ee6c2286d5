-- A desk that opens, and the jobs that are missing.
use Rattle.std.proofs.Common.{ℕ, zero, suc, ◌+◌, ◌<◌, ◌≡◌, refl, sym, ap, subst, ◌∙◌, arith, inl, inr, List, [], length, get_or}
use Rattle.std.specs.Prelude.{◌⊎◌, slice_get}
use Rattle.std.specs.declared.option.Option.TheVariants.{Some}
use Rattle.std.proofs.lemmas.Option.{slice_get_within, get_or_from_slice_get, slice_get-get_or}
use Rattle.program_store.specs.Store.{Store}
use Rattle.judge.specs.Sound.{Sound}
use Rattle.publish_desk.specs.declared.entry.Entry.{Entry}
use Rattle.publish_desk.specs.declared.charter.Charter.{Charter}
use Rattle.publish_desk.specs.History.{IsMissing, IsDoneAt, IsPlaceOf, ArePlaces, AreMarks}
use Rattle.publish_desk.specs.Desk.{terms_of, IsKept}

pub opened : (c : Charter) (store : Store) (journal : List Entry) (places marks : List ℕ) → store ≡ c.opening → journal ≡ [] → marks ≡ [] → length places ≡ c.jobs
    → ((k : ℕ) → k < c.jobs → get_or places k 0 ≡ 0) → Sound c.opening (terms_of c) c.limit
    → IsKept (record { charter = c; journal = journal; version = 0; store = store }) × ArePlaces c.jobs journal places × AreMarks 0 journal marks
opened c store journal places marks is empty none size zeros sound = (
  subst (λ (j : List Entry). IsKept (record { charter = c; journal = j; version = 0; store = store })) (sym empty)
      (record { store = is; version = refl; legal = tt; sound = subst (λ (s : Store). Sound s (terms_of c) c.limit) (sym is) sound; no_loss = tt }),
  subst (λ (j : List Entry). ArePlaces c.jobs j places) (sym empty) (record { size = size; each = each }),
  subst (λ (j : List Entry). AreMarks 0 j marks) (sym empty) (record { size = ap length none; each = λ v n found. absurd (let w = slice_get_within marks v n found in let s = ap length none in omega (arith, w, s)) }),
)
  where
    each : (job n : ℕ) → slice_get places job ≡ Some n → IsPlaceOf [] job n
    each job n found =
        let w = slice_get_within places job n found in
        let z = zeros job (omega (arith, w, size)) in
        let e : n ≡ 0 = sym (get_or_from_slice_get places job n 0 found) ∙ z in
        subst (λ (m : ℕ). IsPlaceOf [] job m) (sym e) (λ k d lt. absurd (omega (arith, lt)))

module _ (jobs : ℕ) (journal : List Entry) (places list : List ℕ) (h : ArePlaces jobs journal places) (same : list ≡ places) (i job d : ℕ) (lt : i < length list) (is : job ≡ i) where
  place_there : IsPlaceOf journal job (get_or list i d)
  place_there =
      subst (λ (j : ℕ). IsPlaceOf journal j (get_or list i d)) (sym is)
      (h.each i (get_or list i d) (subst (λ (l : List ℕ). slice_get l i ≡ Some (get_or list i d)) same (slice_get-get_or list i d lt)))

  pub missing_there : get_or list i d ≡ 0 → (job < jobs) × IsMissing journal job
  missing_there e = ((let s = h.size in let l = ap length same in omega (arith, s, l, lt, is)), by_place (get_or list i d) e place_there)
    where
      by_place : (n : ℕ) → n ≡ 0 → IsPlaceOf journal job n → IsMissing journal job
      by_place zero e p = p
      by_place (suc k) e p = absurd (omega (arith, e))

  pub done_more : 0 < get_or list i d → ((j : ℕ) → j < job → (at : ℕ) × IsDoneAt journal j at) → (j : ℕ) → j < job + 1 → (at : ℕ) × IsDoneAt journal j at
  done_more some before = λ j l. by_order j (order_of j job l)
    where
      order_of : (a b : ℕ) → a < b + 1 → (a < b) ⊎ (a ≡ b)
      order_of a b l = grind arith

      by_place : (n : ℕ) → 0 < n → IsPlaceOf journal job n → (at : ℕ) × IsDoneAt journal job at
      by_place zero l p = absurd (omega (arith, l))
      by_place (suc k) l p = (k, p)

      by_order : (j : ℕ) → (j < job) ⊎ (j ≡ job) → (at : ℕ) × IsDoneAt journal j at
      by_order j (inl l) = before j l
      by_order j (inr e) = subst (λ (m : ℕ). (at : ℕ) × IsDoneAt journal m at) (sym e) (by_place (get_or list i d) some place_there)
