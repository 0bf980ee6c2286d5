-- Publishing made input from the empty store is not refused.
use Rattle.std.proofs.Common.{ℕ, ◌≡◌, sym, ap, ◌∙◌}
use Rattle.std.specs.FinMap as map
use Rattle.std.specs.Ordering.{nat_cmp}
use Rattle.std.specs.Option.{option_map}
use Rattle.std.specs.declared.option.Option.TheVariants.{Some, None}
use Rattle.oeis_terms.specs.Table.{row_of}
use Rattle.program_store.specs.declared.published.Published.{Published}
use Rattle.judge.specs.Passed.{Terms}
use Rattle.judge.specs.Sound.{Sound}
use Rattle.judge.proofs.OneReason.{one_reason}
use Rattle.loda_mine.specs.declared.files.Contents.{Contents}
use Rattle.loda_mine.specs.declared.status.Status.{Status}
use Rattle.loda_mine.specs.declared.status.Status.TheVariants.{Done, Usage, ReadFault, FileTooLarge, LineTooLong, BadTerms, BadStore, BadCandidates, Unsound, Absent, WriteFault, Memory}
use Rattle.command_words.specs.declared.request.Kind.TheVariants.{Run}
use Rattle.command_words.specs.declared.request.Task.TheVariants.{Publish, Made}
use Rattle.loda_mine.specs.Answer.{made_contents, Refuses}

nothing : {A : Type 0} (x : A) → None ≡ Some x → ⊥
nothing x e = absurd cc

-- the empty store is sound
empty_sound : (terms : Terms) (limit : ℕ) → Sound map.empty terms limit
empty_sound terms limit = record {
  acyclic = λ q cycle. nothing cycle.0 (sym (ap (option_map (λ (e : Published). e.program)) (map.get-empty nat_cmp q)) ∙ cycle.1);
  each = λ q e there. absurd (nothing e (sym (map.get-empty nat_cmp q) ∙ there));
}

pub made_refused : (n limit : ℕ) (inside : Contents) (s : Status) → Refuses Publish limit (made_contents n) s → Refuses (Made n Run) limit inside s
made_refused n limit inside Memory h = tt
made_refused n limit inside (Unsound reason) h = absurd ((one_reason map.empty (row_of (made_contents n).terms) limit).never_both reason h (empty_sound (row_of (made_contents n).terms) limit))
made_refused n limit inside Done h = h
made_refused n limit inside Usage h = h
made_refused n limit inside (ReadFault file) h = h
made_refused n limit inside (FileTooLarge file size) h = h
made_refused n limit inside (LineTooLong file line) h = h
made_refused n limit inside (BadTerms line kind) h = h
made_refused n limit inside (BadStore line kind) h = h
made_refused n limit inside (BadCandidates line kind) h = h
made_refused n limit inside (Absent name) h = h
made_refused n limit inside WriteFault h = h
