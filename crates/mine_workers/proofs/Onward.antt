-- A journal that goes on keeps its earlier stores and versions, and a dossier that fitted it fits it still.
use Rattle.std.proofs.Common.{ℕ, ◌+◌, ◌<◌, ◌≤◌, ◌≡◌, sym, ap, subst, ◌∙◌, arith, List, [], ◌∷◌, ◌++◌, append-nil, append_assoc}
use Rattle.std.specs.Prelude.{reverse}
use mathlib.Core.List.{IsPrefix}
use Rattle.program_store.specs.Store.{Store}
use Rattle.evidence.specs.Dossiers.{Dossier}
use Rattle.publish_desk.specs.declared.charter.Charter.{Charter}
use Rattle.publish_desk.specs.declared.entry.Entry.{Entry}
use Rattle.publish_desk.specs.History.{rise, version_of, store_at, proposal_of}
use Rattle.publish_desk.specs.Desk.{origin_of, IsFitting}
use Rattle.publish_desk.proofs.Lists.{reverse_push}
use Rattle.publish_desk.proofs.Fitting.{earlier_store}
use Rattle.mine_workers.specs.Shared.{desk_of}

pub begins_on : (earlier seen found : List Entry) → IsPrefix earlier seen → IsPrefix seen found → IsPrefix earlier found
begins_on earlier seen found p q = (p.0 ++ q.0, sym (append_assoc earlier p.0 q.0) ∙ ap (λ (l : List Entry). l ++ q.0) p.1 ∙ q.1)

version_more : (seen rest : List Entry) → version_of (reverse seen) ≤ version_of (reverse (seen ++ rest))
version_more seen [] = let same : version_of (reverse (seen ++ [])) ≡ version_of (reverse seen) = ap (λ (l : List Entry). version_of (reverse l)) (append-nil seen) in omega (arith, same)
version_more seen (e ∷ rest) =
    let one : List Entry = seen ++ e ∷ [] in
    let more = version_more one rest in
    let pushed : version_of (reverse one) ≡ version_of (reverse seen) + rise e.finding = ap version_of (reverse_push seen e) in
    let same : version_of (reverse (one ++ rest)) ≡ version_of (reverse (seen ++ e ∷ rest)) = ap (λ (l : List Entry). version_of (reverse l)) (append_assoc seen (e ∷ []) rest) in
    omega (arith, more, pushed, same)

-- its version is no less
pub version_on : (seen found : List Entry) → IsPrefix seen found → version_of (reverse seen) ≤ version_of (reverse found)
version_on seen found p = subst (λ (l : List Entry). version_of (reverse seen) ≤ version_of (reverse l)) p.1 (version_more seen p.0)

store_more : (opening : Store) (seen rest : List Entry) (v : ℕ) → v ≤ version_of (reverse seen) → store_at opening (reverse (seen ++ rest)) v ≡ store_at opening (reverse seen) v
store_more opening seen [] v le = ap (λ (l : List Entry). store_at opening (reverse l) v) (append-nil seen)
store_more opening seen (e ∷ rest) v le =
    let one : List Entry = seen ++ e ∷ [] in
    let pushed : version_of (reverse one) ≡ version_of (reverse seen) + rise e.finding = ap version_of (reverse_push seen e) in
    ap (λ (l : List Entry). store_at opening (reverse l) v) (sym (append_assoc seen (e ∷ []) rest))
    ∙ store_more opening one rest v (omega (arith, pushed, le))
    ∙ ap (λ (h : List Entry). store_at opening h v) (reverse_push seen e)
    ∙ earlier_store opening (reverse seen) e v le

-- a dossier that fitted it fits it
pub fits_on : (c : Charter) (seen found : List Entry) (d : Dossier) → IsPrefix seen found → IsFitting (desk_of c seen) d → IsFitting (desk_of c found) d
fits_on c seen found d p fits =
    let grows = version_more seen p.0 in
    subst (λ (l : List Entry). IsFitting (desk_of c l) d) p.1 (record {
      listed = fits.listed;
      base = fits.base;
      seen = (let s = fits.seen in omega (arith, s, grows));
      store = fits.store ∙ sym (store_more c.opening seen p.0 d.snapshot.version fits.seen);
      finding = fits.finding;
      proposed = subst (λ (s : Store). origin_of c d.job s (proposal_of d.finding)) (sym (store_more c.opening seen p.0 d.base (let b = fits.base in let s = fits.seen in omega (arith, b, s)))) fits.proposed;
    })
