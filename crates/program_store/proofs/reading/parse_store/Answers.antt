use Rattle.std.proofs.Common.{◌≡◌, ◌∙◌, sym, ap, subst, length, arith}
use Rattle.std.proofs.lemmas.Result.{err_from_is_err_and}
use Rattle.program_store.specs.Store.{Store}
use Rattle.program_store.specs.Sections.{Cut, cut_from}
use Rattle.program_store.specs.Files.{store_read, entries_read}
use Rattle.program_store.proofs.ReadLoops.{puts, cut_same, store_begins, store_bad_line, one_entry, bad_entry, no_entry}
use Rattle.program_store.proofs.reading.parse_store.Goals as goal

pub returns-in-Some : goal.returns-in-Some
returns-in-Some c =
    let file = c.new-file.result in
    let same = cut_same file.sign 61 file.line 1 file.rest.now c.args.bytes.now c.new-file.ensures.sign c.new-file.ensures.line c.new-file.ensures.rest in
    rw c.bad.ensures (store_bad_line c.args.bytes.now file.rest.now file.sign file.line same c.in-Some.line c.in-Some.ensures.text)

pub loop-section-init : goal.loop-section-init
loop-section-init c =
    let file = c.new-file.result in
    let after = c.first_text.new.self in
    let same = cut_same file.sign 61 file.line 1 file.rest.now c.args.bytes.now c.new-file.ensures.sign c.new-file.ensures.line c.new-file.ensures.rest in
    record {
      sign_is = c.in_default.ensures.sign ∙ c.new-file.ensures.sign;
      fits = (let e = ap length c.new-file.ensures.rest in omega (arith, c.in_default.ensures.fits, c.new-file.ensures.line, e));
      at_header = ap (λ (c : Cut). c.before) c.in_default.ensures.none;
      read = rw c.empty-store.ensures (store_begins c.args.bytes.now file.rest.now file.sign file.line same (cut_from after.sign after.line after.rest.now) c.in_default.ensures.text c.in_default.ensures.none);
    }

pub returns-in_err-name : goal.returns-in_err-name
returns-in_err-name c = let p = err_from_is_err_and c.from_residual.result c.from_residual.ensures.1 in rw (p.1, p.2)
    (bad_entry c.loop-section.store c.loop-section.last c.in_err-name.field-0.0 _ _ _ (store_read c.args.bytes.now) c.in-Some-next_section.ensures.some c.in_err-name.ensures.value c.loop-section.invariant.read)

pub loop-section-preserved : goal.loop-section-preserved
loop-section-preserved c =
    let after = c.next_section.new.self in
    record {
      sign_is = c.in-Some-next_section.ensures.sign ∙ c.loop-section.invariant.sign_is;
      fits = omega (arith, c.in-Some-next_section.ensures.rest_fits, c.loop-section.invariant.fits);
      at_header = c.in-Some-next_section.ensures.at_header;
      read = subst (λ (s : Store). puts s (entries_read c.in_ok-name.name (cut_from after.sign after.line after.rest.now).sections) ≡ store_read c.args.bytes.now) (sym c.in-Ok.ensures.put)
          (one_entry c.loop-section.store c.loop-section.last c.in_ok-name.name c.in_ok-name.published _ _ _ (store_read c.args.bytes.now) c.in-Some-next_section.ensures.some c.in_ok-name.ensures.value c.loop-section.invariant.read);
    }

pub returns : goal.returns
returns c = no_entry c.loop-section.store c.loop-section.last _ (store_read c.args.bytes.now) c.in_default-next_section.ensures.none c.loop-section.invariant.read
