use Rattle.std.proofs.Common.{◌∙◌, ap, arith, length}
use Rattle.std.proofs.lemmas.Result.{err_from_is_err_and}
use Rattle.program_store.specs.Sections.{Cut, cut_from}
use Rattle.program_store.specs.Files.{candidates_read}
use Rattle.program_store.proofs.ReadLoops.{cut_same, candidates_begin, candidates_bad_line, one_proposal, bad_proposal, no_proposal, next_number}
use Rattle.program_store.proofs.reading.parse_candidates.Goals as goal

pub returns-in-Some : goal.returns-in-Some
returns-in-Some c =
    let file = c.new-file.result in
    let same = cut_same file.sign 63 file.line 1 file.rest.now c.args.bytes.now c.new-file.ensures.sign c.new-file.ensures.line c.new-file.ensures.rest in
    rw c.bad.ensures (candidates_bad_line c.args.bytes.now file.rest.now file.sign file.line same c.in-Some.line c.in-Some.ensures.text)

pub loop-section-init : goal.loop-section-init
loop-section-init c =
    let file = c.new-file.result in
    let after = c.first_text.new.self in
    let same = cut_same file.sign 63 file.line 1 file.rest.now c.args.bytes.now c.new-file.ensures.sign c.new-file.ensures.line c.new-file.ensures.rest in
    record {
      sign_is = c.in_default.ensures.sign ∙ c.new-file.ensures.sign;
      fits = (let e = ap length c.new-file.ensures.rest in omega (arith, c.in_default.ensures.fits, c.new-file.ensures.line, e));
      at_header = ap (λ (c : Cut). c.before) c.in_default.ensures.none;
      read = rw c.empty-candidates.ensures (candidates_begin c.args.bytes.now file.rest.now file.sign file.line same (cut_from after.sign after.line after.rest.now) c.in_default.ensures.text c.in_default.ensures.none);
    }

pub returns-in_err-proposal : goal.returns-in_err-proposal
returns-in_err-proposal c = let p = err_from_is_err_and c.from_residual.result c.from_residual.ensures.1 in rw (p.1, p.2)
    (bad_proposal c.loop-section.candidates _ c.in_err-proposal.field-0.0 _ _ _ (candidates_read c.args.bytes.now) c.in-Some-next_section.ensures.some (rw (← c.len.ensures.value) c.in_err-proposal.ensures.value) c.loop-section.invariant.read)

pub loop-section-preserved : goal.loop-section-preserved
loop-section-preserved c =
    let after = c.next_section.new.self in
    record {
      sign_is = c.in-Some-next_section.ensures.sign ∙ c.loop-section.invariant.sign_is;
      fits = omega (arith, c.in-Some-next_section.ensures.rest_fits, c.loop-section.invariant.fits);
      at_header = c.in-Some-next_section.ensures.at_header;
      read =
          next_number c.loop-section.candidates c.push.new.self c.in_ok-proposal.proposal _ (candidates_read c.args.bytes.now) c.in_ok-push.ensures.ok
          (one_proposal c.loop-section.candidates _ c.in_ok-proposal.proposal _ _ _ (candidates_read c.args.bytes.now) c.in-Some-next_section.ensures.some (rw (← c.len.ensures.value) c.in_ok-proposal.ensures.value) c.loop-section.invariant.read);
    }

pub returns : goal.returns
returns c = no_proposal c.loop-section.candidates _ _ (candidates_read c.args.bytes.now) c.in_default-next_section.ensures.none c.loop-section.invariant.read
