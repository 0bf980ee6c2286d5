use Rattle.std.proofs.lemmas.Result.{err_from_is_err_and}
use Rattle.command_words.specs.Requests.{asked}
use Rattle.loda_mine.proofs.Reading.{stops_at_terms, stops_at_store, stops_at_candidates, all_opened}
use Rattle.loda_mine.proofs.files.open.Goals as goal

pub returns-in_err-terms-clause-answer : goal.returns-in_err-terms-clause-answer
returns-in_err-terms-clause-answer g c =
    let p = err_from_is_err_and c.from_residual.result c.from_residual.ensures.1 in
    let first = c.in_err-terms.ensures.answer in
    rw (p.1, p.2) (stops_at_terms _ (g.F.Shelf.known c.open_terms.new.shelf) (asked c.args.request.now) c.in_err-terms.field-0.0 first.0 first.1 first.2)

pub returns-in_err-store-clause-answer : goal.returns-in_err-store-clause-answer
returns-in_err-store-clause-answer g c =
    let p = err_from_is_err_and c.from_residual-in_err-store.result c.from_residual-in_err-store.ensures.1 in
    let first = c.in_ok-terms.ensures.answer in
    let second = c.in_err-store.ensures.answer in
    rw (p.1, p.2) (stops_at_store _ (g.F.Shelf.known c.open_terms.new.shelf) (g.F.Shelf.known c.open_store.new.shelf) (asked c.args.request.now) c.in_err-store.field-0.0 c.in_ok-terms.terms first.0 second.0
    c.open_terms.ensures.kept c.open_store.ensures.kept first.1 first.2 second.1 second.2)

pub returns-in_err-candidates-clause-answer : goal.returns-in_err-candidates-clause-answer
returns-in_err-candidates-clause-answer g c =
    let p = err_from_is_err_and c.from_residual-in_err-candidates.result c.from_residual-in_err-candidates.ensures.1 in
    let first = c.in_ok-terms.ensures.answer in
    let second = c.in_ok-store.ensures.answer in
    let third = c.in_err-candidates.ensures.answer in
    rw (p.1, p.2) (stops_at_candidates _ (g.F.Shelf.known c.open_terms.new.shelf) (g.F.Shelf.known c.open_store.new.shelf) (g.F.Shelf.known c.open_candidates.new.shelf) (asked c.args.request.now)
    c.in_ok-terms.terms c.in_ok-store.store first.0 second.0 third.0 c.open_terms.ensures.kept c.open_store.ensures.kept c.open_candidates.ensures.kept first.1 first.2 second.1 second.2 third.1 c.in_err-candidates.field-0.0 third.2)

pub returns-clause-answer : goal.returns-clause-answer
returns-clause-answer g c =
    let first = c.in_ok-terms.ensures.answer in
    let second = c.in_ok-store.ensures.answer in
    let third = c.in_ok-candidates.ensures.answer in
    all_opened _ (g.F.Shelf.known c.open_terms.new.shelf) (g.F.Shelf.known c.open_store.new.shelf) (g.F.Shelf.known c.open_candidates.new.shelf) (asked c.args.request.now)
    c.in_ok-terms.terms c.in_ok-store.store first.0 second.0 third.0 c.open_terms.ensures.kept c.open_store.ensures.kept c.open_candidates.ensures.kept first.1 first.2 second.1 second.2 third.1 c.in_ok-candidates.candidates third.2
