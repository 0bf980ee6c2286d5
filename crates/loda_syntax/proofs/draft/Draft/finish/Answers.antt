use Rattle.std.proofs.Common.{◌≡◌, [], reverse, ap, rules}
use Rattle.loda_syntax.specs.Reading.{draft_of}
use Rattle.loda_syntax.proofs.Drafts.{program_of}
use Rattle.loda_syntax.proofs.draft.Draft.finish.Goals as goal

pub of-requires : goal.of-requires
of-requires c =
    let none : c.self.inside.open_at.items ≡ [] = search rules in
    program_of (draft_of c.self.inside.list.items (reverse c.self.inside.open_at.items)) (rw (← c.self.view_is) at c.requires) (ap reverse none)
