use Rattle.std.proofs.Common.{◌≡◌, ◌≤◌, drop}
use Rattle.text_parts.specs.Digits.{digits_after, up_to}
use Rattle.text_parts.proofs.digits.number_up_to.Given as goal

abbrev pub invariant-loop-digit : goal.invariant-loop-digit
invariant-loop-digit l = (l.number ≤ l.most) × (up_to l.most (digits_after l.number (drop l.digit-index l.digits)) ≡ up_to l.most (digits_after 0 l.digits))
