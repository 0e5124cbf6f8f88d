use Rattle.std.proofs.Common.{◌≡◌, ◌≤◌, false, length}
use Rattle.cf_lex.specs.Editions.{behind_blanks as behind_blanks_of}
use Rattle.cf_lex.proofs.edition.behind_blanks.Given as goal

abbrev pub invariant-blanks : goal.invariant-blanks
invariant-blanks l = (behind_blanks_of false l.rest ≡ behind_blanks_of false l.text) × (length l.rest ≤ length l.text)

abbrev pub decreases-blanks : goal.decreases-blanks
decreases-blanks l = length l.rest
