-- Codes that may stand in a number of others, so that the whole is plain.
use Rattle.std.specs.Prelude.{ℕ, Bool, ◌+◌, ◌&&◌, nat_le}
use Rattle.cf_tree.specs.CodeTree.{CodeTree, code_and, code_depth, code_size}
use Rattle.cf_stmt.specs.declared.expression.TheConstants.{DEEPEST, LARGEST_TEST}
use Rattle.cf_stmt.specs.Expressions.{is_expression}
use Rattle.cf_stmt.specs.Made.{Plain}

-- an expression that is plain in so many others
abbrev pub fits : ℕ → CodeTree → Bool
fits others c = is_expression c && nat_le (others + code_depth c) DEEPEST

-- plain codes stay whole; as a part of a form stays what is plain in it
abbrev pub plain : Plain
plain = record { whole = fits 0; part = fits 1 }

-- both fit in one test, and it is no larger than what is read at a glance
abbrev pub fit_together : CodeTree → CodeTree → Bool
fit_together c d = (fits 1 c && fits 1 d) && nat_le (code_size (code_and c d)) LARGEST_TEST
