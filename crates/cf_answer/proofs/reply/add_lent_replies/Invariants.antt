use Rattle.std.proofs.Common.{List, ◌++◌, map, length}
use Rattle.cf_io.specs.Cut.{line_of}
use Rattle.cf_io.specs.Limits.{line_limit}
use Rattle.cf_io.specs.Lines.{ended}
use Rattle.cf_io.specs.declared.line.Line.{Line}
use Rattle.cf_answer.specs.Steps.{replier_of, AreLineReplies}
use Rattle.cf_answer.proofs.ReplyLemmas.{LentTo}
use Rattle.cf_answer.proofs.reply.add_lent_replies.Given as goal

abbrev pub invariant-lines : goal.invariant-lines
invariant-lines l =
    (before : List Line) → AreLineReplies (replier_of l.replier) before l.fn.text.items →
    LentTo (replier_of l.replier) (before ++ map (line_of line_limit) (ended l.bytes)) l.rest l.text.items

abbrev pub decreases-lines : goal.decreases-lines
decreases-lines l = length l.rest
