-- The reply to one line.
use Rattle.std.proofs.Common.{◌≡◌, refl, ℕ, List, [], ◌∷◌, ◌++◌}
use Rattle.cf_io.specs.Cut.{line_of}
use Rattle.cf_io.specs.Limits.{line_limit}
use Rattle.cf_answer.specs.Owed.{Replier, AreReplies}
use Rattle.cf_answer.specs.Steps.{IsLineReply}
use Rattle.cf_answer.proofs.ReplyLemmas.{replies_of_lines}

pub one_reply : (who : Replier) (line text : List ℕ) →
    (reply : List ℕ) × (text ≡ [] ++ (reply ++ 10 ∷ [])) × IsLineReply who (line_of line_limit line) reply → AreReplies who (line ∷ []) text
one_reply who line text (reply, is, replied) = replies_of_lines who (line ∷ []) text (reply, [], is, replied, refl)
