use Rattle.std.proofs.Common.{◌++◌, ap, map, rules}
use Rattle.std.proofs.lemmas.Result.{err_from_is_err_and}
use Rattle.cf_io.specs.Cut.{line_of}
use Rattle.cf_io.specs.Limits.{line_limit}
use Rattle.cf_io.specs.Lines.{ended}
use Rattle.cf_answer.specs.Steps.{replier_of}
use Rattle.cf_answer.proofs.StepLemmas.{piece_all, piece_some, answered_none}
use Rattle.cf_answer.proofs.pieces.answer_piece.Goals as goal

pub returns-clause-all : goal.returns-clause-all
returns-clause-all g c =
    piece_all (replier_of c.args.replier.now) _ _ c.args.piece.now _
    (c.feed_first.new.lines.items ++ map (line_of line_limit) (ended c.in_ok-behind.behind.now)) _ _
    _ _
    c.answer_lines.ensures.all (ap (λ ls. ls ++ map (line_of line_limit) (ended c.in_ok-behind.behind.now)) (search rules)) (search rules)
    c.in_ok-behind.ensures.stands
    c.in_ok-behind.ensures.lines

pub returns-clause-some : goal.returns-clause-some
returns-clause-some g c =
    piece_some (replier_of c.args.replier.now) _ c.args.piece.now _
    (c.feed_first.new.lines.items ++ map (line_of line_limit) (ended c.in_ok-behind.behind.now)) _ _
    _ _
    c.answer_lines.ensures.some (ap (λ ls. ls ++ map (line_of line_limit) (ended c.in_ok-behind.behind.now)) (search rules)) (search rules)
    c.in_ok-behind.ensures.lines

pub returns-in_err-behind-clause-some : goal.returns-in_err-behind-clause-some
returns-in_err-behind-clause-some g c =
    let p = err_from_is_err_and c.from_residual.result c.from_residual.ensures.1 in
    rw p.1 (λ most bytes first h. answered_none (replier_of c.args.replier.now) most _ bytes c.args.piece.now first _ h)
