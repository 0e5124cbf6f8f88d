use Rattle.std.proofs.Common.{[], sym, ◌∙◌, arith, length-drop}
use Rattle.std.proofs.lemmas.List.{take_rest}
use Rattle.cf_io.proofs.LineLemmas.{take_none}
use Rattle.cf_io.proofs.cutter.next_rest.Goals as goal

pub returns-in_ok-extend-in-Some-clause-ok : goal.returns-in_ok-extend-in-Some-clause-ok
returns-in_ok-extend-in-Some-clause-ok c = λ w k.
    let front = c.in_ok-extend-in-Some.ensures.ok [] (c.new-front.ensures.items ∙ sym (take_none _)) in
    rw (c.in-Some.ensures.rest w) (record {
      front = rw take_rest at front;
      whole = omega (arith, length-drop c.in-Some.at c.args.piece.now, c.len_behind.ensures.size, c.len_behind.ensures.small);
    })
