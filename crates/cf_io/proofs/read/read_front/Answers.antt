use Rattle.std.proofs.Common.{inr, arith, rules, drop}
use Rattle.std.proofs.lemmas.Grind.{common_steps}
use Rattle.std.proofs.lemmas.List.{take-append-le}
use Rattle.std.proofs.KnownBytes.{Consumes-trans}
use Rattle.cf_io.proofs.read.read_front.Goals as goal

pub returns-in_err-extend_from_slice-clause-most : goal.returns-in_err-extend_from_slice-clause-most
returns-in_err-extend_from_slice-clause-most g c =
    let took = Consumes-trans _ _ _ _ _ c.pieces.invariant.read c.in_ok-count.ensures.bytes.0 in
    inr (_, grind (arith, common_steps), took)

pub pieces-preserved : goal.pieces-preserved
pieces-preserved g c =
    let took = Consumes-trans _ _ _ _ _ c.pieces.invariant.read c.in_ok-count.ensures.bytes.0 in
    record {
      within = grind (arith, common_steps);
      read = rw (
        c.in_ok-extend_from_slice.ensures.items,
        take-append-le c.in_ok-count.count c.read.new.into (drop c.min-room.result c.pieces.piece) c.in_ok-count.ensures.bound.0,
      ) took;
      turned = search rules;
      texts = search rules;
      same = search rules;
      asked = search rules;
      given = grind (arith, common_steps);
      ends = search rules;
    }
