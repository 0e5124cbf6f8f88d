use Rattle.std.proofs.Common.{◌≡◌, ◌∷◌, [], ap, length, rules, arith}
use Rattle.std.proofs.lemmas.List.{nil_from_length}
use Rattle.cf_answer.specs.Checks.{AreUnreachedLines, unreached_line}
use Rattle.cf_answer.specs.Tells.{TellsUnreached}
use Rattle.cf_answer.proofs.BesideLemmas.{said_end, said_on, said_start}
use Rattle.cf_answer.proofs.beside.unreached_lines.Goals as goal

pub loop-class-init : goal.loop-class-init
loop-class-init c =
    let empty : c.new-lines.result.items ≡ [] = search rules in (omega arith, said_start (AreUnreachedLines c.args.number c.args.classes.now) _ empty)

pub is_unreached-requires : goal.is_unreached-requires
is_unreached-requires c =
    let opened : c.loop-class.rest.now ≡ c.in-Some.class.now ∷ c.in-Some.more.now = search rules in
    omega (arith, c.loop-class.invariant.0, ap length opened)

pub put_unreached-requires : goal.put_unreached-requires
put_unreached-requires c = omega (arith, c.loop-class.invariant.0)

pub loop-class-preserved : goal.loop-class-preserved
loop-class-preserved c =
    let before = c.loop-class.invariant in
    let opened : c.loop-class.rest.now ≡ c.in-Some.class.now ∷ c.in-Some.more.now = search rules in (
      omega (arith, before.0, ap length opened),
      said_on (TellsUnreached c.args.classes.now) (λ k d. unreached_line c.args.number k) c.loop-class.arm c.loop-class.rest.now c.in-Some.class.now
          c.in-Some.more.now c.is_unreached.result _ _ (AreUnreachedLines c.args.number c.args.classes.now) opened c.is_unreached.ensures
          c.in_ok-put_unreached.ensures before.1,
    )

pub returns : goal.returns
returns c =
    let ended : c.loop-class.rest.now ≡ [] = nil_from_length c.loop-class.rest.now (search rules) in
    said_end (TellsUnreached c.args.classes.now) (λ k d. unreached_line c.args.number k) c.loop-class.arm c.loop-class.rest.now c.loop-class.lines.items
    (AreUnreachedLines c.args.number c.args.classes.now) ended c.loop-class.invariant.1
