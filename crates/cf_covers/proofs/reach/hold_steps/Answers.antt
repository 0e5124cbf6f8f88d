use Rattle.std.proofs.Common.{pos, ◌+ℤ◌, ◌*ℤ◌, arith}
use borrow.Author.Count.{below_more}
use Rattle.cf_match.specs.declared.class.Class.TheVariants.{Residue}
use Rattle.cf_covers.specs.Covers.{AreHeld}
use Rattle.cf_covers.proofs.reach.hold_steps.Goals as goal

pub loop-i-preserved : goal.loop-i-preserved
loop-i-preserved c =
    below_more (λ k. AreHeld c.args.earlier.now (Residue (c.args.g.now *ℤ pos c.args.steps) (c.args.r.now +ℤ c.args.g.now *ℤ pos k))) c.loop-i.i c.loop-i.invariant
    (c.is_step_held.ensures c.if-not-is_step_held.false)

pub returns : goal.returns
returns c = λ e. record { held = λ i l. c.loop-i.invariant i (omega (arith, c.loop-i-test.false)) }
