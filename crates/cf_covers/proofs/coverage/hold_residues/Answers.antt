use Rattle.std.proofs.Common.{pos, arith}
use borrow.Author.Count.{below_more}
use Rattle.cf_match.specs.declared.class.Class.TheVariants.{Residue}
use Rattle.cf_match.specs.Classes.{IsIn}
use Rattle.cf_covers.specs.Covers.{AreHeld}
use Rattle.cf_covers.proofs.coverage.hold_residues.Goals as goal

pub loop-n-preserved : goal.loop-n-preserved
loop-n-preserved c =
    below_more (λ k. IsIn c.args.class (pos k) → AreHeld c.args.classes.now (Residue (pos c.args.period) (pos k))) c.loop-n.n c.loop-n.invariant
    (c.is_residue_held.ensures c.if-not-is_residue_held.false)

pub returns : goal.returns
returns c = λ e. record { held = λ n l. c.loop-n.invariant n (omega (arith, c.loop-n-test.false)) }
