use Rattle.std.proofs.Common.{length, map, All, Contains}
use Rattle.cf_build.specs.Known.{IsChooseCode}
use Rattle.cf_build.proofs.choose_codes.with_marks.Given as goal

abbrev pub invariant-loop-code : goal.invariant-loop-code
invariant-loop-code l = All IsChooseCode l.rest × Contains (map (λ c. c.marks.items) l.rest) l.marks

abbrev pub decreases-loop-code : goal.decreases-loop-code
decreases-loop-code l = length l.rest
