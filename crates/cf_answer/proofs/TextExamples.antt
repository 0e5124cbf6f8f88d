-- Worked examples: the line that each fault writes.
use Rattle.std.proofs.Common.{◌≡◌, [], ◌∷◌, map, refl, codes}
use Rattle.std.specs.Prelude.{Ok, Err}
use Rattle.std.specs.Fmt.{digits}
use Rattle.cf_tree.specs.declared.base.Place.{Place}
use Rattle.cf_linear.specs.declared.refusal.LimitKind.TheVariants as kind
use Rattle.cf_linear.specs.declared.refusal.Refusal.TheVariants as refusal
use Rattle.cf_program.specs.declared.fault.TypeFault.TheVariants as rule
use Rattle.cf_cert.specs.declared.verdict.Why.TheVariants as why
use Rattle.cf_answer.specs.declared.fault.Fault.TheVariants as fault
use Rattle.cf_answer.specs.declared.fault.StepsFault.TheVariants as steps_fault
use Rattle.cf_answer.specs.Texts.{fault_line, answer_line}

-- line 3, column 14
abbrev place : Place
place = record { line = 3; column = 14 }

nothing : answer_line (Ok tt) ≡ []
nothing = refl

a_fault : answer_line (Err fault.File) ≡ codes "cannot read file\n"
a_fault = refl

usage : fault_line fault.Usage ≡
    codes "usage: comfusy compile|pre|check|run|exec|prove FILE, or comfusy emit LANG FILE, or comfusy verify FILE STEPS, or comfusy gen N, or comfusy --help\n"
usage = refl

outside : map fault_line (fault.File ∷ fault.Input ∷ fault.Output ∷ fault.InputTooLong ∷ fault.OutputTooLong ∷ fault.NoMemory ∷ []) ≡
    codes "cannot read file\n" ∷ codes "cannot read input\n" ∷ codes "cannot write output\n" ∷ codes "input too long\n" ∷ codes "text too long\n"
    ∷ codes "no memory\n" ∷ []
outside = refl

texts : map fault_line (fault.TextTooLong ∷ fault.BadByte place ∷ fault.NumberPast place ∷ fault.Syntax place ∷ fault.NoSetsInC ∷ fault.NoSetsInSmt
    ∷ fault.BadTarget ∷ []) ≡
    codes "text too long\n" ∷ codes "line 3 column 14: bad byte\n" ∷ codes "line 3 column 14: number past limit\n"
    ∷ codes "line 3 column 14: syntax\n" ∷ codes "no sets in c\n" ∷ codes "no sets in smt\n"
    ∷ codes "target not well typed\n" ∷ []
unfolding digits
texts = refl

names : map fault_line (fault.Rule (rule.UnknownName place) ∷ fault.Rule (rule.DuplicateName place) ∷ fault.Rule (rule.CallsLater place)
    ∷ fault.Rule rule.NoMain ∷ []) ≡
    codes "line 3 column 14: unknown name\n" ∷ codes "line 3 column 14: duplicate name\n" ∷ codes "line 3 column 14: calls later function\n"
    ∷ codes "no main\n" ∷ []
unfolding digits
names = refl

types : map fault_line (fault.Rule (rule.WrongCount place) ∷ fault.Rule (rule.Mismatch place) ∷ fault.Rule (rule.NotLinear place) ∷ []) ≡
    codes "line 3 column 14: wrong count\n" ∷ codes "line 3 column 14: type mismatch\n" ∷ codes "line 3 column 14: not linear\n" ∷ []
unfolding digits
types = refl

constants : map fault_line (fault.Rule (rule.NotConstant place) ∷ fault.Rule (rule.ConstantBelow place) ∷ fault.Rule (rule.ConstantPast place) ∷ []) ≡
    codes "line 3 column 14: not constant\n" ∷ codes "line 3 column 14: constant below 1\n" ∷ codes "line 3 column 14: constant past limit\n" ∷ []
unfolding digits
constants = refl

sizes : map fault_line (fault.Rule (rule.Weight 1000001) ∷ fault.Rule (rule.Depth 201) ∷ fault.Rule rule.NoMemory ∷ []) ≡
    codes "Weight 1000001\n" ∷ codes "Depth 201\n" ∷ codes "no memory\n" ∷ []
unfolding digits
sizes = refl

coefficient : fault_line (fault.Choose 12 refusal.Past) ≡ codes "choose 12: coefficient past 128 bits\n"
unfolding digits
coefficient = refl

limits : map fault_line (fault.Choose 2 (refusal.Limit kind.Sets 7) ∷ fault.Choose 3 (refusal.Limit kind.Cases 1025)
    ∷ fault.Choose 4 (refusal.Limit kind.Rows 1001) ∷ fault.Choose 5 (refusal.Limit kind.Columns 1002)
    ∷ fault.Choose 6 (refusal.Limit kind.Search 1048577) ∷ []) ≡
    codes "choose 2: Sets 7\n" ∷ codes "choose 3: Cases 1025\n" ∷ codes "choose 4: Rows 1001\n" ∷ codes "choose 5: Columns 1002\n"
    ∷ codes "choose 6: Search 1048577\n" ∷ []
unfolding digits
limits = refl

steps : map fault_line (fault.Steps steps_fault.TooLong ∷ fault.Steps (steps_fault.BadByte place) ∷ fault.Steps (steps_fault.NumberPast place)
    ∷ fault.Steps (steps_fault.Syntax place) ∷ []) ≡
    codes "steps text too long\n" ∷ codes "steps line 3 column 14: bad byte\n" ∷ codes "steps line 3 column 14: number past limit\n"
    ∷ codes "steps line 3 column 14: syntax\n" ∷ []
unfolding digits
steps = refl

rejected : map (λ w. fault_line (fault.Rejected 1 2 13 w)) (why.Unknown ∷ why.Factor ∷ why.Single ∷ why.Held ∷ why.Exact ∷ []) ≡
    codes "choose 1: rejected at case 2 step 13: not an unknown\n" ∷ codes "choose 1: rejected at case 2 step 13: not invertible\n"
    ∷ codes "choose 1: rejected at case 2 step 13: not one unknown\n" ∷ codes "choose 1: rejected at case 2 step 13: held by an equation\n"
    ∷ codes "choose 1: rejected at case 2 step 13: pair without coefficient 1\n" ∷ []
unfolding digits
rejected = refl

rejected_whole : map (λ w. fault_line (fault.Rejected 1 2 13 w))
    (why.Left ∷ why.Blocks ∷ why.Code ∷ why.Refused refusal.Past ∷ why.Refused (refusal.Limit kind.Rows 1001) ∷ []) ≡
    codes "choose 1: rejected at case 2 step 13: not finished\n" ∷ codes "choose 1: rejected at case 2 step 13: wrong blocks\n"
    ∷ codes "choose 1: rejected at case 2 step 13: code differs\n" ∷ codes "choose 1: rejected at case 2 step 13: coefficient past 128 bits\n"
    ∷ codes "choose 1: rejected at case 2 step 13: Rows 1001\n" ∷ []
unfolding digits
rejected_whole = refl
