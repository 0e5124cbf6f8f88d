-- Which answer has a status.
use Rattle.std.proofs.Common.{◌≡◌, sym, subst, refl, Result, Ok, Err}
use Rattle.cf_linear.specs.declared.refusal.Refusal.{Refusal}
use Rattle.cf_linear.specs.declared.refusal.Refusal.TheVariants as refusal
use Rattle.cf_program.specs.declared.fault.TypeFault.{TypeFault}
use Rattle.cf_program.specs.declared.fault.TypeFault.TheVariants as rule
use Rattle.cf_answer.specs.Statuses.{refusal_status, rule_status, status_of}
use Rattle.cf_answer.specs.declared.fault.Fault.{Fault}
use Rattle.cf_answer.specs.declared.fault.Fault.TheVariants as fault
use Rattle.cf_answer.specs.declared.status.Status.{Status}
use Rattle.cf_answer.specs.declared.status.Status.TheVariants.{Usage, File, Input, Output}

-- a status of one fault alone
abbrev IsSingle : Status → Type 0
IsSingle Usage = Unit {0}
IsSingle File = Unit {0}
IsSingle Input = Unit {0}
IsSingle Output = Unit {0}
IsSingle status = ⊥

rule_not : (e : TypeFault) → IsSingle (rule_status e) → ⊥
rule_not (rule.UnknownName p) h = h
rule_not (rule.DuplicateName p) h = h
rule_not (rule.WrongCount p) h = h
rule_not (rule.Mismatch p) h = h
rule_not (rule.NotConstant p) h = h
rule_not (rule.ConstantBelow p) h = h
rule_not (rule.ConstantPast p) h = h
rule_not (rule.CallsLater p) h = h
rule_not rule.NoMain h = h
rule_not (rule.NotLinear p) h = h
rule_not (rule.Weight n) h = h
rule_not (rule.Depth n) h = h
rule_not rule.NoMemory h = h

refusal_not : (r : Refusal) → IsSingle (refusal_status r) → ⊥
refusal_not refusal.Past h = h
refusal_not (refusal.Limit k c) h = h

pub is_usage : (answer : Result (Unit {0}) Fault) → status_of answer ≡ Usage → answer ≡ Err fault.Usage
is_usage (Ok done) e = cc
is_usage (Err fault.Usage) e = refl
is_usage (Err (fault.Rule r)) e = absurd (rule_not r (subst IsSingle (sym e) tt))
is_usage (Err (fault.Choose n r)) e = absurd (refusal_not r (subst IsSingle (sym e) tt))
is_usage (Err f) e = cc

pub is_file : (answer : Result (Unit {0}) Fault) → status_of answer ≡ File → answer ≡ Err fault.File
is_file (Ok done) e = cc
is_file (Err fault.File) e = refl
is_file (Err (fault.Rule r)) e = absurd (rule_not r (subst IsSingle (sym e) tt))
is_file (Err (fault.Choose n r)) e = absurd (refusal_not r (subst IsSingle (sym e) tt))
is_file (Err f) e = cc

pub is_input : (answer : Result (Unit {0}) Fault) → status_of answer ≡ Input → answer ≡ Err fault.Input
is_input (Ok done) e = cc
is_input (Err fault.Input) e = refl
is_input (Err (fault.Rule r)) e = absurd (rule_not r (subst IsSingle (sym e) tt))
is_input (Err (fault.Choose n r)) e = absurd (refusal_not r (subst IsSingle (sym e) tt))
is_input (Err f) e = cc

pub is_output : (answer : Result (Unit {0}) Fault) → status_of answer ≡ Output → answer ≡ Err fault.Output
is_output (Ok done) e = cc
is_output (Err fault.Output) e = refl
is_output (Err (fault.Rule r)) e = absurd (rule_not r (subst IsSingle (sym e) tt))
is_output (Err (fault.Choose n r)) e = absurd (refusal_not r (subst IsSingle (sym e) tt))
is_output (Err f) e = cc
