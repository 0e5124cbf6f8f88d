-- The faults of a text.
use Rattle.std.proofs.Common.{ℕ, List, [], ◌∷◌}
use Rattle.std.specs.Prelude.{Result, Err}
use Rattle.cf_gen.specs.Workload.{gen_source}
use Rattle.cf_lex.specs.declared.token.Token.{Token}
use Rattle.cf_reader.specs.Readers.{Reader}
use Rattle.cf_lex.specs.Editions.{edition_of}
use Rattle.cf_tree.specs.declared.base.Edition.{Edition}
use Rattle.cf_tree.specs.DefView.{DefTree, RawItemTree}
use Rattle.cf_program.specs.declared.linearity.Linearity.{Linearity}
use Rattle.cf_program.specs.declared.linearity.Linearity.TheVariants.{Plain, Late}
use Rattle.cf_form.specs.FormAnswers.{IsUnformed}
use Rattle.cf_form.specs.declared.fault.FormFault.{FormFault}
use Rattle.cf_form.specs.declared.fault.FormFault.TheVariants as form
use Rattle.cf_target.specs.Spelling.{TargetTree}
use Rattle.cf_print.specs.declared.language.Language.{Language}
use Rattle.cf_words.specs.Commands.{Command, compile, run, pre, check, exec, prove, emit, goals, verify, gen}
use Rattle.cf_answer.specs.Limits.{TextKind}
use Rattle.cf_answer.specs.Refusals.{Causes, too_long, odd_byte, large_number, no_tree, bad_tree, IsBroken, broken, wide, form_fault, IsBadProgram, unruly, refused, IsBadRun, bad, broken_late, IsBadEmission, IsBadClaims, bad_claims, sets_claimed, bad_program, no_sets, IsBadTarget, untyped, IsRefusedSource, IsRefusedRun, IsRefusedEmission, IsRefusedClaims, IsRefusedTarget, IsUnverified, bad_source, bad_steps, bad_blocks, Refuses}
use Rattle.cf_answer.specs.declared.fault.Fault.{Fault}
use Rattle.cf_answer.specs.declared.fault.Fault.TheVariants as fault

abbrev pub failed : Fault → Result (Unit {0}) Fault
failed f = Err f

-- a fault for which a text is refused
abbrev pub IsTextFault : Fault → Type 0
IsTextFault fault.TextTooLong = Unit {0}
IsTextFault (fault.BadByte p) = Unit {0}
IsTextFault (fault.NumberPast p) = Unit {0}
IsTextFault (fault.Syntax p) = Unit {0}
IsTextFault (fault.Rule e) = Unit {0}
IsTextFault (fault.Choose n r) = Unit {0}
IsTextFault (fault.Weight f w) = Unit {0}
IsTextFault (fault.Depth f d) = Unit {0}
IsTextFault fault.NoSetsInC = Unit {0}
IsTextFault fault.NoSetsInSmt = Unit {0}
IsTextFault fault.BadTarget = Unit {0}
IsTextFault (fault.Steps e) = Unit {0}
IsTextFault (fault.Rejected n i j w) = Unit {0}
IsTextFault f = ⊥

caused : {Tree : Type 0} (kind : TextKind) (Is : Tree → List Token → Type 0) (read : Reader Tree) (Bad : Tree → Fault → Type 0) →
    ((x : Tree) (f : Fault) → Bad x f → IsTextFault f) →
    (text : List ℕ) (f : Fault) → Causes kind Is read Bad text f → IsTextFault f
caused kind Is read Bad by text f (too_long h) = tt
caused kind Is read Bad by text f (odd_byte ts p h) = tt
caused kind Is read Bad by text f (large_number ts p h) = tt
caused kind Is read Bad by text f (no_tree ts end p h none place) = tt
caused kind Is read Bad by text f (bad_tree x g s b) = by x g b

form_text : (defs : List DefTree) (e : FormFault) → IsUnformed defs e → IsTextFault (form_fault e)
form_text defs (form.Cases n k) h = tt
form_text defs (form.Weight f k) h = tt
form_text defs (form.Depth f k) h = tt
form_text defs form.NoMemory h = absurd h

broken_fault : (edition : Edition) (how : Linearity) (program : List RawItemTree) (f : Fault) → IsBroken edition how program f → IsTextFault f
broken_fault edition how program f (broken e h) = tt
broken_fault edition how program f (wide source e is h u) = form_text source.defs e u

program_fault : (edition : Edition) (program : List RawItemTree) (f : Fault) → IsBadProgram edition program f → IsTextFault f
program_fault edition program f (unruly g h) = broken_fault edition Plain program g h
program_fault edition program f (refused typed n r h b) = tt

run_fault : (edition : Edition) (program : List RawItemTree) (f : Fault) → IsBadRun edition program f → IsTextFault f
run_fault edition program f (bad g b other) = program_fault edition program g b
run_fault edition program f (broken_late p g plain h) = broken_fault edition Late program g h

emission_fault : (language : Language) (edition : Edition) (program : List RawItemTree) (f : Fault) → IsBadEmission language edition program f → IsTextFault f
emission_fault language edition program f (bad_program g b) = program_fault edition program g b
emission_fault language edition program f (no_sets typed is none lacks) = tt

claims_fault : (edition : Edition) (program : List RawItemTree) (f : Fault) → IsBadClaims edition program f → IsTextFault f
claims_fault edition program f (bad_claims g b) = program_fault edition program g b
claims_fault edition program f (sets_claimed typed is none sets) = tt

target_fault : (t : TargetTree) (f : Fault) → IsBadTarget t f → IsTextFault f
target_fault t f (untyped h) = tt

source_text : (text : List ℕ) (f : Fault) → IsRefusedSource text f → IsTextFault f
source_text text f h = caused _ _ _ _ (program_fault (edition_of text)) text f h

run_text : (text : List ℕ) (f : Fault) → IsRefusedRun text f → IsTextFault f
run_text text f h = caused _ _ _ _ (run_fault (edition_of text)) text f h

emission_text : (language : Language) (text : List ℕ) (f : Fault) → IsRefusedEmission language text f → IsTextFault f
emission_text language text f h = caused _ _ _ _ (emission_fault language (edition_of text)) text f h

claims_text : (text : List ℕ) (f : Fault) → IsRefusedClaims text f → IsTextFault f
claims_text text f h = caused _ _ _ _ (claims_fault (edition_of text)) text f h

target_text : (text : List ℕ) (f : Fault) → IsRefusedTarget text f → IsTextFault f
target_text text f h = caused _ _ _ _ target_fault text f h

verify_fault : (source steps : List ℕ) (f : Fault) → IsUnverified source steps f → IsTextFault f
verify_fault source steps f (bad_source g h) = caused _ _ _ _ (broken_fault (edition_of source) Plain) source f h
verify_fault source steps f (bad_steps typed e s h) = tt
verify_fault source steps f (bad_blocks typed bs n i j w s b v) = tt

pub refused_fault : (c : Command) (files : List (List ℕ)) (f : Fault) → Refuses c files f → IsTextFault f
refused_fault (compile flags name) (text ∷ []) f h = source_text text f h
refused_fault (run flags form name) (text ∷ []) f h = run_text text f h
refused_fault (pre name) (text ∷ []) f h = source_text text f h
refused_fault (check strictness name) (text ∷ []) f h = source_text text f h
refused_fault (exec form name) (text ∷ []) f h = target_text text f h
refused_fault (prove name) (text ∷ []) f h = source_text text f h
refused_fault (emit e name) (text ∷ []) f h = emission_text e.language text f h
refused_fault (goals name) (text ∷ []) f h = claims_text text f h
refused_fault (verify name other) (source ∷ steps ∷ []) f h = verify_fault source steps f h
refused_fault (gen n) [] f h = source_text (gen_source n) f h
refused_fault c files f h = absurd h
