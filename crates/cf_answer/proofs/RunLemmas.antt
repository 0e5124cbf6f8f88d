-- Why `run` refuses a source text, and what answers its lines where it does not.
use Rattle.std.proofs.Common.{◌≡◌, ap, subst, refl, inl, inr, ℕ, Bool, true, false, List, [], length}
use Rattle.std.specs.Prelude.{◌⊎◌, Result, Ok, Err}
use Rattle.cf_linear.specs.declared.refusal.Refusal.{Refusal}
use Rattle.cf_parse.specs.Programs.{IsProgram, program_of}
use Rattle.cf_program.specs.Checked.{TypedTree, checked}
use Rattle.cf_program.specs.Source.{IsSpelledProgram}
use Rattle.cf_program.specs.TypedProgram.{IsLateProgram}
use Rattle.cf_program.specs.declared.linearity.Linearity.TheVariants.{Plain, Late}
use Rattle.cf_program.specs.declared.fault.TypeFault.TheVariants as rule
use Rattle.cf_lex.specs.Editions.{edition_of}
use Rattle.cf_tree.specs.declared.base.Edition.{Edition}
use Rattle.cf_tree.specs.DefView.{RawItemTree}
use Rattle.cf_tree.specs.declared.base.Place.{Place}
use Rattle.cf_tree.specs.declared.target.RawTarget.{RawTarget}
use Rattle.cf_build.specs.Built.{IsBuilt}
use Rattle.cf_build.specs.Chooses.{all_chooses, IsFirstRefused}
use Rattle.cf_build.specs.Solves.{FaultAnswer}
use Rattle.cf_build.specs.declared.fault.BuildFault.{BuildFault}
use Rattle.cf_build.specs.declared.fault.BuildFault.TheVariants as build
use Rattle.cf_eval.specs.Spelling.{without_return}
use Rattle.cf_pass.specs.Passes.{Told, HaveTurned}
use Rattle.cf_late.proofs.AllowedLaws.{late_runs_are_allowed}
use Rattle.cf_answer.specs.Forms.{Form}
use Rattle.cf_answer.specs.LateReplies.{AreRunsAllowed}
use Rattle.cf_answer.specs.Limits.{of_source}
use Rattle.cf_answer.specs.Owed.{by_target, by_late, ArePicked, OwesRun, compiled, late}
use Rattle.cf_answer.specs.Passes.{applied}
use Rattle.cf_answer.specs.Picked.{main_bases}
use Rattle.cf_answer.specs.Refusals.{fault_of, bad_tree, IsBroken, broken, wide, IsBadProgram, unruly, refused, IsBadRun, bad, broken_late, IsRefusedRun}
use Rattle.cf_answer.specs.Sources.{SpellsProgram, IsTypedBy, IsTypedSource, IsCheckedLate, Compiles}
use Rattle.cf_answer.specs.Statuses.{fault_status}
use Rattle.cf_answer.specs.Steps.{IsVerdict, IsRunner, IsNamedRunner}
use Rattle.cf_answer.specs.declared.answerer.Runner.{Runner as DeclaredRunner}
use Rattle.cf_answer.specs.declared.fault.Fault.{Fault}
use Rattle.cf_answer.specs.declared.fault.Fault.TheVariants as fault
use Rattle.cf_answer.proofs.CauseLemmas.{alike, unrefused}
use Rattle.cf_answer.proofs.LateLemmas.{main_types}
use Rattle.cf_answer.proofs.PassLemmas.{still_none}
use Rattle.cf_answer.proofs.PickedLemmas.{replies_picked, values_fit}
use Rattle.cf_answer.proofs.RuleLemmas.{not_both, broken_alike, typed_never_broken, typed_is_checked, typed_keeps}
use Rattle.cf_answer.proofs.SourceLemmas.{bad_alike, built_never_bad, one_program}

-- ---- the refusals of `run` have one status

-- a program whose first broken rule is that on linear relations is refused for no other fault but that
only_late : {A : Type 0} (edition : Edition) (program : List RawItemTree) (p : Place) (f : Fault) → checked edition Plain program ≡ Err (rule.NotLinear p) →
    IsBadProgram edition program f → ((q : Place) → f ≡ fault.Rule (rule.NotLinear q) → ⊥) → A
only_late edition program p f e (unruly g (broken d h)) other = let same : d ≡ rule.NotLinear p = cc in absurd (other p (ap fault.Rule same))
only_late edition program p f e (unruly g (wide source d is h u)) other = not_both edition Plain program (rule.NotLinear p) source is e h
only_late edition program p f e (refused typed n r h b) other = let taken = (typed_is_checked edition Plain program typed h).1 in absurd (cc)

bad_run_alike : (text : List ℕ) (program : List RawItemTree) (f g : Fault) → SpellsProgram text program → IsBadRun (edition_of text) program f →
    IsBadRun (edition_of text) program g → fault_status f ≡ fault_status g
bad_run_alike text program f g s (bad h a n) (bad i b m) = bad_alike text program h i s a b
bad_run_alike text program f g s (bad h a n) (broken_late p e plain i) = only_late (edition_of text) program p h plain a n
bad_run_alike text program f g s (broken_late p e plain h) (bad i b m) = only_late (edition_of text) program p i plain b m
bad_run_alike text program f g s (broken_late p e plain h) (broken_late q d other i) = broken_alike (edition_of text) Late program f g h i

pub runs_alike : (text : List ℕ) (f g : Fault) → IsRefusedRun text f → IsRefusedRun text g → fault_status f ≡ fault_status g
runs_alike text f g h i = alike (of_source (edition_of text)) (IsProgram (edition_of text)) (program_of (edition_of text) 200) (IsBadRun (edition_of text))
    (one_program text) text (bad_run_alike text) f g h i

-- ---- a source that `run` answers is not refused

-- a program of which a target is built
built_run : (edition : Edition) (program : List RawItemTree) (typed : TypedTree) (given last : List Told) (t : RawTarget) →
    IsTypedBy edition Plain program typed → IsBuilt typed.defs typed.main given last t → (f : Fault) → IsBadRun edition program f → ⊥
built_run edition program typed given last t is built f (bad g b n) = built_never_bad edition program typed given last t is built g b
built_run edition program typed given last t is built f (broken_late p e plain h) = let taken = (typed_is_checked edition Plain program typed is).1 in cc

-- a late program
pub late_run_kept : (edition : Edition) (program : List RawItemTree) (typed : TypedTree) → IsCheckedLate edition program typed → (f : Fault) →
    IsBadRun edition program f → ⊥
late_run_kept edition program typed c f (bad g b n) = only_late edition program c.0 g c.1 b n
late_run_kept edition program typed c f (broken_late p e plain h) = typed_never_broken edition Late program typed f c.2 h

pub run_unrefused : (calls : Bool) (form : Form) (source : List ℕ) (given last : List Told) (ls : List (List ℕ)) (text : List ℕ) (f : Fault) →
    OwesRun calls form source given last ls text → IsRefusedRun source f → ⊥
run_unrefused calls form source given last ls text f (compiled t (c, turned) replies picked) r =
    unrefused (of_source (edition_of source)) (IsProgram (edition_of source)) (program_of (edition_of source) 200) (IsBadRun (edition_of source))
    (one_program source)
    source f c.1.0 (built_run (edition_of source) c.1.0 c.0 (applied calls given) (applied calls last) t c.1.2 c.2) r c.1.1
run_unrefused calls form source given last ls text f (late typed s replies allowed same) r =
    unrefused (of_source (edition_of source)) (IsProgram (edition_of source)) (program_of (edition_of source) 200) (IsBadRun (edition_of source))
    (one_program source)
    source f s.0 (late_run_kept (edition_of source) s.0 typed s.2) r s.1

-- ---- what answers the lines

-- a target
pub target_runs : (edition : Edition) (text : List ℕ) (program : List RawItemTree) (typed : TypedTree) (t : RawTarget) (given last : List Told) →
    HaveTurned given last → edition ≡ edition_of text → SpellsProgram text program → IsTypedBy edition Plain program typed →
    IsBuilt typed.defs typed.main given last t → IsRunner true text given last (by_target t)
target_runs edition text program typed t given last turned is s h built =
    let source : IsTypedSource text typed = (program, s, subst (λ e. IsTypedBy e Plain program typed) is h) in
    λ form ls replies r. compiled t ((typed, source, built), turned) r (replies_picked form given last text t ls replies (typed, source, built) r)

-- a late program
runs_allowed : (edition : Edition) (program : List RawItemTree) (typed : TypedTree) → IsSpelledProgram edition program →
    IsTypedBy edition Late program typed → AreRunsAllowed typed
runs_allowed edition program typed s is =
    let kept : IsLateProgram typed.defs typed.main = typed_keeps edition Late program typed s is in
    λ line vs spelled.
    let fit = values_fit (main_bases typed) (without_return line) vs spelled in
    late_runs_are_allowed typed.defs typed.main kept vs (main_types typed vs kept fit.0) fit.1

pub late_runs : (edition : Edition) (text : List ℕ) (program : List RawItemTree) (typed : TypedTree) (p : Place) (calls : Bool) (given : List Told) →
    edition ≡ edition_of text → SpellsProgram text program → IsSpelledProgram edition program → checked edition Plain program ≡ Err (rule.NotLinear p) →
    IsTypedBy edition Late program typed → IsRunner calls text given given (by_late typed)
late_runs edition text program typed p calls given is s numbers plain h =
    λ form ls replies r. late typed
    (program, s, subst (λ e. IsCheckedLate e program typed) is (p, plain, h)) r (runs_allowed edition program typed numbers h) refl

-- where no pass is called, all passes tell what they told
owes_unpassed : (form : Form) (source : List ℕ) (last given : List Told) (ls : List (List ℕ)) (text : List ℕ) → OwesRun true form source [] last ls text →
    OwesRun false form source given given ls text
owes_unpassed form source last given ls text (compiled t (c, turned) replies picked) =
    let none = still_none last turned in
    compiled t (subst (λ ps. Compiles [] ps source t) none c, refl) replies (subst (λ ps. ArePicked form (length ps) source ls text) none picked)
owes_unpassed form source last given ls text (late typed s replies allowed same) = late typed s replies allowed refl

pub unpassed_verdict : (source : List ℕ) (last given : List Told) (r : Result DeclaredRunner Fault) →
    IsVerdict (IsNamedRunner true source [] last) (IsRefusedRun source) r → IsVerdict (IsNamedRunner false source given given) (IsRefusedRun source) r
unpassed_verdict source last given (Ok a) v = ((λ form ls text replies. owes_unpassed form source last given ls text (v.0 form ls text replies)), v.1)
unpassed_verdict source last given (Err f) v = v

-- ---- why it is refused
pub run_unruly : (edition : Edition) (text : List ℕ) (program : List RawItemTree) (f : Fault) → ((p : Place) → f ≡ fault.Rule (rule.NotLinear p) → ⊥) →
    edition ≡ edition_of text → SpellsProgram text program → IsBroken edition Plain program f → IsRefusedRun text f
run_unruly edition text program f other is s h =
    bad_tree program f s (bad f (unruly f (subst (λ e. IsBroken e Plain program f) is h)) other)

pub run_unruly_or : (edition : Edition) (text : List ℕ) (program : List RawItemTree) (f : Fault) → ((p : Place) → f ≡ fault.Rule (rule.NotLinear p) → ⊥) →
    edition ≡ edition_of text → SpellsProgram text program → IsBroken edition Plain program f ⊎ (f ≡ fault.NoMemory) →
    IsRefusedRun text f ⊎ (f ≡ fault.NoMemory)
run_unruly_or edition text program f other is s (inl h) = inl (run_unruly edition text program f other is s h)
run_unruly_or edition text program f other is s (inr memory) = inr memory

pub run_unruly_late : (edition : Edition) (text : List ℕ) (program : List RawItemTree) (p : Place) (f : Fault) → edition ≡ edition_of text →
    SpellsProgram text program → checked edition Plain program ≡ Err (rule.NotLinear p) → IsBroken edition Late program f ⊎ (f ≡ fault.NoMemory) →
    IsRefusedRun text f ⊎ (f ≡ fault.NoMemory)
run_unruly_late edition text program p f is s plain (inl h) =
    inl (bad_tree program f s (subst (λ e. IsBadRun e program f) is (broken_late p f plain h)))
run_unruly_late edition text program p f is s plain (inr memory) = inr memory

run_choose_refused : (text : List ℕ) (typed : TypedTree) (n : ℕ) (r : Refusal) → IsTypedSource text typed → IsFirstRefused (all_chooses typed.defs) n r →
    IsRefusedRun text (fault.Choose n r)
run_choose_refused text typed n r s h = bad_tree s.0 (fault.Choose n r) s.1 (bad (fault.Choose n r) (refused typed n r s.2 h) (λ p e. cc))

pub run_build_refused : (edition : Edition) (text : List ℕ) (program : List RawItemTree) (typed : TypedTree) (f : BuildFault) → edition ≡ edition_of text →
    SpellsProgram text program → IsTypedBy edition Plain program typed → FaultAnswer (all_chooses typed.defs) f →
    IsRefusedRun text (fault_of f) ⊎ (fault_of f ≡ fault.NoMemory)
run_build_refused edition text program typed (build.Choose n r) is s h b =
    inl (run_choose_refused text typed n r (program, s, subst (λ e. IsTypedBy e Plain program typed) is h) b)
run_build_refused edition text program typed build.NoMemory is s h b = inr refl
