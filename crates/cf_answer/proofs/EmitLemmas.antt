-- Which sources are refused in a language, and what is owed of the others.
use Rattle.std.proofs.Common.{◌≡◌, ◌∙◌, ◌⊎◌, ◌≤◌, ◌<◌, ◌||◌, ◌&&◌, not, inl, inr, cond, refl, sym, ap, ap₂, subst, true≢false, ℕ, Bool, true, false, List, [], map, Option, None, Some, arith}
use Rattle.std.specs.List.{list_any}
use Rattle.std.specs.Option.{option_map_or}
use Rattle.std.specs.Prelude.{Contains, nat_le}
use Rattle.std.proofs.lemmas.Bool.Decides.{leb_tells}
use Rattle.cf_num.specs.Limit.{limit}
use Rattle.cf_lex.specs.Editions.{edition_of}
use Rattle.cf_tree.specs.declared.base.Edition.{Edition}
use Rattle.cf_tree.specs.declared.target.RawTarget.{RawTarget}
use Rattle.cf_tree.specs.ChooseTree.{ChooseTree}
use Rattle.cf_tree.specs.CodeTree.{CodeTree}
use Rattle.cf_tree.specs.CodeView.{code_tree}
use Rattle.cf_tree.specs.DefView.{RawItemTree}
use Rattle.cf_tree.specs.Meaning.{Path, outcome_of, path}
use Rattle.cf_tree.specs.Params.{bases_of}
use Rattle.cf_tree.specs.Values.{Value}
use Rattle.cf_parse.specs.Programs.{IsProgram, program_of}
use Rattle.cf_pass.specs.Passes.{Told, HaveTurned}
use Rattle.cf_program.specs.Checked.{TypedTree}
use Rattle.cf_program.specs.declared.linearity.Linearity.TheVariants.{Plain}
use Rattle.cf_linear.specs.declared.refusal.Refusal.{Refusal}
use Rattle.cf_build.specs.Built.{IsBuilt, unfolded_code}
use Rattle.cf_build.specs.Chooses.{all_chooses, by_number, first_refused, limit_of, IsFirstRefused}
use Rattle.cf_build.proofs.ChooseLaws.{refused_has}
use Rattle.cf_range.specs.Alike.{Alike, AnswersAlike}
use Rattle.cf_range.specs.Ranges.{LieIn, param_range}
use Rattle.cf_range.specs.declared.range.Range.{Range}
use Rattle.cf_range.proofs.RangeLaws.{params_lie}
use Rattle.cf_stmt.specs.Blocks.{Block}
use Rattle.cf_stmt.specs.Runs.{checked, outcome_run, overflows}
use Rattle.cf_stmt.specs.Statements.{IsStatements}
use Rattle.cf_stmt.proofs.RunLaws.{statements_run}
use Rattle.cf_print.specs.declared.language.Language.{Language}
use Rattle.cf_print_shape.specs.Sets.{is_set, uses_sets}
use Rattle.cf_print_program.specs.Printed.{has_sets}
use Rattle.cf_answer.specs.Emitting.{AnswersAs, CompilesIn, lacks_sets, main_has_sets, takes_sets}
use Rattle.cf_answer.specs.Limits.{of_source}
use Rattle.cf_answer.specs.Refusals.{IsBadProgram, unruly, refused, IsBadEmission, bad_program, no_sets, bad_tree, IsRefusedEmission, IsRefusedSource}
use Rattle.cf_answer.specs.Sources.{SpellsProgram, IsTypedBy, IsTypedSource}
use Rattle.cf_answer.specs.Statuses.{fault_status}
use Rattle.cf_answer.specs.declared.fault.Fault.{Fault}
use Rattle.cf_answer.specs.declared.fault.Fault.TheVariants as fault
use Rattle.cf_answer.proofs.CauseLemmas.{alike, unrefused}
use Rattle.cf_answer.proofs.PassLemmas.{still_none}
use Rattle.cf_answer.proofs.RuleLemmas.{typed_never_broken, typed_by_once}
use Rattle.cf_answer.proofs.SourceLemmas.{bad_alike, built_never_bad, one_program}
use Rattle.cf_answer.proofs.TextLemmas.{caused_too}

-- ---- the text
-- paths that are alike are run alike
alike_run : (p q : Path (List Value)) → Alike p q → checked q ≡ checked p
alike_run p q h = by (leb_tells p.peak limit) (leb_tells q.peak limit)
  where
    by : ((nat_le p.peak limit ≡ true) × (p.peak ≤ limit)) ⊎ ((nat_le p.peak limit ≡ false) × (limit < p.peak)) →
        ((nat_le q.peak limit ≡ true) × (q.peak ≤ limit)) ⊎ ((nat_le q.peak limit ≡ false) × (limit < q.peak)) → checked q ≡ checked p
    by (inl x) (inl y) =
        ap₂ (λ b g. cond b (outcome_run (outcome_of g)) overflows) y.0 (h.0 x.1).1
        ∙ sym (ap (λ b. cond b (outcome_run (outcome_of p.gives)) overflows) x.0)
    by (inl x) (inr y) = absurd (omega (arith, (h.0 x.1).0, y.1))
    by (inr x) (inl y) = absurd (omega (arith, (h.1 y.1).0, x.1))
    by (inr x) (inr y) =
        ap (λ b. cond b (outcome_run (outcome_of q.gives)) overflows) y.0
        ∙ sym (ap (λ b. cond b (outcome_run (outcome_of p.gives)) overflows) x.0)

-- the statements of a target's code, which was tidied, answer as the target
pub body_answers : (t : RawTarget) (rs : List Range) (tidy : CodeTree) (b : Block) → rs ≡ map param_range t.params.items →
    AnswersAlike rs (code_tree t.code) tidy → IsStatements tidy b → AnswersAs b t
body_answers t rs tidy b is same s = λ vs bases small held.
    statements_run tidy b s vs
    ∙ alike_run (path (code_tree t.code) vs) (path tidy vs)
    (same vs (subst (λ v. LieIn v vs) (sym is) (params_lie t.params.items vs bases small held)))

-- ---- sets
-- the target that no pass rewrites has main's parameters, results and code
set_in_target : (typed : TypedTree) (t : RawTarget) → IsBuilt typed.defs typed.main [] [] t →
    (list_any is_set t.params.items || (list_any is_set t.results.items || uses_sets (code_tree t.code))) ≡ main_has_sets typed
set_in_target typed t b =
    let d = b.like_main in
    (λ i. list_any is_set (d.2 i) || (list_any is_set (d.3 i) || uses_sets (b.made i)))
    ∙ or_behind (list_any is_set (bases_of d.0.params)) (list_any is_set d.0.results) (uses_sets (unfolded_code typed.defs typed.main))
    ∙ ap (λ o. option_map_or takes_sets o false || uses_sets (unfolded_code typed.defs typed.main)) (sym d.1)
  where
    or_behind : (a b c : Bool) → (a || (b || c)) ≡ ((a || b) || c)
    or_behind true b c = refl
    or_behind false b c = refl

-- a list without passes stays one
pub none_told : {A : Type 0} (f : A → Told) (xs : List A) → xs ≡ [] → map f xs ≡ []
none_told f xs none = ap (map f) none

pub built_plain : (typed : TypedTree) (given last : List Told) (t : RawTarget) → given ≡ [] → HaveTurned given last →
    IsBuilt typed.defs typed.main given last t → IsBuilt typed.defs typed.main [] [] t
built_plain typed given last t none turned built =
    let plain : IsBuilt typed.defs typed.main [] last t = subst (λ ps. IsBuilt typed.defs typed.main ps last t) none built in
    subst (λ ps. IsBuilt typed.defs typed.main [] ps t) (still_none last (subst (λ ps. HaveTurned ps last) none turned)) plain

pub no_sets_needed : (language : Language) (typed : TypedTree) (t : RawTarget) → has_sets language ≡ false → IsBuilt typed.defs typed.main [] [] t →
    (list_any is_set t.params.items || (list_any is_set t.results.items || uses_sets (code_tree t.code))) ≡ false → lacks_sets language typed ≡ false
no_sets_needed language typed t without built none =
    ap₂ (λ a b. not a && b) without (sym (set_in_target typed t built) ∙ none)

pub sets_there : (language : Language) (typed : TypedTree) → has_sets language ≡ true → lacks_sets language typed ≡ false
sets_there language typed there = ap (λ a. not a && main_has_sets typed) there

-- of a built program no choose is refused
apart : (o : Option Refusal) (r : Refusal) → o ≡ None → o ≡ Some r → ⊥
apart o r none some = cc

none_refused : (qs : List ChooseTree) → ((q : ChooseTree) → Contains qs q → limit_of q ≡ None) → first_refused (by_number qs) ≡ None
none_refused qs within = by (first_refused (by_number qs)) refl
  where
    by : (o : Option (ℕ × Refusal)) → first_refused (by_number qs) ≡ o → first_refused (by_number qs) ≡ None
    by None e = e
    by (Some (n, r)) e =
        let q = refused_has qs n r e in absurd (apart (limit_of q.0) r (within q.0 q.1) q.3)

pub sets_needed : (language : Language) (text : List ℕ) (typed : TypedTree) (t : RawTarget) → IsTypedSource text typed → has_sets language ≡ false →
    IsBuilt typed.defs typed.main [] [] t →
    (list_any is_set t.params.items || (list_any is_set t.results.items || uses_sets (code_tree t.code))) ≡ true →
    IsRefusedEmission language text fault.NoSetsInC
sets_needed language text typed t s without built set =
    let lacks : lacks_sets language typed ≡ true = ap₂ (λ a b. not a && b) without (sym (set_in_target typed t built) ∙ set) in
    bad_tree s.0 fault.NoSetsInC s.1
    (no_sets typed s.2 (none_refused (all_chooses typed.defs) (λ q m. (built.solved q m).within)) lacks)

-- ---- refusals
pub source_refused : (language : Language) (text : List ℕ) (f : Fault) → IsRefusedSource text f ⊎ (f ≡ fault.NoMemory) →
    IsRefusedEmission language text f ⊎ (f ≡ fault.NoMemory)
source_refused language text f (inl h) = inl (caused_too (of_source (edition_of text)) (IsProgram (edition_of text)) (program_of (edition_of text) 200)
    (IsBadProgram (edition_of text)) (IsBadEmission language (edition_of text)) (λ x g b. bad_program g b) text f h)
source_refused language text f (inr memory) = inr memory

-- a program without a form in the language is not refused otherwise
pub not_otherwise : (edition : Edition) (program : List RawItemTree) (typed : TypedTree) → IsTypedBy edition Plain program typed →
    first_refused (by_number (all_chooses typed.defs)) ≡ None → (f : Fault) → IsBadProgram edition program f → ⊥
not_otherwise edition program typed is none f (unruly e h) = typed_never_broken edition Plain program typed f is h
not_otherwise edition program typed is none f (refused other n r h b) =
    let same : other ≡ typed = typed_by_once edition Plain program other typed h is in
    let there : first_refused (by_number (all_chooses typed.defs)) ≡ Some (n, r) =
    subst (λ v. IsFirstRefused (all_chooses v.defs) n r) same b in cc

bad_alike_in : (language : Language) (text : List ℕ) (program : List RawItemTree) (f g : Fault) → SpellsProgram text program →
    IsBadEmission language (edition_of text) program f → IsBadEmission language (edition_of text) program g → fault_status f ≡ fault_status g
bad_alike_in language text program f g s (bad_program h a) (bad_program i b) = bad_alike text program h i s a b
bad_alike_in language text program f g s (bad_program h a) (no_sets typed is none lacks) =
    absurd (not_otherwise (edition_of text) program typed is none h a)
bad_alike_in language text program f g s (no_sets typed is none lacks) (bad_program i b) =
    absurd (not_otherwise (edition_of text) program typed is none i b)
bad_alike_in language text program f g s (no_sets typed is none lacks) (no_sets other js nothing too) = refl

pub emissions_alike : (language : Language) (text : List ℕ) (f g : Fault) → IsRefusedEmission language text f → IsRefusedEmission language text g →
    fault_status f ≡ fault_status g
emissions_alike language text f g h i = alike (of_source (edition_of text)) (IsProgram (edition_of text)) (program_of (edition_of text) 200)
    (IsBadEmission language (edition_of text)) (one_program text) text (bad_alike_in language text) f g h i

never_bad_in : (language : Language) (edition : Edition) (program : List RawItemTree) (typed : TypedTree) (given last : List Told) (t : RawTarget) →
    IsTypedBy edition Plain program typed → IsBuilt typed.defs typed.main given last t → lacks_sets language typed ≡ false →
    (f : Fault) → IsBadEmission language edition program f → ⊥
never_bad_in language edition program typed given last t is built has f (bad_program g h) =
    built_never_bad edition program typed given last t is built g h
never_bad_in language edition program typed given last t is built has f (no_sets other js none lacks) =
    let same : other ≡ typed = typed_by_once edition Plain program other typed js is in
    true≢false (sym (subst (λ v. lacks_sets language v ≡ true) same lacks) ∙ has)

pub emission_unrefused : (language : Language) (text : List ℕ) (given last : List Told) (t : RawTarget) (c : CompilesIn language given last text t) →
    (f : Fault) → IsRefusedEmission language text f → ⊥
emission_unrefused language text given last t c f r =
    let typed = c.compiles.0 in
    let s = c.compiles.1 in
    unrefused (of_source (edition_of text)) (IsProgram (edition_of text)) (program_of (edition_of text) 200) (IsBadEmission language (edition_of text))
    (one_program text) text f s.0 (never_bad_in language (edition_of text) s.0 typed given last t s.2 c.compiles.2 c.has_form) r s.1
