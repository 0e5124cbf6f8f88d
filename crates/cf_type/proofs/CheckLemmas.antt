-- What the answers of checking say.
use Rattle.std.proofs.Common.{◌≡◌, List, [], map, reverse, take, Option, Some, None, Result, Ok, Err, refl, sym, ap, subst, ◌∙◌}
use Rattle.cf_tree.specs.declared.base.Edition.TheVariants.{Two, Three}
use Rattle.cf_tree.specs.DefView.{raw_def_tree, def_tree, DefTree, RawItemTree}
use Rattle.cf_program.specs.declared.fault.TypeFault.{TypeFault}
use Rattle.cf_program.specs.declared.fault.TypeFault.TheVariants as faults
use Rattle.cf_program.specs.declared.fault.TypeFault.TheVariants.{Weight, Depth}
use Rattle.cf_program.specs.declared.linearity.Linearity.{Linearity}
use Rattle.cf_program.specs.CheckAnswers.{CheckFault}
use Rattle.cf_program.specs.Checked.{TypedTree, checked, functions_of, main_from, size_fault, sized, walk_items, with_main}
use Rattle.cf_program.specs.Size.{weights, depths}
use Rattle.cf_program.specs.declared.typed.TypedDefs.{TypedDefs}
use Rattle.cf_program.specs.DistinctNames.{IsDistinctlyNamed}
use Rattle.cf_program.specs.LateLinear.{IsLinearBy}
use Rattle.cf_program.specs.Source.{IsSpelledProgram}
use Rattle.cf_program.specs.Typed.{typed_tree}
use Rattle.cf_program.specs.TypedProgram.{IsProgramBy}
use Rattle.cf_program.specs.TypedSource.{IsSourceBy}
use Rattle.cf_program.proofs.ProgramLaws.{rules_keep_types, rules_keep_sources, rules_keep_names}
use Rattle.cf_program.specs.Then.{◌>>=◌}
use Rattle.cf_program.specs.Names.{callee_from}
use Rattle.cf_program.specs.Walk.{behind, where_no_fault}
use Rattle.cf_type.specs.declared.context.Context.{Context as DeclaredContext}
use Rattle.cf_type.specs.FormView.{context_of}
use Rattle.cf_type.specs.Valued.{constants_of}
use Rattle.cf_type.specs.Walked.{first_fault}
use Rattle.cf_type.proofs.WalkSteps.{fails_then, goes_on, then_then}

pub fails_is : {Y : Type 0} (e : TypeFault) (r : Result Y TypeFault) → r ≡ Err e → CheckFault e r
fails_is faults.NoMemory r h = tt
fails_is (faults.UnknownName p) r h = h
fails_is (faults.DuplicateName p) r h = h
fails_is (faults.WrongCount p) r h = h
fails_is (faults.Mismatch p) r h = h
fails_is (faults.NotConstant p) r h = h
fails_is (faults.ConstantBelow p) r h = h
fails_is (faults.ConstantPast p) r h = h
fails_is (faults.CallsLater p) r h = h
fails_is faults.NoMain r h = h
fails_is (faults.NotLinear p) r h = h
fails_is (faults.Weight n) r h = h
fails_is (faults.Depth n) r h = h

-- where no variable counts as known, the context is that of a body
pub behind_is : (c : DeclaredContext) → c.known ≡ 0 → context_of c ≡ behind c.edition c.how (callee_from c.number 0 (map raw_def_tree c.callees.now))
    (constants_of c.constants.now) (reverse (map raw_def_tree (take c.number c.callees.now)))
unfolding context_of
behind_is c h = rw h refl

-- the rules over the whole behind the walk of its declarations
checked_is : (how : Linearity) (items : List RawItemTree) → checked Two how items
    ≡ (walk_items Two how (functions_of items) [] [] [] 1 items >>= (λ defs. with_main defs (main_from 0 (functions_of items))) >>= λ t. sized t)
checked_is how items = then_then (walk_items Two how (functions_of items) [] [] [] 1 items) (λ defs. with_main defs (main_from 0 (functions_of items))) _

pub check_fails : (how : Linearity) (items : List RawItemTree) (fault : TypeFault) →
    CheckFault fault (walk_items Two how (functions_of items) [] [] [] 1 items >>= λ defs. with_main defs (main_from 0 (functions_of items))) →
    CheckFault fault (checked Two how items)
check_fails how items fault h =
    subst (λ r. CheckFault fault r) (sym (checked_is how items))
    (fails_then fault (walk_items Two how (functions_of items) [] [] [] 1 items >>= λ defs. with_main defs (main_from 0 (functions_of items))) _ h)

check_goes_on : (how : Linearity) (items : List RawItemTree) (t : TypedTree) →
    (walk_items Two how (functions_of items) [] [] [] 1 items >>= λ defs. with_main defs (main_from 0 (functions_of items))) ≡ Ok t →
    checked Two how items ≡ sized t
check_goes_on how items t h =
    checked_is how items
    ∙ goes_on (walk_items Two how (functions_of items) [] [] [] 1 items >>= λ defs. with_main defs (main_from 0 (functions_of items))) t _ h

abbrev past : List DefTree → Option TypeFault
past defs = first_fault (size_fault 1000000 Weight (weights defs)) (size_fault 200 Depth (depths defs))

sized_is : (t : TypedTree) → sized t ≡ where_no_fault (past t.defs) (Ok t)
sized_is t = by (size_fault 1000000 Weight (weights t.defs)) (size_fault 200 Depth (depths t.defs))
  where
    by : (heavy deep : Option TypeFault) → where_no_fault heavy (where_no_fault deep (Ok t)) ≡ where_no_fault (first_fault heavy deep) (Ok t)
    by None deep = refl
    by (Some fault) deep = refl

module _ (how : Linearity) (items : List RawItemTree) (t : TypedDefs)
    (walked : (walk_items Two how (functions_of items) [] [] [] 1 items >>= λ defs. with_main defs (main_from 0 (functions_of items))) ≡ Ok (typed_tree t)) where
  pub check_passes : (fault : TypeFault) → Some fault ≡ past (map def_tree t.defs.items) → checked Two how items ≡ Err fault
  check_passes fault h = check_goes_on how items (typed_tree t) walked ∙ sized_is (typed_tree t) ∙ ap (λ o. where_no_fault o (Ok (typed_tree t))) (sym h)

  pub check_keeps : None ≡ past (map def_tree t.defs.items) → checked Two how items ≡ Ok (typed_tree t)
  check_keeps h = check_goes_on how items (typed_tree t) walked ∙ sized_is (typed_tree t) ∙ ap (λ o. where_no_fault o (Ok (typed_tree t))) (sym h)

-- a program of edition 3 is not asked for its size
ends : {A : Type 0} (r : Result A TypeFault) → (r >>= λ x. Ok x) ≡ r
ends (Ok x) = refl
ends (Err e) = refl

checked_source : (how : Linearity) (items : List RawItemTree) → checked Three how items
    ≡ (walk_items Three how (functions_of items) [] [] [] 1 items >>= λ defs. with_main defs (main_from 0 (functions_of items)))
checked_source how items =
    then_then (walk_items Three how (functions_of items) [] [] [] 1 items) (λ defs. with_main defs (main_from 0 (functions_of items))) (λ t. Ok t)
    ∙ ends (walk_items Three how (functions_of items) [] [] [] 1 items >>= λ defs. with_main defs (main_from 0 (functions_of items)))

pub source_fails : (how : Linearity) (items : List RawItemTree) (fault : TypeFault) →
    CheckFault fault (walk_items Three how (functions_of items) [] [] [] 1 items >>= λ defs. with_main defs (main_from 0 (functions_of items))) →
    CheckFault fault (checked Three how items)
source_fails how items fault h = subst (λ r. CheckFault fault r) (sym (checked_source how items)) h

pub source_goes_on : (how : Linearity) (items : List RawItemTree) (t : TypedTree) →
    (walk_items Three how (functions_of items) [] [] [] 1 items >>= λ defs. with_main defs (main_from 0 (functions_of items))) ≡ Ok t →
    checked Three how items ≡ Ok t
source_goes_on how items t h = checked_source how items ∙ h

pub source_is : (how : Linearity) (items : List RawItemTree) (t : TypedDefs) → IsSpelledProgram Three items → checked Three how items ≡ Ok (typed_tree t) →
    IsSourceBy how (map def_tree t.defs.items) t.main
source_is how items t spelled e = rules_keep_sources how items (typed_tree t) spelled e

-- what the rules keep
pub named_is : (how : Linearity) (items : List RawItemTree) (t : TypedDefs) → IsSpelledProgram Two items → checked Two how items ≡ Ok (typed_tree t) →
    IsDistinctlyNamed (functions_of items)
named_is how items t spelled e = rules_keep_names how items (typed_tree t) spelled e

pub typed_is : (how : Linearity) (items : List RawItemTree) (t : TypedDefs) → IsSpelledProgram Two items → checked Two how items ≡ Ok (typed_tree t) →
    IsProgramBy (IsLinearBy how) (map def_tree t.defs.items) t.main
typed_is how items t spelled e = rules_keep_types how items (typed_tree t) spelled e
