-- Steps of the walk through the declarations of a program, and through a choose.
use Rattle.std.proofs.Common.{◌≡◌, ◌<◌, ◌≤◌, ℕ, Bool, true, false, List, [], ◌∷◌, ◌++◌, ◌+◌, map, length, take, drop, get_or, reverse, Option, Some, None, Result, Ok, Err, refl, sym, ap, ap₂, subst, ◌∙◌, arith}
use Rattle.std.proofs.lemmas.List.{append-nil, drop_more, length-append, map-append, take_more, take-append-drop}
use Rattle.std.proofs.Math.Seq.{take-append_seam}
use Rattle.cf_tree.specs.declared.base.Edition.{Edition}
use Rattle.cf_tree.specs.declared.base.Edition.TheVariants.{Two, Three}
use Rattle.cf_tree.specs.declared.raw.RawDef.{RawDef}
use Rattle.cf_tree.specs.declared.raw.RawItem.{RawItem}
use Rattle.cf_tree.specs.declared.raw.RawItem.TheVariants.{Const, Def as Function}
use Rattle.cf_tree.specs.declared.base.Place.{Place}
use Rattle.cf_tree.specs.declared.raw.Param.{Param}
use Rattle.cf_tree.specs.declared.base.Base.TheVariants.{Bool as Truth}
use Rattle.cf_tree.specs.Bases.{same_bases}
use Rattle.cf_tree.specs.DefView.{RawDefTree, DefTree, RawItemTree, item_const, item_def, raw_def_tree, raw_item_tree}
use Rattle.cf_tree.specs.RawView.{raw_tree}
use Rattle.cf_tree.specs.RawTree.{RawTree, raw_choose, place_of, GivenTree, AimTree}
use Rattle.cf_program.specs.declared.fault.TypeFault.{TypeFault}
use Rattle.cf_program.specs.declared.fault.TypeFault.TheVariants.{Mismatch}
use Rattle.cf_program.specs.declared.linearity.Linearity.{Linearity}
use Rattle.cf_program.specs.CheckAnswers.{CheckAnswer, CheckFault}
use Rattle.cf_program.specs.Checked.{functions_of, walk_const, walk_def, walk_items, def_form}
use Rattle.cf_program.specs.Constants.{Constant, constant_names}
use Rattle.cf_program.specs.Names.{callee_from, is_among, repeated}
use Rattle.cf_tree.specs.Params.{names_of}
use Rattle.cf_program.specs.Then.{◌>>=◌}
use Rattle.cf_program.specs.Linear.{Found, linear, bends, found_in, in_choose}
use Rattle.cf_program.specs.Walk.{by_edition, where_kept, where_no_fault, where_linear, is_one, Context, Form, GivenForm, behind, taken, takes_inputs, in_relation, output_fault, choose_form, choose_part, choose_where_form, walk, walk_given, walk_aim}
use Rattle.cf_type.specs.FormParts.{related, walk_choose_where}
use Rattle.cf_type.specs.declared.form.Form.{Form as DeclaredForm}
use Rattle.cf_type.specs.FormView.{form_of}
use Rattle.cf_type.specs.Walked.{functions_in, Walked, with_constants, with_function, walk_item, functions_to}
use Rattle.cf_type.proofs.WalkSteps.{fails_then, goes_on}

of_two : {A : Type 0} (edition : Edition) (two three : A) → edition ≡ Two → two ≡ by_edition edition two three
of_two Two two three h = refl
of_two Three two three h = cc

-- the answer to a choose of language 2, under the name of its tree
pub choose_answer : (context : Context) (scope : List Param) (n : ℕ) (p : Place) (outputs hidden : List Param) (g : GivenTree) (r : RawTree) (aim : AimTree)
    (raw : RawTree) (told : Result DeclaredForm TypeFault) → context.edition ≡ Two → raw ≡ raw_choose p outputs hidden g r aim →
    CheckAnswer form_of told (where_no_fault (output_fault Two (taken context) outputs)
    (walk (in_relation context (length scope)) (scope ++ outputs) (n + 1) r >>= choose_form p n scope outputs >>= λ f.
    walk context (scope ++ outputs) (n + 1) r >>= choose_part p f)) → CheckAnswer form_of told (walk context scope n raw)
choose_answer context scope n p outputs hidden g r aim raw told two is h =
    subst (λ x. CheckAnswer form_of told (walk context scope n x)) (sym is)
    (subst (λ x. CheckAnswer form_of told x) (of_two context.edition _ _ two) h)

of_three : {A : Type 0} (edition : Edition) (two three : A) → edition ≡ Three → three ≡ by_edition edition two three
of_three Three two three h = refl
of_three Two two three h = cc

-- a walk that is checked, in one piece or in two
checked_apart : {A : Type 0} (r : Result Form TypeFault) (test : Form → Bool) (fault : TypeFault) (found : Found) (go : Form → Result A TypeFault) →
    (r >>= λ f. where_kept (test f) fault (where_linear found (go f))) ≡ (r >>= (λ f. where_kept (test f) fault (where_linear found (Ok f))) >>= go)
checked_apart (Err e) test fault found go = refl
checked_apart (Ok f) test fault found go = by (test f) found
  where
    by : (b : Bool) (found : Found) → where_kept b fault (where_linear found (go f)) ≡ (where_kept b fault (where_linear found (Ok f)) >>= go)
    by false found = refl
    by true (linear hs) = refl
    by true (bends p c) = refl

-- what follows in two ways that are the same
then_same : {A B : Type 0} (r : Result A TypeFault) (f g : A → Result B TypeFault) → ((x : A) → f x ≡ g x) → (r >>= f) ≡ (r >>= g)
then_same (Ok x) f g h = h x
then_same (Err e) f g h = refl

no_fault_apart : {A B : Type 0} (o : Option TypeFault) (x : A) (go : A → Result B TypeFault) → where_no_fault o (go x) ≡ (where_no_fault o (Ok x) >>= go)
no_fault_apart None x go = refl
no_fault_apart (Some e) x go = refl

-- the objective of a choose and the whole, behind what is given and the relation
abbrev walk_last : Context → List Param → ℕ → Place → List Param → List Param → List Param → AimTree → GivenForm → Form → Result Form TypeFault
walk_last context scope n p outputs hidden all aim given f =
    walk_aim context scope all f.next aim >>= choose_where_form p n scope outputs hidden given.tree f.tree

-- its parts, over all its outputs
abbrev walk_parts : Context → List Param → ℕ → Place → List Param → List Param → GivenTree → RawTree → AimTree → List Param → Result Form TypeFault
walk_parts context scope n p outputs hidden g r aim all =
    walk_given context scope (n + 1) g >>= λ given.
    walk context (scope ++ all) given.next r >>= related context scope all p r >>= walk_last context scope n p outputs hidden all aim given

-- the answer to a choose of edition 3, under the name of its tree
pub choose_where_answer : (context : Context) (scope : List Param) (n : ℕ) (p : Place) (outputs hidden : List Param) (g : GivenTree) (r : RawTree) (aim : AimTree)
    (raw : RawTree) (told : Result DeclaredForm TypeFault) → context.edition ≡ Three → raw ≡ raw_choose p outputs hidden g r aim →
    CheckAnswer form_of told (walk_choose_where context scope n raw) → CheckAnswer form_of told (walk context scope n raw)
choose_where_answer context scope n p outputs hidden g r aim raw told three is h =
    let all = outputs ++ hidden in
    let found = found_in (takes_inputs context.how) context.earlier (in_choose scope all) r in
    let apart = no_fault_apart (output_fault Three (taken context) all) all (walk_parts context scope n p outputs hidden g r aim) in
    let same = ap (where_no_fault (output_fault Three (taken context) all)) (then_same (walk_given context scope (n + 1) g)
    (λ given. walk context (scope ++ all) given.next r >>= λ f.
    where_kept (is_one Truth f.bases) (Mismatch p) (where_linear found (walk_last context scope n p outputs hidden all aim given f)))
    (λ given. walk context (scope ++ all) given.next r >>= related context scope all p r >>= walk_last context scope n p outputs hidden all aim given)
    (λ given. checked_apart (walk context (scope ++ all) given.next r) (λ f. is_one Truth f.bases) (Mismatch p) found
    (walk_last context scope n p outputs hidden all aim given))) in
    subst (λ x. CheckAnswer form_of told (walk context scope n x)) (sym is)
    (subst (λ x. CheckAnswer form_of told x) (sym (same ∙ apart) ∙ of_three context.edition _ _ three)
    (subst (λ x. CheckAnswer form_of told (walk_choose_where context scope n x)) is h))

-- the body of a function whose name is new and whose parameters differ
module _ (edition : Edition) (how : Linearity) (all : List RawDefTree) (constants : List Constant) (before : List RawDefTree) (n count : ℕ) (d : RawDefTree)
    (counted : count ≡ length before) (new : is_among (map (λ e. e.name) before) d.name ≡ false)
    (differ : repeated (constant_names constants) (names_of d.params) (map (λ p. p.place) d.params) ≡ None) where
  abbrev body : Context
  body = behind edition how (callee_from count 0 all) constants (reverse before)

  abbrev rest : Form → Result (DefTree × ℕ) TypeFault
  rest f = where_kept (same_bases f.bases d.results) (Mismatch (place_of d.body)) (Ok (def_form d f, f.next))

  walked : walk_def edition how all constants before n d ≡ (walk body d.params n d.body >>= rest)
  walked = rw (counted, new, differ) refl

  pub def_fails : (fault : TypeFault) → CheckFault fault (walk body d.params n d.body) → CheckFault fault (walk_def edition how all constants before n d)
  def_fails fault h = subst (λ r. CheckFault fault r) (sym walked) (fails_then fault (walk body d.params n d.body) rest h)

  pub def_goes_on : (f : Form) → walk body d.params n d.body ≡ Ok f →
      walk_def edition how all constants before n d ≡ where_kept (same_bases f.bases d.results) (Mismatch (place_of d.body)) (Ok (def_form d f, f.next))
  def_goes_on f h = walked ∙ goes_on (walk body d.params n d.body) f rest h

-- the functions among declarations
pub functions_are : (items : List RawItem) → functions_of (map raw_item_tree items) ≡ map raw_def_tree (functions_in items)
functions_are [] = refl
functions_are (Const c ∷ items) = functions_are items
functions_are (Function d ∷ items) = ap (λ ds. raw_def_tree d ∷ ds) (functions_are items)

pub functions_append : (xs ys : List RawItem) → functions_in (xs ++ ys) ≡ functions_in xs ++ functions_in ys
functions_append [] ys = refl
functions_append (Const c ∷ xs) ys = functions_append xs ys
functions_append (Function d ∷ xs) ys = ap (λ ds. d ∷ ds) (functions_append xs ys)

functions_next : (before : List RawDef) (item : RawItem) → map raw_def_tree (before ++ functions_in (item ∷ [])) ≡ functions_to (map raw_def_tree before)
    (raw_item_tree item)
functions_next before (Const c) = ap (map raw_def_tree) (append-nil before)
functions_next before (Function d) = map-append raw_def_tree before (d ∷ [])

item_then : (edition : Edition) (how : Linearity) (all before : List RawDefTree) (w : Walked) (item : RawItemTree) (items : List RawItemTree) →
    walk_items edition how all w.constants before w.defs w.next (item ∷ items)
    ≡ (walk_item edition how all before w item >>= λ v. walk_items edition how all v.constants (functions_to before item) v.defs v.next items)
item_then edition how all before w (item_const p x e) items = by (walk_const edition how all w.constants before w.next p x e)
  where
    by : (r : Result (List Constant) TypeFault) → (r >>= λ more. walk_items edition how all more before w.defs w.next items)
        ≡ (r >>= (λ more. Ok (with_constants w more)) >>= λ v.
        walk_items edition how all v.constants before v.defs v.next items)
    by (Ok more) = refl
    by (Err e) = refl
item_then edition how all before w (item_def d) items = by (walk_def edition how all w.constants before w.next d)
  where
    by : (r : Result (DefTree × ℕ) TypeFault) → (r >>= λ x. walk_items edition how all w.constants (before ++ d ∷ []) (w.defs ++ x.0 ∷ []) x.1 items)
        ≡ (r >>= (λ x. Ok (with_function w x)) >>= λ v.
        walk_items edition how all v.constants (before ++ d ∷ []) v.defs v.next items)
    by (Ok x) = refl
    by (Err e) = refl

split : (items : List RawItem) (i : ℕ) → functions_in items ≡ functions_in (take i items) ++ functions_in (drop i items)
split items i = ap functions_in (sym (take-append-drop i items)) ∙ functions_append (take i items) (drop i items)

-- no more functions stand before a declaration than in all
pub few : (items : List RawItem) (i k : ℕ) → k ≡ length (functions_in (take i items)) → k ≤ length (functions_in items)
few items i k counted = omega (arith, counted, ap length (split items i), length-append (functions_in (take i items)) (functions_in (drop i items)))

-- declaration i of these, behind those before it
module _ (edition : Edition) (how : Linearity) (all : List RawDefTree) (items : List RawItem) (i : ℕ) (x : RawItem) (w : Walked) (k : ℕ)
    (whole : Result (List DefTree) TypeFault) (within : i < length items) (at : x ≡ get_or items i x) (counted : k ≡ length (functions_in (take i items)))
    (is : walk_items edition how all w.constants (map raw_def_tree (functions_in (take i items))) w.defs w.next (map raw_item_tree (drop i items)) ≡ whole) where
  abbrev before : List RawDef
  before = functions_in (take i items)

  abbrev behind_x : List RawItemTree
  behind_x = map raw_item_tree (drop (i + 1) items)

  -- the functions before it
  pub before_is : take k (functions_in items) ≡ before
  before_is = ap₂ take counted (split items i) ∙ take-append_seam before (functions_in (drop i items))

  at_x : walk_items edition how all w.constants (map raw_def_tree before) w.defs w.next (raw_item_tree x ∷ behind_x) ≡ whole
  at_x = ap (λ ys. walk_items edition how all w.constants (map raw_def_tree before) w.defs w.next (map raw_item_tree ys))
      (ap (λ y. y ∷ drop (i + 1) items) at ∙ sym (drop_more items i x within)) ∙ is

  abbrev met : Result Walked TypeFault
  met = walk_item edition how all (map raw_def_tree (take k (functions_in items))) w (raw_item_tree x)

  met_is : met ≡ walk_item edition how all (map raw_def_tree before) w (raw_item_tree x)
  met_is = ap (λ ds. walk_item edition how all (map raw_def_tree ds) w (raw_item_tree x)) before_is

  then_whole : (met >>= λ v. walk_items edition how all v.constants (functions_to (map raw_def_tree before) (raw_item_tree x)) v.defs v.next behind_x) ≡ whole
  then_whole = ap (λ r. r >>= λ v. walk_items edition how all v.constants (functions_to (map raw_def_tree before) (raw_item_tree x)) v.defs v.next behind_x) met_is
      ∙ sym (item_then edition how all (map raw_def_tree before) w (raw_item_tree x) behind_x) ∙ at_x

  pub item_fails : (fault : TypeFault) → CheckFault fault met → CheckFault fault whole
  item_fails fault h = subst (λ r. CheckFault fault r) then_whole (fails_then fault met _ h)

  front : functions_in (take (i + 1) items) ≡ before ++ functions_in (x ∷ [])
  front = ap functions_in (take_more items i x within ∙ ap (λ y. take i items ++ y ∷ []) (sym at)) ∙ functions_append (take i items) (x ∷ [])

  pub item_goes_on : (v : Walked) → met ≡ Ok v →
      walk_items edition how all v.constants (map raw_def_tree (functions_in (take (i + 1) items))) v.defs v.next behind_x ≡ whole
  item_goes_on v h =
      ap (λ bs. walk_items edition how all v.constants bs v.defs v.next behind_x) (ap (map raw_def_tree) front ∙ functions_next before x)
      ∙ sym (goes_on met v _ h) ∙ then_whole

  -- and one function more where it is one
  pub counted_next : (v : Walked) → length w.defs ≡ k → met ≡ Ok v → length v.defs ≡ length (functions_in (take (i + 1) items))
  counted_next v same h = by x refl (sym met_is ∙ h)
    where
      by : (y : RawItem) → x ≡ y → walk_item edition how all (map raw_def_tree before) w (raw_item_tree y) ≡ Ok v →
          length v.defs ≡ length (functions_in (take (i + 1) items))
      by (Const c) e h = by_const (walk_const edition how all w.constants (map raw_def_tree before) w.next c.place c.name (raw_tree c.value)) h
        where
          by_const : (r : Result (List Constant) TypeFault) → (r >>= λ more. Ok (with_constants w more)) ≡ Ok v →
              length v.defs ≡ length (functions_in (take (i + 1) items))
          by_const (Err f) h = cc
          by_const (Ok more) h =
              let made : w.defs ≡ v.defs = cc in
              sym (ap length made) ∙ same ∙ counted ∙ sym (ap length (front ∙ ap (λ z. before ++ functions_in (z ∷ [])) e ∙ append-nil before))
      by (Function d) e h = by_def (walk_def edition how all w.constants (map raw_def_tree before) w.next (raw_def_tree d)) h
        where
          by_def : (r : Result (DefTree × ℕ) TypeFault) → (r >>= λ y. Ok (with_function w y)) ≡ Ok v →
              length v.defs ≡ length (functions_in (take (i + 1) items))
          by_def (Err f) h = cc
          by_def (Ok y) h =
              let made : w.defs ++ y.0 ∷ [] ≡ v.defs = cc in
              omega (
                arith,
                sym (ap length made),
                length-append w.defs (y.0 ∷ []),
                same,
                counted,
                ap length (front ∙ ap (λ z. before ++ functions_in (z ∷ [])) e),
                length-append before (d ∷ []),
              )
