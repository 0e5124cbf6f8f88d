-- The first function that is too heavy, where the weight of one stands still at the greatest number.
use Rattle.std.proofs.Common.{◌≡◌, ◌⊎◌, inl, ℕ, ◌+◌, ◌-◌, ◌<◌, ◌≤◌, ◌^◌, false, None, Some, List, [], ◌∷◌, ◌++◌, length, map, take, drop, get_or, sym, ap, ◌∙◌, subst, arith}
use Rattle.std.proofs.lemmas.List.{map-append, map_more, length-map, length-take-le, take-append-drop, drop_all}
use Rattle.cf_tree.specs.declared.base.Base.{Base}
use Rattle.cf_tree.specs.declared.expr.Def.{Def}
use Rattle.cf_tree.specs.declared.expr.Expr.{Expr}
use Rattle.cf_tree.specs.declared.raw.Param.{Param}
use Rattle.cf_tree.specs.DefView.{DefTree, def_tree}
use Rattle.cf_tree.specs.ExprTree.{ExprTree, expr_choose_where, GivenExpr, holds_always, holds_where, at_any}
use Rattle.cf_tree.specs.ExprView.{expr_tree}
use Rattle.cf_tree.specs.Params.{bases_of}
use Rattle.cf_program.specs.Size.{weights, first_above}
use Rattle.cf_form.specs.declared.chooses.WideChoose.{WideChoose as DeclaredChoose}
use Rattle.cf_form.specs.declared.fault.FormFault.TheVariants as faults
use Rattle.cf_form.specs.declared.floor.Floor.{Floor}
use Rattle.cf_form.specs.declared.floor.Floor.TheVariants as floors
use Rattle.cf_form.specs.Branches.{WideChoose}
use Rattle.cf_form.specs.Expansion.{Calls}
use Rattle.cf_form.specs.Floor.{HasFloor, HasGiven, IsHeavy, base_floor}
use Rattle.cf_form.specs.FormAnswers.{AreNarrow, IsUnformed}
use Rattle.cf_form.specs.Formed.{formed_defs, wide_choose, has_truths}
use Rattle.cf_form.specs.Made.{IsPast}
use Rattle.cf_form.specs.Saturated.{HasCondition, IsHeavyAt, IsNarrow, AreNarrowSo}
use Rattle.cf_form.specs.SourceChooses.{chooses_in}
use Rattle.cf_form.specs.Telling.{AreFound, wide_behind}
use Rattle.cf_form.specs.Told.{first_passed}
use Rattle.cf_form.specs.ToldView.{choose_view}
use Rattle.cf_form.specs.Unfolding.{calls_of}
use Rattle.cf_form.proofs.ChooseWalk.{from_here, wide_next}
use Rattle.cf_form.proofs.FloorChoose.{choose_heavy, heavy_first, passed_append}

-- ---- one choose
pub choose_heavy_by : (calls : Calls) (n : ℕ) (scope : List Param) (outputs hidden : List Base) (given : GivenExpr) (rel : ExprTree) (w : ℕ)
    (inputs : List Base) (env : List Floor) (f : Floor) → HasCondition calls (map base_floor inputs) given → HasFloor calls env rel f →
    inputs ≡ bases_of scope → has_truths inputs ≡ false → env ≡ map base_floor (bases_of scope ++ outputs ++ hidden) → f ≡ floors.Truth w →
    IsHeavy calls w (expr_choose_where n scope outputs hidden given rel at_any)
choose_heavy_by calls n scope outputs hidden given rel w inputs env f holds has ei plain to ef =
    choose_heavy calls n scope outputs hidden given rel w
    (subst (λ bs. has_truths bs ≡ false) ei plain)
    (subst (λ bs. HasGiven calls (map base_floor bs) given) ei holds.floor)
    (subst (λ fs. HasFloor calls fs rel (floors.Truth w)) to (subst (HasFloor calls env rel) ef has))

pub always_has : (calls : Calls) (env : List Floor) → HasCondition calls env holds_always
always_has calls env = record { floor = tt }

pub given_has : (calls : Calls) (inputs : List Base) (env : List Floor) (p : ExprTree) (f : Floor) (w : ℕ) → HasFloor calls env p f →
    env ≡ map base_floor inputs → f ≡ floors.Truth w → HasCondition calls (map base_floor inputs) (holds_where p)
given_has calls inputs env p f w h e ef =
    record { floor = (w, subst (λ fs. HasFloor calls fs p (floors.Truth w)) e (subst (HasFloor calls env p) ef h)) }

-- ---- narrow functions
pub heavy_narrow : (before : List Def) (e : Expr) (w : ℕ) → IsHeavy (calls_of (map def_tree before)) w (expr_tree e) → IsNarrow before e
heavy_narrow before e w h = record { none = h.narrow }

pub within_narrow : (before : List Def) (e : Expr) (old new : List DeclaredChoose) → AreFound before old new (chooses_in (expr_tree e)) → old ≡ [] →
    None ≡ first_passed (map choose_view new) → IsNarrow before e
within_narrow before e old new found empty none =
    let here : List WideChoose = map (wide_choose (calls_of (map def_tree before))) (chooses_in (expr_tree e)) in
    let all : map choose_view new ≡ here = found.found ∙ ap (λ qs. map choose_view qs ++ here) empty in
    record { none = sym (none ∙ ap first_passed all) }

pub narrow_next : (ds : List Def) (i : ℕ) (d : Def) → i < length ds → AreNarrowSo ds i → IsNarrow (take i ds) (get_or ds i d).body → AreNarrowSo ds (i + 1)
narrow_next ds i d l h g =
    let before : List DefTree = map def_tree (take i ds) in
    let more : List DefTree = map def_tree (drop (i + 1) ds) in
    let def : DefTree = def_tree (get_or ds i d) in
    let here : List WideChoose = map (wide_choose (calls_of before)) (chooses_in def.body) in
    let all : map def_tree (drop i ds) ≡ def ∷ more = ap (map def_tree) (from_here ds i d l) in
    let one : map def_tree (take (i + 1) ds) ≡ before ++ def ∷ [] = map_more def_tree ds i d l in
    record {
      rest = λ k.
          let behind : first_passed (wide_behind (before ++ def ∷ []) more) ≡ None = subst (λ ts. first_passed (wide_behind ts more) ≡ None) one k in
          h.rest (ap first_passed (ap (wide_behind before) all ∙ wide_next before def more)
          ∙ passed_append here (wide_behind (before ++ def ∷ []) more) g.none behind);
    }

pub narrow_end : (ds : List Def) (i : ℕ) → length ds ≤ i → AreNarrowSo ds i → AreNarrow (map def_tree ds)
narrow_end ds i l h =
    h.rest (ap (λ xs. first_passed (wide_behind (map def_tree (take i ds)) (map def_tree xs))) (drop_all i ds l))

-- ---- functions within the limit
pub light_is : (new fs : List DefTree) → new ≡ fs → None ≡ first_above 1000000 0 (weights new) → first_above 1000000 0 (weights fs) ≡ None
light_is new fs e h = sym (h ∙ ap (λ ds. first_above 1000000 0 (weights ds)) e)

-- ---- the heavy one
pub heavy_at : (ds : List Def) (i : ℕ) (d : Def) → i < length ds →
    IsHeavy (calls_of (map def_tree (take i ds))) (2 ^ 64 - 1) (expr_tree (get_or ds i d).body) → IsHeavyAt ds i
heavy_at ds i d l h = record {
  def = get_or ds i d;
  below = l;
  all = ap (λ xs. take i ds ++ xs) (sym (from_here ds i d l)) ∙ take-append-drop i ds;
  heavy = h;
}

pub saturated_is : (ds : List Def) (i f : ℕ) → IsHeavyAt ds i → first_above 1000000 0 (weights (formed_defs (map def_tree (take i ds)))) ≡ None → f ≡ i →
    first_above 1000000 0 (weights (formed_defs (map def_tree ds))) ≡ Some (f, 2 ^ 64 - 1)
saturated_is ds i f h light e =
    let before : List DefTree = map def_tree (take i ds) in
    let more : List DefTree = map def_tree (drop (i + 1) ds) in
    let all : before ++ def_tree h.def ∷ more ≡ map def_tree ds = sym (map-append def_tree (take i ds) (h.def ∷ drop (i + 1) ds)) ∙ ap (map def_tree) h.all in
    let number : length before ≡ f = length-map (take i ds) def_tree ∙ length-take-le i ds (omega (arith, h.below)) ∙ sym e in
    subst (λ ts. first_above 1000000 0 (weights (formed_defs ts)) ≡ Some (f, 2 ^ 64 - 1)) all
    (heavy_first before (def_tree h.def) more h.heavy light ∙ ap (λ n. Some (n, 2 ^ 64 - 1)) number)

-- what is unformed for its weight passes a limit
pub past_weight : (defs : List DefTree) (f w : ℕ) → IsUnformed defs (faults.Weight f w) → IsPast (formed_defs defs) (faults.Weight f w)
past_weight defs f w h = h.1

pub unformed_weight : (defs : List DefTree) (f w : ℕ) → IsUnformed defs (faults.Weight f w) →
    IsUnformed defs (faults.Weight f w) ⊎ (faults.Weight f w ≡ faults.NoMemory)
unformed_weight defs f w h = inl h
