-- The forms of the known columns have the values of the parameters.
use Rattle.std.proofs.Common.{pow_pos, not, ◌≡◌, ℕ, zero, suc, ◌+◌, ◌-◌, ◌^◌, ◌≤◌, ◌<◌, ℤ, pos, Bool, true, false, List, [], ◌∷◌, ◌++◌, length, map, filter, get_or, refl, subst, sym, ap, ap₂, ◌∙◌, arith, append-nil}
use Rattle.std.specs.List.{range_with_len, fold}
use Rattle.std.proofs.lemmas.List.{length-map, map-append}
use Rattle.std.proofs.Math.ListN.{get_or-append}
use Rattle.cf_tree.specs.declared.base.Base.{Base}
use Rattle.cf_tree.specs.CodeTree.{CodeTree, code_var, code_diff}
use Rattle.cf_tree.specs.Meaning.{got}
use Rattle.cf_tree.specs.Occurs.{rel_holds}
use Rattle.cf_tree.specs.Relation.{members, val}
use Rattle.cf_tree.specs.RelTree.{SetTree, set_var, inter_of, diff_of, TermTree, term_lit, term_var, term_card, RelTree}
use Rattle.cf_tree.specs.Sets.{set_inter, set_diff}
use Rattle.cf_tree.specs.Values.{Value, number, elements, elements_of, number_of, value_at, HaveBases}
use Rattle.cf_tree.proofs.SetLemmas.{on_bool}
use Rattle.cf_linear.specs.Arm.{inter_of_all as codes_joined, vars, sets_in, sets_out, region_code}
use Rattle.cf_linear.specs.Layout.{Layout, layout_of, is_number, is_set, levels_with, masks, place, has_level, bit}
use Rattle.cf_cases.specs.Holding.{EachOf}
use Rattle.cf_venn.specs.Codes.{HoldsInputs}
use Rattle.cf_venn.specs.Columns.{known_values}
use Rattle.cf_venn.specs.Masks.{sets_at, region, count}
use Rattle.cf_venn.proofs.AgreeLaws.{at_place}
use Rattle.cf_venn.proofs.CodeLaws.{CodeGives, joins, join_gives, each_level, input_gives}
use Rattle.cf_venn.proofs.ColumnLaws.{place_within}
use Rattle.cf_venn.proofs.LevelLaws.{same_each, has_unfiltered, is_layout}
use Rattle.cf_venn.proofs.RegionCodes.{region_gives}
use Rattle.cf_choose.proofs.RegionLets.{holds_inputs, inputs_typed}
use Rattle.cf_warn.specs.Missing.{inter_of_all, region_form, first_forms}
use Rattle.cf_warn.specs.Questions.{parameters}
use Rattle.cf_warn.proofs.MissingSteps.{Agree}
use Rattle.cf_warn.proofs.ParameterLaws.{has_parameter, not_filtered}

-- ---- regions
inter_gives : (f : ℕ → CodeTree) (g : ℕ → List ℤ) (e : List Value) (ks : List ℕ) → EachOf (λ k. CodeGives (f k) e (elements (g k))) ks →
    CodeGives (codes_joined (map f ks)) e (elements (joins set_inter (map g ks)))
inter_gives f g e [] h = refl
inter_gives f g e (k ∷ []) h = h.0
inter_gives f g e (k ∷ j ∷ ks) h = rw (h.0) (join_gives set_inter f g e (j ∷ ks) h.1 (g k))

diff_gives : (c d : CodeTree) (e : List Value) (xs ys : List ℤ) → CodeGives c e (elements xs) → CodeGives d e (elements ys) →
    CodeGives (code_diff c d) e (elements (set_diff xs ys))
diff_gives c d e xs ys g h = rw (g, h) refl

diffs_give : (f : ℕ → CodeTree) (g : ℕ → List ℤ) (e : List Value) (ks : List ℕ) → EachOf (λ k. CodeGives (f k) e (elements (g k))) ks →
    (c : CodeTree) (zs : List ℤ) → CodeGives c e (elements zs) →
    CodeGives (fold (λ c d. code_diff c d) c (map f ks)) e (elements (fold set_diff zs (map g ks)))
diffs_give f g e [] h c zs k = k
diffs_give f g e (x ∷ ks) h c zs k = diffs_give f g e ks h.1 (code_diff c (f x)) (set_diff zs (g x)) (diff_gives c (f x) e zs (g x) k h.0)

gives_once : (c : CodeTree) (e : List Value) (xs ys : List ℤ) → CodeGives c e (elements xs) → CodeGives c e (elements ys) → xs ≡ ys
gives_once c e xs ys g h = let k : got (elements xs ∷ []) ≡ got (elements ys ∷ []) = sym g ∙ h in cc

-- what stands in the sets of the mask and in no other set is the region
region_is : (l : Layout) (e : List Value) (inputs : HoldsInputs l e) (m : ℕ) →
    CodeGives (region_code l m) e (elements (region (sets_at e l.inputs) m)) →
    fold set_diff (joins set_inter (sets_at e (sets_in l m))) (sets_at e (sets_out l m)) ≡ region (sets_at e l.inputs) m
region_is l e inputs m gives =
    let f : ℕ → List ℤ = λ x. elements_of (value_at e x) in
    let P : ℕ → Type 0 = λ x. CodeGives (code_var x) e (elements (f x)) in
    gives_once (region_code l m) e (fold set_diff (joins set_inter (sets_at e (sets_in l m))) (sets_at e (sets_out l m))) (region (sets_at e l.inputs) m)
    (diffs_give (λ x. code_var x) f e (sets_out l m) (each_level P (sets_out l m)
    (λ x h. input_gives l e inputs x (has_unfiltered (λ x. not (bit (place x l.inputs) m)) l.inputs x h)))
    (codes_joined (vars (sets_in l m))) (joins set_inter (sets_at e (sets_in l m)))
    (inter_gives (λ x. code_var x) f e (sets_in l m) (each_level P (sets_in l m)
    (λ x h. input_gives l e inputs x (has_unfiltered (λ x. bit (place x l.inputs) m) l.inputs x h)))))
    gives

module _ (q : List Value) (to : ℕ → ℕ) where
  abbrev seen : ℕ → List ℤ
  seen x = elements_of (value_at q (to x))

  inters_members : (s : SetTree) (xs : List ℕ) →
      members (fold (λ a b. inter_of a b) s (map (λ x. set_var (to x)) xs)) q ≡ fold set_inter (members s q) (map seen xs)
  inters_members s [] = refl
  inters_members s (x ∷ xs) = inters_members (inter_of s (set_var (to x))) xs

  all_members : (xs : List ℕ) → members (inter_of_all (map (λ x. set_var (to x)) xs)) q ≡ joins set_inter (map seen xs)
  all_members [] = refl
  all_members (x ∷ xs) = inters_members (set_var (to x)) xs

  diffs_members : (s : SetTree) (xs : List ℕ) →
      members (fold (λ a b. diff_of a b) s (map (λ x. set_var (to x)) xs)) q ≡ fold set_diff (members s q) (map seen xs)
  diffs_members s [] = refl
  diffs_members s (x ∷ xs) = diffs_members (diff_of s (set_var (to x))) xs

  region_members : (l : Layout) (m : ℕ) → members (region_form l to m) q ≡ fold set_diff (joins set_inter (map seen (sets_in l m))) (map seen (sets_out l m))
  region_members l m =
      diffs_members (inter_of_all (map (λ x. set_var (to x)) (sets_in l m))) (sets_out l m)
      ∙ ap (λ s. fold set_diff s (map seen (sets_out l m))) (all_members (sets_in l m))

-- ---- lists
same_range : {A : Type 0} (f g : ℕ → A) (a n : ℕ) → ((x : ℕ) → a ≤ x → x < a + n → f x ≡ g x) → map f (range_with_len a n) ≡ map g (range_with_len a n)
same_range f g a zero h = refl
same_range f g a (suc n) h = ap₂ (λ x xs. x ∷ xs) (h a (omega arith) (omega arith)) (same_range f g (a + 1) n (λ x k l. h x (omega arith) (omega arith)))

value_of_form : (q : List Value) (ts : List TermTree) (c : ℕ) → val (get_or ts c (term_lit (pos 0))) q ≡ get_or (map (λ t. val t q) ts) c (pos 0)
value_of_form q [] c = refl
value_of_form q (t ∷ ts) zero = refl
value_of_form q (t ∷ ts) (suc c) = value_of_form q ts c

map_twice : {A B C : Type 0} (f : B → C) (g : A → B) (xs : List A) → map f (map g xs) ≡ map (λ x. f (g x)) xs
map_twice f g [] = refl
map_twice f g (x ∷ xs) = ap (λ ys. f (g x) ∷ ys) (map_twice f g xs)

passes_filter : (p : ℕ → Bool) (xs : List ℕ) (x : ℕ) → has_level (filter p xs) x ≡ true → p x ≡ true
passes_filter p xs x h = on_bool (p x) (λ e. e) (λ e. let k : false ≡ true = sym (not_filtered p xs x e) ∙ h in absurd (cc))

pub number_parameter : (scope outputs : List Base) (rel : RelTree) (x : ℕ) → has_level (layout_of scope outputs rel).numbers x ≡ true →
    has_level (parameters scope rel) x ≡ true
number_parameter scope outputs rel x h =
    has_parameter scope rel x ((is_layout scope outputs rel).numbers x h) (passes_filter (λ y. rel_holds y rel) (levels_with is_number 0 scope) x h)

pub input_parameter : (scope outputs : List Base) (rel : RelTree) (x : ℕ) → has_level (layout_of scope outputs rel).inputs x ≡ true →
    has_level (parameters scope rel) x ≡ true
input_parameter scope outputs rel x h =
    has_parameter scope rel x ((is_layout scope outputs rel).inputs x h) (passes_filter (λ y. rel_holds y rel) (levels_with is_set 0 scope) x h)

module _ (scope outputs : List Base) (rel : RelTree) (env lets : List Value) (have : HaveBases scope env) where
  abbrev params : List ℕ
  params = parameters scope rel

  abbrev question : List Value
  question = map (value_at env) params ++ lets

  abbrev to : ℕ → ℕ
  to x = place x params

  abbrev l : Layout
  l = layout_of scope outputs rel

  parameter_at : (x : ℕ) → has_level params x ≡ true → value_at question (to x) ≡ value_at env x
  parameter_at x h =
      let p = place_within x params h in
      let n = length-map params (value_at env) in
      get_or-append (map (value_at env) params) lets (number (pos 0)) (to x) (omega arith) ∙ at_place (value_at env) (number (pos 0)) params x h

  input_at : (p : ℕ → Bool) (x : ℕ) → has_level (filter p l.inputs) x ≡ true → elements_of (value_at question (to x)) ≡ elements_of (value_at env x)
  input_at p x h = ap elements_of (parameter_at x (input_parameter scope outputs rel x (has_unfiltered p l.inputs x h)))

  inputs : HoldsInputs l env
  inputs = holds_inputs (scope ++ []) l env (inputs_typed scope outputs rel []) (subst (λ bs. HaveBases bs env) (sym (append-nil scope)) have)

  count_is : (m : ℕ) → 1 ≤ m → m < 1 + (2 ^ length l.inputs - 1) → val (term_card (region_form l to m)) question ≡ pos (count (sets_at env l.inputs) m)
  count_is m a b =
      let some = pow_pos (length l.inputs) in
      let f : ℕ → List ℤ = λ x. elements_of (value_at env x) in
      ap (λ (zs : List ℤ). pos (length zs))
      (region_members question to l m
      ∙ ap₂ (λ xs ys. fold set_diff (joins set_inter xs) ys)
      (same_each (seen question to) f (sets_in l m) (input_at (λ x. bit (place x l.inputs) m)))
      (same_each (seen question to) f (sets_out l m) (input_at (λ x. not (bit (place x l.inputs) m))))
      ∙ region_is l env inputs m (region_gives l env inputs 0 (is_layout scope outputs rel).inputs_up m a (omega arith)))

  pub first_agree : Agree question (first_forms l to) (known_values l env)
  first_agree c =
      let ns : List TermTree = map (λ x. term_var (to x)) l.numbers in
      let cs : List TermTree = map (λ m. term_card (region_form l to m)) (masks (length l.inputs)) in
      let at : TermTree → ℤ = λ t. val t question in
      value_of_form question (term_lit (pos 1) ∷ (ns ++ cs)) c
      ∙ ap (λ zs. get_or (pos 1 ∷ zs) c (pos 0))
      (map-append at ns cs
      ∙ ap₂ (λ xs ys. xs ++ ys)
      (map_twice at (λ x. term_var (to x)) l.numbers
      ∙ same_each (λ x. number_of (value_at question (to x))) (λ x. number_of (value_at env x)) l.numbers
      (λ x h. ap number_of (parameter_at x (number_parameter scope outputs rel x h))))
      (map_twice at (λ m. term_card (region_form l to m)) (masks (length l.inputs))
      ∙ same_range (λ m. val (term_card (region_form l to m)) question) (λ m. pos (count (sets_at env l.inputs) m)) 1 (2 ^ length l.inputs - 1) count_is))
