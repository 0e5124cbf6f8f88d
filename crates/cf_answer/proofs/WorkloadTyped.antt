-- A program of the shape of a workload has levels in the place of its names.
use Rattle.std.proofs.Common.{◌≡◌, ℕ, zero, suc, ◌+◌, ◌-◌, ◌*◌, ◌^◌, ◌<◌, ◌≤◌, pos, true, false, List, [], ◌∷◌, ◌++◌, length, map, get_or, codes, Option, Some, None, All, reverse, refl, sym, ap, ap₂, ◌∙◌, subst, append_assoc, arith, length-append}
use Rattle.std.specs.Prelude.{◌||◌, nat_lt, slice_index, Result, Ok, decimal, if◌then◌else◌}
use Rattle.std.specs.Str.{bytes_eq}
use Rattle.std.proofs.lemmas.Bool.Decides.{nat_tests}
use Rattle.std.proofs.lemmas.List.{map-append}
use Rattle.std.proofs.lemmas.List.Elements.{All-nil, All-cons}
use Rattle.std.proofs.lemmas.List.Folds.{list_any-append}
use Rattle.std.proofs.lemmas.Slice.Eq.{bytes_eq-Decides}
use Rattle.cf_tree.specs.declared.base.Base.TheVariants.{Int, Bool as Truth}
use Rattle.cf_tree.specs.declared.base.Order.TheVariants.{Eq, Le, Lt}
use Rattle.cf_tree.specs.declared.base.Place.{Place}
use Rattle.cf_tree.specs.declared.raw.BinOp.{BinOp}
use Rattle.cf_tree.specs.declared.raw.BinOp.TheVariants.{Add, Mul, And, Compare}
use Rattle.cf_tree.specs.declared.raw.Param.{Param}
use Rattle.cf_tree.specs.declared.base.Edition.TheVariants.{Two}
use Rattle.cf_tree.specs.DefView.{RawDefTree, item_def, DefTree}
use Rattle.cf_tree.specs.ExprTree.{ExprTree, expr_lit, expr_var, expr_binary, expr_let, expr_choose}
use Rattle.cf_tree.specs.RawTree.{RawTree, raw_binary}
use Rattle.cf_tree.specs.RelTree.{RelTree, term_lit, term_var, term_add, term_mul, rel_compare, rel_and}
use Rattle.cf_tree.specs.Typing.{one}
use Rattle.cf_tree.proofs.SetLemmas.{on_bool}
use Rattle.cf_program.specs.declared.fault.TypeFault.{TypeFault}
use Rattle.cf_program.specs.declared.linearity.Linearity.TheVariants.{Plain}
use Rattle.cf_program.specs.Checked.{TypedTree, def_form, functions_of, walk_def, walk_items, main_from, sized, checked}
use Rattle.cf_program.specs.Lowered.{lowered}
use Rattle.cf_program.specs.Names.{Callee, is_among, callee, callee_from}
use Rattle.cf_tree.specs.Params.{bases_of}
use Rattle.cf_program.specs.Reading.{Reading, relation, term, not_linear, binary_reading}
use Rattle.cf_program.specs.Size.{weight_in, depth_in, measured, weights, depths}
use Rattle.cf_program.specs.Walk.{Form, Forms, binary_form, call_form, Context, behind, walk}
use Rattle.cf_program.specs.Then.{◌>>=◌}
use Rattle.cf_program.proofs.SizeLemmas.{none_above}
use Rattle.cf_lex.specs.Digits.{digits_value}
use Rattle.cf_emit.proofs.Numerals.{decimal_read}
use Rattle.cf_answer.proofs.WorkloadShapes.{Shape, IsName, IsLit, IsBoth, number_at, IsEqual, IsRelation, IsChoose, IsBody, function_name, IsCall, AreCalls, IsDef, AreDefs}
use Rattle.cf_answer.proofs.WorkloadShapes.{function_rel, IsFunction, AreFunctions, call_of, calls_of, IsWorkload}

-- ---- the body of a function
module _ (calls : List ℕ → Option Callee) (known : List RawDefTree) where
  abbrev context : Context
  context = behind Two Plain calls [] known

  -- a form of one number, and of one truth value
  abbrev Number : List Param → ℕ → RawTree → ExprTree → Reading → Type 0
  Number scope n t tree reading = walk context scope n t ≡ Ok (record { bases = one Int; tree = tree; reading = reading; next = n })

  abbrev TruthIs : List Param → ℕ → RawTree → ExprTree → RelTree → Type 0
  TruthIs scope n t tree rel = walk context scope n t ≡ Ok (record { bases = one Truth; tree = tree; reading = relation rel; next = n })

  both : (scope : List Param) (n : ℕ) (p : Place) (op : BinOp) (a b : RawTree) (f g : Form) → walk context scope n a ≡ Ok f →
      walk context scope f.next b ≡ Ok g →
      walk context scope n (raw_binary p op a b) ≡ binary_form 0 p op f g
  both scope n p op a b f g e k = rw (e, k) refl

  module _ (a q r : Place) where
    abbrev scope : List Param
    scope = number_at a (codes "a") ∷ number_at q (codes "q") ∷ number_at r (codes "r") ∷ []

    a_walks : (n : ℕ) (t : RawTree) → IsName (codes "a") t → Number scope n t (expr_var 0) (term (term_var 0))
    a_walks n t h = rw h.1 refl

    q_walks : (n : ℕ) (t : RawTree) → IsName (codes "q") t → Number scope n t (expr_var 1) (term (term_var 1))
    q_walks n t h = rw h.1 refl

    r_walks : (n : ℕ) (t : RawTree) → IsName (codes "r") t → Number scope n t (expr_var 2) (term (term_var 2))
    r_walks n t h = rw h.1 refl

    lit_walks : (k n : ℕ) (t : RawTree) → IsLit k t → Number scope n t (expr_lit (pos k)) (term (term_lit (pos k)))
    lit_walks k n t h = rw h.1 refl

    module _ (c n : ℕ) where
      product_walks : (t : RawTree) → IsBoth Mul (IsLit c) (IsName (codes "q")) t →
          Number scope n t (expr_binary Mul (expr_lit (pos c)) (expr_var 1)) (term (term_mul (term_lit (pos c)) (term_var 1)))
      product_walks t h = rw h.5 (both scope n h.0 Mul h.1 h.2 _ _ (lit_walks c n h.1 h.3) (q_walks n h.2 h.4))

      sum_walks : (t : RawTree) → IsBoth Add (IsBoth Mul (IsLit c) (IsName (codes "q"))) (IsName (codes "r")) t →
          Number scope n t (expr_binary Add (expr_binary Mul (expr_lit (pos c)) (expr_var 1)) (expr_var 2))
          (term (term_add (term_mul (term_lit (pos c)) (term_var 1)) (term_var 2)))
      sum_walks t h = rw h.5 (both scope n h.0 Add h.1 h.2 _ _ (product_walks h.1 h.3) (r_walks n h.2 h.4))

      abbrev sum_tree : ExprTree
      sum_tree = expr_binary Add (expr_binary Mul (expr_lit (pos c)) (expr_var 1)) (expr_var 2)

      abbrev equal_tree : ExprTree
      equal_tree = expr_binary (Compare Eq) (expr_var 0) sum_tree

      abbrev lower_tree : ExprTree
      lower_tree = expr_binary (Compare Le) (expr_lit (pos 0)) (expr_var 2)

      abbrev upper_tree : ExprTree
      upper_tree = expr_binary (Compare Lt) (expr_var 2) (expr_lit (pos c))

      abbrev equal_rel : RelTree
      equal_rel = rel_compare Eq (term_var 0) (term_add (term_mul (term_lit (pos c)) (term_var 1)) (term_var 2))

      abbrev lower_rel : RelTree
      lower_rel = rel_compare Le (term_lit (pos 0)) (term_var 2)

      equal_walks : (t : RawTree) → IsEqual c t → TruthIs scope n t equal_tree equal_rel
      equal_walks t h = rw h.5 (both scope n h.0 (Compare Eq) h.1 h.2 _ _ (a_walks n h.1 h.3) (sum_walks h.2 h.4))

      lower_walks : (t : RawTree) → IsBoth (Compare Le) (IsLit 0) (IsName (codes "r")) t → TruthIs scope n t lower_tree lower_rel
      lower_walks t h = rw h.5 (both scope n h.0 (Compare Le) h.1 h.2 _ _ (lit_walks 0 n h.1 h.3) (r_walks n h.2 h.4))

      upper_walks : (t : RawTree) → IsBoth (Compare Lt) (IsName (codes "r")) (IsLit c) t →
          TruthIs scope n t upper_tree (rel_compare Lt (term_var 2) (term_lit (pos c)))
      upper_walks t h = rw h.5 (both scope n h.0 (Compare Lt) h.1 h.2 _ _ (r_walks n h.1 h.3) (lit_walks c n h.2 h.4))

      bounds_walk : (t : RawTree) → IsBoth And (IsEqual c) (IsBoth (Compare Le) (IsLit 0) (IsName (codes "r"))) t →
          TruthIs scope n t (expr_binary And equal_tree lower_tree) (rel_and equal_rel lower_rel)
      bounds_walk t h = rw h.5 (both scope n h.0 And h.1 h.2 _ _ (equal_walks h.1 h.3) (lower_walks h.2 h.4))

      relation_walks : (t : RawTree) → IsRelation c t → TruthIs scope n t (expr_binary And (expr_binary And equal_tree lower_tree) upper_tree) (function_rel c)
      relation_walks t h = rw h.5 (both scope n h.0 And h.1 h.2 _ _ (bounds_walk h.1 h.3) (upper_walks h.2 h.4))

  -- the choose
  choose_walks : (a : Place) (c n : ℕ) (t : RawTree) → IsChoose c t → (p : Place) ×
      (walk context (number_at a (codes "a") ∷ []) n t
      ≡ Ok (record {
        bases = Int ∷ Int ∷ [];
        tree = expr_choose n (number_at a (codes "a") ∷ []) (Int ∷ Int ∷ []) (function_rel c);
        reading =
            not_linear p;
        next = n + 1;
      }))
  choose_walks a c n t h = (h.0, rw (h.5, relation_walks a h.1 h.2 c (n + 1) h.3 h.4) refl)

  -- the body
  body_walks : (a : Place) (c n : ℕ) (t : RawTree) → IsBody c t → (p : Place) ×
      (walk context (number_at a (codes "a") ∷ []) n t
      ≡ Ok (record {
        bases = one Int;
        tree = expr_let 2 (expr_choose n (number_at a (codes "a") ∷ []) (Int ∷ Int ∷ []) (function_rel c)) (expr_binary Add (expr_var 1) (expr_var 2));
        reading = not_linear p;
        next = n + 1;
      }))
  body_walks a c n t h =
      let l = choose_walks a c n h.3 h.5 in
      let s = h.6 in
      let k = both (scope a h.1 h.2) (n + 1) s.0 Add s.1 s.2 _ _ (q_walks a h.1 h.2 (n + 1) s.1 s.3) (r_walks a h.1 h.2 (n + 1) s.2 s.4) in
      (l.0, rw (h.7, l.1, s.5, k) refl)

  -- ---- calls
  -- what a call of function i needs
  record Finds (i : ℕ) : Type 0 where
    callee : Callee
    found : calls (function_name (i + 1)) ≡ Some callee
    number : callee.number ≡ i
    params : callee.params ≡ one Int
    results : callee.results ≡ one Int
    earlier : callee.is_earlier ≡ true

  -- a form of one number with this tree
  record Walks (a : Place) (n : ℕ) (t : RawTree) (e : ExprTree) : Type 0 where
    form : Form
    is : walk context (number_at a (codes "a") ∷ []) n t ≡ Ok form
    bases : form.bases ≡ one Int
    tree : form.tree ≡ e

  abbrev arguments : ℕ → Forms
  arguments n = record { bases = one Int ∷ []; trees = expr_var 0 ∷ []; first_nonlinear = None; next = n }

  called : (p : Place) (n : ℕ) (f : Callee) → f.params ≡ one Int → f.is_earlier ≡ true →
      call_form p (Some f) (arguments n) ≡ Ok (record { bases = f.results; tree = call_of f.number; reading = not_linear p; next = n })
  called p n f e k = rw (e, k) refl

  call_walks : (a : Place) (i n : ℕ) (t : RawTree) → IsCall (i + 1) t → Finds i → Walks a n t (call_of i)
  call_walks a i n t h f = record {
    form = record { bases = f.callee.results; tree = call_of f.callee.number; reading = not_linear h.0; next = n };
    is = ap (walk context (number_at a (codes "a") ∷ []) n) h.2 ∙ ap (λ o. call_form h.0 o (arguments n)) f.found
        ∙ called h.0 n f.callee f.params f.earlier;
    bases = f.results;
    tree = ap (λ j. call_of j) f.number;
  }

  added : (p : Place) (f g : Form) → f.bases ≡ one Int → g.bases ≡ one Int → binary_form 0 p Add f g ≡ Ok (record {
    bases = one Int;
    tree = expr_binary Add f.tree g.tree;
    reading = binary_reading 0 Add p f.reading g.reading;
    next = g.next;
  })
  added p f g e k = rw (e, k) refl

  calls_walk : (a : Place) (m n : ℕ) (t : RawTree) → AreCalls m t → ((i : ℕ) → i ≤ m → Finds i) → Walks a n t (calls_of m)
  calls_walk a zero n t h each = call_walks a 0 n t h (each 0 (omega arith))
  calls_walk a (suc m) n t h each =
      let x = calls_walk a m n h.1 h.3 (λ i k. each i (omega arith)) in
      let two : m + 2 ≡ suc m + 1 = omega arith in
      let y = call_walks a (suc m) x.form.next h.2 (subst (λ j. IsCall j h.2) two h.4) (each (suc m) (omega arith)) in
      record {
        form = record {
          bases = one Int;
          tree = expr_binary Add x.form.tree y.form.tree;
          reading = binary_reading 0 Add h.0 x.form.reading y.form.reading;
          next = y.form.next;
        };
        is = ap (walk context (number_at a (codes "a") ∷ []) n) h.5
            ∙ both (number_at a (codes "a") ∷ []) n h.0 Add h.1 h.2 x.form y.form x.is y.is ∙ added h.0 x.form y.form x.bases y.bases;
        bases = refl;
        tree = ap₂ (λ u v. expr_binary Add u v) x.tree y.tree;
      }

-- ---- names of functions
decimals_differ : (i k : ℕ) → i < 10 ^ 64 → k < 10 ^ 64 → decimal i ≡ decimal k → i ≡ k
decimals_differ i k l h e = sym (decimal_read i l).value ∙ ap (λ ds. digits_value ds) e ∙ (decimal_read k h).value

tails_are : (x y : List ℕ) → ◌≡◌ {A = List ℕ} (102 ∷ x) (102 ∷ y) → x ≡ y
tails_are x y e = cc

other_name : (i k : ℕ) → i < 10 ^ 64 → k < 10 ^ 64 → (i ≡ k → ⊥) → bytes_eq (function_name i) (function_name k) ≡ false
other_name i k l h differ =
    on_bool (bytes_eq (function_name i) (function_name k))
    (λ t. absurd (differ (decimals_differ i k l h (tails_are (decimal i) (decimal k) ((bytes_eq-Decides (function_name i) (function_name k)).0 t)))))
    (λ t. t)

-- these names are neither of function k or a later one, nor of main
record AreOther (k : ℕ) (names : List (List ℕ)) : Type 0 where
  functions : (i : ℕ) → k ≤ i → i < 10 ^ 64 → is_among names (function_name i) ≡ false
  main : is_among names (codes "main") ≡ false

other_more : (k : ℕ) (names : List (List ℕ)) → k < 10 ^ 64 → AreOther k names → AreOther (k + 1) (names ++ function_name k ∷ [])
other_more k names small h = record {
  functions = λ i l u.
      list_any-append (λ y. bytes_eq y (function_name i)) names (function_name k ∷ [])
      ∙ ap₂ (λ x y. x || (y || false)) (h.functions i (omega arith) u) (other_name k i small u (λ e. absurd (omega arith)));
  main = list_any-append (λ y. bytes_eq y (codes "main")) names (function_name k ∷ []) ∙ ap (λ x. x || false) h.main;
}

is_below : (n m : ℕ) → n < m → nat_lt n m ≡ true
is_below n m h = grind (arith, nat_tests)

module _ (m : ℕ) where
  name_is : (x : List ℕ) (A : Shape) (d : RawDefTree) → IsDef x A d → d.name ≡ x
  name_is x A d h = ap (λ e. e.name) h.4

  found_here : (caller j : ℕ) (x : List ℕ) (A : Shape) (d : RawDefTree) (ds : List RawDefTree) → IsDef x A d →
      callee_from caller j (d ∷ ds) x ≡ Some (callee caller j d)
  found_here caller j x A d ds h = rw (name_is x A d h, (bytes_eq-Decides x x).1 refl) refl

  found_at : (caller j k : ℕ) (cs : List ℕ) (ds : List RawDefTree) → AreDefs m k cs ds → k + length cs < 10 ^ 64 → (i : ℕ) → i < length cs → j + i < caller →
      (f : Callee) × (callee_from caller j ds (function_name (k + i)) ≡ Some f) × (f.number ≡ j + i) × (f.params ≡ one Int) × (f.results ≡ one Int)
      × (f.is_earlier ≡ true)
  found_at caller j k [] ds are small i l e = absurd (omega arith)
  found_at caller j k (c ∷ cs) [] are small i l e = absurd are
  found_at caller j k (c ∷ cs) (d ∷ ds) are small zero l e =
      let z : k ≡ k + 0 = omega arith in
      let y : j ≡ j + 0 = omega arith in (
        callee caller j d,
        subst (λ x. callee_from caller j (d ∷ ds) (function_name x) ≡ Some (callee caller j d)) z
            (found_here caller j (function_name k) (IsBody c) d ds are.0),
        y,
        ap (λ f. bases_of f.params) are.0.4,
        ap (λ f. f.results) are.0.4,
        is_below j caller (omega arith),
      )
  found_at caller j k (c ∷ cs) (d ∷ ds) are small (suc i) l e =
      let s : k + suc i ≡ k + 1 + i = omega arith in
      let r = found_at caller (suc j) (k + 1) cs ds are.1 (omega arith) i (omega arith) (omega arith) in
      let o = other_name k (k + suc i) (omega arith) (omega arith) (λ q. absurd (omega arith)) in
      let y : suc j + i ≡ j + suc i = omega arith in
      (r.0, rw (name_is (function_name k) (IsBody c) d are.0, o) (ap (λ x. callee_from caller (suc j) ds (function_name x)) s ∙ r.1), r.2 ∙ y, r.3, r.4, r.5)

  -- ---- the functions
  abbrev TakesOne : DefTree → Type 0
  TakesOne d = bases_of d.params ≡ one Int

  abbrev pub AreTyped : List ℕ → List DefTree → Type 0
  AreTyped cs [] = ⊥
  AreTyped [] (d ∷ ds) = (d.body ≡ calls_of m) × TakesOne d × (ds ≡ [])
  AreTyped (c ∷ cs) (d ∷ ds) = IsFunction c d.body × TakesOne d × AreTyped cs ds

  abbrev def_of : Place → Place → List ℕ → RawTree → RawDefTree
  def_of p a x t = record { place = p; name = x; params = number_at a (codes "a") ∷ []; results = Int ∷ []; body = t }

  -- a function whose name is new, and whose body is a number
  def_kept : (all before : List RawDefTree) (n : ℕ) (p a : Place) (x : List ℕ) (t : RawTree) (f : Form) → is_among (map (λ e. e.name) before) x ≡ false →
      walk (behind Two Plain (callee_from (length before) 0 all) [] (reverse before)) (number_at a (codes "a") ∷ []) n t ≡ Ok f → f.bases ≡ one Int →
      walk_def Two Plain all [] before n (def_of p a x t) ≡ Ok (def_form (def_of p a x t) f, f.next)
  def_kept all before n p a x t f new e b = rw (new, e, b) refl

  def_walks : (all before : List RawDefTree) (n c : ℕ) (x : List ℕ) (d : RawDefTree) → IsDef x (IsBody c) d → is_among (map (λ e. e.name) before) x ≡ false →
      (r : DefTree × ℕ) × (walk_def Two Plain all [] before n d ≡ Ok r) × IsFunction c r.0.body × TakesOne r.0
  def_walks all before n c x d h new =
      let w = body_walks (callee_from (length before) 0 all) (reverse before) h.1 c n h.2 h.3 in
      let f : Form = record {
        bases = one Int;
        tree = expr_let 2 (expr_choose n (number_at h.1 (codes "a") ∷ []) (Int ∷ Int ∷ []) (function_rel c)) (expr_binary Add (expr_var 1) (expr_var 2));
        reading = not_linear w.0;
        next = n + 1;
      } in (
        (def_form (def_of h.0 h.1 x h.2) f, f.next),
        ap (walk_def Two Plain all [] before n) h.4 ∙ def_kept all before n h.0 h.1 x h.2 f new w.1 refl,
        (n, number_at h.1 (codes "a") ∷ [], refl, refl),
        refl,
      )

  main_walks : (all before : List RawDefTree) (n : ℕ) (d : RawDefTree) → IsDef (codes "main") (AreCalls m) d →
      is_among (map (λ e. e.name) before) (codes "main") ≡ false → ((i : ℕ) → i ≤ m → Finds (callee_from (length before) 0 all) (reverse before) i) →
      (r : DefTree × ℕ) × (walk_def Two Plain all [] before n d ≡ Ok r) × (r.0.body ≡ calls_of m) × TakesOne r.0
  main_walks all before n d h new each =
      let w = calls_walk (callee_from (length before) 0 all) (reverse before) h.1 m n h.2 h.3 each in (
        (def_form (def_of h.0 h.1 (codes "main") h.2) w.form, w.form.next),
        ap (walk_def Two Plain all [] before n) h.4 ∙ def_kept all before n h.0 h.1 (codes "main") h.2 w.form new w.is w.bases,
        w.tree,
        refl,
      )

  -- the names before, with the one of function k
  names_more : (k : ℕ) (A : Shape) (before : List RawDefTree) (d : RawDefTree) → IsDef (function_name k) A d → k < 10 ^ 64 →
      AreOther k (map (λ e. e.name) before) → AreOther (k + 1) (map (λ e. e.name) (before ++ d ∷ []))
  names_more k A before d is small h =
      let names = map (λ e. e.name) before in
      subst (AreOther (k + 1)) (sym (map-append (λ e. e.name) before (d ∷ []) ∙ ap (λ x. names ++ x ∷ []) (name_is (function_name k) A d is)))
      (other_more k names small h)

  defs_walk : (all before : List RawDefTree) (done : List DefTree) (n k : ℕ) (cs : List ℕ) (ds : List RawDefTree) → AreDefs m k cs ds →
      k + length cs < 10 ^ 64 → m < length before + length cs → AreOther k (map (λ e. e.name) before) →
      ((b : List RawDefTree) (i : ℕ) → i ≤ m → i < length b → Finds (callee_from (length b) 0 all) (reverse b) i) →
      (gs : List DefTree) × (walk_items Two Plain all [] before done n (map item_def ds) ≡ Ok (done ++ gs)) × AreTyped cs gs
  defs_walk all before done n k [] [] are small many new each = absurd are
  defs_walk all before done n k (c ∷ cs) [] are small many new each = absurd are
  defs_walk all before done n k [] (d ∷ ds) are small many new each =
      let w = main_walks all before n d are.0 new.main (λ i l. each before i l (omega arith)) in (
        w.0.0 ∷ [],
        ap (λ ds'. walk_items Two Plain all [] before done n (item_def d ∷ map item_def ds')) are.1
            ∙ ap (λ r. r >>= λ x. walk_items Two Plain all [] (before ++ d ∷ []) (done ++ x.0 ∷ []) x.1 []) w.1,
        (w.2, w.3, refl),
      )
  defs_walk all before done n k (c ∷ cs) (d ∷ ds) are small many new each =
      let w = def_walks all before n c (function_name k) d are.0 (new.functions k (omega arith) (omega arith)) in
      let long : length (before ++ d ∷ []) ≡ length before + 1 = length-append before (d ∷ []) in
      let more = defs_walk all (before ++ d ∷ []) (done ++ w.0.0 ∷ []) w.0.1 (k + 1) cs ds are.1 (omega arith) (omega arith)
      (names_more k (IsBody c) before d are.0 (omega arith) new) each in (
        w.0.0 ∷ more.0,
        ap (λ r. r >>= λ x. walk_items Two Plain all [] (before ++ d ∷ []) (done ++ x.0 ∷ []) x.1 (map item_def ds)) w.1 ∙ more.1
            ∙ ap (λ gs. Ok gs) (append_assoc done (w.0.0 ∷ []) more.0),
        (w.2, w.3, more.2),
      )

  -- ---- main
  main_is : (j k : ℕ) (cs : List ℕ) (ds : List RawDefTree) → AreDefs m k cs ds → main_from j ds ≡ Some (j + length cs)
  main_is j k [] [] are = absurd are
  main_is j k (c ∷ cs) [] are = absurd are
  main_is j k [] (d ∷ ds) are = let z : j ≡ j + 0 = omega arith in rw (name_is (codes "main") (AreCalls m) d are.0) (ap (λ x. Some x) z)
  main_is j k (c ∷ cs) (d ∷ ds) are =
      let s : suc j + length cs ≡ j + suc (length cs) = omega arith in
      subst (λ x. (if bytes_eq x (codes "main") then Some j else main_from (suc j) ds) ≡ Some (j + suc (length cs)))
      (sym (name_is (function_name k) (IsBody c) d are.0))
      (main_is (suc j) (k + 1) cs ds are.1 ∙ ap (λ x. Some x) s)

  bodies_are : (cs : List ℕ) (gs : List DefTree) → AreTyped cs gs → (fs : List ExprTree) × AreFunctions cs fs × (map (λ d. d.body) gs ≡ fs ++ calls_of m ∷ [])
  bodies_are cs [] are = absurd are
  bodies_are [] (d ∷ ds) are = ([], tt, rw are.2 (ap (λ e. e ∷ []) are.0))
  bodies_are (c ∷ cs) (d ∷ ds) are = let r = bodies_are cs ds are.2 in (d.body ∷ r.0, (are.0, r.1), ap (λ es. d.body ∷ es) r.2)

  bases_are : (cs : List ℕ) (gs : List DefTree) → AreTyped cs gs → get_or (map (λ d. bases_of d.params) gs) (length cs) [] ≡ one Int
  bases_are cs [] are = absurd are
  bases_are [] (d ∷ ds) are = are.1
  bases_are (c ∷ cs) (d ∷ ds) are = bases_are cs ds are.2

-- ---- sizes
function_weight : (calls : ℕ → ℕ) (c : ℕ) (e : ExprTree) → IsFunction c e → weight_in calls (lowered e) ≡ 20
function_weight calls c e is = ap (λ x. weight_in calls (lowered x)) is.3

function_depth : (calls : ℕ → ℕ) (c : ℕ) (e : ExprTree) → IsFunction c e → depth_in calls (lowered e) ≡ 8
function_depth calls c e is = ap (λ x. depth_in calls (lowered x)) is.3

calls_weight : (calls : ℕ → ℕ) (m : ℕ) → ((f : ℕ) → calls f ≤ 20) → weight_in calls (lowered (calls_of m)) ≤ 23 * m + 22
calls_weight calls zero h = let l = h 0 in omega arith
calls_weight calls (suc m) h = let l = h (suc m) in let more = calls_weight calls m h in omega arith

calls_depth : (calls : ℕ → ℕ) (m : ℕ) → ((f : ℕ) → calls f ≤ 8) → depth_in calls (lowered (calls_of m)) ≤ m + 9
calls_depth calls zero h = let l = h 0 in omega arith
calls_depth calls (suc m) h = let l = h (suc m) in let more = calls_depth calls m h in omega arith

-- one measure more, and all are small
index_more : (known : List ℕ) (n most : ℕ) → n ≤ most → ((f : ℕ) → slice_index known f ≤ most) → (f : ℕ) → slice_index (known ++ n ∷ []) f ≤ most
index_more [] n most l h zero = l
index_more [] n most l h (suc f) = h f
index_more (k ∷ known) n most l h zero = h zero
index_more (k ∷ known) n most l h (suc f) = index_more known n most l (λ g. h (suc g)) f

module _ (m : ℕ) (measure : (ℕ → ℕ) → ExprTree → ℕ) (small most : ℕ) (low : small ≤ most)
    (function : (calls : ℕ → ℕ) (c : ℕ) (e : ExprTree) → IsFunction c e → measure calls (lowered e) ≡ small)
    (main : (calls : ℕ → ℕ) → ((f : ℕ) → calls f ≤ small) → measure calls (lowered (calls_of m)) ≤ most) where
  all_fit : (known : List ℕ) → ((f : ℕ) → slice_index known f ≤ small) → (cs : List ℕ) (gs : List DefTree) → AreTyped m cs gs →
      All (λ n. n ≤ most) (measured measure known gs)
  all_fit known h cs [] are = absurd are
  all_fit known h [] (d ∷ ds) are =
      let calls : ℕ → ℕ = λ f. slice_index known f in
      let n : ℕ = measure calls (lowered d.body) in
      let l : n ≤ most = subst (λ e. measure calls (lowered e) ≤ most) (sym are.0) (main calls h) in
      All-cons (λ k. k ≤ most) n (measured measure (known ++ n ∷ []) ds) l
      (subst (λ gs. All (λ k. k ≤ most) (measured measure (known ++ n ∷ []) gs)) (sym are.2) (All-nil (λ k. k ≤ most)))
  all_fit known h (c ∷ cs) (d ∷ ds) are =
      let calls : ℕ → ℕ = λ f. slice_index known f in
      let n : ℕ = measure calls (lowered d.body) in
      let is : n ≡ small = function calls c d.body are.0 in
      All-cons (λ k. k ≤ most) n (measured measure (known ++ n ∷ []) ds) (omega arith)
      (all_fit (known ++ n ∷ []) (index_more known n small (omega arith) h) cs ds are.2)

ok_is : (x y : TypedTree) → ◌≡◌ {A = Result TypedTree TypeFault} (Ok x) (Ok y) → x ≡ y
ok_is x y e = cc

both_fit : (defs : List DefTree) (main : ℕ) → All (λ n. n ≤ 1000000) (weights defs) → All (λ n. n ≤ 200) (depths defs) →
    sized (record { defs = defs; main = main }) ≡ Ok (record { defs = defs; main = main })
both_fit defs main w d = rw (none_above 1000000 0 (weights defs) w, none_above 200 0 (depths defs) d) refl

functions_are : (ds : List RawDefTree) → functions_of (map item_def ds) ≡ ds
functions_are [] = refl
functions_are (d ∷ ds) = ap (λ es. d ∷ es) (functions_are ds)

-- the rules over functions alone
checked_defs : (ds : List RawDefTree) (defs : List DefTree) (main : ℕ) → walk_items Two Plain ds [] [] [] 1 (map item_def ds) ≡ Ok defs →
    main_from 0 ds ≡ Some main → sized (record { defs = defs; main = main }) ≡ Ok (record { defs = defs; main = main }) →
    checked Two Plain (map item_def ds) ≡ Ok (record { defs = defs; main = main })
checked_defs ds defs main w m s = rw (functions_are ds, w, m) s

-- a program of this shape breaks no rule
pub record IsChecked (cs : List ℕ) (ds : List RawDefTree) : Type 0 where
  pub typed : TypedTree
  pub is : checked Two Plain (map item_def ds) ≡ Ok typed
  pub defs : AreTyped (length cs - 1) cs typed.defs
  pub main : typed.main ≡ length cs

pub workload_checked : (cs : List ℕ) (ds : List RawDefTree) → 1 ≤ length cs → length cs ≤ 100 → AreDefs (length cs - 1) 1 cs ds → IsChecked cs ds
workload_checked cs ds l few are =
    let m = length cs - 1 in
    let each : (b : List RawDefTree) (i : ℕ) → i ≤ m → i < length b → Finds (callee_from (length b) 0 ds) (reverse b) i = λ b i k u.
    let f = found_at m (length b) 0 1 cs ds are (omega arith) i (omega arith) (omega arith) in
    let s : 1 + i ≡ i + 1 = omega arith in
    let z : 0 + i ≡ i = omega arith in
    record {
      callee = f.0;
      found = subst (λ j. callee_from (length b) 0 ds (function_name j) ≡ Some f.0) s f.1;
      number = f.2 ∙ z;
      params = f.3;
      results = f.4;
      earlier = f.5;
    } in
    let w = defs_walk m ds [] [] 1 1 cs ds are (omega arith) (omega arith) (record { functions = λ i k u. refl; main = refl }) each in
    let z : 0 + length cs ≡ length cs = omega arith in
    let weights_fit = all_fit m weight_in 20 1000000 (omega arith) function_weight (λ calls h. let k = calls_weight calls m h in omega arith) []
    (λ f. omega arith) cs w.0 w.2 in
    let depths_fit = all_fit m depth_in 8 200 (omega arith) function_depth (λ calls h. let k = calls_depth calls m h in omega arith) [] (λ f. omega arith)
    cs w.0 w.2 in
    record {
      typed = record { defs = w.0; main = length cs };
      is = checked_defs ds w.0 (length cs) w.1 (main_is m 0 1 cs ds are ∙ ap (λ i. Some i) z) (both_fit w.0 (length cs) weights_fit depths_fit);
      defs = w.2;
      main = refl;
    }

-- with levels in the place of names it is functions with these coefficients, and main, which takes one number
pub workload_typed : (cs : List ℕ) (ds : List RawDefTree) (typed : TypedTree) → 1 ≤ length cs → length cs ≤ 100 → AreDefs (length cs - 1) 1 cs ds →
    checked Two Plain (map item_def ds) ≡ Ok typed →
    IsWorkload cs (map (λ d. d.body) typed.defs) typed.main × (get_or (map (λ d. bases_of d.params) typed.defs) typed.main [] ≡ one Int)
workload_typed cs ds typed l few are e =
    let w = workload_checked cs ds l few are in
    let same : w.typed ≡ typed = ok_is w.typed typed (sym w.is ∙ e) in
    let b = bodies_are (length cs - 1) cs w.typed.defs w.defs in
    subst (λ t. IsWorkload cs (map (λ d. d.body) t.defs) t.main × (get_or (map (λ d. bases_of d.params) t.defs) t.main [] ≡ one Int)) same
    ((b.0, b.1, b.2, w.main), ap (λ i. get_or (map (λ d. bases_of d.params) w.typed.defs) i []) w.main ∙ bases_are (length cs - 1) cs w.typed.defs w.defs)
