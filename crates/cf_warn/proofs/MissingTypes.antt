-- The question `none` is typed and linear.
use Rattle.std.proofs.Common.{◌≡◌, ℕ, zero, suc, ◌+◌, ◌-◌, ◌*◌, ◌^◌, ◌≤◌, ◌<◌, ◌==◌, ℤ, pos, true, not, cond, Some, List, [], ◌∷◌, ◌++◌, length, get_or, slice_get, map, replicate, All, subst, refl, ap, ◌∙◌, append-nil, arith}
use Rattle.std.specs.List.{fold}
use Rattle.std.specs.Ordering.{int_eq}
use Rattle.std.proofs.lemmas.Bool.{cond_both}
use Rattle.std.proofs.lemmas.List.{length-map}
use Rattle.std.proofs.lemmas.List.Elements.{All-nil, All-cons, All-head, All-tail, All-append}
use Rattle.std.proofs.lemmas.Option.{slice_get-get_or, get_or_from_slice_get}
use Rattle.cf_num.specs.Limit.{IsWithin}
use Rattle.cf_tree.specs.declared.base.Base.{Base}
use Rattle.cf_tree.specs.declared.base.Base.TheVariants.{Int, Bool as Truth, Set}
use Rattle.cf_tree.specs.Meaning.{count_below, tuple_at}
use Rattle.cf_tree.specs.Relation.{IsTypedSet, IsTypedTerm, IsTyped, IsLinearTerm, IsLinear}
use Rattle.cf_tree.specs.RelTree.{SetTree, set_var, inter_of, diff_of, TermTree, term_lit, term_var, term_card, term_mul, term_add, RelTree, rel_true, rel_false, rel_and, rel_or}
use Rattle.cf_tree.specs.Solving.{IsBelow}
use Rattle.cf_tree.specs.Typing.{AreBounds}
use Rattle.cf_tree.proofs.TupleLemmas.{tuples_numbered}
use Rattle.cf_linear.specs.Arm.{sets_in, sets_out}
use Rattle.cf_linear.specs.Layout.{Layout, is_number, layout_of, masks, place, has_level, bit}
use Rattle.cf_linear.specs.Rows.{Row, AreWithin}
use Rattle.cf_linear.specs.Solved.{let_columns}
use Rattle.cf_linear.specs.Systems.{Step, floor_of, need_nonneg, need_zero, need_divides, System, Answer}
use Rattle.cf_cases.specs.Holding.{EachOf}
use Rattle.cf_cases.proofs.Quantifiers.{each-append, each-map}
use Rattle.cf_elim.specs.Returning.{StepsDivide}
use Rattle.cf_elim.proofs.StageSmall.{StepsSmall}
use Rattle.cf_venn.proofs.AgreeLaws.{at_place}
use Rattle.cf_venn.proofs.CodeLaws.{each_level}
use Rattle.cf_venn.proofs.ColumnLaws.{place_within}
use Rattle.cf_venn.proofs.LevelLaws.{base_at as passes_at, has_unfiltered, is_layout}
use Rattle.cf_choose.specs.Laws.{IsUnrefused}
use Rattle.cf_choose.proofs.RegionLets.{inputs_typed}
use Rattle.cf_warn.specs.Questions.{parameters, base_at, parameter_bases, halves}
use Rattle.cf_warn.specs.Missing.{Forms, with_form, inter_of_all, region_form, first_forms, search_forms, entry_form, row_form, lets_say, needs_fail, tuple_says, bounds_of, let_count, Turn, turns_of, turns, lets_in, turns_say, traced, none_outputs, none}
use Rattle.cf_choose.specs.Eliminations.{made}
use Rattle.cf_choose.specs.Solved.{IsOutput}
use Rattle.cf_linear.specs.Cases.{first_systems}
use Rattle.cf_warn.proofs.CaseNeeds.{IsKept, cases_kept}
use Rattle.cf_warn.proofs.MissingColumns.{number_parameter, input_parameter}
use Rattle.cf_warn.proofs.TwiceLaws.{parameters_are_outputs}
use Rattle.cf_warn.proofs.HalvesLaws.{halves_keep}
use Rattle.cf_warn.proofs.MissingTurns.{range_each}
use Rattle.cf_warn.proofs.ParameterLaws.{slice_get-early}

-- ---- search values are within the limit
le_times : (a b : ℕ) → 1 ≤ b → a ≤ a * b
le_times a b h = grind (arith)

times_le : (a b : ℕ) → 1 ≤ b → a ≤ b * a
times_le a b h = grind (arith)

some_below : (bounds : List ℕ) → All (λ b. 1 ≤ b) bounds → 1 ≤ count_below bounds
some_below [] h = omega arith
some_below (b ∷ bounds) h =
    let k = All-head (λ c. 1 ≤ c) b bounds h in
    let m = some_below bounds (All-tail (λ c. 1 ≤ c) b bounds h) in
    let n = le_times b (count_below bounds) m in
    omega arith

each_below : (most : ℕ) (bounds ks : List ℕ) → All (λ b. 1 ≤ b) bounds → count_below bounds ≤ most → IsBelow bounds ks → EachOf (λ k. k < most) ks
each_below most [] [] h m l = tt
each_below most [] (k ∷ ks) h m l = absurd l
each_below most (b ∷ bounds) [] h m l = absurd l
each_below most (b ∷ bounds) (k ∷ ks) h m l =
    let one = All-head (λ c. 1 ≤ c) b bounds h in
    let more = All-tail (λ c. 1 ≤ c) b bounds h in
    let p = le_times b (count_below bounds) (some_below bounds more) in
    let q = times_le (count_below bounds) b one in
    let here = l.0 in
    (omega arith, each_below most bounds ks more (omega arith) l.1)

-- a step list's rows and divisors, and a tuple, are within the limit
pub record Fits (t : Turn) : Type 0 where
  pub small : StepsSmall t.0.steps
  pub divide : StepsDivide t.0.steps
  pub tuple : EachOf (λ k. k < 1048576) t.1

pub turns_fit : (a : Answer) → StepsSmall a.steps → StepsDivide a.steps → AreBounds (bounds_of a) → EachOf Fits (turns_of a)
turns_fit a s d b =
    range_each Fits (λ i. (a, tuple_at (bounds_of a) i)) 0 (count_below (bounds_of a))
    (λ i l. record {
      small = s;
      divide = d;
      tuple = each_below 1048576 (bounds_of a) (tuple_at (bounds_of a) i) b.0 b.1 ((tuples_numbered (bounds_of a)).below i (omega arith));
    })

module _ (bases : List Base) where
  abbrev pub FitTerm : TermTree → Type 0
  FitTerm t = IsTypedTerm bases t × IsLinearTerm t

  abbrev pub FitRel : RelTree → Type 0
  FitRel r = IsTyped bases r × IsLinear r

  abbrev pub FitForms : Forms → Type 0
  FitForms forms = (c : ℕ) → FitTerm (forms c)

  -- numbers stand at so many levels from n on
  abbrev pub NumbersFrom : ℕ → ℕ → Type 0
  NumbersFrom n k = (x : ℕ) → n ≤ x → x < n + k → slice_get bases x ≡ Some Int

  with_fits : (forms : Forms) (c : ℕ) (t : TermTree) → FitForms forms → FitTerm t → FitForms (with_form forms c t)
  with_fits forms c t f g d = cond_both (d == c) t (forms d) FitTerm (λ _. g) (λ _. f d)

  entry_fits : (forms : Forms) (c : ℕ) (k : ℤ) → FitForms forms → IsWithin k → FitTerm (entry_form forms (c, k))
  entry_fits forms c k f w =
      cond_both (c == 0) (term_lit k) (cond (int_eq k (pos 1)) (forms c) (term_mul (term_lit k) (forms c))) FitTerm (λ _. (w, tt))
      (λ _. cond_both (int_eq k (pos 1)) (forms c) (term_mul (term_lit k) (forms c)) FitTerm (λ _. f c) (λ _. ((w, (f c).0), (tt, (f c).1, refl))))

  entries_fit : (forms : Forms) (r : Row) → FitForms forms → AreWithin r → EachOf FitTerm (map (entry_form forms) r)
  entries_fit forms [] f w = tt
  entries_fit forms ((c, k) ∷ r) f w = (entry_fits forms c k f w.0, entries_fit forms r f w.1)

  row_fits : (forms : Forms) (r : Row) → FitForms forms → AreWithin r → FitTerm (row_form forms r)
  row_fits forms r f w =
      halves_keep (λ a b. term_add a b) (term_lit (pos 0)) FitTerm (omega arith, tt) (λ a b p q. ((p.0, q.0), (p.1, q.1))) (map (entry_form forms) r)
      (entries_fit forms r f w)

  zero_fits : IsWithin (pos 0)
  zero_fits = omega arith

  one_fits : IsWithin (pos 1)
  one_fits = omega arith

  lets_fit : (forms : Forms) (n : ℕ) (ms : List Step) → FitForms forms → StepsSmall ms → NumbersFrom n (length (let_columns ms)) →
      EachOf FitRel (lets_say forms n ms)
  lets_fit forms n [] f s h = tt
  lets_fit forms n (floor_of c r g ∷ ms) f s h =
      let v : FitTerm (term_var n) = (h n (omega arith) (omega arith), tt) in
      let t = row_fits forms r f s.0.0.1 in
      let w = s.0.1 in (
        (((t.0, (w, v.0)), zero_fits), ((t.1, (tt, tt, refl)), tt)),
        (
          (((((t.0, (w, v.0)), w), one_fits), zero_fits), ((((t.1, (tt, tt, refl)), tt), tt), tt)),
          lets_fit (with_form forms c (term_var n)) (n + 1) ms (with_fits forms c (term_var n) f v) s.1 (λ x a b. h x (omega arith) (omega arith)),
        ),
      )
  lets_fit forms n (need_nonneg r ∷ ms) f s h = lets_fit forms n ms f s.1 h
  lets_fit forms n (need_zero r ∷ ms) f s h = lets_fit forms n ms f s.1 h
  lets_fit forms n (need_divides g r ∷ ms) f s h = lets_fit forms n ms f s.1 h

  needs_fit : (forms : Forms) (n : ℕ) (ms : List Step) → FitForms forms → StepsSmall ms → StepsDivide ms → NumbersFrom n (length (let_columns ms)) →
      EachOf FitRel (needs_fail forms n ms)
  needs_fit forms n [] f s d h = tt
  needs_fit forms n (floor_of c r g ∷ ms) f s d h =
      let v : FitTerm (term_var n) = (h n (omega arith) (omega arith), tt) in
      needs_fit (with_form forms c (term_var n)) (n + 1) ms (with_fits forms c (term_var n) f v) s.1 d.1 (λ x a b. h x (omega arith) (omega arith))
  needs_fit forms n (need_nonneg r ∷ ms) f s d h = let t = row_fits forms r f s.0.1 in (((t.0, zero_fits), (t.1, tt)), needs_fit forms n ms f s.1 d.1 h)
  needs_fit forms n (need_zero r ∷ ms) f s d h = let t = row_fits forms r f s.0.1 in (((t.0, zero_fits), (t.1, tt)), needs_fit forms n ms f s.1 d.1 h)
  needs_fit forms n (need_divides g r ∷ ms) f s d h = let t = row_fits forms r f s.0.0.1 in ((((d.0, s.0.1), t.0), t.1), needs_fit forms n ms f s.1 d.1 h)

  tuple_fits : (forms : Forms) (n : ℕ) (ms : List Step) → FitForms forms → StepsSmall ms → StepsDivide ms → NumbersFrom n (length (let_columns ms)) →
      EachOf FitRel (tuple_says forms n ms)
  tuple_fits forms n ms f s d h =
      each-append FitRel (lets_say forms n ms) (halves (λ a b. rel_or a b) rel_false (needs_fail forms n ms) ∷ []) (lets_fit forms n ms f s h) (
        halves_keep (λ a b. rel_or a b) rel_false FitRel (tt, tt) (λ a b p q. ((p.0, q.0), (p.1, q.1))) (needs_fail forms n ms) (needs_fit forms n ms f s d h),
        tt,
      )

  search_fits : (forms : Forms) (bs : List (ℕ × ℕ)) (ks : List ℕ) → FitForms forms → EachOf (λ k. k < 1048576) ks → FitForms (search_forms forms bs ks)
  search_fits forms [] ks f w = f
  search_fits forms ((c, b) ∷ bs) [] f w = f
  search_fits forms ((c, b) ∷ bs) (k ∷ ks) f w =
      let l = w.0 in
      search_fits (with_form forms c (term_lit (pos k))) bs ks (with_fits forms c (term_lit (pos k)) f (omega arith, tt)) w.1

  pub turns_say_fit : (forms : Forms) (n : ℕ) (ts : List Turn) → FitForms forms → EachOf Fits ts → NumbersFrom n (lets_in ts) →
      EachOf FitRel (turns_say forms n ts)
  turns_say_fit forms n [] f s h = tt
  turns_say_fit forms n ((a, ks) ∷ ts) f s h =
      each-append FitRel (tuple_says (search_forms forms a.bounds ks) n a.steps) (turns_say forms (n + let_count a) ts)
      (tuple_fits (search_forms forms a.bounds ks) n a.steps (search_fits forms a.bounds ks f s.0.tuple) s.0.small s.0.divide (λ x p q. h x p (omega arith)))
      (turns_say_fit forms (n + let_count a) ts f s.1 (λ x p q. h x (omega arith) (omega arith)))

  -- ---- the known columns
  at_item : (P : TermTree → Type 0) (ts : List TermTree) (c : ℕ) (d : TermTree) → EachOf P ts → P d → P (get_or ts c d)
  at_item P [] c d h k = k
  at_item P (t ∷ ts) zero d h k = h.0
  at_item P (t ∷ ts) (suc c) d h k = at_item P ts c d h.1 k

  module _ (to : ℕ → ℕ) where
    abbrev IsSetAt : ℕ → Type 0
    IsSetAt x = slice_get bases (to x) ≡ Some Set

    inters_typed : (s : SetTree) (xs : List ℕ) → IsTypedSet bases s → EachOf IsSetAt xs →
        IsTypedSet bases (fold (λ a b. inter_of a b) s (map (λ x. set_var (to x)) xs))
    inters_typed s [] t h = t
    inters_typed s (x ∷ xs) t h = inters_typed (inter_of s (set_var (to x))) xs (t, h.0) h.1

    all_typed : (xs : List ℕ) → EachOf IsSetAt xs → IsTypedSet bases (inter_of_all (map (λ x. set_var (to x)) xs))
    all_typed [] h = tt
    all_typed (x ∷ xs) h = inters_typed (set_var (to x)) xs h.0 h.1

    diffs_typed : (s : SetTree) (xs : List ℕ) → IsTypedSet bases s → EachOf IsSetAt xs →
        IsTypedSet bases (fold (λ a b. diff_of a b) s (map (λ x. set_var (to x)) xs))
    diffs_typed s [] t h = t
    diffs_typed s (x ∷ xs) t h = diffs_typed (diff_of s (set_var (to x))) xs (t, h.0) h.1

    module _ (l : Layout) (numbers : (x : ℕ) → has_level l.numbers x ≡ true → slice_get bases (to x) ≡ Some Int)
        (inputs : (x : ℕ) → has_level l.inputs x ≡ true → IsSetAt x) where
      region_typed : (m : ℕ) → IsTypedSet bases (region_form l to m)
      region_typed m =
          diffs_typed (inter_of_all (map (λ x. set_var (to x)) (sets_in l m))) (sets_out l m)
          (all_typed (sets_in l m) (each_level IsSetAt (sets_in l m) (λ x h. inputs x (has_unfiltered (λ y. bit (place y l.inputs) m) l.inputs x h))))
          (each_level IsSetAt (sets_out l m) (λ x h. inputs x (has_unfiltered (λ y. not (bit (place y l.inputs) m)) l.inputs x h)))

      pub first_fit : FitForms (first_forms l to)
      first_fit c =
          let ns : List TermTree = map (λ x. term_var (to x)) l.numbers in
          let cs : List TermTree = map (λ m. term_card (region_form l to m)) (masks (length l.inputs)) in
          at_item FitTerm (term_lit (pos 1) ∷ (ns ++ cs)) c (term_lit (pos 0)) (
            (one_fits, tt),
            each-append FitTerm ns cs
                (each-map FitTerm (λ x. term_var (to x)) l.numbers (each_level (λ x. FitTerm (term_var (to x))) l.numbers (λ x h. (numbers x h, tt))))
                (range_each FitTerm (λ m. term_card (region_form l to m)) 1 (2 ^ length l.inputs - 1) (λ m b. (region_typed m, tt))),
          )
          (zero_fits, tt)

-- ---- the question
numbers_behind : (bases : List Base) (k x : ℕ) → length bases ≤ x → x < length bases + k → slice_get (bases ++ replicate k Int) x ≡ Some Int
numbers_behind [] zero x h l = absurd (omega arith)
numbers_behind [] (suc k) zero h l = refl
numbers_behind [] (suc k) (suc x) h l = numbers_behind [] k x (omega arith) (omega arith)
numbers_behind (b ∷ bases) k zero h l = absurd (omega arith)
numbers_behind (b ∷ bases) k (suc x) h l = numbers_behind bases k x (omega arith) (omega arith)

all_int : (k : ℕ) → All IsOutput (replicate k Int)
all_int zero = All-nil IsOutput
all_int (suc k) = All-cons IsOutput Int (replicate k Int) tt (all_int k)

number_is : (bs : List Base) (i : ℕ) → passes_at is_number bs i ≡ true → slice_get bs i ≡ Some Int
number_is [] i h = absurd (cc)
number_is (Int ∷ bs) zero h = refl
number_is (Truth ∷ bs) zero h = absurd (cc)
number_is (Set ∷ bs) zero h = absurd (cc)
number_is (b ∷ bs) (suc i) h = number_is bs i h

cases_fit : (ms : List System) → EachOf IsKept ms → EachOf Fits (turns (map made ms))
cases_fit [] k = tt
cases_fit (m ∷ ms) k =
    each-append Fits (turns_of (made m)) (turns (map made ms)) (turns_fit (made m) k.0.small k.0.trace.divide k.0.bounds) (cases_fit ms k.1)

each_first : (bases : List Base) (rs : List RelTree) → EachOf (FitRel bases) rs → FitRel bases (halves (λ a b. rel_and a b) rel_true rs)
each_first bases rs h = halves_keep (λ a b. rel_and a b) rel_true (FitRel bases) (tt, tt) (λ a b p q. ((p.0, q.0), (p.1, q.1))) rs h

module _ (scope outputs : List Base) (rel : RelTree) (u : IsUnrefused scope outputs rel) where
  abbrev params : List ℕ
  params = parameters scope rel

  abbrev bases : List Base
  bases = none_outputs scope outputs rel

  parameter_base : (x : ℕ) (b : Base) → has_level params x ≡ true → slice_get scope x ≡ Some b → slice_get bases (place x params) ≡ Some b
  parameter_base x b h e =
      let p = place_within x params h in
      let n = length-map params (base_at scope) in
      slice_get-early (parameter_bases scope rel) (replicate (lets_in (turns (traced scope outputs rel))) Int) (place x params) (omega arith)
      ∙ slice_get-get_or (parameter_bases scope rel) (place x params) Int (omega arith)
      ∙ ap (λ y. Some y) (at_place (base_at scope) Int params x h ∙ get_or_from_slice_get scope x b Int e)

  number_at : (x : ℕ) → has_level (layout_of scope outputs rel).numbers x ≡ true → slice_get bases (place x params) ≡ Some Int
  number_at x h =
      parameter_base x Int (number_parameter scope outputs rel x h) (number_is scope x ((is_layout scope outputs rel).number_is x h))

  input_at : (x : ℕ) → has_level (layout_of scope outputs rel).inputs x ≡ true → slice_get bases (place x params) ≡ Some Set
  input_at x h =
      parameter_base x Set (input_parameter scope outputs rel x h)
      (subst (λ bs. slice_get bs x ≡ Some Set) (append-nil scope) (inputs_typed scope outputs rel [] x h))

  none_fits : FitRel bases (none scope outputs rel)
  none_fits =
      let l = layout_of scope outputs rel in
      let ts = turns (traced scope outputs rel) in
      let n = length-map params (base_at scope) in
      each_first bases (turns_say (first_forms l (λ x. place x params)) (length params) ts)
      (turns_say_fit bases (first_forms l (λ x. place x params)) (length params) ts (first_fit bases (λ x. place x params) l number_at input_at)
      (cases_fit (first_systems l rel) (cases_kept scope outputs rel u))
      (λ x a b. numbers_behind (parameter_bases scope rel) (lets_in ts) x (omega arith) (omega arith)))

  pub none_typed : IsTyped (none_outputs scope outputs rel) (none scope outputs rel)
  none_typed = none_fits.0

  pub none_linear : IsLinear (none scope outputs rel)
  none_linear = none_fits.1

  pub none_are_outputs : All IsOutput (none_outputs scope outputs rel)
  none_are_outputs =
      let ts = turns (traced scope outputs rel) in
      All-append IsOutput (parameter_bases scope rel) (replicate (lets_in ts) Int) (parameters_are_outputs scope outputs rel u.typed u.are_outputs)
      (all_int (lets_in ts))
