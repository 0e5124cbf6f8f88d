-- What a question says of the cases of a choose, one step, one tuple and one case more.
use Rattle.std.proofs.Common.{◌≡◌, ℕ, zero, suc, pos, ◌+◌, ◌≤◌, List, [], ◌∷◌, ◌++◌, length, map, take, slice_get, Some, refl, sym, subst, subst₂, ap, ◌∙◌, append_assoc, append-nil, take_all, arith}
use Rattle.std.specs.List.{range_with_len, fold}
use Rattle.std.proofs.lemmas.List.{length-map}
use Rattle.std.proofs.lemmas.List.FromFn.{map-range_with_len_more}
use Rattle.std.proofs.lemmas.Grind.{flat_map-append}
use Rattle.cf_tree.specs.declared.base.Base.{Base}
use Rattle.cf_tree.specs.Meaning.{count_below, tuple_at}
use Rattle.cf_tree.specs.declared.base.Order.TheVariants.{Eq}
use Rattle.cf_tree.specs.RelTree.{term_lit, term_var, RelTree, rel_false, rel_compare, rel_divides, rel_or, rel_not}
use Rattle.cf_tree.specs.RelView.{rel_tree}
use Rattle.cf_linear.specs.declared.system.Search.{Search}
use Rattle.cf_linear.specs.declared.system.Step.{Step as DeclaredStep}
use Rattle.cf_linear.specs.Cases.{first_systems}
use Rattle.cf_linear.specs.Layout.{layout_of}
use Rattle.cf_linear.specs.Solved.{let_columns}
use Rattle.cf_linear.specs.Systems.{Step, floor_of, need_nonneg, need_zero, need_divides, Answer, System}
use Rattle.cf_linear.specs.Views.{step_of, bound_of}
use Rattle.cf_choose.specs.Eliminations.{made}
use Rattle.cf_choose.specs.Solved.{case_steps, case_bounds}
use Rattle.cf_warn.specs.declared.draft.Draft.{Draft as DeclaredDraft}
use Rattle.cf_warn.specs.declared.forms.Forms.{Forms as DeclaredForms}
use Rattle.cf_warn.specs.Missing.{Forms, with_form, search_forms, row_form, is_nonneg, let_says, lets_say, needs_fail, tuple_says, bounds_of, let_count, Turn, turns_of, turns, lets_in, turns_say, traced}
use Rattle.cf_warn.specs.Questions.{halves}
use Rattle.cf_warn.specs.Writing.{bounds_in, case_with, case_of, first_of, Draft, draft_of, step_written, IsWritten}
use Rattle.cf_warn.proofs.TupleCounts.{plain_bounds}

-- ---- steps
-- what the steps of a tuple leave
pub record AreSaid (d e : Draft) (ms : List Step) : Type 0 where
  pub level : e.level ≡ d.level + length (let_columns ms)
  pub says : e.says ≡ d.says ++ lets_say d.forms d.level ms
  pub fails : e.fails ≡ d.fails ++ needs_fail d.forms d.level ms

pub steps_said : (d : Draft) (ms : List Step) → AreSaid d (fold step_written d ms) ms
steps_said d [] = record { level = omega arith; says = sym (append-nil d.says); fails = sym (append-nil d.fails) }
steps_said d (floor_of c r g ∷ ms) =
    let s = steps_said (step_written d (floor_of c r g)) ms in
    let l = s.level in
    record {
      level = omega arith;
      says = s.says ∙ append_assoc d.says (let_says (row_form d.forms r) g (term_var d.level))
          (lets_say (with_form d.forms c (term_var d.level)) (d.level + 1) ms);
      fails = s.fails;
    }
steps_said d (need_nonneg r ∷ ms) =
    let s = steps_said (step_written d (need_nonneg r)) ms in
    record {
      level = s.level;
      says = s.says;
      fails =
          s.fails ∙ append_assoc d.fails (rel_not (is_nonneg (row_form d.forms r)) ∷ []) (needs_fail d.forms d.level ms);
    }
steps_said d (need_zero r ∷ ms) =
    let s = steps_said (step_written d (need_zero r)) ms in
    record {
      level = s.level;
      says = s.says;
      fails =
          s.fails ∙ append_assoc d.fails (rel_not (rel_compare Eq (row_form d.forms r) (term_lit (pos 0))) ∷ []) (needs_fail d.forms d.level ms);
    }
steps_said d (need_divides g r ∷ ms) =
    let s = steps_said (step_written d (need_divides g r)) ms in
    record {
      level = s.level;
      says = s.says;
      fails =
          s.fails ∙ append_assoc d.fails (rel_not (rel_divides g (row_form d.forms r)) ∷ []) (needs_fail d.forms d.level ms);
    }

-- ---- turns
turns_say_append : (first : Forms) (n : ℕ) (ts us : List Turn) → turns_say first n (ts ++ us) ≡ turns_say first n ts ++ turns_say first (n + lets_in ts) us
turns_say_append first n [] us = let z : n ≡ n + 0 = omega arith in ap (λ k. turns_say first k us) z
turns_say_append first n ((a, ks) ∷ ts) us =
    let z : n + let_count a + lets_in ts ≡ n + (let_count a + lets_in ts) = omega arith in
    let said = tuple_says (search_forms first a.bounds ks) n a.steps in
    ap (λ rs. said ++ rs) (turns_say_append first (n + let_count a) ts us ∙ ap (λ k. turns_say first (n + let_count a) ts ++ turns_say first k us) z)
    ∙ sym (append_assoc said (turns_say first (n + let_count a) ts) (turns_say first (n + (let_count a + lets_in ts)) us))

lets_in_append : (ts us : List Turn) → lets_in (ts ++ us) ≡ lets_in ts + lets_in us
lets_in_append [] us = omega arith
lets_in_append ((a, ks) ∷ ts) us = let h = lets_in_append ts us in omega arith

same_first : (f g : DeclaredForms) → f.first ≡ g.first → first_of f ≡ first_of g
same_first f g e = rw e refl

pub then_written : (d e f : DeclaredDraft) (ts us : List Turn) → IsWritten d e ts → IsWritten e f us → IsWritten d f (ts ++ us)
then_written d e f ts us s t =
    let l = s.level in
    let m = t.level in
    let k = lets_in_append ts us in
    let same = same_first e.forms d.forms s.first in
    let said = map rel_tree d.says.items in
    record {
      first = t.first ∙ s.first;
      level = omega arith;
      says = t.says ∙ ap (λ rs. rs ++ turns_say (first_of e.forms) e.level us) s.says
          ∙ append_assoc said (turns_say (first_of d.forms) d.level ts) (turns_say (first_of e.forms) e.level us)
          ∙ ap (λ rs. said ++ rs) (ap (λ (g : Forms). turns_say (first_of d.forms) d.level ts ++ turns_say g e.level us) same
          ∙ ap (λ n. turns_say (first_of d.forms) d.level ts ++ turns_say (first_of d.forms) n us) l
          ∙ sym (turns_say_append (first_of d.forms) d.level ts us));
    }

-- ---- tuples
abbrev pub tuple_of : Answer → ℕ → Turn
tuple_of a i = (a, tuple_at (bounds_of a) i)

-- what is said of a tuple, once its lets and needs are written behind what was said before
pub tuple_written : (d now next : DeclaredDraft) (begun : Draft) (bounds : List Search) (steps : List DeclaredStep) (i : ℕ) (some : RelTree) →
    begun.forms ≡ search_forms (first_of d.forms) (map bound_of bounds) (tuple_at (bounds_in bounds) i) → begun.level ≡ d.level →
    begun.says ≡ map rel_tree d.says.items → begun.fails ≡ [] → draft_of now ≡ fold step_written begun (map step_of steps) →
    some ≡ halves (λ a b. rel_or a b) rel_false (map rel_tree now.fails.items) → next.forms.first ≡ d.forms.first → next.level ≡ now.level →
    map rel_tree next.says.items ≡ map rel_tree now.says.items ++ (some ∷ []) →
    IsWritten d next ((case_of bounds steps, tuple_at (bounds_in bounds) i) ∷ [])
tuple_written d now next begun bounds steps i some f l s z w o first level said =
    let ms = map step_of steps in
    let forms = search_forms (first_of d.forms) (map bound_of bounds) (tuple_at (bounds_in bounds) i) in
    let a = steps_said begun ms in
    let before = map rel_tree d.says.items in
    let join : List RelTree → RelTree = λ rs. halves (λ a b. rel_or a b) rel_false rs in
    let fails : map rel_tree now.fails.items ≡ needs_fail forms d.level ms =
    ap (λ (e : Draft). e.fails) w ∙ a.fails ∙ ap (λ rs. rs ++ needs_fail begun.forms begun.level ms) z
    ∙ ap (λ (g : Forms). needs_fail g begun.level ms) f ∙ ap (λ n. needs_fail forms n ms) l in
    let says : map rel_tree now.says.items ≡ before ++ lets_say forms d.level ms =
    ap (λ (e : Draft). e.says) w ∙ a.says ∙ ap (λ rs. rs ++ lets_say begun.forms begun.level ms) s
    ∙ ap (λ (g : Forms). before ++ lets_say g begun.level ms) f ∙ ap (λ n. before ++ lets_say forms n ms) l in
    let k : now.level ≡ begun.level + length (let_columns ms) = ap (λ (e : Draft). e.level) w ∙ a.level in
    record {
      first = first;
      level = omega arith;
      says = said ∙ ap (λ rs. rs ++ (some ∷ [])) says ∙ append_assoc before (lets_say forms d.level ms) (some ∷ [])
          ∙ ap (λ r. before ++ (lets_say forms d.level ms ++ (r ∷ []))) (o ∙ ap join fails)
          ∙ ap (λ rs. before ++ rs) (sym (append-nil (tuple_says forms d.level ms)));
    }

-- one tuple more
pub tuples_more : (d e f : DeclaredDraft) (bounds : List Search) (steps : List DeclaredStep) (i : ℕ) →
    IsWritten d e (map (tuple_of (case_of bounds steps)) (range_with_len 0 i)) →
    IsWritten e f ((case_of bounds steps, tuple_at (bounds_in bounds) i) ∷ []) →
    IsWritten d f (map (tuple_of (case_of bounds steps)) (range_with_len 0 (i + 1)))
tuples_more d e f bounds steps i s t =
    let a = case_of bounds steps in
    let one : IsWritten e f (tuple_of a i ∷ []) = subst (λ bs. IsWritten e f ((a, tuple_at bs i) ∷ [])) (sym (plain_bounds bounds)) t in
    subst (λ ts. IsWritten d f ts) (sym (map-range_with_len_more (tuple_of a) 0 i i (omega arith)))
    (then_written d e f (map (tuple_of a) (range_with_len 0 i)) (tuple_of a i ∷ []) s one)

-- ---- cases
pub all_tuples : (d e : DeclaredDraft) (bounds : List Search) (steps : List DeclaredStep) (i : ℕ) → i ≡ count_below (bounds_in bounds) →
    IsWritten d e (map (tuple_of (case_of bounds steps)) (range_with_len 0 i)) → IsWritten d e (turns_of (case_of bounds steps))
all_tuples d e bounds steps i n s =
    subst (λ k. IsWritten d e (map (tuple_of (case_of bounds steps)) (range_with_len 0 k))) (n ∙ ap count_below (sym (plain_bounds bounds))) s

-- only the bounds and the steps of a case count
module _ (a : Answer) (f : ℕ → List ℕ) where
  say_same : (first : Forms) (n : ℕ) (is : List ℕ) →
      turns_say first n (map (λ i. (case_with a.bounds a.steps, f i)) is) ≡ turns_say first n (map (λ i. (a, f i)) is)
  say_same first n [] = refl
  say_same first n (i ∷ is) = ap (λ rs. tuple_says (search_forms first a.bounds (f i)) n a.steps ++ rs) (say_same first (n + let_count a) is)

  lets_same : (is : List ℕ) → lets_in (map (λ i. (case_with a.bounds a.steps, f i)) is) ≡ lets_in (map (λ i. (a, f i)) is)
  lets_same [] = refl
  lets_same (i ∷ is) = ap (λ n. let_count a + n) (lets_same is)

same_written : (d e : DeclaredDraft) (a : Answer) (bs : List (ℕ × ℕ)) (ms : List Step) → a.bounds ≡ bs → a.steps ≡ ms →
    IsWritten d e (turns_of (case_with bs ms)) → IsWritten d e (turns_of a)
same_written d e a bs ms x y s =
    let w = subst₂ (λ b m. IsWritten d e (turns_of (case_with b m))) (sym x) (sym y) s in
    let is = range_with_len 0 (count_below (bounds_of a)) in
    record {
      first = w.first;
      level = w.level ∙ ap (λ n. d.level + n) (lets_same a (tuple_at (bounds_of a)) is);
      says = w.says ∙ ap (λ rs. map rel_tree d.says.items ++ rs) (say_same a (tuple_at (bounds_of a)) (first_of d.forms) d.level is);
    }

-- the case at a place
at_case : (ms : List System) (i : ℕ) (bs : List (ℕ × ℕ)) (ss : List Step) → slice_get (map (λ m. (made m).bounds) ms) i ≡ Some bs →
    slice_get (map (λ m. (made m).steps) ms) i ≡ Some ss →
    (a : Answer) × (a.bounds ≡ bs) × (a.steps ≡ ss) × (take (i + 1) (map made ms) ≡ take i (map made ms) ++ (a ∷ []))
at_case [] i bs ss b s = absurd (cc)
at_case (m ∷ ms) zero bs ss b s = (made m, cc, cc, refl)
at_case (m ∷ ms) (suc i) bs ss b s =
    let r = at_case ms i bs ss b s in
    let n : suc i + 1 ≡ suc (i + 1) = omega arith in
    (r.0, r.1, r.2, ap (λ k. take k (map made (m ∷ ms))) n ∙ ap (λ as_. made m ∷ as_) r.3)

module _ (scope outputs : List Base) (rel : RelTree) where
  abbrev all : List Answer
  all = traced scope outputs rel

  -- one case more
  pub cases_more : (d e f : DeclaredDraft) (bounds : List Search) (steps : List DeclaredStep) (i : ℕ) →
      slice_get (case_bounds scope outputs rel) i ≡ Some (map bound_of bounds) → slice_get (case_steps scope outputs rel) i ≡ Some (map step_of steps) →
      IsWritten d e (turns (take i all)) → IsWritten e f (turns_of (case_of bounds steps)) → IsWritten d f (turns (take (i + 1) all))
  cases_more d e f bounds steps i b s w t =
      let c = at_case (first_systems (layout_of scope outputs rel) rel) i (map bound_of bounds) (map step_of steps) b s in
      let one = same_written e f c.0 (map bound_of bounds) (map step_of steps) c.1 c.2 t in
      subst (λ ts. IsWritten d f ts)
      (ap (λ ts. turns (take i all) ++ ts) (sym (append-nil (turns_of c.0))) ∙ sym (flat_map-append turns_of (take i all) (c.0 ∷ [])) ∙ ap turns (sym c.3))
      (then_written d e f (turns (take i all)) (turns_of c.0) w one)

  pub all_cases : (d e : DeclaredDraft) (i : ℕ) → length (first_systems (layout_of scope outputs rel) rel) ≤ i → IsWritten d e (turns (take i all)) →
      IsWritten d e (turns all)
  all_cases d e i h w =
      let n = length-map (first_systems (layout_of scope outputs rel) rel) made in
      subst (λ as_. IsWritten d e (turns as_)) (take_all i all (omega arith)) w
