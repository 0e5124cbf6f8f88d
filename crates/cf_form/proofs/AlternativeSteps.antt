-- One more step of the loops over alternatives.
use Rattle.std.proofs.Common.{◌≡◌, ℕ, Bool, true, false, ◌+◌, ◌<◌, List, [], ◌∷◌, ◌++◌, length, map, take, get_or, reverse, refl, sym, ap, ap₂, ◌∙◌, append_assoc}
use Rattle.std.specs.Global.{Global}
use Rattle.std.specs.Prelude.{Vec}
use Rattle.std.proofs.lemmas.List.{map_more, map-append, reverse-append, reverse-reverse}
use Rattle.cf_tree.specs.declared.base.Order.{Order}
use Rattle.cf_tree.specs.declared.rel.Rel.{Rel}
use Rattle.cf_tree.specs.RelTree.{RelTree, rel_compare}
use Rattle.cf_tree.specs.RelView.{rel_tree}
use Rattle.cf_form.specs.declared.guarded.GuardedTerm.{GuardedTerm}
use Rattle.cf_form.specs.declared.wide.WideTerm.{WideTerm as DeclaredTerm}
use Rattle.cf_form.specs.declared.join.Sign.TheVariants.{Holds, Fails}
use Rattle.cf_form.specs.Alternatives.{best_behind, best_of, links, over_two, some_atom}
use Rattle.cf_form.specs.Atoms.{atoms, rel_over_sets}
use Rattle.cf_form.specs.GuardedView.{guarded_term, guarded_terms}
use Rattle.cf_form.specs.Joined.{signed_of}
use Rattle.cf_form.specs.Polarity.{Truths, alternatives, all_alternatives, set_alternatives, holding, failing}
use Rattle.cf_form.specs.Wide.{WideTerm, WideSet, WideRel, wide_true, wide_false, wide_truth, wide_compare, wide_same_set, wide_other_set, wide_subset, wide_divides, wide_not, wide_and, wide_or, wide_implies, wide_same, wide_other, wide_if_truth, wide_chain}
use Rattle.cf_form.specs.WideView.{wides_of, wide_term, wide_terms}

one_more : (truths : Truths) (ts : List WideTerm) (t : WideTerm) →
    all_alternatives truths (wides_of (ts ++ t ∷ [])) ≡ all_alternatives truths (wides_of ts) ++ alternatives truths t ∷ []
one_more truths [] t = refl
one_more truths (u ∷ ts) t = ap (λ xs. alternatives truths u ∷ xs) (one_more truths ts t)

all_next : (truths : Truths) (ts : List DeclaredTerm) (i : ℕ) (t : DeclaredTerm) → i < length ts → t ≡ get_or ts i t →
    all_alternatives truths (wide_terms (take (i + 1) ts)) ≡ all_alternatives truths (wide_terms (take i ts)) ++ alternatives truths (wide_term t) ∷ []
all_next truths ts i t l e =
    ap (λ us. all_alternatives truths (wides_of us)) (map_more wide_term ts i t l ∙ ap (λ u. map wide_term (take i ts) ++ wide_term u ∷ []) (sym e))
    ∙ one_more truths (map wide_term (take i ts)) (wide_term t)

-- the first part is taken from the end of the reversed list
pub best_taken : (first other : Order) (parts left : List (Vec GuardedTerm Global)) (part : Vec GuardedTerm Global) → reverse parts ≡ left ++ part ∷ [] →
    best_behind first other (map guarded_term part.items) (map guarded_terms (reverse left)) ≡ best_of first other (map guarded_terms parts)
best_taken first other parts left part e =
    let is : parts ≡ part ∷ reverse left = sym (reverse-reverse parts) ∙ ap reverse e ∙ reverse-append left (part ∷ []) in
    ap (λ ps. best_of first other (map guarded_terms ps)) (sym is)

-- one more link of a chain
pub link_next : (last : RelTree → RelTree) (order : Order) (orders more : List Order) (left right : Vec GuardedTerm Global)
    (parts rest tail : List (Vec GuardedTerm Global)) (all new : List Rel) (link : Rel) (whole : List RelTree) →
    orders ≡ order ∷ more → parts ≡ left ∷ rest → rest ≡ right ∷ tail →
    rel_tree link ≡ some_atom last (over_two (rel_compare order) (map guarded_term left.items) (map guarded_term right.items)) →
    new ≡ all ++ link ∷ [] → map rel_tree all ++ links last orders (map guarded_terms parts) ≡ whole →
    map rel_tree new ++ links last more (map guarded_terms rest) ≡ whole
link_next last order orders more left right parts rest tail all new link whole os ps rs is added inv =
    let ending : List RelTree = links last more (map guarded_terms (right ∷ tail)) in
    ap (λ us. map rel_tree new ++ links last more (map guarded_terms us)) rs
    ∙ ap (λ us. map rel_tree us ++ ending) added ∙ ap (λ us. us ++ ending) (map-append rel_tree all (link ∷ []))
    ∙ append_assoc (map rel_tree all) (rel_tree link ∷ []) ending ∙ ap (λ r. map rel_tree all ++ r ∷ ending) is
    ∙ sym (ap₂ (λ us vs. map rel_tree all ++ links last us (map guarded_terms vs)) os (ps ∙ ap (λ vs. left ∷ vs) rs)) ∙ inv

-- the alternatives of one more number form
pub all_pushed : (truths : Truths) (ts : List DeclaredTerm) (i : ℕ) (t : DeclaredTerm) (all new : List (Vec GuardedTerm Global))
    (here : Vec GuardedTerm Global) → i < length ts → t ≡ get_or ts i t → new ≡ all ++ here ∷ [] →
    map guarded_term here.items ≡ alternatives truths (wide_term t) →
    map guarded_terms all ≡ all_alternatives truths (wide_terms (take i ts)) → map guarded_terms new ≡ all_alternatives truths (wide_terms (take (i + 1) ts))
all_pushed truths ts i t all new here l e added is inv =
    ap (map guarded_terms) added ∙ map-append guarded_terms all (here ∷ []) ∙ ap₂ (λ xs x. xs ++ x ∷ []) inv is ∙ sym (all_next truths ts i t l e)

-- ---- what stands for an atom
abbrev pub is_atom : WideRel → Bool
is_atom (wide_compare o a b) = true
is_atom (wide_same_set a b) = true
is_atom (wide_other_set a b) = true
is_atom (wide_subset a b) = true
is_atom (wide_divides k t) = true
is_atom _ = false

pub holding_atom : (truths : Truths) (r : WideRel) → is_atom r ≡ true → some_atom (signed_of Holds) (atoms truths r) ≡ holding truths r
holding_atom truths wide_true e = absurd cc
holding_atom truths wide_false e = absurd cc
holding_atom truths (wide_truth x) e = absurd cc
holding_atom truths (wide_compare o a b) e = refl
holding_atom truths (wide_same_set a b) e = refl
holding_atom truths (wide_other_set a b) e = refl
holding_atom truths (wide_subset a b) e = refl
holding_atom truths (wide_divides k t) e = refl
holding_atom truths (wide_not p) e = absurd cc
holding_atom truths (wide_and p q) e = absurd cc
holding_atom truths (wide_or p q) e = absurd cc
holding_atom truths (wide_implies p q) e = absurd cc
holding_atom truths (wide_same p q) e = absurd cc
holding_atom truths (wide_other p q) e = absurd cc
holding_atom truths (wide_if_truth c p q) e = absurd cc
holding_atom truths (wide_chain orders ts) e = absurd cc

pub failing_atom : (truths : Truths) (r : WideRel) → is_atom r ≡ true → some_atom (signed_of Fails) (atoms truths r) ≡ failing truths r
failing_atom truths wide_true e = absurd cc
failing_atom truths wide_false e = absurd cc
failing_atom truths (wide_truth x) e = absurd cc
failing_atom truths (wide_compare o a b) e = refl
failing_atom truths (wide_same_set a b) e = refl
failing_atom truths (wide_other_set a b) e = refl
failing_atom truths (wide_subset a b) e = refl
failing_atom truths (wide_divides k t) e = refl
failing_atom truths (wide_not p) e = absurd cc
failing_atom truths (wide_and p q) e = absurd cc
failing_atom truths (wide_or p q) e = absurd cc
failing_atom truths (wide_implies p q) e = absurd cc
failing_atom truths (wide_same p q) e = absurd cc
failing_atom truths (wide_other p q) e = absurd cc
failing_atom truths (wide_if_truth c p q) e = absurd cc
failing_atom truths (wide_chain orders ts) e = absurd cc

module _ (truths : Truths) (r : WideRel) where
  pub same_atoms : (a b : WideSet) → r ≡ wide_same_set a b →
      atoms truths r ≡ over_two (rel_over_sets r) (set_alternatives truths a) (set_alternatives truths b)
  same_atoms a b e = rw e refl

  pub other_atoms : (a b : WideSet) → r ≡ wide_other_set a b →
      atoms truths r ≡ over_two (rel_over_sets r) (set_alternatives truths a) (set_alternatives truths b)
  other_atoms a b e = rw e refl

  pub subset_atoms : (a b : WideSet) → r ≡ wide_subset a b →
      atoms truths r ≡ over_two (rel_over_sets r) (set_alternatives truths a) (set_alternatives truths b)
  subset_atoms a b e = rw e refl
