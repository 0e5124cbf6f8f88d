-- Loops of a run.
use Rattle.std.proofs.Common.{◌≡◌, ◌<◌, ◌≤◌, ◌+◌, ℕ, List, [], ◌∷◌, ◌++◌, length, map, take, drop, get_or, sym, ap, ◌∙◌, subst}
use Rattle.std.proofs.lemmas.List.{drop_all, map-append, take_more}
use Rattle.cf_tree.specs.declared.expr.Expr.{Expr}
use Rattle.cf_tree.specs.ExprView.{expr_tree, expr_trees}
use Rattle.cf_tree.specs.Values.{Value}
use Rattle.cf_late.specs.ChooseRun.{LateOutcome, gives}
use Rattle.cf_late.specs.declared.stop.Stop.{Stop}
use Rattle.cf_late.specs.Answers.{StopIs}
use Rattle.cf_late.specs.LateRun.{then_late, late_in, late_all}
use Rattle.cf_late.specs.Runnable.{AreRunnable}
use Rattle.cf_late.proofs.Evaluation.{all_next, all_stop, all_end}

module _ (calls : ℕ → List Value → LateOutcome) (parts : List Expr) (start : List Value) where
  -- the parts behind the first i, which have given vs
  abbrev pub PartsAhead : ℕ → List Value → List Value → Type 0
  PartsAhead i env vs =
      (env ≡ start)
      × AreRunnable (expr_trees (drop i parts))
      × (then_late (late_all calls (expr_trees (drop i parts)) env) (λ ys. gives (vs ++ ys)) ≡ late_all calls (expr_trees parts) start)

  module _ (i : ℕ) (env vs : List Value) (ahead : PartsAhead i env vs) where
    at_hand : (es : List Expr) → drop i parts ≡ es →
        AreRunnable (expr_trees es)
        × (then_late (late_all calls (expr_trees es) env) (λ ys. gives (vs ++ ys)) ≡ late_all calls (expr_trees parts) start)
    at_hand es here =
        subst (λ es. AreRunnable (expr_trees es)
        × (then_late (late_all calls (expr_trees es) env) (λ ys. gives (vs ++ ys)) ≡ late_all calls (expr_trees parts) start)) here (ahead.1, ahead.2)

    pub part_gives : (x : Expr) (env2 more vs2 : List Value) → drop i parts ≡ x ∷ drop (i + 1) parts → env2 ≡ env →
        late_in calls (expr_tree x) env ≡ gives more → vs2 ≡ vs ++ more → PartsAhead (i + 1) env2 vs2
    part_gives x env2 more vs2 here same told joined =
        let at = at_hand (x ∷ drop (i + 1) parts) here in (
          same ∙ ahead.0,
          at.0.1,
          rw (same, joined) (sym (all_next calls x (drop (i + 1) parts) env vs more told) ∙ at.1),
        )

    pub part_stops : (x : Expr) (s t : Stop) → drop i parts ≡ x ∷ drop (i + 1) parts → t ≡ s → StopIs s (late_in calls (expr_tree x) env) →
        StopIs t (late_all calls (expr_trees parts) start)
    part_stops x s t here is told =
        rw is (subst (StopIs s) (at_hand (x ∷ drop (i + 1) parts) here).1 (all_stop calls x (drop (i + 1) parts) env vs s told))

    pub parts_end : length parts ≤ i → late_all calls (expr_trees parts) start ≡ gives vs
    parts_end past = sym (at_hand [] (drop_all i parts past)).1 ∙ all_end vs

-- ---- lists that are made from the front
pub copy_next : {X : Type 0} (xs : List X) (i : ℕ) (x y : X) (before after : List X) → i < length xs → x ≡ get_or xs i x → y ≡ x →
    after ≡ before ++ y ∷ [] → before ≡ take i xs → after ≡ take (i + 1) xs
copy_next xs i x y before after few is same put so_far =
    put ∙ ap (λ zs. zs ++ y ∷ []) so_far ∙ ap (λ z. take i xs ++ z ∷ []) (same ∙ is) ∙ sym (take_more xs i x few)

pub map_next : {X Y : Type 0} (f : X → Y) (xs : List X) (i : ℕ) (x : X) (before after : List Y) → i < length xs → x ≡ get_or xs i x →
    after ≡ before ++ f x ∷ [] → before ≡ map f (take i xs) → after ≡ map f (take (i + 1) xs)
map_next f xs i x before after few is put so_far =
    put ∙ ap (λ zs. zs ++ f x ∷ []) so_far ∙ ap (λ z. map f (take i xs) ++ f z ∷ []) is
    ∙ sym (ap (map f) (take_more xs i x few) ∙ map-append f (take i xs) (get_or xs i x ∷ []))
