-- Codes and builders depend on names of columns by their levels alone.
use Rattle.std.proofs.Common.{◌≡◌, ℕ, ◌+◌, ℤ, List, [], ◌∷◌, map, refl, ap, ◌∙◌}
use Rattle.std.specs.List.{fold}
use Rattle.cf_tree.specs.CodeTree.{CodeTree, code_var, code_card, code_div, code_divides}
use Rattle.cf_linear.specs.Arm.{ColumnLevels, sum_of, entry_code, row_code, negated, lower_code, upper_code, greatest_code, least_code, how_code, ArmBuilder}
use Rattle.cf_linear.specs.Arm.{let_named, need, let_region, region_code, step_item, back_item, with_fresh}
use Rattle.cf_linear.specs.Layout.{Layout, input_column}
use Rattle.cf_linear.specs.Systems.{Step, floor_of, need_nonneg, need_zero, need_divides, How, row_how, greatest, least}
use Rattle.cf_linear.specs.Rows.{Row}
use Rattle.cf_setwit.proofs.SameSets.{fresh_same}
use Rattle.cf_choose.specs.ArmBuilders.{SameColumnLevels, SameBuilder, let_alone}

module _ (names ns : ColumnLevels) (same : SameColumnLevels names ns) where
  entry_same : (c : ℕ) (k : ℤ) → entry_code names (c, k) ≡ entry_code ns (c, k)
  entry_same c k = rw (same c) refl

  entries_same : (r : Row) → map (entry_code names) r ≡ map (entry_code ns) r
  entries_same [] = refl
  entries_same ((c, k) ∷ r) = rw (entry_same c k, entries_same r) refl

  pub row_same : (r : Row) → row_code names r ≡ row_code ns r
  row_same r = ap sum_of (entries_same r)

  lower_same : (b : Row × ℤ) → lower_code names b ≡ lower_code ns b
  lower_same (r, p) = rw (row_same (negated r), row_same r) refl

  upper_same : (b : Row × ℤ) → upper_code names b ≡ upper_code ns b
  upper_same (r, p) = rw (row_same r) refl

  lowers_same : (bs : List (Row × ℤ)) → map (lower_code names) bs ≡ map (lower_code ns) bs
  lowers_same [] = refl
  lowers_same (b ∷ bs) = rw (lower_same b, lowers_same bs) refl

  uppers_same : (bs : List (Row × ℤ)) → map (upper_code names) bs ≡ map (upper_code ns) bs
  uppers_same [] = refl
  uppers_same (b ∷ bs) = rw (upper_same b, uppers_same bs) refl

  pub how_same : (w : How) → how_code names w ≡ how_code ns w
  how_same (row_how r) = row_same r
  how_same (greatest bs) = ap greatest_code (lowers_same bs)
  how_same (least bs) = ap least_code (uppers_same bs)

pub same_let : (j k : ArmBuilder) (c : ℕ) (a b : CodeTree) → SameBuilder j k → a ≡ b → SameBuilder (let_named j c a) (let_named k c b)
same_let j k c a b s e = record {
  level = ap (λ n. n + 1) s.level;
  names = λ d. rw (s.level, s.names d) refl;
  items = rw (s.items, e) refl;
}

pub same_alone : (j k : ArmBuilder) (a b : CodeTree) → SameBuilder j k → a ≡ b → SameBuilder (let_alone j a) (let_alone k b)
same_alone j k a b s e = record { level = ap (λ n. n + 1) s.level; names = s.names; items = rw (s.items, e) refl }

pub same_region : (l : Layout) (j k : ArmBuilder) (m : ℕ) → SameBuilder j k → SameBuilder (let_region l j m) (let_region l k m)
same_region l j k m s =
    same_let (let_alone j (region_code l m)) (let_alone k (region_code l m)) (input_column l m) _ _ (same_alone j k (region_code l m) (region_code l m) s refl)
    (ap (λ n. code_card (code_var n)) s.level)

pub same_regions : (l : Layout) (ms : List ℕ) (j k : ArmBuilder) → SameBuilder j k → SameBuilder (fold (let_region l) j ms) (fold (let_region l) k ms)
same_regions l [] j k s = s
same_regions l (m ∷ ms) j k s = same_regions l ms (let_region l j m) (let_region l k m) (same_region l j k m s)

pub same_fresh : (l : Layout) (j k : ArmBuilder) → SameBuilder j k → with_fresh l j ≡ with_fresh l k
same_fresh l j k s = rw (fresh_same l j.names k.names s.names, s.items) refl

pub same_need : (j k : ArmBuilder) (a b : CodeTree) → SameBuilder j k → a ≡ b → SameBuilder (need j a) (need k b)
same_need j k a b s e = record { level = s.level; names = s.names; items = rw (s.items, e) refl }

pub same_step : (j k : ArmBuilder) (m : Step) → SameBuilder j k → SameBuilder (step_item j m) (step_item k m)
same_step j k (floor_of c r g) s = same_let j k c _ _ s (ap (λ x. code_div x g) (row_same j.names k.names s.names r))
same_step j k (need_nonneg r) s = same_need j k _ _ s (rw (row_same j.names k.names s.names r) refl)
same_step j k (need_zero r) s = same_need j k _ _ s (rw (row_same j.names k.names s.names r) refl)
same_step j k (need_divides g r) s = same_need j k _ _ s (ap (code_divides g) (row_same j.names k.names s.names r))

pub same_back : (j k : ArmBuilder) (b : ℕ × How) → SameBuilder j k → SameBuilder (back_item j b) (back_item k b)
same_back j k (x, w) s = same_let j k x _ _ s (how_same j.names k.names s.names w)

pub same_then : (i j k : ArmBuilder) → SameBuilder i j → SameBuilder j k → SameBuilder i k
same_then i j k s t = record { level = s.level ∙ t.level; names = λ c. s.names c ∙ t.names c; items = s.items ∙ t.items }

pub same_steps : (ms : List Step) (j k : ArmBuilder) → SameBuilder j k → SameBuilder (fold step_item j ms) (fold step_item k ms)
same_steps [] j k s = s
same_steps (m ∷ ms) j k s = same_steps ms (step_item j m) (step_item k m) (same_step j k m s)

pub same_hows : (ws : List (ℕ × How)) (j k : ArmBuilder) → SameBuilder j k → SameBuilder (fold back_item j ws) (fold back_item k ws)
same_hows [] j k s = s
same_hows (w ∷ ws) j k s = same_hows ws (back_item j w) (back_item k w) (same_back j k w s)
