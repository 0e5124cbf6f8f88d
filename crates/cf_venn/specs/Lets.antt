-- What the lets of the regions and of their counts lead to.
use Rattle.std.specs.Prelude.{◌≡◌, ℕ, ◌+◌, ◌-◌, ◌*◌, ◌^◌, ◌<◌, ◌≤◌, ℤ, pos, Some, List, [], ◌∷◌, ◌++◌, length}
use Rattle.std.specs.List.{fold, flat_map}
use Rattle.cf_tree.specs.declared.base.Base.{Base}
use Rattle.cf_tree.specs.CodeTree.{ItemTree, items_of}
use Rattle.cf_tree.specs.Meaning.{got, items_path}
use Rattle.cf_tree.specs.RelTree.{RelTree}
use Rattle.cf_tree.specs.Values.{Value, number, elements, number_of, value_at, HaveBases}
use Rattle.cf_linear.specs.Arm.{ArmBuilder, level_of, let_region, begun}
use Rattle.cf_linear.specs.Layout.{Layout, layout_of, masks, known_count, input_column}
use Rattle.cf_venn.specs.Codes.{HoldsInputs}
use Rattle.cf_venn.specs.Columns.{known_values}
use Rattle.cf_venn.specs.Masks.{sets_at, region, count}

-- each region and its count
abbrev pub region_values : List (List ℤ) → List ℕ → List Value
region_values ins ms = flat_map (λ m. elements (region ins m) ∷ number (pos (count ins m)) ∷ []) ms

-- the builder j adds items to k that lead from e to e with the regions and their counts, and names the columns of the counts
pub record LetsRegions (l : Layout) (k j : ArmBuilder) (e : List Value) (ins : List (List ℤ)) : Type 0 where
  pub items : List ItemTree
  pub items_are : j.items ≡ k.items ++ items
  pub leads : (items_path (items_of items) e).gives ≡ got (Some (e ++ region_values ins (masks (length l.inputs))))
  pub level_is : j.level ≡ length (e ++ region_values ins (masks (length l.inputs)))
  pub regions : (m : ℕ) → 1 ≤ m → m < 2 ^ length l.inputs → value_at (e ++ region_values ins (masks (length l.inputs))) (k.level + 2 * (m - 1)) ≡ elements
      (region ins m)
  pub counts : (m : ℕ) → 1 ≤ m → m < 2 ^ length l.inputs → value_at (e ++ region_values ins (masks (length l.inputs)))
      (level_of j.names (input_column l m)) ≡ number (pos (count ins m))
  pub others : (c : ℕ) → ((m : ℕ) → 1 ≤ m → m < 2 ^ length l.inputs → input_column l m ≡ c → ⊥) → level_of j.names c ≡ level_of k.names c

abbrev pub RegionLetsLead : Type 0
RegionLetsLead =
    (scope outputs : List Base) (rel : RelTree) (k : ArmBuilder) (e : List Value) → HoldsInputs (layout_of scope outputs rel) e → length scope ≤ length e →
    k.level ≡ length e →
    LetsRegions (layout_of scope outputs rel) k (fold (let_region (layout_of scope outputs rel)) k (masks (length (layout_of scope outputs rel).inputs))) e
    (sets_at e (layout_of scope outputs rel).inputs)

-- with the parameters and the search values in front: the input sets stand at their levels, and after the lets of the regions each known
-- column but the constant is named and has its value
abbrev pub ParametersKnown : Type 0
ParametersKnown =
    (scope outputs : List Base) (rel : RelTree) (bounds : List (ℕ × ℕ)) (env ks : List Value) → HaveBases scope env → length ks ≡ length bounds →
    HoldsInputs (layout_of scope outputs rel) (env ++ ks)
    × ((c : ℕ) → 1 ≤ c → c < known_count (layout_of scope outputs rel) →
    number_of (value_at ((env ++ ks) ++ region_values (sets_at env (layout_of scope outputs rel).inputs) (masks (length (layout_of scope outputs rel).inputs)))
    (level_of (fold (let_region (layout_of scope outputs rel)) (begun (layout_of scope outputs rel) bounds)
    (masks (length (layout_of scope outputs rel).inputs))).names c))
    ≡ known_values (layout_of scope outputs rel) env c)
