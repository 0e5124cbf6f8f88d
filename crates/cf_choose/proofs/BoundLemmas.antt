-- One step more of a loop over entries or bounds.
use Rattle.std.proofs.Common.{◌≡◌, ℕ, ℤ, pos, ◌+◌, ◌<◌, List, [], ◌∷◌, ◌++◌, map, take, length, get_or, refl, sym, ap, ◌∙◌}
use Rattle.std.proofs.lemmas.List.{take_more, map-append}
use Rattle.cf_tree.specs.declared.code.Code.{Code}
use Rattle.cf_tree.specs.CodeTree.{CodeTree}
use Rattle.cf_tree.specs.CodeView.{code_tree}
use Rattle.cf_linear.specs.declared.system.Divided.{Divided}
use Rattle.cf_linear.specs.Arm.{ColumnLevels, entry_code}
use Rattle.cf_linear.specs.Rows.{Row}
use Rattle.cf_choose.specs.Fitting.{pair_of, Fits, PairsFit}

-- one more mapped item
pub map_more : {A B : Type 0} (f : A → B) (xs : List A) (i : ℕ) (x : A) → i < length xs → x ≡ get_or xs i x → map f (take (i + 1) xs) ≡ map f (take i xs) ++
    (f x ∷ [])
map_more f xs i x h e = ap (map f) (take_more xs i x h) ∙ map-append f (take i xs) (get_or xs i x ∷ []) ∙ ap (λ y. map f (take i xs) ++ (f y ∷ [])) (sym e)

pub entries_more : (names : ColumnLevels) (r : Row) (i : ℕ) (codes next : List Code) (code : Code) → i < length r → next ≡ codes ++ (code ∷ []) →
    code_tree code ≡ entry_code names (get_or r i (0, pos 0)) → map code_tree codes ≡ map (entry_code names) (take i r) →
    map code_tree next ≡ map (entry_code names) (take (i + 1) r)
entries_more names r i codes next code h n c inv =
    rw (
      n,
      map-append code_tree codes (code ∷ []),
      take_more r i (0, pos 0) h,
      map-append (entry_code names) (take i r) (get_or r i (0, pos 0) ∷ []),
      inv,
      c,
    ) refl

pub codes_more : (f : Row × ℤ → CodeTree) (bs : List Divided) (i : ℕ) (b : Divided) (codes next : List Code) (code : Code) → i < length bs →
    b ≡ get_or bs i b → next ≡ codes ++ (code ∷ []) →
    code_tree code ≡ f (pair_of b) → map code_tree codes ≡ map f (map pair_of (take i bs)) → map code_tree next ≡ map f (map pair_of (take (i + 1) bs))
codes_more f bs i b codes next code h e n c inv =
    rw (n, map-append code_tree codes (code ∷ []), inv, map_more pair_of bs i b h e, map-append f (map pair_of (take i bs)) (pair_of b ∷ []), c) refl

fit_pairs : (bs : List (Row × ℤ)) (r : Row) (k : ℤ) → PairsFit bs → Fits r k → PairsFit (bs ++ ((r, k) ∷ []))
fit_pairs [] r k h f = (f, tt)
fit_pairs ((s, m) ∷ bs) r k h f = (h.0, fit_pairs bs r k h.1 f)

pub pairs_more : (bs : List Divided) (i : ℕ) (b : Divided) → i < length bs → b ≡ get_or bs i b → PairsFit (map pair_of (take i bs)) → Fits b.row b.k →
    PairsFit (map pair_of (take (i + 1) bs))
pairs_more bs i b h e f g = rw (map_more pair_of bs i b h e) (fit_pairs (map pair_of (take i bs)) b.row b.k f g)
