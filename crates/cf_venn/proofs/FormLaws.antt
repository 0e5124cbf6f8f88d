-- The codes of regions, of fresh numbers and of output sets are well typed, spelled and not deep.
use Rattle.std.proofs.Common.{◌≡◌, ℕ, suc, ◌+◌, ◌-◌, ◌*◌, ◌/◌, ◌%◌, ◌^◌, ◌<◌, ◌≤◌, ◌==◌, Bool, true, cond, not, Some, List, [], ◌∷◌, length, map, filter}
use Rattle.std.proofs.Common.{subst, refl, arith}
use Rattle.std.specs.List.{range_with_len, fold}
use Rattle.std.specs.Prelude.{slice_get}
use Rattle.std.proofs.lemmas.Bool.{eqb-true, eqb-false}
use Rattle.std.proofs.lemmas.List.{length-map}
use Rattle.std.proofs.lemmas.List.Sums.{length-filter, count_by-le-length}
use Rattle.std.proofs.lemmas.Nat.{pow_pos, pow-add}
use Rattle.std.proofs.lemmas.Option.{slice_get_within}
use Rattle.std.proofs.Math.Nat.{mod-lt}
use Rattle.cf_tree.specs.declared.base.Base.{Base}
use Rattle.cf_tree.specs.declared.base.Base.TheVariants.{Int, Set}
use Rattle.cf_tree.specs.CodeTree.{CodeTree, code_var, code_diff, code_slice, code_fresh, codes_of, codes_depth, count}
use Rattle.cf_tree.specs.Spelled.{AreSpelled}
use Rattle.cf_tree.specs.Typing.{one, AllHave, HaveNoSolve}
use Rattle.cf_tree.proofs.SetLemmas.{on_bool}
use Rattle.cf_linear.specs.Arm.{ColumnLevels, level_of, sum_of, inter_of_all, union_of_all, vars, sets_in, sets_out, region_code, earlier_counts, piece_code}
use Rattle.cf_linear.specs.Arm.{set_code, fresh_code}
use Rattle.cf_linear.specs.Layout.{Layout, bit, masks, place, has_level, set_count, region_column}
use Rattle.cf_cases.specs.Holding.{EachOf}
use Rattle.cf_cases.proofs.Quantifiers.{each-map}
use Rattle.cf_venn.specs.Forms.{IsCodeOf, InputsTyped, CountsTyped, RegionsTyped, RegionCodesFit, FreshCodeFits, SetCodesFit}
use Rattle.cf_venn.proofs.CodeLaws.{each_passing, each_earlier, each_level, sets_some}
use Rattle.cf_venn.proofs.LevelLaws.{has_unfiltered}
use Rattle.cf_venn.proofs.PartLemmas.{below_product, high_below}

module _ (scope : List Base) where
  var_fits : (b : Base) (x : ℕ) → slice_get scope x ≡ Some b → IsCodeOf b 1 scope (code_var x)
  var_fits b x s = record {
    typed = λ asked m. (b, s, (refl, m));
    plain = tt;
    spelled = λ few. let h = slice_get_within scope x b s in omega arith;
    shallow = omega arith;
  }

  deeper : (b : Base) (d e : ℕ) (c : CodeTree) → d ≤ e → IsCodeOf b d scope c → IsCodeOf b e scope c
  deeper b d e c l h = record { typed = h.typed; plain = h.plain; spelled = h.spelled; shallow = let k = h.shallow in omega arith }

  -- ---- lists of codes
  record AreCodesOf (b : Base) (d : ℕ) (cs : List CodeTree) : Type 0 where
    typed : AllHave (codes_of cs) scope b
    plain : HaveNoSolve (codes_of cs)
    spelled : length scope ≤ 2 ^ 32 → AreSpelled (codes_of cs)
    shallow : codes_depth (codes_of cs) ≤ d

  all_fit : (b : Base) (d : ℕ) (cs : List CodeTree) → EachOf (IsCodeOf b d scope) cs → AreCodesOf b d cs
  all_fit b d [] h = record { typed = tt; plain = tt; spelled = λ _. tt; shallow = omega arith }
  all_fit b d (c ∷ cs) h =
      let k = all_fit b d cs h.1 in
      let f = h.0 in
      record {
        typed = (f.typed (Some (one b)) refl, k.typed);
        plain = (f.plain, k.plain);
        spelled = λ few. (f.spelled few, k.spelled few);
        shallow = let l = f.shallow in let m = k.shallow in omega arith;
      }

  two_count : (c d : CodeTree) (cs : List CodeTree) → 2 ≤ count (codes_of (c ∷ d ∷ cs))
  two_count c d cs = omega arith

  union_fits : (d : ℕ) (cs : List CodeTree) → EachOf (IsCodeOf Set d scope) cs → IsCodeOf Set (1 + d) scope (union_of_all cs)
  union_fits d [] h = record { typed = λ asked m. (tt, (refl, m)); plain = tt; spelled = λ _. tt; shallow = omega arith }
  union_fits d (c ∷ []) h = deeper Set d (1 + d) c (omega arith) h.0
  union_fits d (c ∷ e ∷ cs) h =
      let k = all_fit Set d (c ∷ e ∷ cs) h in
      let t = two_count c e cs in
      record { typed = λ asked m. (t, k.typed, (refl, m)); plain = k.plain; spelled = λ few. (t, k.spelled few); shallow = let l = k.shallow in omega arith }

  inter_fits : (d : ℕ) (cs : List CodeTree) → EachOf (IsCodeOf Set d scope) cs → IsCodeOf Set (1 + d) scope (inter_of_all cs)
  inter_fits d [] h = record { typed = λ asked m. (tt, (refl, m)); plain = tt; spelled = λ _. tt; shallow = omega arith }
  inter_fits d (c ∷ []) h = deeper Set d (1 + d) c (omega arith) h.0
  inter_fits d (c ∷ e ∷ cs) h =
      let k = all_fit Set d (c ∷ e ∷ cs) h in
      let t = two_count c e cs in
      record { typed = λ asked m. (t, k.typed, (refl, m)); plain = k.plain; spelled = λ few. (t, k.spelled few); shallow = let l = k.shallow in omega arith }

  sum_fits : (d : ℕ) (cs : List CodeTree) → EachOf (IsCodeOf Int d scope) cs → IsCodeOf Int (1 + d) scope (sum_of cs)
  sum_fits d [] h = record { typed = λ asked m. (refl, m); plain = tt; spelled = λ _. omega arith; shallow = omega arith }
  sum_fits d (c ∷ []) h = deeper Int d (1 + d) c (omega arith) h.0
  sum_fits d (c ∷ e ∷ cs) h =
      let k = all_fit Int d (c ∷ e ∷ cs) h in
      let t = two_count c e cs in
      record { typed = λ asked m. (t, k.typed, (refl, m)); plain = k.plain; spelled = λ few. (t, k.spelled few); shallow = let l = k.shallow in omega arith }

  -- ---- differences, slices and fresh numbers
  diff_fits : (d : ℕ) (a b : CodeTree) → 1 ≤ d → IsCodeOf Set d scope a → IsCodeOf Set 1 scope b → IsCodeOf Set (d + 1) scope (code_diff a b)
  diff_fits d a b l h k = record {
    typed = λ asked m. (h.typed (Some (one Set)) refl, k.typed (Some (one Set)) refl, (refl, m));
    plain = (h.plain, k.plain);
    spelled = λ few. (h.spelled few, k.spelled few);
    shallow = let i = h.shallow in let j = k.shallow in omega arith;
  }

  diffs_fit : (cs : List CodeTree) → EachOf (IsCodeOf Set 1 scope) cs → (d : ℕ) (c : CodeTree) → 1 ≤ d → IsCodeOf Set d scope c →
      IsCodeOf Set (d + length cs) scope (fold (λ c e. code_diff c e) c cs)
  diffs_fit [] k d c l h = deeper Set d (d + 0) c (omega arith) h
  diffs_fit (e ∷ cs) k d c l h =
      let s : d + 1 + length cs ≡ d + suc (length cs) = omega arith in
      subst (λ n. IsCodeOf Set n scope (fold (λ c e. code_diff c e) (code_diff c e) cs)) s
      (diffs_fit cs k.1 (d + 1) (code_diff c e) (omega arith) (diff_fits d c e l h k.0))

  slice_fits : (a b c : CodeTree) → IsCodeOf Set 1 scope a → IsCodeOf Int 2 scope b → IsCodeOf Int 1 scope c → IsCodeOf Set 3 scope (code_slice a b c)
  slice_fits a b c h k i = record {
    typed = λ asked m. (h.typed (Some (one Set)) refl, k.typed (Some (one Int)) refl, i.typed (Some (one Int)) refl, (refl, m));
    plain = (h.plain, k.plain, i.plain);
    spelled = λ few. (h.spelled few, k.spelled few, i.spelled few);
    shallow = let p = h.shallow in let q = k.shallow in let r = i.shallow in omega arith;
  }

  fresh_fits : (a b : CodeTree) → IsCodeOf Set 2 scope a → IsCodeOf Int 2 scope b → IsCodeOf Set 3 scope (code_fresh a b)
  fresh_fits a b h k = record {
    typed = λ asked m. (h.typed (Some (one Set)) refl, k.typed (Some (one Int)) refl, (refl, m));
    plain = (h.plain, k.plain);
    spelled = λ few. (h.spelled few, k.spelled few);
    shallow = let p = h.shallow in let q = k.shallow in omega arith;
  }

  -- ---- the codes of an arm
  module _ (l : Layout) where
    vars_fit : InputsTyped scope l → (xs : List ℕ) → ((x : ℕ) → has_level xs x ≡ true → has_level l.inputs x ≡ true) → EachOf (IsCodeOf Set 1 scope) (vars xs)
    vars_fit inputs xs within = each-map (IsCodeOf Set 1 scope) (λ x. code_var x) xs
        (each_level (λ x. IsCodeOf Set 1 scope (code_var x)) xs (λ x h. var_fits Set x (inputs x (within x h))))

    region_fits : InputsTyped scope l → (m : ℕ) → IsCodeOf Set (2 + length l.inputs) scope (region_code l m)
    region_fits inputs m =
        let t : ℕ → Bool = λ x. not (bit (place x l.inputs) m) in
        let out = vars_fit inputs (sets_out l m) (has_unfiltered t l.inputs) in
        let within = vars_fit inputs (sets_in l m) (has_unfiltered (λ x. bit (place x l.inputs) m) l.inputs) in
        let a = length-map (sets_out l m) (λ x. code_var x) in
        let b = length-filter t l.inputs in
        let c = count_by-le-length t l.inputs in
        deeper Set (2 + length (vars (sets_out l m))) (2 + length l.inputs) (region_code l m) (omega arith)
        (diffs_fit (vars (sets_out l m)) out 2 (inter_of_all (vars (sets_in l m))) (omega arith) (inter_fits 1 (vars (sets_in l m)) within))

    module _ (names : ColumnLevels) (counts : CountsTyped scope l names) where
      earlier_fits : (m n : ℕ) → m < 2 ^ length l.inputs → n ≤ 2 ^ length l.out_sets → IsCodeOf Int 2 scope (sum_of (earlier_counts l names m n))
      earlier_fits m n a b =
          let f : ℕ → CodeTree = λ k. code_var (level_of names (region_column l k)) in
          let ks = filter (λ k. not (k == 0)) (map (λ o. m + 2 ^ length l.inputs * o) (range_with_len 0 n)) in
          sum_fits 1 (earlier_counts l names m n) (each-map (IsCodeOf Int 1 scope) f ks
          (each_earlier (λ k. IsCodeOf Int 1 scope (f k)) (λ o. m + 2 ^ length l.inputs * o) 0 n
          (λ o i z.
          let below : m + 2 ^ length l.inputs * o < 2 ^ length l.inputs * 2 ^ length l.out_sets =
          below_product (2 ^ length l.inputs) (2 ^ length l.out_sets) m o a (omega arith) in
          var_fits Int (level_of names (region_column l (m + 2 ^ length l.inputs * o)))
          (counts (m + 2 ^ length l.inputs * o) z (rw (pow-add 2 (length l.inputs) (length l.out_sets)) below)))))

      fresh_code_form : InputsTyped scope l → IsCodeOf Set 3 scope (fresh_code l names)
      fresh_code_form inputs =
          fresh_fits (union_of_all (vars l.inputs)) (sum_of (earlier_counts l names 0 (2 ^ length l.out_sets)))
          (union_fits 1 (vars l.inputs) (vars_fit inputs l.inputs (λ x h. h)))
          (earlier_fits 0 (2 ^ length l.out_sets) (pow_pos (length l.inputs)) (omega arith))

      module _ (regions : ℕ → ℕ) (fresh_level : ℕ) (sets : RegionsTyped scope l regions) (fresh_set : 1 ≤ length l.out_sets →
          slice_get scope fresh_level ≡ Some Set) where
        source_fits : (m : ℕ) → m < 2 ^ length l.inputs → (m ≡ 0 → 1 ≤ length l.out_sets) → slice_get scope (cond (m == 0) fresh_level (regions m)) ≡ Some Set
        source_fits m a some = on_bool (m == 0)
            (λ b. rw b (fresh_set (some (eqb-true m 0 b))))
            (λ b. let d = eqb-false m 0 b in rw b (sets m (omega arith) a))

        piece_fits : (k : ℕ) → 1 ≤ k → k < 2 ^ set_count l → IsCodeOf Set 3 scope (piece_code l names regions fresh_level k)
        piece_fits k a b =
            let p = 2 ^ length l.inputs in
            let m = k % p in
            let lower : m < p = mod-lt k (pow_pos (length l.inputs)) in
            let below : k < p * 2 ^ length l.out_sets = rw (← (pow-add 2 (length l.inputs) (length l.out_sets))) b in
            let higher = high_below k p (2 ^ length l.out_sets) (pow_pos (length l.inputs)) below in
            slice_fits (code_var (cond (m == 0) fresh_level (regions m))) (sum_of (earlier_counts l names m (k / p)))
            (code_var (level_of names (region_column l k)))
            (var_fits Set (cond (m == 0) fresh_level (regions m)) (source_fits m lower (sets_some p k (length l.out_sets) a below)))
            (earlier_fits m (k / p) lower (omega arith))
            (var_fits Int (level_of names (region_column l k)) (counts k a b))

        set_fits : (j : ℕ) → IsCodeOf Set 4 scope (set_code l names regions fresh_level j)
        set_fits j =
            let f = piece_code l names regions fresh_level in
            let t = bit (length l.inputs + j) in
            union_fits 3 (map f (filter t (masks (set_count l)))) (each-map (IsCodeOf Set 3 scope) f (filter t (masks (set_count l)))
            (each_passing (λ k. IsCodeOf Set 3 scope (f k)) t 1 (2 ^ set_count l - 1) (λ k a b. piece_fits k a (omega arith))))

pub region_codes_fit : RegionCodesFit
region_codes_fit scope l inputs m = region_fits scope l inputs m

pub fresh_code_fits : FreshCodeFits
fresh_code_fits scope l names inputs counts = fresh_code_form scope l names counts inputs

pub set_codes_fit : SetCodesFit
set_codes_fit scope l names regions fresh_level counts sets fresh_set j = set_fits scope l names counts regions fresh_level sets fresh_set j
