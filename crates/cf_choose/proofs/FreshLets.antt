-- The let of the fresh numbers, which stands last where there are output sets.
use Rattle.std.proofs.Common.{◌≡◌, ℕ, ◌+◌, ◌≤◌, ◌^◌, List, [], ◌∷◌, ◌++◌, length, Some, false, refl, sym, arith, ◌∙◌, append-nil, length-append}
use Rattle.std.specs.Prelude.{slice_get, None, nat_lt}
use Rattle.std.proofs.lemmas.Bool.{ltb-false}
use Rattle.cf_tree.specs.declared.base.Base.{Base}
use Rattle.cf_tree.specs.declared.base.Base.TheVariants.{Set}
use Rattle.cf_tree.specs.CodeTree.{CodeTree, ItemTree, let_item, items_of, items_depth}
use Rattle.cf_tree.specs.Meaning.{got, path}
use Rattle.cf_tree.specs.Spelled.{AreItemsSpelled}
use Rattle.cf_tree.specs.Typing.{HasNoSolve, ItemsHave, ItemsHaveNoSolve}
use Rattle.cf_tree.specs.Values.{Value, value_at, HaveBases}
use Rattle.cf_linear.specs.Arm.{ArmBuilder, fresh_code, with_fresh}
use Rattle.cf_linear.specs.Layout.{Layout}
use Rattle.cf_linear.proofs.BoolLemmas.{on_bool}
use Rattle.cf_venn.specs.Forms.{IsCodeOf}
use Rattle.cf_tree.proofs.SolvingLemmas.{got_path, got_is}
use Rattle.cf_choose.proofs.ItemLemmas.{Leads, lead_first, leads_forth, leads_back, leads_once, let_found, have_then, plain_then, spelled_then, shallow_then}
use Rattle.cf_choose.proofs.ArmBuilderLemmas.{IsMade, fewer, length_have, value_at-end, slice_get-more, slice_get-last}
use Rattle.cf_choose.proofs.NeedLaws.{bound}

-- the items of a making with the let of the fresh numbers, over the bases `start`, where the making has the bases `from`
pub record IsEnded (start from : List Base) (l : Layout) (k : ArmBuilder) (items : List ItemTree) : Type 0 where
  pub bases : List Base
  pub typed : ItemsHave (items_of items) start (λ s. s ≡ bases)
  pub plain : ItemsHaveNoSolve (items_of items)
  pub spelled : length bases ≤ 2 ^ 32 → AreItemsSpelled (items_of items)
  pub shallow : items_depth (items_of items) ≤ 8
  pub few : length bases ≤ length from + 1
  pub kept : (x : ℕ) (b : Base) → slice_get from x ≡ Some b → slice_get bases x ≡ Some b
  pub fresh : 1 ≤ length l.out_sets → slice_get bases k.level ≡ Some Set
  pub forth : (env e : List Value) → Leads k.items env e → (d : List Value) × Leads items env d
  pub back : (env d : List Value) → HaveBases start env → Leads items env d →
      (e : List Value) × Leads k.items env e × ((more : List Value) × (d ≡ e ++ more)) ×
      ((v : Value) → 1 ≤ length l.out_sets → (path (fresh_code l k.names) e).gives ≡ got (v ∷ []) → value_at d k.level ≡ v)

-- a let without a solve adds values
let_reaches : (c : CodeTree) (e : List Value) → HasNoSolve c → (more : List Value) × Leads (let_item c ∷ []) e (e ++ more)
let_reaches c e s =
    let g = got_is (path c e).gives (got_path c e s) in
    (g.0, lead_first (let_item c) [] e (e ++ g.0) (e ++ g.0) (bound (path c e).gives e g.0 g.1) refl)

let_more : (c : CodeTree) (e d : List Value) → HasNoSolve c → Leads (let_item c ∷ []) e d → (more : List Value) × (d ≡ e ++ more)
let_more c e d s h = let r = let_reaches c e s in (r.0, leads_once (let_item c ∷ []) e d (e ++ r.0) h r.1)

none_above : (n : ℕ) → nat_lt 0 n ≡ false → 1 ≤ n → ⊥
none_above n e h = let l = ltb-false 0 n e in absurd (omega arith)

module _ (start from : List Base) (l : Layout) (k : ArmBuilder) (made : IsMade start k from) (form : IsCodeOf Set 8 from (fresh_code l k.names)) where
  abbrev code : CodeTree
  code = fresh_code l k.names

  with_let : IsEnded start from l k (k.items ++ (let_item code ∷ []))
  with_let = record {
    bases = from ++ (Set ∷ []);
    typed = have_then k.items (let_item code ∷ []) start from (λ s. s ≡ from ++ (Set ∷ [])) made.typed (Set, form.typed None tt, refl);
    plain = plain_then k.items (let_item code ∷ []) made.plain (form.plain, tt);
    spelled = λ few. let s = fewer from (Set ∷ []) few in spelled_then k.items (let_item code ∷ []) (made.spelled s) (form.spelled s, tt);
    shallow = shallow_then k.items (let_item code ∷ []) made.shallow (let s = form.shallow in omega arith);
    few = omega (arith, length-append from (Set ∷ []));
    kept = λ x b e. slice_get-more from (Set ∷ []) x b e;
    fresh = λ h. slice_get-last from Set k.level made.level;
    forth = λ env e h. let r = let_reaches code e form.plain in (e ++ r.0, leads_forth k.items (let_item code ∷ []) env e (e ++ r.0) h r.1);
    back = λ env d have h.
        let s = leads_back k.items (let_item code ∷ []) env d h in
        let i = made.have env s.0 have s.1 in (
          s.0,
          s.1,
          let_more code s.0 d form.plain s.2,
          λ w some g. rw (← let_found code s.0 d w g s.2)
              (value_at-end s.0 w k.level (made.level ∙ sym (length_have from s.0 i))),
        );
  }

  without_let : nat_lt 0 (length l.out_sets) ≡ false → IsEnded start from l k k.items
  without_let t = record {
    bases = from;
    typed = made.typed;
    plain = made.plain;
    spelled = made.spelled;
    shallow = made.shallow;
    few = omega arith;
    kept = λ x b e. e;
    fresh = λ h. absurd (none_above (length l.out_sets) t h);
    forth = λ env e h. (e, h);
    back = λ env d have h. (d, h, ([], sym (append-nil d)), λ v some g. absurd (none_above (length l.out_sets) t some));
  }

  pub ended : IsEnded start from l k (with_fresh l k)
  ended = on_bool (nat_lt 0 (length l.out_sets)) (λ t. rw t with_let) (λ t. rw t (without_let t))
