-- The heads of blocks, one by one.
use Rattle.std.proofs.Common.{◌≡◌, ◌∙◌, sym, ap, subst, refl, ℕ, ◌+◌, ◌<◌, ◌≤◌, Bool, true, false, List, [], ◌∷◌, Option, Some, None, length, drop, map, get_or}
use Rattle.std.specs.Prelude.{if◌then◌else◌}
use Rattle.std.proofs.lemmas.List.{drop_more, drop_all}
use Rattle.cf_form.specs.Branches.{Branch}
use Rattle.cf_form.specs.Told.{ToldChoose}
use Rattle.cf_steps.specs.Blocks.{block_tree}
use Rattle.cf_steps.specs.declared.block.Block.{Block}
use Rattle.cf_tree.specs.ChooseView.{choose_tree}
use Rattle.cf_tree.specs.declared.choose.Choose.{Choose}
use Rattle.cf_answer.specs.Branches.{coming, first_branch, head_of, in_branches, same_head, wrong_head}

where_true : (t : Bool) (a b : Option ℕ) → t ≡ true → (if t then a else b) ≡ a
where_true true a b e = refl
where_true false a b e = cc e

where_false : (t : Bool) (a b : Option ℕ) → t ≡ false → (if t then a else b) ≡ b
where_false true a b e = cc e
where_false false a b e = refl

module _ (told : List ToldChoose) (cs : List Choose) (bs : List Block) where
  abbrev pub first_wrong : Option ℕ
  first_wrong = wrong_head (in_branches told [] (map choose_tree cs)) (map block_tree bs)

  -- the heads before choose i are right, and these branches and blocks are left
  abbrev pub IsRightTo : ℕ → List Branch → List Block → Type 0
  IsRightTo i left rest = first_wrong ≡ wrong_head (in_branches told left (map choose_tree (drop i cs))) (map block_tree rest)

  pub right_first : IsRightTo 0 [] bs
  right_first = refl

  module _ (i : ℕ) (c : Choose) (left : List Branch) (lt : i < length cs) (is : c ≡ get_or cs i c) where
    at_choose : (rest : List Block) → IsRightTo i left rest →
        first_wrong ≡ wrong_head (in_branches told left (choose_tree c ∷ map choose_tree (drop (i + 1) cs))) (map block_tree rest)
    at_choose rest h =
        h ∙ ap (λ xs. wrong_head (in_branches told left (map choose_tree xs)) (map block_tree rest))
        (drop_more cs i c lt ∙ ap (λ x. x ∷ drop (i + 1) cs) (sym is))

    -- no block is left
    pub right_none : IsRightTo i left [] → None ≡ first_wrong
    right_none h = sym (at_choose [] h)

    module _ (b : Block) (more : List Block) (branch : Branch) (here : branch ≡ first_branch (coming told left c.number)) where
      abbrev test : Branch → Bool
      test x = same_head (head_of (choose_tree c, x)) b.truths.items

      abbrev after : Option ℕ
      after = wrong_head (in_branches told (drop 1 (coming told left c.number)) (map choose_tree (drop (i + 1) cs))) (map block_tree more)

      -- its head is wrong
      pub right_stop : test branch ≡ false → IsRightTo i left (b ∷ more) → Some c.number ≡ first_wrong
      right_stop wrong h =
          sym (at_choose (b ∷ more) h
          ∙ where_false (test (first_branch (coming told left c.number))) after (Some c.number) (subst (λ x. test x ≡ false) here wrong))

      -- it is right
      pub right_next : (behind : List Branch) → behind ≡ drop 1 (coming told left c.number) → test branch ≡ true → IsRightTo i left (b ∷ more) →
          IsRightTo (i + 1) behind more
      right_next behind left_is right h =
          at_choose (b ∷ more) h
          ∙ where_true (test (first_branch (coming told left c.number))) after (Some c.number) (subst (λ x. test x ≡ true) here right)
          ∙ ap (λ ls. wrong_head (in_branches told ls (map choose_tree (drop (i + 1) cs))) (map block_tree more)) (sym left_is)

  -- all are right
  pub right_last : (i : ℕ) (left : List Branch) (rest : List Block) → length cs ≤ i → IsRightTo i left rest → None ≡ first_wrong
  right_last i left rest le h =
      sym (h ∙ ap (λ xs. wrong_head (in_branches told left (map choose_tree xs)) (map block_tree rest)) (drop_all i cs le))
