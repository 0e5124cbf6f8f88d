-- Chooses with their branches, one by one.
use Rattle.std.proofs.Common.{◌≡◌, ◌∙◌, sym, ap, refl, ℕ, ◌+◌, ◌<◌, ◌≤◌, true, false, List, [], ◌∷◌, ◌++◌, length, drop, map, get_or, append_assoc, append-nil}
use Rattle.std.proofs.lemmas.List.{drop_more, drop_all}
use Rattle.std.specs.Prelude.{◌==◌}
use Rattle.cf_tree.specs.ChooseTree.{ChooseTree}
use Rattle.cf_form.specs.Branches.{Branch}
use Rattle.cf_form.specs.Told.{ToldChoose}
use Rattle.cf_form.specs.ToldView.{told_branch, told_choose}
use Rattle.cf_form.specs.declared.told.Branch.{Branch as DeclaredBranch}
use Rattle.cf_form.specs.declared.told.ChooseInfo.{ChooseInfo}
use Rattle.cf_answer.specs.Branches.{branches_of, coming, first_branch, in_branches}

-- of these chooses in their branches so many are done, and behind them these branches and chooses are left
abbrev pub IsSplit : List ToldChoose → List ChooseTree → List (ChooseTree × Branch) → List Branch → List ChooseTree → Type 0
IsSplit told qs done left rest = in_branches told [] qs ≡ done ++ in_branches told left rest

-- the next choose with its branch
abbrev pub next : List ToldChoose → List Branch → ChooseTree → ChooseTree × Branch
next told left q = (q, first_branch (coming told left q.number))

module _ (told : List ToldChoose) (qs : List ChooseTree) where
  pub split_first : IsSplit told qs [] [] qs
  split_first = refl

  pub split_next : (done : List (ChooseTree × Branch)) (left behind : List Branch) (q : ChooseTree) (rest : List ChooseTree) →
      behind ≡ drop 1 (coming told left q.number) → IsSplit told qs done left (q ∷ rest) → IsSplit told qs (done ++ next told left q ∷ []) behind rest
  split_next done left behind q rest is s =
      s ∙ sym (append_assoc done (next told left q ∷ []) (in_branches told (drop 1 (coming told left q.number)) rest))
      ∙ ap (λ bs. (done ++ next told left q ∷ []) ++ in_branches told bs rest) (sym is)

  -- all
  pub split_last : (done : List (ChooseTree × Branch)) (left : List Branch) → IsSplit told qs done left [] → in_branches told [] qs ≡ done
  split_last done left s = s ∙ append-nil done

-- ---- the branches of one choose
abbrev pub truths_of : List DeclaredBranch → List Branch
truths_of bs = map (λ b. (told_branch b).truths) bs

truths_told : (bs : List DeclaredBranch) → map (λ b. b.truths) (map told_branch bs) ≡ truths_of bs
truths_told [] = refl
truths_told (b ∷ bs) = ap (λ ts. (told_branch b).truths ∷ ts) (truths_told bs)

-- none of the first chooses has this number
abbrev pub IsBehind : List ChooseInfo → ℕ → ℕ → Type 0
IsBehind told n i = branches_of (map told_choose told) n ≡ branches_of (map told_choose (drop i told)) n

module _ (told : List ChooseInfo) (n i : ℕ) where
  module _ (c : ChooseInfo) (lt : i < length told) (is : c ≡ get_or told i c) where
    at_place : drop i told ≡ c ∷ drop (i + 1) told
    at_place = drop_more told i c lt ∙ ap (λ x. x ∷ drop (i + 1) told) (sym is)

    pub found_here : (c.number == n) ≡ true → IsBehind told n i → truths_of c.branches.items ≡ branches_of (map told_choose told) n
    found_here same behind =
        let here : branches_of (map told_choose (c ∷ drop (i + 1) told)) n ≡ map (λ b. b.truths) (map told_branch c.branches.items) = rw same refl in
        sym (behind ∙ ap (λ cs. branches_of (map told_choose cs) n) at_place ∙ here ∙ truths_told c.branches.items)

    pub found_later : (c.number == n) ≡ false → IsBehind told n i → IsBehind told n (i + 1)
    found_later other behind =
        let later : branches_of (map told_choose (c ∷ drop (i + 1) told)) n ≡ branches_of (map told_choose (drop (i + 1) told)) n = rw other refl in
        behind ∙ ap (λ cs. branches_of (map told_choose cs) n) at_place ∙ later

  pub found_none : length told ≤ i → IsBehind told n i → [] ≡ branches_of (map told_choose told) n
  found_none le behind = sym (behind ∙ ap (λ cs. branches_of (map told_choose cs) n) (drop_all i told le))
