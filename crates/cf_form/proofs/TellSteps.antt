-- Steps of telling a choose: its branches, its parameters, and what they are together.
use Rattle.std.proofs.Common.{◌≡◌, ℕ, suc, ◌+◌, ◌-◌, ◌<◌, Bool, true, false, List, [], ◌∷◌, ◌++◌, length, map, filter, refl, sym, ap, ap₂, ◌∙◌, arith}
use Rattle.std.specs.Prelude.{if◌then◌else◌}
use Rattle.std.specs.List.{range_with_len}
use Rattle.std.proofs.lemmas.List.{append_assoc, append-nil, map-append}
use Rattle.std.proofs.lemmas.Simd.{map-map}
use Rattle.cf_tree.specs.declared.base.Base.{Base}
use Rattle.cf_form.specs.declared.told.Branch.{Branch as DeclaredBranch}
use Rattle.cf_form.specs.Branches.{WideChoose, Branch, branched, branches, branches_on, relation_at, parameters}
use Rattle.cf_form.specs.Telling.{branch_of, branches_behind, parameters_over, told_relations}
use Rattle.cf_form.specs.Told.{ToldBranch, ToldChoose, told}
use Rattle.cf_form.specs.ToldView.{told_branch}

-- ---- the branches
pub one_told : (q : WideChoose) (b : Branch) (levels : List ℕ) (old new : List DeclaredBranch) (w : DeclaredBranch) → levels ≡ [] → new ≡ old ++ w ∷ [] →
    told_branch w ≡ branch_of q b → map told_branch new ≡ map told_branch old ++ branches_behind q b levels
one_told q b levels old new w l h e =
    ap (map told_branch) h ∙ map-append told_branch old (w ∷ []) ∙ ap (λ c. map told_branch old ++ c ∷ []) e ∙
    ap (λ xs. map told_branch old ++ branches_behind q b xs) (sym l)

pub two_more : (q : WideChoose) (b left right : Branch) (x : ℕ) (xs : List ℕ) (old now new : List ToldBranch) → left ≡ b ++ (x, true) ∷ [] →
    right ≡ b ++ (x, false) ∷ [] → now ≡ old ++ branches_behind q left xs → new ≡ now ++ branches_behind q right xs → new ≡ old ++ branches_behind q b (x ∷ xs)
two_more q b left right x xs old now new l r h g =
    g ∙ ap₂ (λ cs c. cs ++ branches_behind q c xs) (h ∙ ap (λ c. old ++ branches_behind q c xs) l) r ∙
    append_assoc old (branches_behind q (b ++ (x, true) ∷ []) xs) (branches_behind q (b ++ (x, false) ∷ []) xs)

same_maps : {X Y : Type 0} (f g : X → Y) → ((x : X) → f x ≡ g x) → (xs : List X) → map f xs ≡ map g xs
same_maps f g h [] = refl
same_maps f g h (x ∷ xs) = ap₂ (λ y ys. y ∷ ys) (h x) (same_maps f g h xs)

with_next : (q : WideChoose) (b : Branch) (v : ℕ × Bool) (bs : List Branch) →
    map (λ c. branch_of q (b ++ c)) (map (λ c. v ∷ c) bs) ≡ map (λ c. branch_of q ((b ++ v ∷ []) ++ c)) bs
with_next q b v bs =
    map-map (λ c. branch_of q (b ++ c)) (λ c. v ∷ c) bs ∙
    same_maps (λ c. branch_of q (b ++ v ∷ c)) (λ c. branch_of q ((b ++ v ∷ []) ++ c)) (λ c. ap (branch_of q) (sym (append_assoc b (v ∷ []) c))) bs

behind_is : (q : WideChoose) (b : Branch) (xs : List ℕ) → branches_behind q b xs ≡ map (λ c. branch_of q (b ++ c)) (branches_on xs)
behind_is q b [] = ap (λ c. branch_of q c ∷ []) (sym (append-nil b))
behind_is q b (x ∷ xs) =
    ap₂ (λ cs ds. cs ++ ds) (behind_is q (b ++ (x, true) ∷ []) xs ∙ sym (with_next q b (x, true) (branches_on xs)))
    (behind_is q (b ++ (x, false) ∷ []) xs ∙ sym (with_next q b (x, false) (branches_on xs))) ∙
    sym (map-append (λ c. branch_of q (b ++ c)) (map (λ c. (x, true) ∷ c) (branches_on xs)) (map (λ c. (x, false) ∷ c) (branches_on xs)))

pub all_told : (q : WideChoose) (xs : List ℕ) (bs : List ToldBranch) → bs ≡ branches_behind q [] xs → bs ≡ map (branch_of q) (branches_on xs)
all_told q xs bs h = h ∙ behind_is q [] xs

-- ---- the parameters
kept : (p : ℕ → Bool) (x : ℕ) (xs : List ℕ) → (if p x then x ∷ [] else []) ++ filter p xs ≡ filter p (x ∷ xs)
kept p x xs = by (p x) refl
  where
    by : (t : Bool) → p x ≡ t → (if p x then x ∷ [] else []) ++ filter p xs ≡ filter p (x ∷ xs)
    by true e = rw e refl
    by false e = rw e refl

-- one level more
pub level_more : (p : ℕ → Bool) (n x : ℕ) (t : Bool) (old new whole : List ℕ) → x < n → t ≡ p x → new ≡ old ++ (if t then x ∷ [] else []) →
    old ++ filter p (range_with_len x (n - x)) ≡ whole → new ++ filter p (range_with_len (x + 1) (n - (x + 1))) ≡ whole
level_more p n x t old new whole l is h g =
    let e : n - x ≡ suc (n - (x + 1)) = omega arith in
    let xs : List ℕ = range_with_len (x + 1) (n - (x + 1)) in
    ap (λ ys. ys ++ filter p xs) (h ∙ ap (λ u. old ++ (if u then x ∷ [] else [])) is) ∙ append_assoc old (if p x then x ∷ [] else []) (filter p xs) ∙
    ap (λ ys. old ++ ys) (kept p x xs ∙ ap (λ m. filter p (range_with_len x m)) (sym e)) ∙ g

-- ---- a choose
abbrev told_with : WideChoose → List Base → ℕ → List ℕ → List ToldBranch → ToldChoose
told_with q outputs hidden ps bs = record { number = q.number; outputs = outputs; hidden = hidden; parameters = ps; branches = bs }

pub told_is : (q : WideChoose) (outputs : List Base) (hidden : ℕ) (levels ps : List ℕ) (bs : List ToldBranch) → outputs ≡ q.outputs → hidden ≡ length q.hidden →
    levels ≡ branched q → bs ≡ map (branch_of q) (branches_on levels) → ps ≡ parameters_over (length q.scope) levels (told_relations bs) →
    told_with q outputs hidden ps bs ≡ told q
told_is q outputs hidden levels ps bs o n h g e =
    let all : bs ≡ map (branch_of q) (branches q) = g ∙ ap (λ xs. map (branch_of q) (branches_on xs)) h in
    let relations : told_relations bs ≡ map (relation_at q) (branches q) = ap told_relations all ∙ map-map (λ b. b.relation) (branch_of q) (branches q) in
    let same : ps ≡ parameters q = e ∙ ap₂ (parameters_over (length q.scope)) h relations in
    ap₂ (λ bases count. told_with q bases count ps bs) o n ∙ ap₂ (told_with q q.outputs (length q.hidden)) same all
