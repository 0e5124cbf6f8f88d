-- Branches one after the other.
use Rattle.std.proofs.Common.{◌≡◌, ℕ, pos, List, [], ◌∷◌, ◌++◌, sym, ◌∙◌, ap, subst, inl, inr, ⊎_elim}
use Rattle.std.specs.Prelude.{map}
use Rattle.cf_linear.specs.Keep.{In, Within, after_back}
use Rattle.cf_linear.specs.Rows.{Row, Values}
use Rattle.cf_linear.specs.Solved.{search_columns}
use Rattle.cf_linear.proofs.KindLemmas.{In-append, search_columns-append}
use Rattle.cf_linear.proofs.SolvedLemmas.{Within-agree, after_back-append}
use Rattle.cf_linear.proofs.ValueLemmas.{Within-append, Within-split}
use Rattle.cf_formula.specs.Formulas.{Formula, Holds}
use Rattle.cf_formula.specs.Branches.{Branch, EachBranch, SomeBranch, SameAt, IsOfKnown, GivenIn, GoesOn, ComesBack, Grows, Leads, then_branch, joined, EachLeads}
use Rattle.cf_formula.specs.Items.{AllMet}
use Rattle.cf_formula.proofs.RowLists.{InRows}
use Rattle.cf_formula.proofs.ItemLaws.{AllMet-append, AllMet-split, AllMet-on, EachItemOver-append}

-- ---- lists of branches
pub EachBranch-append : (P : Branch → Type 0) (bs cs : List Branch) → EachBranch P bs → EachBranch P cs → EachBranch P (bs ++ cs)
EachBranch-append P [] cs h k = k
EachBranch-append P (b ∷ bs) cs h k = (h.0, EachBranch-append P bs cs h.1 k)

pub EachBranch-map : (P : Branch → Type 0) (f : Row → Branch) → ((r : Row) → P (f r)) → (rows : List Row) → EachBranch P (map f rows)
EachBranch-map P f h [] = tt
EachBranch-map P f h (r ∷ rows) = (h r, EachBranch-map P f h rows)

pub SomeBranch-in : (P : Branch → Type 0) (f : Row → Branch) (rows : List Row) (bs : List Branch) (r : Row) → InRows r rows → P (f r) →
    SomeBranch P (map f rows ++ bs)
SomeBranch-in P f [] bs r i p = absurd i
SomeBranch-in P f (s ∷ rows) bs r i p = ⊎_elim (λ (e : r ≡ s). inl (subst (λ q. P (f q)) e p)) (λ j. inr (SomeBranch-in P f rows bs r j p)) i

pub SomeBranch-right : (P : Branch → Type 0) (bs cs : List Branch) → SomeBranch P cs → SomeBranch P (bs ++ cs)
SomeBranch-right P [] cs h = h
SomeBranch-right P (b ∷ bs) cs h = inr (SomeBranch-right P bs cs h)

pub SomeBranch-left : (P : Branch → Type 0) (bs cs : List Branch) → SomeBranch P bs → SomeBranch P (bs ++ cs)
SomeBranch-left P [] cs h = absurd h
SomeBranch-left P (b ∷ bs) cs h = ⊎_elim (λ i. inl i) (λ i. inr (SomeBranch-left P bs cs i)) h

SomeBranch-map : (P Q : Branch → Type 0) (f : Branch → Branch) → (bs : List Branch) → EachBranch (λ b. P b → Q (f b)) bs → SomeBranch P bs →
    SomeBranch Q (map f bs)
SomeBranch-map P Q f [] g h = absurd h
SomeBranch-map P Q f (b ∷ bs) g h = ⊎_elim (λ i. inl (g.0 i)) (λ i. inr (SomeBranch-map P Q f bs g.1 i)) h

EachBranch-both : (P R Q : Branch → Type 0) (f : Branch → Branch) → ((b : Branch) → P b → R b → Q (f b)) → (bs : List Branch) → EachBranch P bs →
    EachBranch R bs → EachBranch Q (map f bs)
EachBranch-both P R Q f g [] h k = tt
EachBranch-both P R Q f g (b ∷ bs) h k = (g b h.0 k.0, EachBranch-both P R Q f g bs h.1 k.1)

EachBranch-weaker : (P Q : Branch → Type 0) → ((b : Branch) → P b → Q b) → (bs : List Branch) → EachBranch P bs → EachBranch Q bs
EachBranch-weaker P Q f [] h = tt
EachBranch-weaker P Q f (b ∷ bs) h = (f b h.0, EachBranch-weaker P Q f bs h.1)

-- ---- what is given
pub given_in_known : (known : List ℕ) (Given : Values → Type 0) (b : Branch) → IsOfKnown known Given → Grows known b → IsOfKnown b.known (GivenIn Given b)
given_in_known known Given b o g v w s h = (
  o v w (λ c i. s c (g.grows c i)) h.0,
  Within-agree v w b.bounds (λ c i. s c (g.bounds_known c i)) h.1,
  AllMet-on (λ c. In c b.known) v w s b.items g.items_known h.2,
)

-- ---- one after the other
module _ (known : List ℕ) (constant : In 0 known) (Given : Values → Type 0) (of_known : IsOfKnown known Given) (f : Formula) where
  goes_further : (v w : Values) (a b : Branch) → SameAt known v w → Grows known a → Within w a.bounds → AllMet w a.items → GoesOn a.known w b →
      GoesOn known v (then_branch a b)
  goes_further v w a b s g wi met on = (
    on.0,
    (λ c i. s c i ∙ on.1 c (g.grows c i)),
    Within-append on.0 a.bounds b.bounds (Within-agree w on.0 a.bounds (λ c i. on.1 c (g.bounds_known c i)) wi) on.2,
    AllMet-append on.0 a.items b.items (AllMet-on (λ c. In c a.known) w on.0 on.1 a.items g.items_known met) on.3,
    on.4,
  )

  then_grows : (a b : Branch) → Grows known a → Grows a.known b → Grows known (then_branch a b)
  then_grows a b g h = record {
    grows = λ c i. h.grows c (g.grows c i);
    bounds_known = λ c i. ⊎_elim (λ j. h.grows c (g.bounds_known c j)) (λ j. h.bounds_known c j)
        (In-append c (search_columns a.bounds) (search_columns b.bounds) (subst (In c) (search_columns-append a.bounds b.bounds) i));
    items_known = EachItemOver-append (λ c. In c a.known) (λ c. In c b.known) h.grows a.items b.items g.items_known h.items_known;
  }

  then_back : (a b : Branch) → Grows known a → ComesBack known Given f a → ComesBack a.known (GivenIn Given a) a.formula b →
      ComesBack known Given f (then_branch a b)
  then_back a b g back more v one given wi met h =
      let ws = Within-split v a.bounds b.bounds wi in
      let ms = AllMet-split v a.items b.items met in
      let m = more v one (given, ws.0, ms.0) ws.1 ms.1 h in
      let w = after_back v b.back in
      let there = given_in_known known Given a of_known g v w m.1 (given, ws.0, ms.0) in
      let n = back w (sym (m.1 0 (g.grows 0 constant)) ∙ one) there.0 there.1 there.2 m.0 in
      let e = after_back-append v b.back a.back in (
        subst (λ u. Holds u f) (sym e) n.0,
        λ c i. m.1 c (g.grows c i) ∙ (n.1 c i ∙ sym (ap (λ (u : Values). u c) e)),
      )

  all_forth : (v : Values) → v 0 ≡ pos 1 → Given v → (bs : List Branch) (css : List (List Branch)) → EachBranch (Grows known) bs → EachLeads Given bs css →
      SomeBranch (GoesOn known v) bs → SomeBranch (GoesOn known v) (joined bs css)
  all_forth v one given [] css g l h = absurd h
  all_forth v one given (b ∷ bs) [] g l h = absurd l
  all_forth v one given (b ∷ bs) (cs ∷ css) g l h =
      ⊎_elim
      (λ (i : GoesOn known v b).
      let w = i.0 in
      let e : w 0 ≡ pos 1 = sym (i.1 0 constant) ∙ one in
      let there : GivenIn Given b w = (of_known v w i.1 given, i.2, i.3) in
      SomeBranch-left (GoesOn known v) (map (then_branch b) cs) (joined bs css)
      (SomeBranch-map (GoesOn b.known w) (GoesOn known v) (then_branch b) cs
      (all_further cs (λ c j. goes_further v w b c i.1 g.0 i.2 i.3 j)) (l.0.forth w e there i.4)))
      (λ i. SomeBranch-right (GoesOn known v) (map (then_branch b) cs) (joined bs css) (all_forth v one given bs css g.1 l.1 i)) h
    where
      all_further : {P Q : Branch → Type 0} (cs : List Branch) → ((c : Branch) → P c → Q c) → EachBranch (λ c. P c → Q c) cs
      all_further [] k = tt
      all_further (c ∷ cs) k = (k c, all_further cs k)

  all_back : (bs : List Branch) (css : List (List Branch)) → EachBranch (Grows known) bs → EachBranch (ComesBack known Given f) bs → EachLeads Given bs css →
      EachBranch (ComesBack known Given f) (joined bs css) × EachBranch (Grows known) (joined bs css)
  all_back [] css g h l = (tt, tt)
  all_back (b ∷ bs) [] g h l = absurd l
  all_back (b ∷ bs) (cs ∷ css) g h l =
      let again = all_back bs css g.1 h.1 l.1 in (
        EachBranch-append (ComesBack known Given f) (map (then_branch b) cs) (joined bs css)
            (EachBranch-both (ComesBack b.known (GivenIn Given b) b.formula) (Grows b.known) (ComesBack known Given f) (then_branch b)
            (λ c k j. then_back b c g.0 h.0 k) cs l.0.back
            l.0.formed) again.0,
        EachBranch-append (Grows known) (map (then_branch b) cs) (joined bs css)
            (EachBranch-both (Grows b.known) (Grows b.known) (Grows known) (then_branch b) (λ c k j. then_grows b c g.0 k) cs l.0.formed l.0.formed) again.1,
      )

  -- the law of a node with its branches
  pub then_leads : (bs : List Branch) (css : List (List Branch)) → Leads known Given f bs → EachLeads Given bs css → Leads known Given f (joined bs css)
  then_leads bs css h l =
      let b = all_back bs css h.formed h.back l in
      record { forth = λ v one given k. all_forth v one given bs css h.formed l (h.forth v one given k); back = b.0; formed = b.1 }
