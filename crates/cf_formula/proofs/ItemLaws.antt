-- Lets and needs, one list behind another, and at values that agree on their columns.
use Rattle.std.proofs.Common.{◌≡◌, ℕ, pos, List, [], ◌∷◌, ◌++◌, sym, ◌∙◌, ap, subst, map, ◌↔◌}
use Rattle.std.specs.Int.{int_div_euclid}
use Rattle.cf_linear.specs.Relations.{Divides}
use Rattle.cf_linear.specs.Keep.{AllFit}
use Rattle.cf_linear.specs.Rows.{Values}
use Rattle.cf_linear.specs.Systems.{Step, floor_of as step_floor, need_nonneg, need_zero, need_divides as step_divides}
use Rattle.cf_linear.proofs.KindLemmas.{Over-weaker}
use Rattle.cf_formula.specs.Items.{Item, floor_of, need, need_divides, item_of, AllMet, ItemOver, EachItemOver}
use Rattle.cf_formula.proofs.FormulaLemmas.{AgreeOn, value-on, Holds-on, Throughout-weaker}

pub AllMet-append : (v : Values) (ms ns : List Item) → AllMet v ms → AllMet v ns → AllMet v (ms ++ ns)
AllMet-append v [] ns h k = k
AllMet-append v (m ∷ ms) ns h k = (h.0, AllMet-append v ms ns h.1 k)

pub AllMet-split : (v : Values) (ms ns : List Item) → AllMet v (ms ++ ns) → AllMet v ms × AllMet v ns
AllMet-split v [] ns h = (tt, h)
AllMet-split v (m ∷ ms) ns h = let r = AllMet-split v ms ns h.1 in ((h.0, r.0), r.1)

pub AllMet-on : (Q : ℕ → Type 0) (v w : Values) → AgreeOn Q v w → (ms : List Item) → EachItemOver Q ms → AllMet v ms → AllMet w ms
AllMet-on Q v w s [] b h = tt
AllMet-on Q v w s (floor_of c r g ∷ ms) b h =
    (sym (s c b.0.0) ∙ h.0 ∙ ap (λ y. int_div_euclid y g) (value-on Q v w s r b.0.1), AllMet-on Q v w s ms b.1 h.1)
AllMet-on Q v w s (need f ∷ ms) b h = (Holds-on Q v w s f b.0 h.0, AllMet-on Q v w s ms b.1 h.1)
AllMet-on Q v w s (need_divides g r ∷ ms) b h = (subst (λ y. Divides g y) (value-on Q v w s r b.0) h.0, AllMet-on Q v w s ms b.1 h.1)

pub ItemOver-weaker : (Q R : ℕ → Type 0) → ((c : ℕ) → Q c → R c) → (m : Item) → ItemOver Q m → ItemOver R m
ItemOver-weaker Q R f (floor_of c r g) h = (f c h.0, Over-weaker Q R f r h.1)
ItemOver-weaker Q R f (need g) h = Throughout-weaker Q R f g h
ItemOver-weaker Q R f (need_divides g r) h = Over-weaker Q R f r h

pub EachItemOver-append : (Q R : ℕ → Type 0) → ((c : ℕ) → Q c → R c) → (ms ns : List Item) → EachItemOver Q ms → EachItemOver R ns → EachItemOver R (ms ++ ns)
EachItemOver-append Q R f [] ns h k = k
EachItemOver-append Q R f (m ∷ ms) ns h k = (ItemOver-weaker Q R f m h.0, EachItemOver-append Q R f ms ns h.1 k)

-- lets and needs of the elimination of language 2
pub items_met : (v : Values) (ms : List Step) → AllMet v (map item_of ms) ↔ AllFit v ms
items_met v [] = ((λ h. h), (λ h. h))
items_met v (step_floor c r g ∷ ms) = let i = items_met v ms in ((λ h. (h.0, i.0 h.1)), (λ h. (h.0, i.1 h.1)))
items_met v (need_nonneg r ∷ ms) = let i = items_met v ms in ((λ h. (h.0, i.0 h.1)), (λ h. (h.0, i.1 h.1)))
items_met v (need_zero r ∷ ms) = let i = items_met v ms in ((λ h. (h.0, i.0 h.1)), (λ h. (h.0, i.1 h.1)))
items_met v (step_divides g r ∷ ms) = let i = items_met v ms in ((λ h. (h.0, i.0 h.1)), (λ h. (h.0, i.1 h.1)))
