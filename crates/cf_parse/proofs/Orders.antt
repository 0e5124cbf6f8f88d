-- Which way a chain runs: one order more, and one less.
use Rattle.std.proofs.Common.{◌≡◌, ◌&&◌, ◌||◌, Bool, true, false, List, [], ◌∷◌, ◌++◌, refl, ap, ap₂}
use Rattle.std.specs.List.{list_all}
use Rattle.cf_tree.specs.declared.base.Order.{Order}
use Rattle.cf_reader.specs.Readers.{snoc}
use Rattle.cf_parse.specs.Spelling.{is_upward, is_downward, runs_one_way}

all_and : (a b c : Bool) → (a && (b && c)) ≡ ((a && b) && c)
all_and true b c = refl
all_and false b c = refl

and_true : (b : Bool) → (b && true) ≡ b
and_true true = refl
and_true false = refl

all_snoc : (f : Order → Bool) (orders : List Order) (next : Order) → list_all f (snoc orders next) ≡ (list_all f orders && f next)
all_snoc f [] next = and_true (f next)
all_snoc f (o ∷ orders) next = trans_and (f o) (list_all f (snoc orders next)) (list_all f orders) (f next) (all_snoc f orders next)
  where
    trans_and : (a b c d : Bool) → b ≡ (c && d) → (a && b) ≡ ((a && c) && d)
    trans_and true b c d e = e
    trans_and false b c d e = refl

pub one_way_more : (orders : List Order) (next : Order) →
    runs_one_way (snoc orders next) ≡ ((list_all is_upward orders && is_upward next) || (list_all is_downward orders && is_downward next))
one_way_more orders next = ap₂ (λ a b. a || b) (all_snoc is_upward orders next) (all_snoc is_downward orders next)

both : (a b : Bool) → (a && b) ≡ true → a ≡ true
both true b e = refl
both false b e = cc

all_before : (f : Order → Bool) (orders more : List Order) → list_all f (orders ++ more) ≡ true → list_all f orders ≡ true
all_before f [] more e = refl
all_before f (o ∷ orders) more e = step (f o) (list_all f (orders ++ more)) (list_all f orders) e (λ h. all_before f orders more h)
  where
    step : (a b c : Bool) → (a && b) ≡ true → (b ≡ true → c ≡ true) → (a && c) ≡ true
    step true b c e h = h e
    step false b c e h = cc

one_of_two : (a b c d : Bool) → (a || b) ≡ true → (a ≡ true → c ≡ true) → (b ≡ true → d ≡ true) → (c || d) ≡ true
one_of_two true b c d e f g = ap (λ x. x || d) (f refl)
one_of_two false b true d e f g = refl
one_of_two false b false d e f g = g e

pub one_way_before : (orders more : List Order) → runs_one_way (orders ++ more) ≡ true → runs_one_way orders ≡ true
one_way_before orders more e =
    one_of_two (list_all is_upward (orders ++ more)) (list_all is_downward (orders ++ more)) (list_all is_upward orders) (list_all is_downward orders) e
    (all_before is_upward orders more) (all_before is_downward orders more)
