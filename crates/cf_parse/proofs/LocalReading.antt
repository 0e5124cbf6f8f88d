-- The readers of the grammar are local.
use Rattle.std.proofs.Common.{ℕ, suc, zero, List, [], length, Option, Some, None}
use Rattle.std.specs.Prelude.{ℤ}
use Rattle.cf_lex.specs.declared.token.Token.{Token}
use Rattle.cf_lex.specs.declared.token.TokenKind.{TokenKind}
use Rattle.cf_tree.specs.declared.base.Edition.{Edition}
use Rattle.cf_tree.specs.declared.base.Place.{Place}
use Rattle.cf_tree.specs.declared.raw.BinOp.{BinOp}
use Rattle.cf_tree.specs.declared.raw.Param.{Param}
use Rattle.cf_tree.specs.RawTree.{PartTree, RawTree, raw_binary}
use Rattle.cf_reader.specs.Readers.{Reader, pure, first, ◌>>=◌, snoc}
use Rattle.cf_reader.proofs.Near.{Local, pure_local, fault_local, end_local, any_local, bind_local, first_local, deep_local, must_local, several_local, one_or_tuple_local}
use Rattle.cf_parse.specs.declared.tier.Tier.{Tier}
use Rattle.cf_parse.specs.declared.tier.Tier.TheVariants.{Whole, Imps, Ors, Ands, Cmps, Sums, Muls, Unary}
use Rattle.cf_parse.specs.declared.sign.TermSign.{TermSign}
use Rattle.cf_parse.specs.declared.words.NamedOp.{NamedOp}
use Rattle.cf_parse.specs.declared.words.NamedOp.TheVariants.{Card, Abs, Div, Mod, Min, Max}
use Rattle.cf_parse.specs.Reading.{number_of, param_of, params_of, hidden_of, more_outputs, outputs_of, named, names_of, TermTree, a_part, the_constant, named_term, term_of, Pattern, by_term, terms_of, all_terms, pattern_of, Parts, chain_of, list_of, items_of, one_of, divided_of, two_or_more_of, operation_of, behind_name, named_of, word_of, atom_of, unary_of, muls_of, sums_of, Links, more_linked, links_of, first_link, chain_from, second_order, linked_of, compared_of, cmps_of, ands_of, ors_of, implied_of, imps_of, let_of, if_of, given_of, aim_of, choose_of, arm_of, match_of, whole_of, step, read}

-- readers of both lists that are one reader
abbrev Same : {A : Type 0} → List Token → List Token → Reader A → Type 0
Same more other r = Local more other r r

pub param_local : {more other : List Token} (edition : Edition) → Same more other (param_of edition)
unfolding param_of
param_local edition = bind_local (must_local _) (λ x. bind_local (must_local _) (λ p. bind_local (must_local _) (λ b. pure_local _)))

pub params_local : {more other : List Token} (edition : Edition) → Same more other (params_of edition)
unfolding params_of
params_local edition = first_local _ (λ p. pure_local _) (several_local _ _ _ _ (param_local edition))

hidden_local : {more other : List Token} (edition : Edition) (outputs : List Param) → Same more other (hidden_of edition outputs)
unfolding hidden_of
hidden_local edition outputs =
    first_local _ (λ p. bind_local (several_local _ _ _ _ (param_local edition)) (λ hidden. pure_local _)) (bind_local (must_local _) (λ p. pure_local _))

more_outputs_local : {more other : List Token} (edition : Edition) (j k : ℕ) (outputs : List Param) →
    Local more other (more_outputs edition j outputs) (more_outputs edition k outputs)
unfolding more_outputs
more_outputs_local edition zero k outputs = end_local _
more_outputs_local edition (suc j) zero outputs =
    any_local (first_local _ (λ p. bind_local (param_local edition) (λ x. more_outputs_local edition j j (snoc outputs x))) (hidden_local edition outputs))
more_outputs_local edition (suc j) (suc k) outputs =
    first_local _ (λ p. bind_local (param_local edition) (λ x. more_outputs_local edition j k (snoc outputs x))) (hidden_local edition outputs)

pub outputs_local : {more other : List Token} (edition : Edition) → Same more other (outputs_of edition)
unfolding outputs_of
outputs_local {more} {other} edition = bind_local (param_local edition) (λ x. record {
  within = λ ts m l. (more_outputs_local {more = more} {other = other} edition (length ts) (length ts) _).within ts m l;
  near = λ ts us n. (more_outputs_local {more = more} {other = other} edition (length ts) (length us) _).near ts us n;
})

pub names_local : {more other : List Token} (edition : Edition) → Same more other (names_of edition)
unfolding names_of
names_local edition = one_or_tuple_local named _ (must_local _)

number_local : {more other : List Token} (edition : Edition) → Same more other (number_of edition)
unfolding number_of
number_local edition = first_local _ (λ k. pure_local _) (bind_local (must_local _) (λ x. pure_local _))

named_term_local : {more other : List Token} (edition : Edition) (start : Option Place) (sign : TermSign) (x : Place × List ℕ) →
    Same more other (named_term edition start sign x)
unfolding named_term
named_term_local edition start sign x = first_local _ (λ p. bind_local (must_local _) (λ y. pure_local _)) (pure_local _)

term_local : {more other : List Token} (edition : Edition) (start : Option Place) (sign : TermSign) → Same more other (term_of edition start sign)
unfolding term_of
term_local edition start sign =
    first_local _ (λ k. first_local _ (λ p. bind_local (must_local _) (λ x. pure_local _)) (pure_local _))
    (bind_local (must_local _) (λ x. named_term_local edition start sign x))

by_term_local : {more other : List Token} {f f' : ℤ → Reader Pattern} {g g' : PartTree → Reader Pattern} (term : TermTree) →
    ((k : ℤ) → Local more other (f k) (f' k)) → ((x : PartTree) → Local more other (g x) (g' x)) → Local more other (by_term term f g) (by_term term f' g')
by_term_local (the_constant k) h i = h k
by_term_local (a_part x) h i = i x

terms_local : {more other : List Token} (edition : Edition) (j k : ℕ) (start : Option Place) (sign : TermSign) (done : List PartTree) →
    Local more other (terms_of edition j start sign done) (terms_of edition k start sign done)
unfolding terms_of
terms_local edition zero k start sign done = end_local _
terms_local edition (suc j) zero start sign done =
    any_local (bind_local (term_local edition start sign)
    (λ term. by_term_local term (λ k. pure_local _) (λ x. first_local _ (λ next. terms_local edition j j (Some next.0) next.1 _) (pure_local _))))
terms_local edition (suc j) (suc k) start sign done =
    bind_local (term_local edition start sign)
    (λ term. by_term_local term (λ k. pure_local _) (λ x. first_local _ (λ next. terms_local edition j k (Some next.0) next.1 _) (pure_local _)))

all_terms_local : {more other : List Token} (edition : Edition) (start : Option Place) (sign : TermSign) → Same more other (all_terms edition start sign)
unfolding all_terms
all_terms_local {more} {other} edition start sign = record {
  within = λ ts m l. (terms_local {more = more} {other = other} edition (length ts) (length ts) start sign []).within ts m l;
  near = λ ts us n. (terms_local {more = more} {other = other} edition (length ts) (length us) start sign []).near ts us n;
}

pattern_local : {more other : List Token} (edition : Edition) → Same more other (pattern_of edition)
unfolding pattern_of
pattern_local edition = first_local _ (λ p. all_terms_local edition _ _) (all_terms_local edition _ _)

-- readers of parts are local
unfoldable pub LocalParts : List Token → List Token → Parts → Type 0
LocalParts more other part = (tier : Tier) → Same more other (part tier)

chain_local : {more other : List Token} (edition : Edition) (part : Parts) → LocalParts more other part → (tier : Tier) (n k : ℕ) (left : RawTree) →
    Same more other (chain_of edition part tier n k left)
unfolding chain_of LocalParts
chain_local edition part h tier n zero left = pure_local _
chain_local edition part h tier n (suc k) left = first_local _ (λ o. bind_local (h _) (λ right. chain_local edition part h tier n k _)) (pure_local _)

list_local : {more other : List Token} (part : Parts) → LocalParts more other part → (close : TokenKind) → Same more other (list_of part close)
unfolding list_of LocalParts
list_local part h close = several_local _ _ _ _ (h _)

items_local : {more other : List Token} (part : Parts) → LocalParts more other part → (close : TokenKind) → Same more other (items_of part close)
unfolding items_of
items_local part h close = first_local _ (λ p. pure_local _) (list_local part h close)

one_local : {more other : List Token} (part : Parts) → LocalParts more other part → Same more other (one_of part)
unfolding one_of LocalParts
one_local part h = bind_local (h _) (λ e. bind_local (must_local _) (λ q. pure_local _))

divided_local : {more other : List Token} (edition : Edition) (part : Parts) → LocalParts more other part → Same more other (divided_of edition part)
unfolding divided_of LocalParts
divided_local edition part h =
    bind_local (h _) (λ e. bind_local (must_local _) (λ q. bind_local (number_local edition) (λ k. bind_local (must_local _) (λ r. pure_local _))))

two_or_more_local : {more other : List Token} (part : Parts) → LocalParts more other part → Same more other (two_or_more_of part)
unfolding two_or_more_of LocalParts
two_or_more_local part h = bind_local (h _) (λ e. bind_local (must_local _) (λ p. several_local _ _ _ _ (h _)))

operation_local : {more other : List Token} (edition : Edition) (part : Parts) → LocalParts more other part → (p : Place) (op : NamedOp) →
    Same more other (operation_of edition part p op)
unfolding operation_of
operation_local edition part h p Card = bind_local (one_local part h) (λ e. pure_local _)
operation_local edition part h p Abs = bind_local (one_local part h) (λ e. pure_local _)
operation_local edition part h p Div = bind_local (divided_local edition part h) (λ e. pure_local _)
operation_local edition part h p Mod = bind_local (divided_local edition part h) (λ e. pure_local _)
operation_local edition part h p Min = bind_local (two_or_more_local part h) (λ es. pure_local _)
operation_local edition part h p Max = bind_local (two_or_more_local part h) (λ es. pure_local _)

behind_name_local : {more other : List Token} (edition : Edition) (part : Parts) → LocalParts more other part → (n : ℕ) (x : Place × List ℕ) (o : Option NamedOp) →
    Same more other (behind_name edition part n x o)
unfolding behind_name
behind_name_local edition part h n x (Some op) = deep_local _ _ (λ p. operation_local edition part h _ op) (pure_local _)
behind_name_local edition part h n x None = first_local _ (λ p. bind_local (items_local part h _) (λ es. pure_local _)) (pure_local _)

named_local : {more other : List Token} (edition : Edition) (part : Parts) → LocalParts more other part → (n : ℕ) → Same more other (named_of edition part n)
unfolding named_of
named_local edition part h n = bind_local (must_local _) (λ x. behind_name_local edition part h n x _)

word_local : {more other : List Token} (edition : Edition) (part : Parts) → LocalParts more other part → (n : ℕ) → Same more other (word_of edition part n)
unfolding word_of
word_local edition part h n =
    first_local _ (λ t. pure_local _) (
    deep_local _ _ (λ o. bind_local (must_local _) (λ q. operation_local edition part h _ _)) (
    named_local edition part h n))

atom_local : {more other : List Token} (edition : Edition) (part : Parts) → LocalParts more other part → (n : ℕ) → Same more other (atom_of edition part n)
unfolding atom_of
atom_local edition part h n =
    first_local _ (λ k. pure_local _) (
    deep_local _ _ (λ p. bind_local (list_local part h _) (λ es. pure_local _)) (
    first_local _ (λ p. bind_local (items_local part h _) (λ es. pure_local _)) (
    word_local edition part h n)))

unary_local : {more other : List Token} (edition : Edition) (part : Parts) → LocalParts more other part → (n : ℕ) → Same more other (unary_of edition part n)
unfolding unary_of LocalParts
unary_local edition part h n =
    deep_local _ _ (λ p. bind_local (h _) (λ e. pure_local _)) (
    deep_local _ _ (λ p. bind_local (h _) (λ e. pure_local _)) (
    atom_local edition part h n))

muls_local : {more other : List Token} (edition : Edition) (part : Parts) → LocalParts more other part → (n : ℕ) → Same more other (muls_of edition part n)
unfolding muls_of
muls_local edition part h n = bind_local (unary_local edition part h n) (λ e. chain_local edition part h _ n n e)

sums_local : {more other : List Token} (edition : Edition) (part : Parts) → LocalParts more other part → (n : ℕ) → Same more other (sums_of edition part n)
unfolding sums_of
sums_local edition part h n = bind_local (muls_local edition part h n) (λ e. chain_local edition part h _ n n e)

links_local : {more other : List Token} (part : Parts) → LocalParts more other part → (j k : ℕ) (done : Links) →
    Local more other (links_of part j done) (links_of part k done)
unfolding links_of LocalParts
links_local part h zero k done = end_local _
links_local part h (suc j) zero done = any_local (first_local _ (λ o. bind_local (h _) (λ e. links_local part h j j _)) (pure_local _))
links_local part h (suc j) (suc k) done = first_local _ (λ o. bind_local (h _) (λ e. links_local part h j k _)) (pure_local _)

linked_at : {more other : List Token} (edition : Edition) (part : Parts) → LocalParts more other part → (o : Place × BinOp) (left right : RawTree) (j k : ℕ) → Local more other
    (first (second_order edition o.1) (λ q. part Sums >>= λ e. links_of part j (more_linked (first_link o.0 q.0 left right) q.1 e) >>= λ l.
    pure (chain_from o.0 l)) (pure (raw_binary o.0 o.1 left right)))
    (first (second_order edition o.1) (λ q. part Sums >>= λ e. links_of part k (more_linked (first_link o.0 q.0 left right) q.1 e) >>= λ l.
    pure (chain_from o.0 l)) (pure (raw_binary o.0 o.1 left right)))
unfolding LocalParts
linked_at edition part h o left right j k =
    first_local _ (λ q. bind_local (h _) (λ e. bind_local (links_local part h j k _) (λ l. pure_local _))) (pure_local _)

linked_local : {more other : List Token} (edition : Edition) (part : Parts) → LocalParts more other part → (o : Place × BinOp) (left right : RawTree) →
    Same more other (linked_of edition part o left right)
unfolding linked_of
linked_local {more} {other} edition part h o left right = record {
  within = λ ts m l. (linked_at {more = more} {other = other} edition part h o left right (length ts) (length ts)).within ts m l;
  near = λ ts us n. (linked_at {more = more} {other = other} edition part h o left right (length ts) (length us)).near ts us n;
}

compared_local : {more other : List Token} (edition : Edition) (part : Parts) → LocalParts more other part → (n : ℕ) (left : RawTree) →
    Same more other (compared_of edition part n left)
unfolding compared_of LocalParts
compared_local edition part h n left =
    first_local _ (λ o. bind_local (h _) (λ right. linked_local edition part h o left right))
    (first_local _ (λ k. bind_local (h _) (λ e. pure_local _)) (pure_local _))

cmps_local : {more other : List Token} (edition : Edition) (part : Parts) → LocalParts more other part → (n : ℕ) → Same more other (cmps_of edition part n)
unfolding cmps_of
cmps_local edition part h n = bind_local (sums_local edition part h n) (λ left. compared_local edition part h n left)

ands_local : {more other : List Token} (edition : Edition) (part : Parts) → LocalParts more other part → (n : ℕ) → Same more other (ands_of edition part n)
unfolding ands_of
ands_local edition part h n = bind_local (cmps_local edition part h n) (λ e. chain_local edition part h _ n n e)

ors_local : {more other : List Token} (edition : Edition) (part : Parts) → LocalParts more other part → (n : ℕ) → Same more other (ors_of edition part n)
unfolding ors_of
ors_local edition part h n = bind_local (ands_local edition part h n) (λ e. chain_local edition part h _ n n e)

imps_local : {more other : List Token} (edition : Edition) (part : Parts) → LocalParts more other part → (n : ℕ) → Same more other (imps_of edition part n)
unfolding imps_of implied_of LocalParts
imps_local edition part h n =
    bind_local (ors_local edition part h n) (λ left. first_local _ (λ o. bind_local (h _) (λ right. pure_local _)) (pure_local _))

let_local : {more other : List Token} (edition : Edition) (part : Parts) → LocalParts more other part → (p : Place) → Same more other (let_of edition part p)
unfolding let_of LocalParts
let_local edition part h p = bind_local (names_local edition)
    (λ xs. bind_local (must_local _) (λ q. bind_local (h _) (λ e. bind_local (must_local _) (λ r. bind_local (h _) (λ f. pure_local _)))))

if_local : {more other : List Token} (part : Parts) → LocalParts more other part → (p : Place) → Same more other (if_of part p)
unfolding if_of LocalParts
if_local part h p = bind_local (h _) (λ e. bind_local (must_local _)
    (λ q. bind_local (h _) (λ f. bind_local (must_local _) (λ r. bind_local (h _) (λ g. pure_local _)))))

given_local : {more other : List Token} (edition : Edition) (part : Parts) → LocalParts more other part → Same more other (given_of edition part)
unfolding given_of LocalParts
given_local edition part h = first_local _ (λ p. bind_local (h _) (λ e. pure_local _)) (pure_local _)

aim_local : {more other : List Token} (edition : Edition) (part : Parts) → LocalParts more other part → Same more other (aim_of edition part)
unfolding aim_of LocalParts
aim_local edition part h = first_local _ (λ s. bind_local (h _) (λ e. pure_local _)) (pure_local _)

choose_local : {more other : List Token} (edition : Edition) (part : Parts) → LocalParts more other part → (p : Place) → Same more other (choose_of edition part p)
unfolding choose_of LocalParts
choose_local edition part h p = bind_local (must_local _)
    (λ q. bind_local (outputs_local edition) (λ outputs. bind_local (given_local edition part h) (λ given. bind_local (must_local _) (λ r. bind_local (h _) (λ e.
    bind_local (aim_local edition part h) (λ aim. pure_local _))))))

pub arm_local : {more other : List Token} (edition : Edition) (part : Parts) → LocalParts more other part → Same more other (arm_of edition part)
unfolding arm_of LocalParts
arm_local edition part h = bind_local (pattern_local edition) (λ x. bind_local (must_local _) (λ q. bind_local (h _) (λ e. pure_local _)))

match_local : {more other : List Token} (edition : Edition) (part : Parts) → LocalParts more other part → (p : Place) → Same more other (match_of edition part p)
unfolding match_of LocalParts
match_local edition part h p = bind_local (h _) (λ e. bind_local (must_local _)
    (λ q. bind_local (must_local _) (λ r. bind_local (several_local _ _ _ _ (arm_local edition part h)) (λ arms. pure_local _))))

whole_local : {more other : List Token} (edition : Edition) (part : Parts) → LocalParts more other part → (n : ℕ) → Same more other (whole_of edition part n)
unfolding whole_of
whole_local edition part h n =
    deep_local _ _ (λ p. let_local edition part h p) (
    deep_local _ _ (λ p. if_local part h p) (
    deep_local _ _ (λ p. choose_local edition part h p) (
    deep_local _ _ (λ p. match_local edition part h p) (
    imps_local edition part h n))))

step_local : {more other : List Token} (edition : Edition) (part : Parts) → LocalParts more other part → (n : ℕ) (tier : Tier) →
    Same more other (step edition part n tier)
unfolding step
step_local edition part h n Whole = whole_local edition part h n
step_local edition part h n Imps = imps_local edition part h n
step_local edition part h n Ors = ors_local edition part h n
step_local edition part h n Ands = ands_local edition part h n
step_local edition part h n Cmps = cmps_local edition part h n
step_local edition part h n Sums = sums_local edition part h n
step_local edition part h n Muls = muls_local edition part h n
step_local edition part h n Unary = unary_local edition part h n

pub read_local : (edition : Edition) (more other : List Token) (n : ℕ) → LocalParts more other (read edition n)
unfolding read LocalParts
read_local edition more other zero tier = fault_local
read_local edition more other (suc n) tier = step_local edition (read edition n) (read_local edition more other n) n tier
