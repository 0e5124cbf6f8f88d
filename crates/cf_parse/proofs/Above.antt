-- Reading with a budget, chains and reserved operations, a step at a time.
use Rattle.std.proofs.Common.{◌≡◌, ℕ, suc, zero, ◌-◌, ◌<◌, ◌≤◌, List, length, Some, None, Ok, Err, refl, arith}
use Rattle.std.specs.Prelude.{codes}
use Rattle.cf_lex.specs.declared.token.Token.{Token}
use Rattle.cf_lex.specs.declared.token.TokenKind.TheVariants.{Sign}
use Rattle.cf_tree.specs.declared.base.Edition.{Edition}
use Rattle.cf_tree.specs.declared.base.Place.{Place}
use Rattle.cf_tree.specs.declared.raw.BinOp.{BinOp}
use Rattle.cf_tree.specs.RawTree.{RawTree, raw_binary, raw_depth}
use Rattle.cf_reader.specs.Readers.{at, bind, pure, first, is, must}
use Rattle.cf_reader.specs.Kinds.{a_truth}
use Rattle.cf_reader.proofs.Exact.{deep_is, first_not}
use Rattle.cf_parse.specs.declared.tier.Tier.{Tier}
use Rattle.cf_parse.specs.declared.words.NamedOp.{NamedOp}
use Rattle.cf_parse.specs.Spelling.{under}
use Rattle.cf_parse.specs.Reading.{read, step, Parts, next_op, chain_of, reserved_op, operation_of, word_of}

pub read_above : (edition : Edition) (n : ℕ) (tier : Tier) (ts : List Token) → 0 < n →
    read edition n tier ts ≡ step edition (read edition (n - 1)) (n - 1) tier ts
unfolding read
read_above edition zero tier ts h = absurd (omega arith)
read_above edition (suc n) tier ts h = let e : suc n - 1 ≡ n = omega arith in rw e refl

pub read_none : (edition : Edition) (n : ℕ) (tier : Tier) (ts : List Token) → n ≡ 0 → read edition n tier ts ≡ Err (length ts)
unfolding read
read_none edition n tier ts h = rw h refl

pub chain_stops : (edition : Edition) (part : Parts) (tier : Tier) (n k : ℕ) (left : RawTree) (ts : List Token) → at (next_op edition tier n (raw_depth left)) ts ≡ None →
    chain_of edition part tier n k left ts ≡ Ok (left, ts)
unfolding chain_of pure first
chain_stops edition part tier n zero left ts h = refl
chain_stops edition part tier n (suc k) left ts h = rw (chain_of, first, h, pure) refl

pub chain_ends : (edition : Edition) (part : Parts) (tier : Tier) (n k : ℕ) (left : RawTree) (ts : List Token) → k ≡ 0 → chain_of edition part tier n k left ts ≡ Ok (left, ts)
unfolding chain_of pure
chain_ends edition part tier n k left ts h = rw h refl

pub chain_goes : (edition : Edition) (part : Parts) (tier : Tier) (n k j : ℕ) (left : RawTree) (ts : List Token) (p : Place) (op : BinOp) (us : List Token) (r : RawTree)
    (vs : List Token) →
    at (next_op edition tier n (raw_depth left)) ts ≡ Some ((p, op), us) → part (under tier) us ≡ Ok (r, vs) → k ≡ suc j →
    chain_of edition part tier n k left ts ≡ chain_of edition part tier n j (raw_binary p op left r) vs
unfolding chain_of first bind
chain_goes edition part tier n k j left ts p op us r vs h g e = rw (e, chain_of, first, h, bind, g) refl

pub chain_errs : (edition : Edition) (part : Parts) (tier : Tier) (n k : ℕ) (left : RawTree) (ts : List Token) (p : Place) (op : BinOp) (us : List Token) (e : ℕ) →
    at (next_op edition tier n (raw_depth left)) ts ≡ Some ((p, op), us) → part (under tier) us ≡ Err e → 0 < k →
    chain_of edition part tier n k left ts ≡ Err e
unfolding chain_of first bind
chain_errs edition part tier n zero left ts p op us e h g lt = absurd (omega arith)
chain_errs edition part tier n (suc k) left ts p op us e h g lt = rw (chain_of, first, h, bind, g) refl

pub word_reserved : (edition : Edition) (part : Parts) (n : ℕ) (ts us : List Token) (p : Place) (op : NamedOp) → at a_truth ts ≡ None →
    at (reserved_op edition) ts ≡ Some ((p, op), us) → 1 ≤ n →
    word_of edition part n ts ≡ bind (must (is (Sign (codes "(")))) (λ q. operation_of edition part p op) us
unfolding word_of
word_reserved edition part n ts us p op h g l = first_not _ _ _ ts h (deep_is n _ _ _ ts l g refl)
