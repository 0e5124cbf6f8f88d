-- Reading items, one at a time.
use Rattle.std.proofs.Common.{◌≡◌, ◌==◌, Bool, false, ℕ, suc, zero, ◌<◌, List, [], ◌∷◌, ◌++◌, map, length, Ok, Err, refl, sym, ap, ◌∙◌, arith}
use Rattle.cf_lex.specs.declared.token.Token.{Token}
use Rattle.cf_tree.specs.declared.base.Edition.{Edition}
use Rattle.cf_tree.specs.declared.raw.RawItem.{RawItem}
use Rattle.cf_target.proofs.Loops.{mapped_more}
use Rattle.cf_reader.specs.declared.read_stop.ReadStop.{ReadStop}
use Rattle.cf_reader.specs.declared.read_stop.ReadStop.TheVariants as stops
use Rattle.cf_reader.specs.Answers.{StopAnswer}
use Rattle.cf_reader.specs.Readers.{Got, bind, at_end, snoc}
use Rattle.cf_parse.specs.Programs.{item_of, items_from}
use Rattle.cf_tree.specs.DefView.{RawItemTree, raw_item_tree}

pub items_end : (edition : Edition) (limit k : ℕ) (done : List RawItemTree) (ts : List Token) → length ts ≡ 0 →
    items_from edition limit k done ts ≡ Ok (done, ts)
unfolding items_from at_end
items_end edition limit zero done [] h = refl
items_end edition limit (suc k) done [] h = refl
items_end edition limit k done (t ∷ ts) h = absurd (omega (arith, h))

pub items_stop : (edition : Edition) (limit k : ℕ) (done : List RawItemTree) (ts : List Token) → k ≡ 0 → 0 < length ts →
    items_from edition limit k done ts ≡ Err 0
unfolding items_from at_end
items_stop edition limit zero done [] e h = absurd (omega (arith, h))
items_stop edition limit zero done (t ∷ ts) e h = refl
items_stop edition limit (suc k) done ts e h = absurd (omega (arith, e))

pub items_go : (edition : Edition) (limit k j : ℕ) (done : List RawItemTree) (ts : List Token) (x : RawItemTree) (us : List Token) →
    item_of edition limit ts ≡ Ok (x, us) → k ≡ suc j → 0 < length ts → items_from edition limit k done ts ≡ items_from edition limit j (snoc done x) us
unfolding items_from bind at_end
items_go edition limit k j done [] x us g e h = absurd (omega (arith, h))
items_go edition limit k j done (t ∷ ts) x us g e h = rw (e, items_from, at_end, bind, g) refl

pub items_err : (edition : Edition) (limit k : ℕ) (done : List RawItemTree) (ts : List Token) (e : ℕ) → item_of edition limit ts ≡ Err e → 0 < k →
    0 < length ts → items_from edition limit k done ts ≡ Err e
unfolding items_from bind at_end
items_err edition limit zero done ts e g l h = absurd (omega arith)
items_err edition limit (suc k) done [] e g l h = absurd (omega (arith, h))
items_err edition limit (suc k) done (t ∷ ts) e g l h = rw (items_from, at_end, bind, g) refl

pub items_fail : (edition : Edition) (limit k : ℕ) (done : List RawItemTree) (ts : List Token) (e : ReadStop) → StopAnswer e (item_of edition limit ts) → 0 < k →
    0 < length ts → StopAnswer e (items_from edition limit k done ts)
items_fail edition limit k done ts stops.NoMemory g l h = tt
items_fail edition limit k done ts (stops.TokensLeft n) g l h = items_err edition limit k done ts n g l h

-- the next turn of the loop
pub items_next : (edition : Edition) (limit k j : ℕ) (done done' : List RawItem) (x : RawItem) (ts us : List Token) (whole : Got (List RawItemTree)) →
    item_of edition limit ts ≡ Ok (raw_item_tree x, us) → k ≡ suc j → 0 < length ts → done' ≡ done ++ x ∷ [] →
    items_from edition limit k (map raw_item_tree done) ts ≡ whole → items_from edition limit j (map raw_item_tree done') us ≡ whole
items_next edition limit k j done done' x ts us whole g e h d w =
    ap (λ (z : List RawItemTree). items_from edition limit j z us) (mapped_more raw_item_tree done done' x d)
    ∙ sym (items_go edition limit k j (map raw_item_tree done) ts (raw_item_tree x) us g e h) ∙ w

pub not_empty : (ts : List Token) (b : Bool) → b ≡ (length ts == 0) → b ≡ false → 0 < length ts
not_empty [] b e f = cc
not_empty (t ∷ ts) b e f = omega arith
