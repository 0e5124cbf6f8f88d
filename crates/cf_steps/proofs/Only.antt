-- What is spelled is read, at most one list of blocks is spelled, and where a fault stands.
use Rattle.std.proofs.Common.{◌≡◌, inl, inr, ℕ, zero, suc, ◌-◌, ◌^◌, ◌≤◌, ◌<◌, Bool, true, false, List, [], ◌∷◌, ◌++◌, length, Some, None, Ok, Err}
use Rattle.std.proofs.Common.{refl, sym, ap, ◌∙◌, arith, append_assoc}
use Rattle.std.specs.Prelude.{ℤ, pos, nat_le, codes}
use Rattle.std.proofs.lemmas.Bool.{le-leb}
use Rattle.std.proofs.lemmas.List.{append-nil}
use Rattle.cf_tree.specs.declared.base.Edition.{Edition}
use Rattle.cf_tree.specs.declared.base.Edition.TheVariants.{Two, Three}
use Rattle.cf_lex.specs.declared.token.Token.{Token}
use Rattle.cf_lex.specs.declared.token.TokenKind.TheVariants.{Literal, Word, Sign}
use Rattle.cf_tree.specs.declared.base.Place.{Place}
use Rattle.cf_reader.specs.Tokens.{Next, Several}
use Rattle.cf_reader.specs.Readers.{is, at, must, at_end, others_of, snoc}
use Rattle.cf_reader.specs.Faults.{IsFaultPlace, IsFaultPlaceOf, place_with_left}
use Rattle.cf_reader.proofs.Near.{Within, Local, pure_local, refuse_local, end_local, any_local, bind_local, first_local}
use Rattle.cf_reader.proofs.Near.{must_local, others_local, several_local, at_end_local}
use Rattle.cf_reader.proofs.Yields.{all_added}
use Rattle.cf_reader.proofs.Exact.{bind_is, pure_is, must_is, first_is, first_not, at_is, at_not, next_is, literal_is, first_longer, left_over, Items}
use Rattle.cf_reader.proofs.Exact.{name_is, others_are, several_are}
use Rattle.cf_reader.proofs.KindLaws.{sign_literal, truth_is as truth_found}
use Rattle.cf_reader.proofs.Faults.{same_value, ReadsAll, fault_law as read_fault, exact_law as read_exact}
use Rattle.cf_target.specs.Levels.{last_level}
use Rattle.cf_target.specs.Targets.{part_of}
use Rattle.cf_target.proofs.Only.{part_is, part_local}
use Rattle.cf_elim.specs.declared.act.Act.{Act}
use Rattle.cf_elim.specs.declared.act.Act.TheVariants.{Clean, Mix, Last, Search, Drop}
use Rattle.cf_steps.specs.declared.block.NamedTruth.{NamedTruth}
use Rattle.cf_steps.specs.Blocks.{BlockTree}
use Rattle.cf_steps.specs.Answers.{SomeBlocks}
use Rattle.cf_steps.specs.Spelling.{SpellsColumn, SpellsFactor, side_kind, SpellsAct, SpellsActs, SpellsCase, SpellsCases, SpellsTruth, SpellsHead, SpellsBlock}
use Rattle.cf_steps.specs.Spelling.{SpellsBlocks, AreBlocks}
use Rattle.cf_steps.specs.Reading.{a_column, a_side, factor_of, mix_of, search_of, act_of, ended_act, acts_of, all_acts, case_of, block_of}
use Rattle.cf_steps.specs.Reading.{truth_of, truths_of, no_truths, head_of, blocks_of, all_blocks}

-- ---- reading is local
factor_local : {more other : List Token} → Local more other factor_of factor_of
unfolding factor_of
factor_local = first_local _ (λ k. pure_local _) (bind_local (must_local _) (λ p. bind_local (must_local _) (λ k. pure_local _)))

mix_local : {more other : List Token} → Local more other mix_of mix_of
unfolding mix_of
mix_local =
    bind_local (must_local _) (λ x. bind_local (must_local _) (λ y. bind_local factor_local (λ a. bind_local factor_local (λ b. bind_local factor_local
    (λ c. bind_local factor_local (λ d. pure_local _))))))

search_local : {more other : List Token} → Local more other search_of search_of
unfolding search_of
search_local = bind_local (must_local _) (λ x. bind_local (must_local _) (λ lower. pure_local _))

act_local : {more other : List Token} → Local more other act_of act_of
unfolding act_of
act_local =
    first_local _ (λ p. pure_local _) (first_local _ (λ p. mix_local) (first_local _ (λ p. bind_local (must_local _) (λ e. pure_local _))
    (first_local _ (λ p. search_local) (first_local _ (λ p. bind_local (must_local _) (λ x. pure_local _)) refuse_local))))

ended_local : {more other : List Token} → Local more other ended_act ended_act
unfolding ended_act
ended_local = bind_local act_local (λ a. bind_local (must_local _) (λ p. pure_local _))

acts_local : {more other : List Token} (j k : ℕ) (done : List Act) → Local more other (acts_of j done) (acts_of k done)
unfolding acts_of
acts_local zero k done = end_local _
acts_local (suc j) zero done = any_local (first_local _ (λ p. pure_local _) (bind_local ended_local (λ a. acts_local j j (snoc done a))))
acts_local (suc j) (suc k) done = first_local _ (λ p. pure_local _) (bind_local ended_local (λ a. acts_local j k (snoc done a)))

all_acts_local : {more other : List Token} → Local more other all_acts all_acts
unfolding all_acts
all_acts_local {more} {other} = record {
  within = λ ts m l. (acts_local {more = more} {other = other} (length ts) (length ts) []).within ts m l;
  near = λ ts us n. (acts_local {more = more} {other = other} (length ts) (length us) []).near ts us n;
}

case_local : {more other : List Token} → Local more other case_of case_of
unfolding case_of
case_local = bind_local (must_local _) (λ p. all_acts_local)

truth_local : {more other : List Token} → Local more other truth_of truth_of
unfolding truth_of
truth_local = bind_local (must_local _) (λ x. bind_local (must_local _) (λ p. bind_local (must_local _) (λ v. pure_local _)))

truths_local : {more other : List Token} → Local more other truths_of truths_of
unfolding truths_of
truths_local = bind_local (several_local snoc _ _ [] truth_local) (λ truths. bind_local (must_local _) (λ p. pure_local _))

no_truths_local : {more other : List Token} → Local more other no_truths no_truths
unfolding no_truths
no_truths_local = bind_local (must_local _) (λ p. pure_local _)

head_local : {more other : List Token} (edition : Edition) → Local more other (head_of edition) (head_of edition)
unfolding head_of
head_local Two = no_truths_local
head_local Three = first_local _ (λ p. truths_local) no_truths_local

block_local : {more other : List Token} (edition : Edition) (limit : ℕ) → Local more other (block_of edition limit) (block_of edition limit)
unfolding block_of
block_local edition limit =
    bind_local (must_local _) (λ z. bind_local (must_local _) (λ n. bind_local (head_local edition) (λ p. bind_local (others_local snoc _ _ [] case_local)
    (λ cases. bind_local (part_local Two limit) (λ t. pure_local _)))))

blocks_local : {more other : List Token} (edition : Edition) (limit j k : ℕ) (done : List BlockTree) → Local more other (blocks_of edition limit j done) (blocks_of edition limit k done)
unfolding blocks_of
blocks_local edition limit zero zero done = at_end_local done (end_local _)
blocks_local edition limit zero (suc k) done = at_end_local done (end_local _)
blocks_local edition limit (suc j) zero done = at_end_local done (any_local (bind_local (block_local edition limit) (λ b. blocks_local edition limit j j (snoc done b))))
blocks_local edition limit (suc j) (suc k) done = at_end_local done (bind_local (block_local edition limit) (λ b. blocks_local edition limit j k (snoc done b)))

all_blocks_local : {more other : List Token} (edition : Edition) (limit : ℕ) → Local more other (all_blocks edition limit) (all_blocks edition limit)
unfolding all_blocks
all_blocks_local {more} {other} edition limit = record {
  within = λ ts m l. (blocks_local {more = more} {other = other} edition limit (length ts) (length ts) []).within ts m l;
  near = λ ts us n. (blocks_local {more = more} {other = other} edition limit (length ts) (length us) []).near ts us n;
}

-- ---- what is spelled is read
column_is : (n : ℕ) (ts us : List Token) → SpellsColumn n ts us → at a_column ts ≡ Some (n, us)
unfolding at last_level
column_is n ts us (i, (p, w)) =
    let t : nat_le n (2 ^ 32 - 1) ≡ true = le-leb n (2 ^ 32 - 1) (omega (arith, i)) in
    ap (at a_column) w ∙ rw t refl

side_is : (b : Bool) (ts us : List Token) → Next (side_kind b) ts us → at a_side ts ≡ Some (b, us)
unfolding at
side_is true ts us w = ap (at a_side) w.1
side_is false ts us w = ap (at a_side) w.1

factor_is : (k : ℤ) (ts us : List Token) → SpellsFactor k ts us → factor_of ts ≡ Ok (k, us)
unfolding factor_of
factor_is k ts us (inl (p, w)) = first_is _ _ _ ts (literal_is (pos 0) ts us p k w) (pure_is _ _ us refl)
factor_is k ts us (inr (n, (a, m, (p, w)), e)) =
    first_not _ _ _ ts (sign_literal (codes "-") m.0 ts a m.1)
    (bind_is _ _ ts (next_is _ ts a refl m) (bind_is _ _ a (must_is _ a us (p, n) (literal_is (pos 0) a us p n w)) (pure_is _ _ us (sym e))))

must_column : (n : ℕ) (ts us : List Token) → SpellsColumn n ts us → must a_column ts ≡ Ok (n, us)
must_column n ts us w = must_is a_column ts us n (column_is n ts us w)

mix_is : (x y : ℕ) (a b c d : ℤ) (ts t1 t2 t3 t4 t5 us : List Token) → SpellsColumn x ts t1 → SpellsColumn y t1 t2 → SpellsFactor a t2 t3 →
    SpellsFactor b t3 t4 → SpellsFactor c t4 t5 → SpellsFactor d t5 us →
    mix_of ts ≡ Ok (Mix x y a b c d, us)
unfolding mix_of
mix_is x y a b c d ts t1 t2 t3 t4 t5 us wx wy wa wb wc wd =
    bind_is _ _ ts (must_column x ts t1 wx) (bind_is _ _ t1 (must_column y t1 t2 wy) (bind_is _ _ t2 (factor_is a t2 t3 wa) (bind_is _ _ t3
    (factor_is b t3 t4 wb)
    (bind_is _ _ t4 (factor_is c t4 t5 wc) (bind_is _ _ t5 (factor_is d t5 us wd) (pure_is _ _ us refl))))))

search_is : (x : ℕ) (lower : Bool) (ts a us : List Token) → SpellsColumn x ts a → Next (side_kind lower) a us → search_of ts ≡ Ok (Search x lower, us)
unfolding search_of
search_is x lower ts a us wx ws = bind_is _ _ ts (must_column x ts a wx) (bind_is _ _ a (must_is a_side a us lower (side_is lower a us ws))
    (pure_is _ _ us refl))

pub act_is : (act : Act) (ts us : List Token) → SpellsAct act ts us → act_of ts ≡ Ok (act, us)
unfolding act_of
act_is Clean ts us w = first_is _ _ _ ts (at_is (Word (codes "clean")) ts us w.0 refl w.1) (pure_is _ _ us refl)
act_is (Mix x y a b c d) ts us (t1, n, (t2, wx, (t3, wy, (t4, wa, (t5, wb, (t6, wc, wd)))))) =
    first_not _ _ _ ts (at_not (Word (codes "clean")) (Word (codes "mix")) ts t1 n.0 refl n.1)
    (first_is _ _ _ ts (at_is (Word (codes "mix")) ts t1 n.0 refl n.1) (mix_is x y a b c d t1 t2 t3 t4 t5 t6 us wx wy wa wb wc wd))
act_is (Last e) ts us (t1, n, we) =
    first_not _ _ _ ts (at_not (Word (codes "clean")) (Word (codes "last")) ts t1 n.0 refl n.1)
    (first_not _ _ _ ts (at_not (Word (codes "mix")) (Word (codes "last")) ts t1 n.0 refl n.1)
    (first_is _ _ _ ts (at_is (Word (codes "last")) ts t1 n.0 refl n.1) (bind_is _ _ t1 (must_column e t1 us we) (pure_is _ _ us refl))))
act_is (Search x lower) ts us (t1, n, (t2, wx, ws)) =
    first_not _ _ _ ts (at_not (Word (codes "clean")) (Word (codes "search")) ts t1 n.0 refl n.1)
    (first_not _ _ _ ts (at_not (Word (codes "mix")) (Word (codes "search")) ts t1 n.0 refl n.1)
    (first_not _ _ _ ts (at_not (Word (codes "last")) (Word (codes "search")) ts t1 n.0 refl n.1)
    (first_is _ _ _ ts (at_is (Word (codes "search")) ts t1 n.0 refl n.1) (search_is x lower t1 t2 us wx ws))))
act_is (Drop x) ts us (t1, n, wx) =
    first_not _ _ _ ts (at_not (Word (codes "clean")) (Word (codes "drop")) ts t1 n.0 refl n.1)
    (first_not _ _ _ ts (at_not (Word (codes "mix")) (Word (codes "drop")) ts t1 n.0 refl n.1)
    (first_not _ _ _ ts (at_not (Word (codes "last")) (Word (codes "drop")) ts t1 n.0 refl n.1)
    (first_not _ _ _ ts (at_not (Word (codes "search")) (Word (codes "drop")) ts t1 n.0 refl n.1)
    (first_is _ _ _ ts (at_is (Word (codes "drop")) ts t1 n.0 refl n.1) (bind_is _ _ t1 (must_column x t1 us wx) (pure_is _ _ us refl))))))

ended_is : (act : Act) (ts a us : List Token) → SpellsAct act ts a → Next (Sign (codes ";")) a us → ended_act ts ≡ Ok (act, us)
unfolding ended_act
ended_is act ts a us s n = bind_is _ _ ts (act_is act ts a s) (bind_is _ _ a (next_is _ a us refl n) (pure_is _ _ us refl))

-- no step begins with a closing brace
act_open : (act : Act) (ts us : List Token) → SpellsAct act ts us → at (is (Sign (codes "}"))) ts ≡ None
act_open Clean ts us w = at_not _ (Word (codes "clean")) ts us w.0 refl w.1
act_open (Mix x y a b c d) ts us (t1, n, w) = at_not _ (Word (codes "mix")) ts t1 n.0 refl n.1
act_open (Last e) ts us (t1, n, w) = at_not _ (Word (codes "last")) ts t1 n.0 refl n.1
act_open (Search x lower) ts us (t1, n, w) = at_not _ (Word (codes "search")) ts t1 n.0 refl n.1
act_open (Drop x) ts us (t1, n, w) = at_not _ (Word (codes "drop")) ts t1 n.0 refl n.1

pub act_within : (ts : List Token) → Within (length ts) (act_of ts)
act_within ts = (act_local {more = []} {other = []}).within ts (length ts) (omega arith)

acts_are : (acts : List Act) (fuel : ℕ) (done : List Act) (ts us : List Token) → SpellsActs acts ts us → length ts ≤ fuel →
    acts_of fuel done ts ≡ Ok (done ++ acts, us)
unfolding acts_of
acts_are [] zero done ts us w l = absurd (omega (arith, l, first_longer (Sign (codes "}")) ts us w.0 w.1))
acts_are [] (suc fuel) done ts us w l = first_is _ _ _ ts (at_is (Sign (codes "}")) ts us w.0 refl w.1) (pure_is _ _ us (sym (append-nil done)))
acts_are (act ∷ acts) zero done ts us (a, s, (b, n, w)) l =
    let e = first_longer (Sign (codes ";")) a b n.0 n.1 in
    let k = left_over (length ts) (act_of ts) act a (act_is act ts a s) (act_within ts) in
    absurd (omega (arith, l, e, k))
acts_are (act ∷ acts) (suc fuel) done ts us (a, s, (b, n, w)) l =
    let e = first_longer (Sign (codes ";")) a b n.0 n.1 in
    let k = left_over (length ts) (act_of ts) act a (act_is act ts a s) (act_within ts) in
    first_not _ _ _ ts (act_open act ts a s)
    (bind_is _ _ ts (ended_is act ts a b s n)
    (acts_are acts fuel (snoc done act) b us w (omega (arith, l, e, k)) ∙ ap (λ (z : List Act). Ok (z, us)) (append_assoc done (act ∷ []) acts)))

case_is : (acts : List Act) (ts us : List Token) → SpellsCase acts ts us → case_of ts ≡ Ok (acts, us)
unfolding case_of all_acts
case_is acts ts us (a, n, w) = bind_is _ _ ts (next_is _ ts a refl n) (acts_are acts (length a) [] a us w (omega arith))

case_items : Items case_of SpellsCase (Word (codes "case")) (Sign (codes "}"))
case_items = record {
  reads = λ acts ts us w e. case_is acts ts us w;
  within = λ ts. (case_local {more = []} {other = []}).within ts (length ts) (omega arith);
  separates = refl;
  closes = refl;
  differs = refl;
}

cases_are : (cases : List (List Act)) (ts us : List Token) → SpellsCases cases ts us →
    others_of snoc case_of (Word (codes "case")) (Sign (codes "}")) [] ts ≡ Ok (cases, us)
cases_are cases ts us w =
    others_are snoc case_of SpellsCase (Word (codes "case")) (Sign (codes "}")) case_items cases [] ts us w
    ∙ ap (λ (z : List (List Act)). Ok (z, us)) (all_added cases)

truth_is : (t : NamedTruth) (ts us : List Token) → SpellsTruth t ts us → truth_of ts ≡ Ok (t, us)
unfolding truth_of
truth_is t ts us (a, (p, n), (b, e, (q, v))) =
    bind_is _ _ ts (must_is _ ts a (p, t.name) (name_is Three ts a p t.name n)) (bind_is _ _ a (next_is _ a b refl e)
    (bind_is _ _ b (must_is _ b us (q, t.value) (truth_found t.value q b us v)) (pure_is _ _ us refl)))

truth_items : Items truth_of SpellsTruth (Sign (codes ",")) (Sign (codes ")"))
truth_items = record {
  reads = λ t ts us w e. truth_is t ts us w;
  within = λ ts. (truth_local {more = []} {other = []}).within ts (length ts) (omega arith);
  separates = refl;
  closes = refl;
  differs = refl;
}

truths_are : (truths : List NamedTruth) (ts a us : List Token) → Several SpellsTruth (Sign (codes ",")) (Sign (codes ")")) truths ts a →
    Next (Sign (codes "{")) a us → truths_of ts ≡ Ok (truths, us)
unfolding truths_of
truths_are truths ts a us s n =
    bind_is _ _ ts
    (several_are snoc truth_of SpellsTruth (Sign (codes ",")) (Sign (codes ")")) truth_items truths [] ts a s
    ∙ ap (λ (z : List NamedTruth). Ok (z, a)) (all_added truths))
    (bind_is _ _ a (next_is _ a us refl n) (pure_is _ _ us refl))

no_truths_are : (ts us : List Token) → Next (Sign (codes "{")) ts us → no_truths ts ≡ Ok ([], us)
unfolding no_truths
no_truths_are ts us n = bind_is _ _ ts (next_is _ ts us refl n) (pure_is _ _ us refl)

pub head_is : (edition : Edition) (truths : List NamedTruth) (ts us : List Token) → SpellsHead edition truths ts us → head_of edition ts ≡ Ok (truths, us)
unfolding head_of
head_is Two [] ts us w = no_truths_are ts us w
head_is Two (t ∷ truths) ts us w = absurd w.0
head_is Three [] ts us w = first_not _ _ _ ts (at_not (Sign (codes "(")) (Sign (codes "{")) ts us w.0 refl w.1) (no_truths_are ts us w)
head_is Three (t ∷ truths) ts us (three, (a, o, (b, s, n))) =
    first_is _ _ _ ts (at_is (Sign (codes "(")) ts a o.0 refl o.1) (truths_are (t ∷ truths) a b us s n)

pub head_within : (edition : Edition) (ts : List Token) → Within (length ts) (head_of edition ts)
head_within edition ts = (head_local {more = []} {other = []} edition).within ts (length ts) (omega arith)

block_is : (edition : Edition) (limit : ℕ) (b : BlockTree) (ts us : List Token) → SpellsBlock edition limit b ts us → block_of edition limit ts ≡ Ok (b, us)
unfolding block_of
block_is edition limit b ts us (t1, w, (t2, n, (t3, o, (t4, c, t)))) =
    bind_is _ _ ts (next_is _ ts t1 refl w) (bind_is _ _ t1 (must_column b.number t1 t2 n) (bind_is _ _ t2 (head_is edition b.truths t2 t3 o) (bind_is _ _ t3
    (cases_are b.cases t3 t4 c)
    (bind_is _ _ t4 (part_is Two limit b.target t4 us t) (pure_is _ _ us refl)))))

pub part_within : (limit : ℕ) (ts : List Token) → Within (length ts) (part_of Two limit ts)
part_within limit ts = (part_local {more = []} {other = []} Two limit).within ts (length ts) (omega arith)

cases_within : (ts : List Token) → Within (length ts) (others_of snoc case_of (Word (codes "case")) (Sign (codes "}")) [] ts)
cases_within ts = (others_local {more = []} {other = []} snoc (Word (codes "case")) (Sign (codes "}")) [] case_local).within ts (length ts) (omega arith)

block_shorter : (edition : Edition) (limit : ℕ) (b : BlockTree) (ts us : List Token) → SpellsBlock edition limit b ts us → length us < length ts
block_shorter edition limit b ts us (t1, w, (t2, n, (t3, o, (t4, c, t)))) =
    let i = first_longer (Word (codes "choose")) ts t1 w.0 w.1 in
    let j = first_longer (Literal (pos b.number)) t1 t2 n.1.0 n.1.1 in
    let k = left_over (length t2) (head_of edition t2) b.truths t3 (head_is edition b.truths t2 t3 o) (head_within edition t2) in
    let l = left_over (length t3) _ b.cases t4 (cases_are b.cases t3 t4 c) (cases_within t3) in
    let m = left_over (length t4) (part_of Two limit t4) b.target us (part_is Two limit b.target t4 us t) (part_within limit t4) in
    omega (arith, i, j, k, l, m)

blocks_are : (edition : Edition) (limit : ℕ) (bs : List BlockTree) (fuel : ℕ) (done : List BlockTree) (ts : List Token) → SpellsBlocks edition limit bs ts → length ts ≤ fuel →
    blocks_of edition limit fuel done ts ≡ Ok (done ++ bs, [])
unfolding blocks_of at_end
blocks_are edition limit [] zero done [] w l = rw (append-nil done) refl
blocks_are edition limit [] (suc fuel) done [] w l = rw (append-nil done) refl
blocks_are edition limit [] zero done (t ∷ ts) w l = cc
blocks_are edition limit [] (suc fuel) done (t ∷ ts) w l = cc
blocks_are edition limit (b ∷ bs) zero done ts (mid, s, w) l = absurd (omega (arith, l, block_shorter edition limit b ts mid s))
blocks_are edition limit (b ∷ bs) (suc fuel) done [] (mid, s, w) l = absurd (omega (arith, block_shorter edition limit b [] mid s))
blocks_are edition limit (b ∷ bs) (suc fuel) done (t ∷ ts) (mid, s, w) l =
    bind_is _ _ (t ∷ ts) (block_is edition limit b (t ∷ ts) mid s)
    (blocks_are edition limit bs fuel (snoc done b) mid w (omega (arith, l, block_shorter edition limit b (t ∷ ts) mid s))
    ∙ ap (λ (z : List BlockTree). Ok (z, [])) (append_assoc done (b ∷ []) bs))

pub only_law : (edition : Edition) (ts : List Token) (bs : List BlockTree) → AreBlocks edition bs ts → all_blocks edition 500 ts ≡ Ok (bs, [])
unfolding all_blocks
only_law edition ts bs w = blocks_are edition 500 bs (length ts) [] ts w (omega arith)

pub one_law : (edition : Edition) (ts : List Token) (bs cs : List BlockTree) → AreBlocks edition bs ts → AreBlocks edition cs ts → bs ≡ cs
one_law edition ts bs cs v w = same_value bs cs [] [] (all_blocks edition 500 ts) (only_law edition ts bs v) (only_law edition ts cs w)

-- ---- the place of a fault
all_read : (edition : Edition) → ReadsAll (SomeBlocks edition) (all_blocks edition 500)
all_read edition ts (bs, w) = (bs, [], only_law edition ts bs w)

pub fault_law : (edition : Edition) (ts : List Token) (end : Place) (e : ℕ) → all_blocks edition 500 ts ≡ Err e → IsFaultPlace (SomeBlocks edition) ts end (place_with_left ts end e)
fault_law edition ts end e p = read_fault (SomeBlocks edition) (all_blocks edition 500) (λ more other. all_blocks_local edition 500) (all_read edition) ts end e p

pub exact_law : (edition : Edition) (ts : List Token) (end : Place) (e : ℕ) → all_blocks edition 500 ts ≡ Err e → IsFaultPlaceOf (all_blocks edition 500) ts end (place_with_left ts end e)
exact_law edition ts end e p = read_exact (all_blocks edition 500) ts end e p
