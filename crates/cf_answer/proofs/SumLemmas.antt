-- Lines that are cut off one after the other, and the sum of the replies to them.
use Rattle.std.proofs.Common.{◌≡◌, ◌∙◌, sym, ap, subst, refl, ℕ, suc, ◌+◌, ◌<◌, ◌≤◌, Bool, true, false, List, [], ◌∷◌, ℤ, pos, ◌+ℤ◌, ◌-◌, ◌^◌, length, take, drop, arith}
use Rattle.std.proofs.Math.IntN.{+ℤ_assoc, +ℤ_idr}
use Rattle.std.proofs.lemmas.List.{length-drop, take_all}
use Rattle.std.specs.Prelude.{Result, Ok, Err, IfOk}
use Rattle.std.specs.List.{onto_first}
use Rattle.cf_eval.specs.Spelling.{SpellsValues}
use Rattle.cf_io.specs.Limits.{line_limit}
use Rattle.cf_io.specs.Lines.{is_feed, lines}
use Rattle.cf_tree.specs.declared.base.Base.{Base}
use Rattle.cf_tree.specs.declared.target.RawTarget.{RawTarget}
use Rattle.cf_tree.specs.CodeView.{code_tree}
use Rattle.cf_tree.specs.Values.{Value}
use Rattle.cf_answer.specs.Steps.{first_size, ComesTo, LineAdds, read_line, AddUp}

-- the first byte by a case
cut_by : (t : Bool) (b : ℕ) (bs : List ℕ) → is_feed b ≡ t → first_size (b ∷ bs) < length (b ∷ bs) →
    (first_size bs < length bs → lines bs ≡ take (first_size bs) bs ∷ lines (drop (suc (first_size bs)) bs)) →
    lines (b ∷ bs) ≡ take (first_size (b ∷ bs)) (b ∷ bs) ∷ lines (drop (suc (first_size (b ∷ bs))) (b ∷ bs))
cut_by true b bs e lt more = rw e refl
cut_by false b bs e lt more =
    let less : suc (first_size bs) < suc (length bs) = rw e at lt in rw e (ap (onto_first b) (more (omega (arith, less))))

line_cut : (bs : List ℕ) → first_size bs < length bs → lines bs ≡ take (first_size bs) bs ∷ lines (drop (suc (first_size bs)) bs)
line_cut [] lt = absurd (omega (arith, lt))
line_cut (b ∷ bs) lt = cut_by (is_feed b) b bs refl lt (line_cut bs)

-- no line feed: the bytes are one line
whole_by : (t : Bool) (b : ℕ) (bs : List ℕ) → is_feed b ≡ t → length (b ∷ bs) ≤ first_size (b ∷ bs) →
    (length bs ≤ first_size bs → 0 < length bs → lines bs ≡ bs ∷ []) → lines (b ∷ bs) ≡ (b ∷ bs) ∷ []
whole_by true b bs e h more = absurd (omega (arith, (rw e at h)))
whole_by false b [] e h more = rw e refl
whole_by false b (c ∷ bs) e h more =
    let less : suc (length (c ∷ bs)) ≤ suc (first_size (c ∷ bs)) = rw e at h in
    rw e (ap (onto_first b) (more (omega (arith, less)) (omega arith)))

line_whole : (bs : List ℕ) → length bs ≤ first_size bs → 0 < length bs → lines bs ≡ bs ∷ []
line_whole [] h some = absurd (omega (arith, some))
line_whole (b ∷ bs) h some = whole_by (is_feed b) b bs refl h (line_whole bs)

-- the first line of some bytes, and what stands behind its line feed
pub cut_at : (bs : List ℕ) (size : ℕ) → size ≡ first_size bs → size < length bs →
    lines bs ≡ take size bs ∷ lines (take (length bs - (size + 1)) (drop (size + 1) bs))
cut_at bs size is lt =
    let behind = drop (size + 1) bs in
    let all : take (length bs - (size + 1)) behind ≡ behind = take_all (length bs - (size + 1)) behind (omega (arith, length-drop (size + 1) bs)) in
    let next : suc size ≡ size + 1 = omega arith in
    let cut : lines bs ≡ take size bs ∷ lines (drop (suc size) bs) =
    subst (λ n. lines bs ≡ take n bs ∷ lines (drop (suc n) bs)) (sym is) (line_cut bs (subst (λ n. n < length bs) is lt)) in
    subst (λ v. lines bs ≡ take size bs ∷ lines v) (sym all) (subst (λ n. lines bs ≡ take size bs ∷ lines (drop n bs)) next cut)

pub whole_at : (bs : List ℕ) (size : ℕ) → size ≡ first_size bs → length bs ≤ size → 0 < length bs →
    lines bs ≡ bs ∷ lines (take (length bs - size) (drop size bs))
whole_at bs size is most some =
    let none : length bs - size ≡ 0 = omega (arith, most) in
    rw none (line_whole bs (subst (λ n. length bs ≤ n) is most) some)

-- a run on the values of a line
pub adds_if_ok : {E : Type 0} (t : RawTarget) (bases : List Base) (line : List ℕ) (vs : List Value) (r : Result ℤ E) → bases ≡ t.params.items →
    length line ≤ line_limit → SpellsValues (2 ^ 127 - 1) bases line vs → IfOk r (ComesTo (code_tree t.code) vs) → IfOk r (LineAdds t line)
adds_if_ok t bases line vs (Ok z) is short r by = read_line vs short (subst (λ bs. SpellsValues (2 ^ 127 - 1) bs line vs) is r) by
adds_if_ok t bases line vs (Err e) is short r by = tt

-- one line more
pub line_more : (t : RawTarget) (all rest line more : List ℕ) (sum next z : ℤ) → lines rest ≡ line ∷ lines more → LineAdds t line z → next ≡ sum +ℤ z →
    ((s : ℤ) → AddUp t (lines rest) s → AddUp t (lines all) (sum +ℤ s)) → (s : ℤ) → AddUp t (lines more) s → AddUp t (lines all) (next +ℤ s)
line_more t all rest line more sum next z is adds next_is h s a =
    let here : AddUp t (lines rest) (z +ℤ s) = subst (λ ls. AddUp t ls (z +ℤ s)) (sym is) (z, s, refl, adds, a) in
    subst (AddUp t (lines all)) (sym (+ℤ_assoc sum z s) ∙ ap (λ v. v +ℤ s) (sym next_is)) (h (z +ℤ s) here)

-- no line more
pub line_end : (t : RawTarget) (all rest : List ℕ) (sum : ℤ) → length rest ≤ 0 → ((s : ℤ) → AddUp t (lines rest) s → AddUp t (lines all) (sum +ℤ s)) →
    AddUp t (lines all) sum
line_end t all [] sum none h = subst (AddUp t (lines all)) (+ℤ_idr sum) (h (pos 0) refl)
line_end t all (b ∷ rest) sum none h = absurd (omega (arith, none))
