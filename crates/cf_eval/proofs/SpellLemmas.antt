-- Values on a line: what is read is spelled so, and what is spelled so is read.
use Rattle.std.proofs.Common.{◌≡◌, inl, inr, ℕ, ℤ, ◌+◌, ◌<◌, Bool, true, false, cond, List, [], ◌∷◌, ◌++◌, length, take, drop, refl, ap, sym, ◌∙◌, arith, eqb, eqb-true, Option, Some, None, Result, Ok, Err, Vec, Global, IfOk, nat_lt, nat_eq, codes, get_or, lt-ltb, append_assoc, append-nil}
use Rattle.std.specs.List.{prefix_len, list_all, starts_with}
use Rattle.std.proofs.lemmas.List.{take-append-drop, take_at, length-append}
use Rattle.std.proofs.lemmas.Bool.{ltb-true}
use Rattle.std.proofs.lemmas.List.Sums.{prefix_len_stops, split_at_first}
use Rattle.std.proofs.Math.Seq.{drop-append-add}
use Rattle.std.proofs.lemmas.Bool.Decides.{nat_tests}
use Rattle.cf_lex.specs.Bytes.{is_digit}
use Rattle.cf_lex.specs.Runs.{StopsAt}
use Rattle.cf_lex.proofs.RunLemmas.{run_of, prefix_len-run, and_left, and_right}
use Rattle.cf_tree.specs.Sets.{set_of}
use Rattle.cf_tree.specs.Values.{Value, number, truth, elements, HasBase, HaveBases}
use Rattle.cf_tree.specs.declared.base.Base.{Base}
use Rattle.cf_tree.specs.declared.base.Base.TheVariants as base
use Rattle.cf_eval.specs.Seen.{plains}
use Rattle.cf_eval.specs.Spelling.{is_space, without_return, IsValue, IsApart, Spells, SpellsValues}
use Rattle.cf_eval.specs.Reading.{Read, is_before_brace, after_spaces, number_at, value_at, number_read, truth_at, set_at, set_read, braces_at, body_at, is_apart, with_value, values_from, ReadAnswer}
use Rattle.cf_eval.specs.LineAnswers.{LineAnswer}
use Rattle.cf_eval.specs.declared.fault.LineFault.{LineFault}
use Rattle.cf_eval.specs.declared.fault.LineFault.TheVariants as fault
use Rattle.cf_eval.specs.declared.value.Value.{Value as RunValue}
use Rattle.cf_tree.proofs.RisingLemmas.{rising_set_of}
use Rattle.cf_eval.proofs.NumberLemmas.{some_is, number_takes, number_again}
use Rattle.cf_eval.proofs.ItemLemmas.{white_all, all_white, skip_white, digit_white, digit_not_white, body_before_brace, body_again, body_takes}

-- sets
set_by : (limit : ℕ) (text body behind : List ℕ) (v : Value) (rest : List ℕ) (o : Option (List ℤ)) → text ≡ body ++ 125 ∷ behind →
    body_at limit body ≡ o → set_read behind o ≡ Some (v, rest) → (w : List ℕ) × (123 ∷ text ≡ w ++ rest) × IsValue limit base.Set w v
set_by limit text body behind v rest None whole is e = cc
set_by limit text body behind v rest (Some zs) whole is e =
    let pair = some_is {A = Value × List ℕ} (elements (set_of zs), behind) (v, rest) e in
    let value : elements (set_of zs) ≡ v = ap (λ x. x.0) pair in
    let back : behind ≡ rest = ap (λ x. x.1) pair in
    rw (← value, ← back) (
      123 ∷ (body ++ 125 ∷ []),
      ap (λ x. 123 ∷ x) (whole ∙ sym (append_assoc body (125 ∷ []) behind)),
      (body, zs, refl, body_takes limit body zs is, refl),
    )

brace_is : (b : ℕ) → is_before_brace b ≡ false → b ≡ 125
brace_is b e = grind (arith, nat_tests)

braces_by : (limit : ℕ) (text : List ℕ) (v : Value) (rest : List ℕ) (t : Bool) → nat_lt (prefix_len is_before_brace text) (length text) ≡ t →
    cond t (set_read (drop (prefix_len is_before_brace text + 1) text) (body_at limit (take (prefix_len is_before_brace text) text))) None ≡ Some (v, rest) →
    (w : List ℕ) × (123 ∷ text ≡ w ++ rest) × IsValue limit base.Set w v
braces_by limit text v rest false is e = cc
braces_by limit text v rest true is e =
    let fits : prefix_len is_before_brace text < length text = ltb-true _ _ is in
    let feed : get_or text (prefix_len is_before_brace text) 0 ≡ 125 = brace_is _ (prefix_len_stops is_before_brace text 0 fits) in
    let whole : text ≡ take (prefix_len is_before_brace text) text ++ 125 ∷ drop (prefix_len is_before_brace text + 1) text =
    rw feed at (split_at_first (λ b. eqb b 125) text 0 fits) in
    set_by limit text (take (prefix_len is_before_brace text) text) (drop (prefix_len is_before_brace text + 1) text) v rest _ whole refl e

open_by : (limit b : ℕ) (text : List ℕ) (v : Value) (rest : List ℕ) (t : Bool) → eqb b 123 ≡ t →
    cond t (braces_at limit (prefix_len is_before_brace text) text) None ≡ Some (v, rest) →
    (w : List ℕ) × (b ∷ text ≡ w ++ rest) × IsValue limit base.Set w v
open_by limit b text v rest false is e = cc
open_by limit b text v rest true is e = rw (eqb-true b 123 is) (braces_by limit text v rest _ refl e)

pub set_takes : (limit : ℕ) (text : List ℕ) (v : Value) (rest : List ℕ) → set_at limit text ≡ Some (v, rest) →
    (w : List ℕ) × (text ≡ w ++ rest) × IsValue limit base.Set w v
set_takes limit [] v rest e = cc
set_takes limit (b ∷ text) v rest e = open_by limit b text v rest (eqb b 123) refl e

pub set_again : (limit : ℕ) (w rest : List ℕ) (v : Value) → IsValue limit base.Set w v → set_at limit (w ++ rest) ≡ Some (v, rest)
set_again limit w rest (number z) h = absurd h
set_again limit w rest (truth t) h = absurd h
set_again limit w rest (elements es) h =
    let at : prefix_len is_before_brace (h.0 ++ 125 ∷ rest) ≡ length h.0 =
    prefix_len-run is_before_brace h.0 (125 ∷ rest) (body_before_brace limit h.0 h.1 h.3, refl) in
    let fits : nat_lt (length h.0) (length (h.0 ++ 125 ∷ rest)) ≡ true =
    lt-ltb (length h.0) (length (h.0 ++ 125 ∷ rest)) (omega (arith, length-append h.0 (125 ∷ rest))) in
    let back : drop (length h.0 + 1) (h.0 ++ 125 ∷ rest) ≡ rest = drop-append-add h.0 (125 ∷ rest) 1 in
    rw (h.2, append_assoc, at, fits, take_at h.0 (125 ∷ rest) (length h.0) refl, body_again limit h.0 h.1 h.3, h.4)
    (ap (λ x. Some (elements (set_of h.1), x)) back)

-- truth values
starts_is : (p s : List ℕ) → starts_with nat_eq s p ≡ true → s ≡ p ++ drop (length p) s
starts_is [] s e = refl
starts_is (c ∷ p) [] e = cc
starts_is (c ∷ p) (b ∷ s) e =
    let same : c ≡ b = eqb-true c b (and_left (eqb c b) (starts_with nat_eq s p) e) in
    rw (← same) (ap (λ x. c ∷ x) (starts_is p s (and_right (eqb c b) (starts_with nat_eq s p) e)))

truth_value : (limit : ℕ) (t : Bool) (text w : List ℕ) (v : Value) (rest : List ℕ) → starts_with nat_eq text w ≡ true → IsValue limit base.Bool w (truth t) →
    ◌≡◌ {A = Read Value} (Some (truth t, drop (length w) text)) (Some (v, rest)) → (w : List ℕ) × (text ≡ w ++ rest) × IsValue limit base.Bool w v
truth_value limit t text w v rest is h e =
    let pair = some_is {A = Value × List ℕ} (truth t, drop (length w) text) (v, rest) e in
    let value : truth t ≡ v = ap (λ x. x.0) pair in
    let back : drop (length w) text ≡ rest = ap (λ x. x.1) pair in
    rw (← value, ← back) (w, starts_is w text is, h)

false_by : (limit : ℕ) (text : List ℕ) (v : Value) (rest : List ℕ) (t : Bool) → starts_with nat_eq text (codes "false") ≡ t →
    cond {A = Read Value} t (Some (truth false, drop 5 text)) None ≡ Some (v, rest) → (w : List ℕ) × (text ≡ w ++ rest) × IsValue limit base.Bool w v
false_by limit text v rest false is e = cc
false_by limit text v rest true is e = truth_value limit false text (codes "false") v rest is refl e

true_by : (limit : ℕ) (text : List ℕ) (v : Value) (rest : List ℕ) (t : Bool) → starts_with nat_eq text (codes "true") ≡ t →
    cond {A = Read Value} t (Some (truth true, drop 4 text))
    (cond {A = Read Value} (starts_with nat_eq text (codes "false")) (Some (truth false, drop 5 text)) None) ≡ Some (v, rest) →
    (w : List ℕ) × (text ≡ w ++ rest) × IsValue limit base.Bool w v
true_by limit text v rest false is e = false_by limit text v rest (starts_with nat_eq text (codes "false")) refl e
true_by limit text v rest true is e = truth_value limit true text (codes "true") v rest is refl e

pub truth_takes : (limit : ℕ) (text : List ℕ) (v : Value) (rest : List ℕ) → truth_at text ≡ Some (v, rest) →
    (w : List ℕ) × (text ≡ w ++ rest) × IsValue limit base.Bool w v
truth_takes limit text v rest e = true_by limit text v rest (starts_with nat_eq text (codes "true")) refl e

pub truth_again : (limit : ℕ) (w rest : List ℕ) (v : Value) → IsValue limit base.Bool w v → truth_at (w ++ rest) ≡ Some (v, rest)
truth_again limit w rest (number z) h = absurd h
truth_again limit w rest (elements z) h = absurd h
truth_again limit w rest (truth true) h = rw h refl
truth_again limit w rest (truth false) h = rw h refl

number_read_takes : (limit : ℕ) (text : List ℕ) (v : Value) (rest : List ℕ) (o : Read ℤ) → number_at limit text ≡ o → number_read o ≡ Some (v, rest) →
    (w : List ℕ) × (text ≡ w ++ rest) × IsValue limit base.Int w v
number_read_takes limit text v rest None is e = cc
number_read_takes limit text v rest (Some (u, more)) is e =
    let pair = some_is {A = Value × List ℕ} (number u, more) (v, rest) e in
    let value : number u ≡ v = ap (λ x. x.0) pair in
    let behind : more ≡ rest = ap (λ x. x.1) pair in
    rw (← value, ← behind) (number_takes limit text u more is)

pub value_takes : (limit : ℕ) (b : Base) (text : List ℕ) (v : Value) (rest : List ℕ) → value_at limit b text ≡ Some (v, rest) →
    (w : List ℕ) × (text ≡ w ++ rest) × IsValue limit b w v
value_takes limit base.Int text v rest e = number_read_takes limit text v rest (number_at limit text) refl e
value_takes limit base.Bool text v rest e = truth_takes limit text v rest e
value_takes limit base.Set text v rest e = set_takes limit text v rest e

pub value_again : (limit : ℕ) (b : Base) (w rest : List ℕ) (v : Value) → IsValue limit b w v → StopsAt is_digit rest →
    value_at limit b (w ++ rest) ≡ Some (v, rest)
value_again limit base.Int w rest (number z) h stops = rw (number_again limit w rest z h stops) refl
value_again limit base.Int w rest (truth t) h stops = absurd h
value_again limit base.Int w rest (elements z) h stops = absurd h
value_again limit base.Bool w rest v h stops = truth_again limit w rest v h
value_again limit base.Set w rest v h stops = set_again limit w rest v h

-- the whole line
apart_is : (bases : List Base) (rest : List ℕ) → is_apart bases rest ≡ true → IsApart bases rest
apart_is [] rest e = tt
apart_is (b ∷ bases) [] e = cc
apart_is (b ∷ bases) (c ∷ rest) e = e

apart_again : (bases : List Base) (rest : List ℕ) → IsApart bases rest → is_apart bases rest ≡ true
apart_again [] rest e = refl
apart_again (b ∷ bases) [] e = absurd e
apart_again (b ∷ bases) (c ∷ rest) e = e

apart_stops : (limit : ℕ) (bases : List Base) (rest : List ℕ) (vs : List Value) → IsApart bases rest → Spells limit bases rest vs → StopsAt is_digit rest
apart_stops limit bases [] vs a r = tt
apart_stops limit [] (c ∷ rest) [] a r = digit_white c r.0
apart_stops limit [] (c ∷ rest) (v ∷ vs) a r = absurd r
apart_stops limit (b ∷ bases) (c ∷ rest) vs a r = digit_white c a

not_white : (limit : ℕ) (b : Base) (w rest : List ℕ) (v : Value) → IsValue limit b w v → StopsAt is_space (w ++ rest)
not_white limit base.Int [] rest (number z) h = absurd h
not_white limit base.Int (b ∷ w) rest (number z) (inl h) = rw h.0 refl
not_white limit base.Int (b ∷ w) rest (number z) (inr h) = digit_not_white b h.0.digits.0
not_white limit base.Int w rest (truth t) h = absurd h
not_white limit base.Int w rest (elements t) h = absurd h
not_white limit base.Bool w rest (truth true) h = rw h refl
not_white limit base.Bool w rest (truth false) h = rw h refl
not_white limit base.Bool w rest (number t) h = absurd h
not_white limit base.Bool w rest (elements t) h = absurd h
not_white limit base.Set w rest (elements zs) h = rw h.2 refl
not_white limit base.Set w rest (number t) h = absurd h
not_white limit base.Set w rest (truth t) h = absurd h

pub Spells-again : (limit : ℕ) (bases : List Base) (line : List ℕ) (vs done : List Value) → Spells limit bases line vs →
    values_from limit bases line done ≡ Some (done ++ vs)
Spells-again limit [] line [] done r = rw (all_white line r, append-nil) refl
Spells-again limit [] line (v ∷ vs) done r = absurd r
Spells-again limit (b ∷ bases) line [] done r = absurd r
Spells-again limit (b ∷ bases) line (v ∷ vs) done r =
    let stops = apart_stops limit bases r.2 vs r.6 r.7 in
    rw (r.3, skip_white r.0 (r.1 ++ r.2) r.4 (not_white limit b r.1 r.2 v r.5), value_again limit b r.1 r.2 v r.5 stops, apart_again bases r.2 r.6)
    (Spells-again limit bases r.2 vs (done ++ v ∷ []) r.7 ∙ rw append_assoc refl)

end_by : (limit : ℕ) (line : List ℕ) (done all : List Value) (v : Bool) → list_all is_space line ≡ v → cond v (Some done) None ≡ Some all →
    (vs : List Value) × (all ≡ done ++ vs) × Spells limit [] line vs
end_by limit line done all false is e = cc
end_by limit line done all true is e = ([], sym (some_is done all e) ∙ sym (append-nil done), white_all line is)

more_by : (limit : ℕ) (b : Base) (bases : List Base) (line more : List ℕ) (done all : List Value) (v : Value) (t : Bool) → is_apart bases more ≡ t →
    value_at limit b (after_spaces line) ≡ Some (v, more) →
    ((new : List Value) → values_from limit bases more new ≡ Some all → (vs : List Value) × (all ≡ new ++ vs) × Spells limit bases more vs) →
    cond t (values_from limit bases more (done ++ v ∷ [])) None ≡ Some all → (vs : List Value) × (all ≡ done ++ vs) × Spells limit (b ∷ bases) line vs
more_by limit b bases line more done all v false is read next e = cc
more_by limit b bases line more done all v true is read next e =
    let r = next (done ++ v ∷ []) e in
    let t = value_takes limit b (after_spaces line) v more read in
    let whole : line ≡ take (prefix_len is_space line) line ++ (t.0 ++ more) =
    sym (take-append-drop (prefix_len is_space line) line) ∙ ap (λ x. take (prefix_len is_space line) line ++ x) t.1 in (
      v ∷ r.0,
      r.1 ∙ append_assoc done (v ∷ []) r.0,
      (take (prefix_len is_space line) line, t.0, more, whole, (run_of is_space line).0, t.2, apart_is bases more is, r.2),
    )

value_by : (limit : ℕ) (b : Base) (bases : List Base) (line : List ℕ) (done all : List Value) (o : Read Value) → value_at limit b (after_spaces line) ≡ o →
    ((more : List ℕ) (new : List Value) → values_from limit bases more new ≡ Some all → (vs : List Value) × (all ≡ new ++ vs) × Spells limit bases more vs) →
    with_value (values_from limit bases) bases done o ≡ Some all → (vs : List Value) × (all ≡ done ++ vs) × Spells limit (b ∷ bases) line vs
value_by limit b bases line done all None is next e = cc
value_by limit b bases line done all (Some (v, more)) is next e = more_by limit b bases line more done all v (is_apart bases more) refl is (next more) e

pub Spells-takes : (limit : ℕ) (bases : List Base) (line : List ℕ) (done all : List Value) → values_from limit bases line done ≡ Some all →
    (vs : List Value) × (all ≡ done ++ vs) × Spells limit bases line vs
Spells-takes limit [] line done all e = end_by limit line done all (list_all is_space line) refl e
Spells-takes limit (b ∷ bases) line done all e =
    value_by limit b bases line done all (value_at limit b (after_spaces line)) refl (λ more new. Spells-takes limit bases more new all) e

-- what a reader of lines tells, both ways
reads_found : (limit : ℕ) (bases : List Base) (line : List ℕ) (vs : List Value) → values_from limit bases (without_return line) [] ≡ Some vs →
    SpellsValues limit bases line vs
reads_found limit bases line vs e = let r = Spells-takes limit bases (without_return line) [] vs e in rw r.1 r.2

reads_only : (limit : ℕ) (bases : List Base) (line : List ℕ) (vs : List Value) → SpellsValues limit bases line vs →
    values_from limit bases (without_return line) [] ≡ Some vs
reads_only limit bases line vs r = Spells-again limit bases (without_return line) vs [] r

pub tells_from : (limit : ℕ) (bases : List Base) (line : List ℕ) (r : Result (Vec RunValue Global) LineFault) →
    ReadAnswer (λ v. plains v.items) r (values_from limit bases (without_return line) []) → LineAnswer limit bases line r
tells_from limit bases line (Ok v) e =
    (reads_found limit bases line (plains v.items) e, λ vs r. some_is {A = List Value} vs (plains v.items) (sym (reads_only limit bases line vs r) ∙ e))
tells_from limit bases line (Err fault.BadInput) e = λ vs r. let some = reads_only limit bases line vs r in cc
tells_from limit bases line (Err fault.NoMemory) e = tt

-- what is spelled has its base
value-base : (limit : ℕ) (b : Base) (w : List ℕ) (v : Value) → IsValue limit b w v → HasBase b v
value-base limit base.Int w (number z) h = (z, refl)
value-base limit base.Int w (truth t) h = absurd h
value-base limit base.Int w (elements es) h = absurd h
value-base limit base.Bool w (number z) h = absurd h
value-base limit base.Bool w (truth t) h = (t, refl)
value-base limit base.Bool w (elements es) h = absurd h
value-base limit base.Set w (number z) h = absurd h
value-base limit base.Set w (truth t) h = absurd h
value-base limit base.Set w (elements es) h = (es, refl, rw h.4 (rising_set_of h.1))

spelled-bases : (limit : ℕ) (bases : List Base) (text : List ℕ) (vs : List Value) → Spells limit bases text vs → HaveBases bases vs
spelled-bases limit [] text [] h = tt
spelled-bases limit [] text (v ∷ vs) h = absurd h
spelled-bases limit (b ∷ bases) text [] h = absurd h
spelled-bases limit (b ∷ bases) text (v ∷ vs) h = (value-base limit b h.1 v h.5, spelled-bases limit bases h.2 vs h.7)

pub told-bases : (limit : ℕ) (bases : List Base) (line : List ℕ) (r : Result (Vec RunValue Global) LineFault) → LineAnswer limit bases line r →
    IfOk r (λ v. HaveBases bases (plains v.items))
told-bases limit bases line (Ok v) h = spelled-bases limit bases (without_return line) (plains v.items) h.0
told-bases limit bases line (Err e) h = tt
