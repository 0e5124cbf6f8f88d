-- Numbers between commas: what is read is spelled so, and what is spelled so is read.
use Rattle.std.proofs.Common.{◌≡◌, ◌⊎◌, inl, inr, ℕ, ℤ, ◌+◌, ◌<◌, ◌≤◌, Bool, true, false, cond, List, [], ◌∷◌, ◌++◌, length, take, drop, refl, ap, sym, subst, ◌∙◌, arith, eqb, Option, Some, None, get_or, ◌&&◌, append_assoc, append-nil}
use Rattle.std.specs.List.{prefix_len, list_all}
use Rattle.std.proofs.lemmas.List.{take-append-drop, take_all, take_at, drop_at, length-append}
use Rattle.std.proofs.lemmas.Bool.{cases_lt, false_from_ne_true}
use Rattle.std.proofs.lemmas.List.Sums.{prefix_len_stops, split_at_first}
use Rattle.std.proofs.Math.Seq.{drop-append-add}
use Rattle.std.proofs.lemmas.Bool.Decides.{nat_tests}
use Rattle.cf_lex.specs.Bytes.{is_digit}
use Rattle.cf_lex.specs.Runs.{AllAre, StopsAt}
use Rattle.cf_lex.proofs.RunLemmas.{run_of, prefix_len-run}
use Rattle.cf_eval.specs.Spelling.{is_space, IsNumber, IsItem, AreItems, IsBody}
use Rattle.cf_eval.specs.Reading.{Read, is_before_comma, is_before_brace, after_spaces, number_at, body_at, items_from, item_at, item_rest, added, with_item}
use Rattle.cf_eval.proofs.NumberLemmas.{some_is, number_takes, number_again}
use Rattle.cf_eval.proofs.ReadLemmas.{commas, commas_more, commas_last, commas_front}

white_by : (b : ℕ) (s : List ℕ) (v : Bool) → is_space b ≡ v → (list_all is_space s ≡ true → AllAre is_space s) → (v && list_all is_space s) ≡ true →
    AllAre is_space (b ∷ s)
white_by b s true w next e = (w, next e)
white_by b s false w next e = cc

pub white_all : (s : List ℕ) → list_all is_space s ≡ true → AllAre is_space s
white_all [] e = tt
white_all (b ∷ s) e = white_by b s (is_space b) refl (white_all s) e

pub all_white : (s : List ℕ) → AllAre is_space s → list_all is_space s ≡ true
all_white [] h = refl
all_white (b ∷ s) h = rw h.0 (all_white s h.1)

pub digit_white : (c : ℕ) → is_space c ≡ true → is_digit c ≡ false
digit_white c e = grind (arith, nat_tests)

pub digit_not_white : (c : ℕ) → is_digit c ≡ true → is_space c ≡ false
digit_not_white c e = grind (arith, nat_tests)

-- items
pub skip_white : (a t : List ℕ) → AllAre is_space a → StopsAt is_space t → after_spaces (a ++ t) ≡ t
skip_white a t all stops = rw (prefix_len-run is_space a t (all, stops)) (drop_at a t (length a) refl)

number_not_white : (limit : ℕ) (w rest : List ℕ) (z : ℤ) → IsNumber limit w z → StopsAt is_space (w ++ rest)
number_not_white limit [] rest z h = absurd h
number_not_white limit (b ∷ w) rest z (inl h) = rw h.0 refl
number_not_white limit (b ∷ w) rest z (inr h) = digit_not_white b h.0.digits.0

white_stops : (s : List ℕ) → AllAre is_space s → StopsAt is_digit s
white_stops [] h = tt
white_stops (c ∷ s) h = digit_white c h.0

item_white : (limit : ℕ) (part : List ℕ) (z u : ℤ) (rest : List ℕ) (v : Bool) → list_all is_space rest ≡ v →
    (w : List ℕ) × (after_spaces part ≡ w ++ rest) × IsNumber limit w u → cond v (Some u) None ≡ Some z → IsItem limit part z
item_white limit part z u rest false is t e = cc
item_white limit part z u rest true is t e =
    record {
      before = take (prefix_len is_space part) part;
      number = t.0;
      behind = rest;
      whole = sym (take-append-drop (prefix_len is_space part) part) ∙ ap (λ x. take (prefix_len is_space part) part ++ x) t.1;
      white_before = (run_of is_space part).0;
      is = subst (IsNumber limit t.0) (some_is u z e) t.2;
      white_behind = white_all rest is;
    }

item_by : (limit : ℕ) (part : List ℕ) (z : ℤ) (o : Read ℤ) → number_at limit (after_spaces part) ≡ o → item_rest o ≡ Some z → IsItem limit part z
item_by limit part z None is e = cc
item_by limit part z (Some (u, rest)) is e = item_white limit part z u rest (list_all is_space rest) refl (number_takes limit (after_spaces part) u rest is) e

item_again : (limit : ℕ) (part : List ℕ) (z : ℤ) → IsItem limit part z → item_at limit part ≡ Some z
item_again limit part z h =
    rw (
      h.whole,
      skip_white h.before (h.number ++ h.behind) h.white_before (number_not_white limit h.number h.behind z h.is),
      number_again limit h.number h.behind z h.is (white_stops h.behind h.white_behind),
      all_white h.behind h.white_behind,
    ) refl

-- one number for each part
abbrev AreParts : ℕ → List (List ℕ) → List ℤ → Type 0
AreParts limit [] [] = Unit {0}
AreParts limit [] (z ∷ zs) = ⊥
AreParts limit (part ∷ parts) [] = ⊥
AreParts limit (part ∷ parts) (z ∷ zs) = IsItem limit part z × AreParts limit parts zs

parts_again : (limit : ℕ) (parts : List (List ℕ)) (zs done : List ℤ) → AreParts limit parts zs → items_from limit parts done ≡ Some (done ++ zs)
parts_again limit [] [] done h = rw append-nil refl
parts_again limit [] (z ∷ zs) done h = absurd h
parts_again limit (part ∷ parts) [] done h = absurd h
parts_again limit (part ∷ parts) (z ∷ zs) done h = rw (item_again limit part z h.0) (parts_again limit parts zs (done ++ z ∷ []) h.1 ∙ rw append_assoc refl)

parts_by : (limit : ℕ) (part : List ℕ) (parts : List (List ℕ)) (done all : List ℤ) (o : Option ℤ) → item_at limit part ≡ o →
    ((new : List ℤ) → items_from limit parts new ≡ Some all → (zs : List ℤ) × (all ≡ new ++ zs) × AreParts limit parts zs) →
    with_item (items_from limit parts) (added done o) ≡ Some all → (zs : List ℤ) × (all ≡ done ++ zs) × AreParts limit (part ∷ parts) zs
parts_by limit part parts done all None is next e = cc
parts_by limit part parts done all (Some z) is next e =
    let r = next (done ++ z ∷ []) e in
    (z ∷ r.0, r.1 ∙ append_assoc done (z ∷ []) r.0, (item_by limit part z (number_at limit (after_spaces part)) refl is, r.2))

parts_takes : (limit : ℕ) (parts : List (List ℕ)) (done all : List ℤ) → items_from limit parts done ≡ Some all →
    (zs : List ℤ) × (all ≡ done ++ zs) × AreParts limit parts zs
parts_takes limit [] done all e = ([], sym (some_is done all e) ∙ sym (append-nil done), tt)
parts_takes limit (part ∷ parts) done all e = parts_by limit part parts done all (item_at limit part) refl (λ new. parts_takes limit parts new all) e

-- all bytes of one list and another
all_join : (p : ℕ → Bool) (a b : List ℕ) → AllAre p a → AllAre p b → AllAre p (a ++ b)
all_join p [] b h g = g
all_join p (c ∷ a) b h g = (h.0, all_join p a b h.1 g)

all_left : (p : ℕ → Bool) (a b : List ℕ) → AllAre p (a ++ b) → AllAre p a
all_left p [] b h = tt
all_left p (c ∷ a) b h = (h.0, all_left p a b h.1)

all_right : (p : ℕ → Bool) (a b : List ℕ) → AllAre p (a ++ b) → AllAre p b
all_right p [] b h = h
all_right p (c ∷ a) b h = all_right p a b h.1

all_weaken : (p q : ℕ → Bool) → ((b : ℕ) → p b ≡ true → q b ≡ true) → (w : List ℕ) → AllAre p w → AllAre q w
all_weaken p q f [] h = tt
all_weaken p q f (b ∷ w) h = (f b h.0, all_weaken p q f w h.1)

-- a byte that numbers and spaces may have
pub record Passes (q : ℕ → Bool) : Type 0 where
  pub digit : (b : ℕ) → is_digit b ≡ true → q b ≡ true
  pub space : (b : ℕ) → is_space b ≡ true → q b ≡ true
  pub minus : q 45 ≡ true

number_all : (q : ℕ → Bool) → Passes q → (limit : ℕ) (w : List ℕ) (z : ℤ) → IsNumber limit w z → AllAre q w
number_all q f limit [] z h = tt
number_all q f limit (b ∷ w) z (inl h) = (ap q h.0 ∙ f.minus, all_weaken is_digit q f.digit w h.1.digits)
number_all q f limit (b ∷ w) z (inr h) = all_weaken is_digit q f.digit (b ∷ w) h.0.digits

item_all : (q : ℕ → Bool) → Passes q → (limit : ℕ) (part : List ℕ) (z : ℤ) → IsItem limit part z → AllAre q part
item_all q f limit part z h =
    rw h.whole (all_join q h.before (h.number ++ h.behind) (all_weaken is_space q f.space h.before h.white_before)
    (all_join q h.number h.behind (number_all q f limit h.number z h.is) (all_weaken is_space q f.space h.behind h.white_behind)))

before_comma : Passes is_before_comma
before_comma = record { digit = λ b e. grind (arith, nat_tests); space = λ b e. grind (arith, nat_tests); minus = refl }

before_brace : Passes is_before_brace
before_brace = record { digit = λ b e. grind (arith, nat_tests); space = λ b e. grind (arith, nat_tests); minus = refl }

items_before_brace : (limit : ℕ) (text : List ℕ) (zs : List ℤ) → AreItems limit text zs → AllAre is_before_brace text
items_before_brace limit text [] h = absurd h
items_before_brace limit text (z ∷ []) h = item_all is_before_brace before_brace limit text z h
items_before_brace limit text (z ∷ y ∷ zs) h =
    rw h.2 (all_join is_before_brace h.0 (44 ∷ h.1) (item_all is_before_brace before_brace limit h.0 z h.3) (refl, items_before_brace limit h.1 (y ∷ zs) h.4))

space_before_brace : (w : List ℕ) → AllAre is_space w → AllAre is_before_brace w
space_before_brace w h = all_weaken is_space is_before_brace before_brace.space w h

pub body_before_brace : (limit : ℕ) (body : List ℕ) (zs : List ℤ) → IsBody limit body zs → AllAre is_before_brace body
body_before_brace limit body zs (inl h) = space_before_brace body h.0
body_before_brace limit body zs (inr h) = items_before_brace limit body zs h

-- a number is no space
number_shows : (limit : ℕ) (w : List ℕ) (z : ℤ) → IsNumber limit w z → AllAre is_space w → ⊥
number_shows limit [] z h all = h
number_shows limit (b ∷ w) z (inl h) all = let e : is_space 45 ≡ true = subst (λ x. is_space x ≡ true) h.0 all.0 in cc
number_shows limit (b ∷ w) z (inr h) all = let e = digit_not_white b h.0.digits.0 in let f : is_space b ≡ true = all.0 in cc

item_shows : (limit : ℕ) (part : List ℕ) (z : ℤ) → IsItem limit part z → AllAre is_space part → ⊥
item_shows limit part z h all =
    let w = subst (AllAre is_space) h.whole all in
    number_shows limit h.number z h.is (all_left is_space h.number h.behind (all_right is_space h.before (h.number ++ h.behind) w))

items_show : (limit : ℕ) (text : List ℕ) (zs : List ℤ) → AreItems limit text zs → AllAre is_space text → ⊥
items_show limit text [] h all = h
items_show limit text (z ∷ []) h all = item_shows limit text z h all
items_show limit text (z ∷ y ∷ zs) h all = item_shows limit h.0 z h.3 (all_left is_space h.0 (44 ∷ h.1) (subst (AllAre is_space) h.2 all))

-- the parts between commas, and items with commas between them
comma_len : (limit : ℕ) (part rest : List ℕ) (z : ℤ) → IsItem limit part z → prefix_len is_before_comma (part ++ 44 ∷ rest) ≡ length part
comma_len limit part rest z h = prefix_len-run is_before_comma part (44 ∷ rest) (item_all is_before_comma before_comma limit part z h, refl)

comma_parts : (limit : ℕ) (part rest : List ℕ) (z : ℤ) → IsItem limit part z → commas (part ++ 44 ∷ rest) ≡ part ∷ commas rest
comma_parts limit part rest z h =
    let more = commas_more (part ++ 44 ∷ rest) (length part) (sym (comma_len limit part rest z h)) (omega (arith, length-append part (44 ∷ rest))) in
    let back : drop (length part + 1) (part ++ 44 ∷ rest) ≡ rest = drop-append-add part (44 ∷ rest) 1 in
    more ∙ rw (take_at part (44 ∷ rest) (length part) refl, back) refl

last_part : (limit : ℕ) (part : List ℕ) (z : ℤ) → IsItem limit part z → commas part ≡ part ∷ []
last_part limit part z h =
    let len : prefix_len is_before_comma (part ++ []) ≡ length part =
    prefix_len-run is_before_comma part [] (item_all is_before_comma before_comma limit part z h, tt) in
    let same : prefix_len is_before_comma part ≡ length part = rw append-nil at len in
    commas_last part (length part) (sym same) (omega arith) ∙ rw (take_all (length part) part (omega arith)) refl

parts_of : (limit : ℕ) (text : List ℕ) (zs : List ℤ) → AreItems limit text zs → AreParts limit (commas text) zs
parts_of limit text [] h = absurd h
parts_of limit text (z ∷ []) h = rw (last_part limit text z h) (h, tt)
parts_of limit text (z ∷ y ∷ zs) h = rw (h.2, comma_parts limit h.0 h.1 z h.3) (h.3, parts_of limit h.1 (y ∷ zs) h.4)

no_parts : (limit : ℕ) (text : List ℕ) → AreParts limit (commas text) [] → ⊥
no_parts limit text h =
    let f = commas_front text (prefix_len is_before_comma text) refl (cases_lt (prefix_len is_before_comma text) (length text)) in
    rw f.1 at h

comma_is : (b : ℕ) → is_before_comma b ≡ false → b ≡ 44
comma_is b e = grind (arith, nat_tests)

comma_split : (text : List ℕ) → prefix_len is_before_comma text < length text →
    text ≡ take (prefix_len is_before_comma text) text ++ 44 ∷ drop (prefix_len is_before_comma text + 1) text
comma_split text fits =
    let feed : get_or text (prefix_len is_before_comma text) 0 ≡ 44 = comma_is _ (prefix_len_stops is_before_comma text 0 fits) in
    rw feed at (split_at_first (λ b. eqb b 44) text 0 fits)

items_of : (limit : ℕ) (text : List ℕ) (zs : List ℤ) → AreParts limit (commas text) zs → AreItems limit text zs
items_of limit text [] h = absurd (no_parts limit text h)
items_of limit text (z ∷ zs) h = by zs (cases_lt (prefix_len is_before_comma text) (length text)) h (λ t. items_of limit t zs)
  where
    by : (ys : List ℤ) → (prefix_len is_before_comma text < length text) ⊎ (length text ≤ prefix_len is_before_comma text) →
        AreParts limit (commas text) (z ∷ ys) →
        ((t : List ℕ) → AreParts limit (commas t) ys → AreItems limit t ys) → AreItems limit text (z ∷ ys)
    by [] (inl fits) g next =
        let p = rw (commas_more text (prefix_len is_before_comma text) refl fits) at g in
        absurd (no_parts limit (drop (prefix_len is_before_comma text + 1) text) p.1)
    by (y ∷ ys) (inl fits) g next =
        let p = rw (commas_more text (prefix_len is_before_comma text) refl fits) at g in
        (take (prefix_len is_before_comma text) text, drop (prefix_len is_before_comma text + 1) text, comma_split text fits, p.0, next _ p.1)
    by [] (inr many) g next =
        let p = rw (commas_last text (prefix_len is_before_comma text) refl many, take_all (prefix_len is_before_comma text) text many) at g in
        p.0
    by (y ∷ ys) (inr many) g next =
        let p = rw (commas_last text (prefix_len is_before_comma text) refl many) at g in
        absurd p.1

-- what stands between braces
pub body_again : (limit : ℕ) (body : List ℕ) (zs : List ℤ) → IsBody limit body zs → body_at limit body ≡ Some zs
body_again limit body zs (inl h) = rw (all_white body h.0, h.1) refl
body_again limit body zs (inr h) =
    rw (false_from_ne_true (list_all is_space body) (λ e. items_show limit body zs h (white_all body e)))
    (parts_again limit (commas body) zs [] (parts_of limit body zs h))

body_by : (limit : ℕ) (body : List ℕ) (zs : List ℤ) (v : Bool) → list_all is_space body ≡ v → cond v (Some []) (items_from limit (commas body) []) ≡ Some zs →
    IsBody limit body zs
body_by limit body zs true is e = inl (white_all body is, sym (some_is [] zs e))
body_by limit body zs false is e =
    let r = parts_takes limit (commas body) [] zs e in
    inr (items_of limit body zs (subst (AreParts limit (commas body)) (sym r.1) r.2))

pub body_takes : (limit : ℕ) (body : List ℕ) (zs : List ℤ) → body_at limit body ≡ Some zs → IsBody limit body zs
body_takes limit body zs e = body_by limit body zs (list_all is_space body) refl e
