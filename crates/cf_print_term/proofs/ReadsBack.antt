-- The reader finds each term again in its tokens.
use Rattle.std.proofs.Common.{◌≡◌, ℕ, suc, ◌≤◌, nat_le, nat_eq, Bool, true, false, ◌||◌, ◌&&◌, List, [], ◌∷◌, ◌++◌, codes, refl, ap, ◌∙◌, arith, append_assoc, append-nil, if◌then◌else◌}
use Rattle.std.proofs.lemmas.Bool.Decides.{nat_tests}
use Rattle.cf_print_term.specs.Terms.{Term, Terms, word, before, between, call, choice, no_terms, term_more, text, listed, more_listed, enclosed, level, is_tight, is_left_of, asked}
use Rattle.cf_print_term.specs.Reading.{Token, sign_between, closed, first_of, second_of, spelled, enclosed_tokens, tokens, list_tokens, more_tokens, Waiting, before_waits, between_waits, opened_waits, call_waits, first_waits, second_waits, State, behind, at_part, stuck, taken_in, settled, sign_behind, close, next_argument, in_order, end_call, first_behind, second_behind, empty_call, run, TextReadsBack}
use Rattle.cf_print_term.specs.Marks.{mark_text}
use Rattle.cf_print_term.specs.declared.table.Sign.{Sign}
use Rattle.cf_print_term.specs.declared.table.Call.{Call}
use Rattle.cf_print_term.specs.declared.table.Choice.{Choice}

-- ---- numbers

is_le : (l k : ℕ) → l ≤ k → nat_le l k ≡ true
is_le l k h = let test : nat_le l k ≡ true = grind (arith, nat_tests) in test

is_gt : (l k : ℕ) → suc k ≤ l → nat_le l k ≡ false
is_gt l k h = let test : nat_le l k ≡ false = grind (arith, nat_tests) in test

le_of : (l k : ℕ) → nat_le l k ≡ true → l ≤ k
le_of l k h = grind (arith, nat_tests)

eq_of : (l k : ℕ) → nat_eq l k ≡ true → l ≤ k
eq_of l k h = grind (arith, nat_tests)

-- ---- what takes the term in, and what holds it

takes_before : (l : ℕ) (s : Sign) (t : Term) (ws : List Waiting) → l ≤ suc s.level → taken_in l t (before_waits s ∷ ws) ≡ taken_in l (before s t) ws
takes_before l s t ws h =
    ap (λ b. if b then taken_in l (before s t) ws else behind t (before_waits s ∷ ws)) (is_le l (suc s.level) h)

takes_between : (l : ℕ) (s : Sign) (a t : Term) (ws : List Waiting) → l ≤ suc s.level →
    taken_in l t (between_waits s a ∷ ws) ≡ taken_in l (between s a t) ws
takes_between l s a t ws h =
    ap (λ b. if b then taken_in l (between s a t) ws else behind t (between_waits s a ∷ ws)) (is_le l (suc s.level) h)

takes_choice : (l : ℕ) (k : Choice) (a b t : Term) (ws : List Waiting) → l ≤ 0 →
    taken_in l t (second_waits k a b ∷ ws) ≡ taken_in l (choice k a b t) ws
takes_choice l k a b t ws h =
    ap (λ c. if c then taken_in l (choice k a b t) ws else behind t (second_waits k a b ∷ ws)) (is_le l 0 h)

-- the level from which on what waits takes nothing in
abbrev bound : List Waiting → ℕ
bound [] = 0
bound (before_waits s ∷ ws) = suc (suc s.level)
bound (between_waits s a ∷ ws) = suc (suc s.level)
bound (second_waits k a b ∷ ws) = 1
bound (opened_waits ∷ ws) = 0
bound (call_waits c ts ∷ ws) = 0
bound (first_waits k a ∷ ws) = 0

holds : (l : ℕ) (t : Term) (ws : List Waiting) → bound ws ≤ l → taken_in l t ws ≡ behind t ws
holds l t [] h = refl
holds l t (before_waits s ∷ ws) h =
    ap (λ b. if b then taken_in l (before s t) ws else behind t (before_waits s ∷ ws)) (is_gt l (suc s.level) h)
holds l t (between_waits s a ∷ ws) h =
    ap (λ b. if b then taken_in l (between s a t) ws else behind t (between_waits s a ∷ ws)) (is_gt l (suc s.level) h)
holds l t (second_waits k a b ∷ ws) h =
    ap (λ c. if c then taken_in l (choice k a b t) ws else behind t (second_waits k a b ∷ ws)) (is_gt l 0 h)
holds l t (opened_waits ∷ ws) h = refl
holds l t (call_waits c ts ∷ ws) h = refl
holds l t (first_waits k a ∷ ws) h = refl

-- ---- parts

-- the tokens of a part are read to a state that is the part behind what waits, for all that binds no tighter than n
record IsPart (n : ℕ) (part : List Token → List Token) (a : Term) (ws : List Waiting) : Type 0 where
  state : State
  runs : (rest : List Token) → run (part rest) (at_part ws) ≡ run rest state
  settles : (l : ℕ) → l ≤ n → settled l state ≡ taken_in l a ws

abbrev Reads : Term → Type 0
Reads a = (ws : List Waiting) → bound ws ≤ level a → IsPart (level a) (tokens a) a ws

record Fits (n : ℕ) (a : Term) (ws : List Waiting) : Type 0 where
  held : bound ws ≤ level a
  loose : n ≤ level a

part_read : (b : Bool) (n : ℕ) (a : Term) (ws : List Waiting) → (b ≡ true → Fits n a ws) → Reads a → IsPart n (enclosed_tokens b (tokens a)) a ws
part_read true n a ws f reads =
    let fits = f refl in
    let r = reads ws fits.held in
    record { state = r.state; runs = r.runs; settles = λ l h. let g = fits.loose in r.settles l (omega (arith, h, g)) }
part_read false n a ws f reads =
    let r = reads (opened_waits ∷ ws) (omega arith) in
    record {
      state = behind a ws;
      runs = λ rest. r.runs (closed ∷ rest) ∙ ap (λ s. run rest (close s)) (r.settles 0 (omega arith));
      settles = λ l h. refl;
    }

-- a part that stands where so much is asked
tight : (least n : ℕ) (a : Term) (ws : List Waiting) → suc n ≤ least → bound ws ≤ suc n → is_tight least a ≡ true → Fits n a ws
tight least n a ws h g e = let f = le_of least (level a) e in record { held = omega (arith, h, g, f); loose = omega (arith, h, f) }

left_by : (b c d : Bool) (s : Sign) (a : Term) → is_tight (asked s) a ≡ b → nat_eq (suc s.level) (level a) ≡ d → (b || (c && d)) ≡ true →
    suc s.level ≤ level a
left_by true c d s a e f g = let h = le_of (asked s) (level a) e in omega (arith, h)
left_by false true true s a e f g = eq_of (suc s.level) (level a) f
left_by false true false s a e f g = cc g
left_by false false d s a e f g = cc g

left : (s : Sign) (a : Term) (ws : List Waiting) → bound ws ≤ suc s.level → is_left_of s a ≡ true → Fits (suc s.level) a ws
left s a ws h e =
    let f = left_by (is_tight (asked s) a) s.chains (nat_eq (suc s.level) (level a)) s a refl refl e in
    record { held = omega (arith, h, f); loose = f }

before_read : (s : Sign) (a : Term) (ws : List Waiting) → Reads a → IsPart (suc s.level) (tokens (before s a)) (before s a) ws
before_read s a ws reads =
    let r = part_read (is_tight (asked s) a) (suc s.level) a (before_waits s ∷ ws)
    (λ e. tight (asked s) (suc s.level) a (before_waits s ∷ ws) (omega arith) (omega arith) e) reads in
    record { state = r.state; runs = r.runs; settles = λ l g. r.settles l g ∙ takes_before l s a ws g }

between_read : (s : Sign) (a b : Term) (ws : List Waiting) → bound ws ≤ suc s.level → Reads a → Reads b →
    IsPart (suc s.level) (tokens (between s a b)) (between s a b) ws
between_read s a b ws h left_reads right_reads =
    let x = part_read (is_left_of s a) (suc s.level) a ws (λ e. left s a ws h e) left_reads in
    let y = part_read (is_tight (asked s) b) (suc s.level) b (between_waits s a ∷ ws)
    (λ e. tight (asked s) (suc s.level) b (between_waits s a ∷ ws) (omega arith) (omega arith) e) right_reads in
    record {
      state = y.state;
      runs = λ rest.
          x.runs (sign_between s ∷ enclosed_tokens (is_tight (asked s) b) (tokens b) rest) ∙
          ap (λ t. run (enclosed_tokens (is_tight (asked s) b) (tokens b) rest) (sign_behind s t))
          (x.settles (suc s.level) (omega arith) ∙ holds (suc s.level) a ws h) ∙ y.runs rest;
      settles = λ l g. y.settles l g ∙ takes_between l s a b ws g;
    }

choice_read : (k : Choice) (a b c : Term) (ws : List Waiting) → bound ws ≤ 0 → Reads a → Reads b → Reads c →
    IsPart 0 (tokens (choice k a b c)) (choice k a b c) ws
choice_read k a b c ws h first second third =
    let x = part_read (is_tight 1 a) 0 a ws (λ e. tight 1 0 a ws (omega arith) (omega (arith, h)) e) first in
    let y = part_read (is_tight 1 b) 0 b (first_waits k a ∷ ws) (λ e. tight 1 0 b (first_waits k a ∷ ws) (omega arith) (omega arith) e) second in
    let z = part_read (is_tight 1 c) 0 c (second_waits k a b ∷ ws) (λ e. tight 1 0 c (second_waits k a b ∷ ws) (omega arith) (omega arith) e) third in
    let last : List Token → List Token = λ rest. enclosed_tokens (is_tight 1 c) (tokens c) rest in
    let middle : List Token → List Token = λ rest. enclosed_tokens (is_tight 1 b) (tokens b) (second_of k ∷ last rest) in
    record {
      state = z.state;
      runs = λ rest.
          x.runs (first_of k ∷ middle rest) ∙ ap (λ t. run (middle rest) (first_behind k t)) (x.settles 0 (omega arith) ∙ holds 0 a ws h) ∙
          y.runs (second_of k ∷ last rest) ∙ ap (λ t. run (last rest) (second_behind t)) (y.settles 0 (omega arith)) ∙
          z.runs rest;
      settles = λ l g. z.settles l g ∙ takes_choice l k a b c ws g;
    }

-- a call whose arguments so far are read, the last of them settled
closes : (c : Call) (t : Term) (back : List Term) (ws : List Waiting) (s : State) → settled 0 s ≡ behind t (call_waits c back ∷ ws) →
    empty_call s ≡ behind (call c (in_order (t ∷ back) no_terms)) ws
closes c t back ws (behind u us) e = ap end_call e
closes c t back ws (at_part us) e = cc e
closes c t back ws stuck e = cc e

call_part : (c : Call) (ts : Terms) (ws : List Waiting) (n : ℕ) →
    ((rest : List Token) → run (list_tokens c ts rest) (at_part (call_waits c [] ∷ ws)) ≡ run rest (behind (call c ts) ws)) →
    IsPart n (tokens (call c ts)) (call c ts) ws
call_part c ts ws n runs = record { state = behind (call c ts) ws; runs = runs; settles = λ l g. refl }

mutual
  reads_term : (t : Term) (ws : List Waiting) → bound ws ≤ level t → IsPart (level t) (tokens t) t ws
  reads_term (word w) ws h = record { state = behind (word w) ws; runs = λ rest. refl; settles = λ l g. refl }
  reads_term (before s a) ws h = before_read s a ws (λ us g. reads_term a us g)
  reads_term (between s a b) ws h = between_read s a b ws h (λ us g. reads_term a us g) (λ us g. reads_term b us g)
  reads_term (call c ts) ws h = call_part c ts ws (level (call c ts)) (λ rest. reads_list ts c ws rest)
  reads_term (choice k a b c) ws h =
      choice_read k a b c ws h (λ us g. reads_term a us g) (λ us g. reads_term b us g) (λ us g. reads_term c us g)

  reads_list : (ts : Terms) (c : Call) (ws : List Waiting) (rest : List Token) →
      run (list_tokens c ts rest) (at_part (call_waits c [] ∷ ws)) ≡ run rest (behind (call c ts) ws)
  reads_list no_terms c ws rest = refl
  reads_list (term_more t ts) c ws rest =
      let r = reads_term t (call_waits c [] ∷ ws) (omega arith) in
      r.runs (more_tokens c ts rest) ∙ reads_more ts c t [] ws r.state (r.settles 0 (omega arith)) rest

  reads_more : (ts : Terms) (c : Call) (t : Term) (back : List Term) (ws : List Waiting) (s : State) →
      settled 0 s ≡ behind t (call_waits c back ∷ ws) → (rest : List Token) →
      run (more_tokens c ts rest) s ≡ run rest (behind (call c (in_order (t ∷ back) ts)) ws)
  reads_more no_terms c t back ws s e rest = ap (λ u. run rest u) (closes c t back ws s e)
  reads_more (term_more u ts) c t back ws s e rest =
      let r = reads_term u (call_waits c (t ∷ back) ∷ ws) (omega arith) in
      ap (λ v. run (tokens u (more_tokens c ts rest)) (next_argument v)) e ∙
      r.runs (more_tokens c ts rest) ∙ reads_more ts c u (t ∷ back) ws r.state (r.settles 0 (omega arith)) rest

-- ---- the text of tokens

enclosed_spelled : (b : Bool) (a : Term) (rest : List Token) → ((more : List Token) → spelled (tokens a more) ≡ text a ++ spelled more) →
    spelled (enclosed_tokens b (tokens a) rest) ≡ enclosed b (text a) ++ spelled rest
enclosed_spelled true a rest h = h rest
enclosed_spelled false a rest h = ap (λ u. codes "(" ++ u) (h (closed ∷ rest)) ∙ bracketed (text a) (spelled rest) where
  bracketed : (u v : List ℕ) → codes "(" ++ (u ++ (codes ")" ++ v)) ≡ (codes "(" ++ u ++ codes ")") ++ v
  bracketed u v = simp append_assoc refl

two_joined : (a b c : List ℕ) → a ++ (b ++ c) ≡ (a ++ b) ++ c
two_joined a b c = simp append_assoc refl

three_joined : (a b c d : List ℕ) → a ++ (b ++ (c ++ d)) ≡ (a ++ b ++ c) ++ d
three_joined a b c d = simp append_assoc refl

five_joined : (a b c d e f : List ℕ) → a ++ (b ++ (c ++ (d ++ (e ++ f)))) ≡ (a ++ b ++ c ++ d ++ e) ++ f
five_joined a b c d e f = simp append_assoc refl

mutual
  spells_term : (t : Term) (rest : List Token) → spelled (tokens t rest) ≡ text t ++ spelled rest
  spells_term (word w) rest = refl
  spells_term (before s a) rest =
      ap (λ u. (mark_text s.text) ++ u) (enclosed_spelled (is_tight (asked s) a) a rest (λ more. spells_term a more)) ∙
      two_joined (mark_text s.text) (enclosed (is_tight (asked s) a) (text a)) (spelled rest)
  spells_term (between s a b) rest =
      enclosed_spelled (is_left_of s a) a (sign_between s ∷ enclosed_tokens (is_tight (asked s) b) (tokens b) rest) (λ more. spells_term a more) ∙
      ap (λ u. enclosed (is_left_of s a) (text a) ++ ((mark_text s.text) ++ u))
      (enclosed_spelled (is_tight (asked s) b) b rest (λ more. spells_term b more)) ∙
      three_joined (enclosed (is_left_of s a) (text a)) (mark_text s.text) (enclosed (is_tight (asked s) b) (text b)) (spelled rest)
  spells_term (call c ts) rest =
      ap (λ u. (mark_text c.opening) ++ u) (spells_list ts c rest) ∙ three_joined (mark_text c.opening) (listed ts) (mark_text c.closing) (spelled rest)
  spells_term (choice k a b c) rest =
      enclosed_spelled (is_tight 1 a) a (first_of k ∷ enclosed_tokens (is_tight 1 b) (tokens b) (second_of k ∷
      enclosed_tokens (is_tight 1 c) (tokens c) rest)) (λ more. spells_term a more) ∙
      ap (λ u. enclosed (is_tight 1 a) (text a) ++ ((mark_text k.first) ++ u))
      (enclosed_spelled (is_tight 1 b) b (second_of k ∷ enclosed_tokens (is_tight 1 c) (tokens c) rest) (λ more. spells_term b more) ∙
      ap (λ u. enclosed (is_tight 1 b) (text b) ++ ((mark_text k.second) ++ u)) (enclosed_spelled (is_tight 1 c) c rest (λ more. spells_term c more))) ∙
      five_joined (enclosed (is_tight 1 a) (text a)) (mark_text k.first) (enclosed (is_tight 1 b) (text b)) (mark_text k.second)
      (enclosed (is_tight 1 c) (text c)) (spelled rest)

  spells_list : (ts : Terms) (c : Call) (rest : List Token) → spelled (list_tokens c ts rest) ≡ listed ts ++ ((mark_text c.closing) ++ spelled rest)
  spells_list no_terms c rest = refl
  spells_list (term_more t ts) c rest =
      spells_term t (more_tokens c ts rest) ∙ ap (λ u. text t ++ u) (spells_more ts c rest) ∙
      two_joined (text t) (more_listed ts) ((mark_text c.closing) ++ spelled rest)

  spells_more : (ts : Terms) (c : Call) (rest : List Token) → spelled (more_tokens c ts rest) ≡ more_listed ts ++ ((mark_text c.closing) ++ spelled rest)
  spells_more no_terms c rest = refl
  spells_more (term_more t ts) c rest =
      ap (λ u. codes ", " ++ u) (spells_term t (more_tokens c ts rest) ∙ ap (λ u. text t ++ u) (spells_more ts c rest)) ∙
      three_joined (codes ", ") (text t) (more_listed ts) ((mark_text c.closing) ++ spelled rest)

-- ---- the law

pub text_reads_back : (t : Term) → TextReadsBack t
text_reads_back t = let r = reads_term t [] (omega arith) in record {
  spells = spells_term t [] ∙ append-nil (text t);
  reads = ap (λ s. settled 0 s) (r.runs []) ∙ r.settles 0 (omega arith);
}
