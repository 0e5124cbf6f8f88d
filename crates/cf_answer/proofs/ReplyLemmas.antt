-- Replies to lines, one after the other.
use Rattle.std.proofs.Common.{◌≡◌, ◌∙◌, sym, ap, subst, refl, ℕ, zero, suc, ◌+◌, ◌-◌, ◌^◌, ◌≤◌, ◌<◌, ◌==◌, Bool, true, false, cond, not, nat_le, List, [], ◌∷◌, ◌++◌, length, map, take, drop, get_or, Option, Some, None, codes, arith, append_assoc, append-nil, ◌⊎◌, inl, inr}
use Rattle.std.specs.Prelude.{Result, Ok, Err, OnOk}
use Rattle.std.specs.List.{prefix_len}
use Rattle.std.proofs.lemmas.Bool.Decides.{nat_tests}
use Rattle.std.proofs.lemmas.Bool.{cases_lt}
use Rattle.std.proofs.lemmas.List.{take_more}
use Rattle.std.proofs.KnownBytes.{Appends-nil, Appends-trans}
use Rattle.cf_io.specs.Bytes.{TookPrefix}
use Rattle.cf_io.specs.Cut.{line_of}
use Rattle.cf_io.specs.Limits.{line_limit}
use Rattle.cf_io.specs.Lines.{ended}
use Rattle.cf_io.specs.declared.line.Line.{Line}
use Rattle.cf_io.specs.declared.line.Line.TheVariants.{Text, TooLong}
use Rattle.cf_lex.specs.Runs.{AllAre}
use Rattle.cf_tree.specs.declared.base.Base.{Base}
use Rattle.cf_tree.specs.Values.{Value}
use Rattle.cf_num.specs.Limit.{limit}
use Rattle.cf_eval.specs.Reading.{values_from}
use Rattle.cf_eval.specs.Spelling.{SpellsValues, without_return}
use Rattle.cf_eval.specs.declared.fault.LineFault.{LineFault}
use Rattle.cf_eval.proofs.SpellLemmas.{Spells-again, Spells-takes}
use Rattle.cf_late.specs.ChooseRun.{LateOutcome}
use Rattle.cf_answer.specs.Forms.{Wording, Form, is_key_byte, IsKeyed, too_long as key_too_long, no_key, keyed, ByKey}
use Rattle.cf_answer.specs.Owed.{Answerer, bases_by, comes_by, IsReplyBy, Replier, IsReplyOf, AreReplies}
use Rattle.cf_answer.specs.Replies.{too_long, bad_input, comes}
use Rattle.cf_answer.specs.Steps.{IsLineReply, AreLineReplies, TookReplies, TookSome, TookLines, TookSomeLines}

-- a line spells values, or it spells none
reads_by : (bases : List Base) (line : List ℕ) (o : Option (List Value)) → values_from limit bases (without_return line) [] ≡ o →
    ((vs : List Value) × SpellsValues limit bases line vs) ⊎ ((vs : List Value) → SpellsValues limit bases line vs → ⊥)
reads_by bases line None e = inr (λ vs r. let some = Spells-again limit bases (without_return line) vs [] r in cc)
reads_by bases line (Some vs) e = let r = Spells-takes limit bases (without_return line) [] vs e in inl (r.0, r.2)

reads_or_not : (bases : List Base) (line : List ℕ) →
    ((vs : List Value) × SpellsValues limit bases line vs) ⊎ ((vs : List Value) → SpellsValues limit bases line vs → ⊥)
reads_or_not bases line = reads_by bases line (values_from limit bases (without_return line) []) refl

-- each line without a key has a reply
short_reply : (w : Wording) (a : Answerer) (line : List ℕ) → length line ≤ line_limit →
    ((vs : List Value) × SpellsValues limit (bases_by a) line vs) ⊎ ((vs : List Value) → SpellsValues limit (bases_by a) line vs → ⊥) →
    (reply : List ℕ) × IsReplyBy w a line reply
short_reply w a line short (inl r) = (w.told (comes_by a r.0), comes r.0 short r.1)
short_reply w a line short (inr r) = (w.fault (codes "bad input"), bad_input short r)

some_reply : (w : Wording) (a : Answerer) (line : List ℕ) → (line_limit < length line) ⊎ (length line ≤ line_limit) → (reply : List ℕ) × IsReplyBy w a line reply
some_reply w a line (inl h) = (w.fault (codes "line too long"), too_long h)
some_reply w a line (inr h) = short_reply w a line h (reads_or_not (bases_by a) line)

-- ---- keys
-- a line has a key, or no byte of it is a TAB
abbrev Keys : List ℕ → Type 0
Keys line = ((key : List ℕ) × (rest : List ℕ) × (line ≡ key ++ 9 ∷ rest) × AllAre is_key_byte key) ⊎ AllAre is_key_byte line

keys_behind : (b : ℕ) (line : List ℕ) → is_key_byte b ≡ true → Keys line → Keys (b ∷ line)
keys_behind b line is (inl (key, rest, whole, all)) = inl (b ∷ key, rest, ap (λ bs. b ∷ bs) whole, (is, all))
keys_behind b line is (inr all) = inr (is, all)

tab_of : (b : ℕ) → is_key_byte b ≡ false → b ≡ 9
tab_of b e = grind (arith, nat_tests, e)

keys_from : (b : ℕ) (line : List ℕ) (test : Bool) → is_key_byte b ≡ test → Keys line → Keys (b ∷ line)
keys_from b line true e h = keys_behind b line e h
keys_from b line false e h = inl ([], line, ap (λ c. c ∷ line) (tab_of b e), tt)

keys_of : (line : List ℕ) → Keys line
keys_of [] = inr tt
keys_of (b ∷ line) = keys_from b line (is_key_byte b) refl (keys_of line)

keyed_exists : (w : Wording) (Is : List ℕ → List ℕ → Type 0) → ((line : List ℕ) → (reply : List ℕ) × Is line reply) → (line : List ℕ) →
    (line_limit < length line) ⊎ (length line ≤ line_limit) → Keys line → (reply : List ℕ) × IsKeyed w Is line reply
keyed_exists w Is some line (inl long) k = (w.fault (codes "line too long"), key_too_long long)
keyed_exists w Is some line (inr short) (inl (key, rest, whole, all)) =
    let r = some rest in (key ++ 9 ∷ r.0, keyed key rest r.0 short whole all r.1)
keyed_exists w Is some line (inr short) (inr none) = (w.fault (codes "bad input"), no_key short none)

by_key_exists : (key : Bool) (w : Wording) (Is : List ℕ → List ℕ → Type 0) → ((line : List ℕ) → (reply : List ℕ) × Is line reply) → (line : List ℕ) →
    (reply : List ℕ) × ByKey key w Is line reply
by_key_exists false w Is some line = some line
by_key_exists true w Is some line = keyed_exists w Is some line (cases_lt line_limit (length line)) (keys_of line)

reply_exists : (who : Replier) (line : List ℕ) → (reply : List ℕ) × IsReplyOf who line reply
reply_exists who line =
    let w = who.form.wording in
    by_key_exists who.form.key w (IsReplyBy w who.by) (λ l. some_reply w who.by l (cases_lt line_limit (length l))) line

by_key_long : (key : Bool) (w : Wording) (Is : List ℕ → List ℕ → Type 0) (line : List ℕ) → line_limit < length line →
    Is line (w.fault (codes "line too long")) → ByKey key w Is line (w.fault (codes "line too long"))
by_key_long false w Is line long is = is
by_key_long true w Is line long is = key_too_long long

long_reply : (who : Replier) (line : List ℕ) → line_limit < length line → IsReplyOf who line (who.form.wording.fault (codes "line too long"))
long_reply who line long =
    by_key_long who.form.key who.form.wording (IsReplyBy who.form.wording who.by) line long (too_long long)

-- the bytes before the first TAB are a key
abbrev size_of : List ℕ → ℕ
size_of line = prefix_len is_key_byte line

abbrev Splits : List ℕ → ℕ → Type 0
Splits line n = (line ≡ take n line ++ 9 ∷ drop (n + 1) line) × AllAre is_key_byte (take n line)

splits_more : (b : ℕ) (line : List ℕ) (n : ℕ) → is_key_byte b ≡ true → Splits line n → Splits (b ∷ line) (suc n)
splits_more b line n e h = let more : suc n + 1 ≡ suc (n + 1) = omega arith in rw more (ap (λ bs. b ∷ bs) h.0, (e, h.1))

size_more : (b : ℕ) (line : List ℕ) → is_key_byte b ≡ true → size_of (b ∷ line) ≡ suc (size_of line)
size_more b line e = rw e (omega arith)

size_none : (b : ℕ) (line : List ℕ) → is_key_byte b ≡ false → size_of (b ∷ line) ≡ 0
size_none b line e = rw e refl

split_by : (b : ℕ) (line : List ℕ) (test : Bool) → is_key_byte b ≡ test → size_of (b ∷ line) < length (b ∷ line) →
    (size_of line < length line → Splits line (size_of line)) → Splits (b ∷ line) (size_of (b ∷ line))
split_by b line true e some h =
    let size = size_more b line e in
    let less : size_of line < length line = omega (arith, some, size) in
    subst (Splits (b ∷ line)) (sym size) (splits_more b line (size_of line) e (h less))
split_by b line false e some h = subst (Splits (b ∷ line)) (sym (size_none b line e)) (ap (λ c. c ∷ line) (tab_of b e), tt)

split_at : (line : List ℕ) → size_of line < length line → Splits line (size_of line)
split_at [] some = absurd (omega (arith, some))
split_at (b ∷ line) some = split_by b line (is_key_byte b) refl some (split_at line)

all_by : (b : ℕ) (line : List ℕ) (test : Bool) → is_key_byte b ≡ test → size_of (b ∷ line) ≡ length (b ∷ line) →
    (size_of line ≡ length line → AllAre is_key_byte line) → AllAre is_key_byte (b ∷ line)
all_by b line true e whole h =
    let size = size_more b line e in (e, h (omega (arith, whole, size)))
all_by b line false e whole h = let size = size_none b line e in absurd (omega (arith, whole, size))

all_key : (line : List ℕ) → size_of line ≡ length line → AllAre is_key_byte line
all_key [] whole = tt
all_key (b ∷ line) whole = all_by b line (is_key_byte b) refl whole (all_key line)

-- a line without a TAB
pub unkeyed_line : {A E : Type 0} (w : Wording) (Is : List ℕ → List ℕ → Type 0) (line : List ℕ) (size : ℕ) (r : Result A E) (old new : List ℕ) →
    size ≡ prefix_len is_key_byte line → size ≡ length line → OnOk r (new ≡ old ++ w.fault (codes "bad input")) →
    OnOk r ((reply : List ℕ) × (new ≡ old ++ reply) × (length line ≤ line_limit → IsKeyed w Is line reply))
unkeyed_line w Is line size (Ok u) old new counted whole is = (w.fault (codes "bad input"), is, λ short. no_key short (all_key line (sym counted ∙ whole)))
unkeyed_line w Is line size (Err e) old new counted whole is = tt

-- a line with a key, of which this is the reply to the rest
key_and_reply : (old key rest : List ℕ) → (old ++ (key ++ 9 ∷ [])) ++ rest ≡ old ++ (key ++ 9 ∷ rest)
key_and_reply old key rest = simp append_assoc refl

take_key : (line key rest : List ℕ) (size : ℕ) → line ≡ key ++ 9 ∷ rest → length key ≡ size → take (size + 1) line ≡ key ++ 9 ∷ []
take_key line [] rest size is count =
    subst (λ n. take (n + 1) line ≡ 9 ∷ []) count (subst (λ bs. take 1 bs ≡ 9 ∷ []) (sym is) refl)
take_key line (b ∷ key) rest zero is count = absurd (omega (arith, count))
take_key [] (b ∷ key) rest (suc size) is count = cc
take_key (c ∷ line) (b ∷ key) rest (suc size) is count =
    let same : c ≡ b = cc in
    let behind : line ≡ key ++ 9 ∷ rest = cc in
    let more : suc size + 1 ≡ suc (size + 1) = omega arith in
    let front = take_key line key rest size behind (omega (arith, count)) in
    rw (more, same) (ap (λ bs. b ∷ bs) front)

count_key : (n : ℕ) (line : List ℕ) → n < length line → length (take n line) ≡ n
count_key zero [] less = absurd (omega (arith, less))
count_key zero (b ∷ line) less = refl
count_key (suc n) [] less = absurd (omega (arith, less))
count_key (suc n) (b ∷ line) less = ap suc (count_key n line (omega (arith, less)))

behind_key : (line : List ℕ) (n : ℕ) → length (drop n line) ≤ length line
behind_key [] zero = omega arith
behind_key [] (suc n) = omega arith
behind_key (b ∷ line) zero = omega arith
behind_key (b ∷ line) (suc n) = let less = behind_key line n in omega (arith, less)

pub keyed_line : {A E : Type 0} (w : Wording) (Is : List ℕ → List ℕ → Type 0) (line : List ℕ) (size : ℕ) (r : Result A E) (old mid new : List ℕ) →
    size ≡ prefix_len is_key_byte line → size < length line → mid ≡ old ++ take (size + 1) line →
    OnOk r ((reply : List ℕ) × (new ≡ mid ++ reply) × (length (drop (size + 1) line) ≤ line_limit → Is (drop (size + 1) line) reply)) →
    OnOk r ((reply : List ℕ) × (new ≡ old ++ reply) × (length line ≤ line_limit → IsKeyed w Is line reply))
keyed_line w Is line size (Err e) old mid new counted less taken h = tt
keyed_line w Is line size (Ok u) old mid new counted less taken (reply, is, replied) =
    let same : size ≡ size_of line = counted in
    let some : size_of line < length line = subst (λ n. n < length line) same less in
    let parts = split_at line some in
    let key = take (size_of line) line in
    let rest = drop (size_of line + 1) line in
    let front : take (size + 1) line ≡ key ++ 9 ∷ [] =
    subst (λ n. take (n + 1) line ≡ key ++ 9 ∷ []) (sym same) (take_key line key rest (size_of line) parts.0 (count_key (size_of line) line some)) in (
      key ++ 9 ∷ reply,
      is ∙ ap (λ m. m ++ reply) (taken ∙ ap (λ f. old ++ f) front) ∙ key_and_reply old key reply,
      λ short.
          let few = behind_key line (size + 1) in
          keyed key rest reply short parts.0 parts.1
          (subst (λ n. Is (drop (n + 1) line) reply) same (replied (omega (arith, short, few)))),
    )

-- whether there is a key
pub with_key : {A E : Type 0} (who : Replier) (line : List ℕ) (r : Result A E) (old new : List ℕ) → who.form.key ≡ true →
    OnOk r ((reply : List ℕ) × (new ≡ old ++ reply) × (length line ≤ line_limit → IsKeyed who.form.wording (IsReplyBy who.form.wording who.by) line reply)) →
    OnOk r ((reply : List ℕ) × (new ≡ old ++ reply) × (length line ≤ line_limit → IsReplyOf who line reply))
with_key who line r old new key h = rw key h

pub without_key : {A E : Type 0} (who : Replier) (line : List ℕ) (r : Result A E) (old new : List ℕ) → who.form.key ≡ false →
    OnOk r ((reply : List ℕ) × (new ≡ old ++ reply) × (length line ≤ line_limit → IsReplyBy who.form.wording who.by line reply)) →
    OnOk r ((reply : List ℕ) × (new ≡ old ++ reply) × (length line ≤ line_limit → IsReplyOf who line reply))
without_key who line r old new key h = rw key h

-- ---- what is written of a line without a key
pub told_reply : {A E : Type 0} (w : Wording) (a : Answerer) (line : List ℕ) (o : LateOutcome) (r : Result A E) (old new : List ℕ) →
    ((vs : List Value) × SpellsValues limit (bases_by a) line vs × (o ≡ comes_by a vs)) → OnOk r (new ≡ old ++ w.told o) →
    OnOk r ((reply : List ℕ) × (new ≡ old ++ reply) × (length line ≤ line_limit → IsReplyBy w a line reply))
told_reply w a line o (Ok u) old new (vs, spelled, same) is = (w.told (comes_by a vs), is ∙ ap (λ x. old ++ w.told x) same, λ short. comes vs short spelled)
told_reply w a line o (Err e) old new h is = tt

pub bad_reply : {A E : Type 0} (w : Wording) (a : Answerer) (line : List ℕ) (r : Result A E) (old new : List ℕ) →
    ((vs : List Value) → SpellsValues limit (bases_by a) line vs → ⊥) → OnOk r (new ≡ old ++ w.fault (codes "bad input")) →
    OnOk r ((reply : List ℕ) × (new ≡ old ++ reply) × (length line ≤ line_limit → IsReplyBy w a line reply))
bad_reply w a line (Ok u) old new none is = (w.fault (codes "bad input"), is, λ short. bad_input short none)
bad_reply w a line (Err e) old new none is = tt

-- ---- all lines
pub replies_exist : (who : Replier) (ls : List (List ℕ)) → (text : List ℕ) × AreReplies who ls text
replies_exist who [] = ([], refl)
replies_exist who (l ∷ ls) =
    let first = reply_exists who l in
    let more = replies_exist who ls in
    (first.0 ++ 10 ∷ more.0, (first.0, more.0, refl, first.1, more.1))

pub replies_append : (who : Replier) (ls ms : List (List ℕ)) (xs ys : List ℕ) → AreReplies who ls xs → AreReplies who ms ys →
    AreReplies who (ls ++ ms) (xs ++ ys)
replies_append who [] ms xs ys a b = rw a b
replies_append who (l ∷ ls) ms xs ys a b =
    (a.0, a.1 ++ ys, ap (λ s. s ++ ys) a.2 ∙ append_assoc a.0 (10 ∷ a.1) ys, a.3, replies_append who ls ms a.1 ys a.4 b)

-- the same of lines as they are cut
line_reply_exists : (who : Replier) (l : Line) → (reply : List ℕ) × IsLineReply who l reply
line_reply_exists who TooLong = (who.form.wording.fault (codes "line too long"), refl)
line_reply_exists who (Text bytes) =
    let r = reply_exists who bytes in (r.0, λ _. r.1)

pub line_replies_exist : (who : Replier) (ls : List Line) → (text : List ℕ) × AreLineReplies who ls text
line_replies_exist who [] = ([], refl)
line_replies_exist who (l ∷ ls) =
    let first = line_reply_exists who l in
    let more = line_replies_exist who ls in
    (first.0 ++ 10 ∷ more.0, (first.0, more.0, refl, first.1, more.1))

pub line_replies_append : (who : Replier) (ls ms : List Line) (xs ys : List ℕ) → AreLineReplies who ls xs → AreLineReplies who ms ys →
    AreLineReplies who (ls ++ ms) (xs ++ ys)
line_replies_append who [] ms xs ys a b = rw a b
line_replies_append who (l ∷ ls) ms xs ys a b =
    (a.0, a.1 ++ ys, ap (λ s. s ++ ys) a.2 ∙ append_assoc a.0 (10 ∷ a.1) ys, a.3, line_replies_append who ls ms a.1 ys a.4 b)

pub line_replies_more : (who : Replier) (ls : List Line) (l : Line) (xs reply : List ℕ) → AreLineReplies who ls xs → IsLineReply who l reply →
    AreLineReplies who (ls ++ l ∷ []) (xs ++ (reply ++ 10 ∷ []))
line_replies_more who ls l xs reply a b = line_replies_append who ls (l ∷ []) xs (reply ++ 10 ∷ []) a (reply, [], refl, b, refl)

-- the reply to a line that is told by its bytes
pub long_line_reply : {A E : Type 0} (who : Replier) (line : List ℕ) (r : Result A E) (old new : List ℕ) → line_limit < length line →
    OnOk r (new ≡ old ++ who.form.wording.fault (codes "line too long")) → OnOk r ((reply : List ℕ) × (new ≡ old ++ reply) × IsLineReply who (line_of line_limit line) reply)
long_line_reply who line (Ok u) old new long is =
    let test : nat_le (length line) line_limit ≡ false = grind (arith, nat_tests) in (who.form.wording.fault (codes "line too long"), is, rw test refl)
long_line_reply who line (Err e) old new long is = tt

pub short_line_reply : {A E : Type 0} (who : Replier) (line : List ℕ) (r : Result A E) (old new : List ℕ) → length line ≤ line_limit →
    OnOk r ((reply : List ℕ) × (new ≡ old ++ reply) × (length line ≤ line_limit → IsReplyOf who line reply)) →
    OnOk r ((reply : List ℕ) × (new ≡ old ++ reply) × IsLineReply who (line_of line_limit line) reply)
short_line_reply who line (Ok u) old new short is =
    let test : nat_le (length line) line_limit ≡ true = grind (arith, nat_tests) in (is.0, is.1, rw test is.2)
short_line_reply who line (Err e) old new short is = tt

-- the text replies to all of these lines but those that end in `rest`
pub record LentTo (who : Replier) (all : List Line) (rest text : List ℕ) : Type 0 where
  pub done : List Line
  pub replied : AreLineReplies who done text
  pub whole : done ++ map (line_of line_limit) (ended rest) ≡ all

pub lent_step : (who : Replier) (all : List Line) (rest line more xs ys reply : List ℕ) → LentTo who all rest xs → ended rest ≡ line ∷ ended more →
    ys ≡ xs ++ (reply ++ 10 ∷ []) → IsLineReply who (line_of line_limit line) reply → LentTo who all more ys
lent_step who all rest line more xs ys reply a cut is r = record {
  done = a.done ++ line_of line_limit line ∷ [];
  replied = rw is (line_replies_more who a.done (line_of line_limit line) xs reply a.replied r);
  whole = append_assoc a.done (line_of line_limit line ∷ []) (map (line_of line_limit) (ended more)) ∙
      subst (λ ls. a.done ++ map (line_of line_limit) ls ≡ all) cut a.whole;
}

pub lent_end : (who : Replier) (all : List Line) (rest text : List ℕ) → LentTo who all rest text → ended rest ≡ [] → AreLineReplies who all text
lent_end who all rest text a none =
    subst (λ ls. AreLineReplies who ls text) (sym (append-nil a.done) ∙ subst (λ ls. a.done ++ map (line_of line_limit) ls ≡ all) none a.whole) a.replied

reply_by : (b : Bool) (who : Replier) (line reply : List ℕ) → nat_le (length line) line_limit ≡ b → IsLineReply who (cond b (Text line) TooLong) reply →
    IsReplyOf who line reply
reply_by true who line reply e h = h (grind (arith, nat_tests, e))
reply_by false who line reply e h = let long : line_limit < length line = grind (arith, nat_tests, e) in rw h (long_reply who line long)

reply_of_line : (who : Replier) (line reply : List ℕ) → IsLineReply who (line_of line_limit line) reply → IsReplyOf who line reply
reply_of_line who line reply h = reply_by (nat_le (length line) line_limit) who line reply refl h

pub replies_of_lines : (who : Replier) (ls : List (List ℕ)) (text : List ℕ) → AreLineReplies who (map (line_of line_limit) ls) text → AreReplies who ls text
replies_of_lines who [] text h = h
replies_of_lines who (l ∷ ls) text h = (h.0, h.1, h.2, reply_of_line who l h.0 h.3, replies_of_lines who ls h.1 h.4)

-- what a sink took
pub took_some : (who : Replier) (ls : List Line) (old new : Option (List ℕ)) (text : List ℕ) → AreLineReplies who ls text → TookPrefix old new text →
    TookSomeLines who ls old new
took_some who ls old new text a p = (text, a, p)

pub took_none : (who : Replier) (ls : List Line) (old : Option (List ℕ)) → TookSomeLines who ls old old
took_none who ls old = let r = line_replies_exist who ls in (r.0, r.1, ([], r.0, refl, Appends-nil old))

pub took_more : (who : Replier) (ls ms : List Line) (a b c : Option (List ℕ)) → TookLines who ls a b → TookLines who ms b c → TookLines who (ls ++ ms) a c
took_more who ls ms a b c x y = (x.0 ++ y.0, line_replies_append who ls ms x.0 y.0 x.1 y.1, Appends-trans a b c x.0 y.0 x.2 y.2)

pub took_some_more : (who : Replier) (ls ms : List Line) (a b c : Option (List ℕ)) → TookLines who ls a b → TookSomeLines who ms b c →
    TookSomeLines who (ls ++ ms) a c
took_some_more who ls ms a b c x (text, replies, (front, rest, whole, took)) = (
  x.0 ++ text,
  line_replies_append who ls ms x.0 text x.1 replies,
  (x.0 ++ front, rest, ap (λ s. x.0 ++ s) whole ∙ sym (append_assoc x.0 front rest), Appends-trans a b c x.0 front x.2 took),
)

pub replies_of_took : (who : Replier) (ls : List (List ℕ)) (a b : Option (List ℕ)) → TookLines who (map (line_of line_limit) ls) a b → TookReplies who ls a b
replies_of_took who ls a b x = (x.0, replies_of_lines who ls x.0 x.1, x.2)

-- a prefix of the replies to some lines is one of the replies to more lines
pub some_of_took : (who : Replier) (ls ms all : List (List ℕ)) (a b : Option (List ℕ)) → all ≡ ls ++ ms → TookSomeLines who (map (line_of line_limit) ls) a b →
    TookSome who all a b
some_of_took who ls ms all a b is (text, replies, (front, rest, whole, took)) =
    let more = replies_exist who ms in
    rw is (
      text ++ more.0,
      replies_append who ls ms text more.0 (replies_of_lines who ls text replies) more.1,
      (front, rest ++ more.0, ap (λ s. s ++ more.0) whole ∙ append_assoc front rest more.0, took),
    )

pub replies_step : (who : Replier) (ls : List Line) (i : ℕ) (d : Line) (old new reply : List ℕ) → i < length ls → AreLineReplies who (take i ls) old →
    IsLineReply who (get_or ls i d) reply →
    new ≡ old ++ (reply ++ 10 ∷ []) → AreLineReplies who (take (i + 1) ls) new
replies_step who ls i d old new reply lt before is same = rw (same, take_more ls i d lt) (line_replies_more who (take i ls) (get_or ls i d) old reply before is)
