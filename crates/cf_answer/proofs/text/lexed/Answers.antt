use Rattle.std.proofs.Common.{inl, subst, ◌-◌, ◌^◌}
use Rattle.cf_lex.specs.Tokens.{LexesTo, bad_byte, past_limit}
use Rattle.cf_answer.specs.Refusals.{odd_byte, large_number}
use Rattle.cf_answer.proofs.TextLemmas.{misread_byte, misread_number}
use Rattle.cf_answer.proofs.text.lexed.Goals as goal

pub returns-in-Err-BadByte-clause-source : goal.returns-in-Err-BadByte-clause-source
returns-in-Err-BadByte-clause-source c =
    let told = rw c.in-Err-BadByte.field-0-is at c.in-Err-BadByte.ensures.answer in
    λ is short. inl (misread_byte c.args.edition c.args.text.now told.0 c.in-Err-BadByte.place is (short, told.1))

pub returns-in-Err-BadByte-clause-target : goal.returns-in-Err-BadByte-clause-target
returns-in-Err-BadByte-clause-target c =
    let told = rw c.in-Err-BadByte.field-0-is at c.in-Err-BadByte.ensures.answer in
    λ is short. inl (odd_byte told.0 c.in-Err-BadByte.place
    (short, subst (λ e. LexesTo e (2 ^ 127 - 1) c.args.text.now told.0 c.in-Err-BadByte.place bad_byte) is told.1))

pub returns-in-Err-NumberPast-clause-source : goal.returns-in-Err-NumberPast-clause-source
returns-in-Err-NumberPast-clause-source c =
    let told = rw c.in-Err-NumberPast.field-0-is at c.in-Err-NumberPast.ensures.answer in
    λ is short. inl (misread_number c.args.edition c.args.text.now told.0 c.in-Err-NumberPast.place is (short, told.1))

pub returns-in-Err-NumberPast-clause-target : goal.returns-in-Err-NumberPast-clause-target
returns-in-Err-NumberPast-clause-target c =
    let told = rw c.in-Err-NumberPast.field-0-is at c.in-Err-NumberPast.ensures.answer in
    λ is short. inl (large_number told.0 c.in-Err-NumberPast.place
    (short, subst (λ e. LexesTo e (2 ^ 127 - 1) c.args.text.now told.0 c.in-Err-NumberPast.place past_limit) is told.1))
