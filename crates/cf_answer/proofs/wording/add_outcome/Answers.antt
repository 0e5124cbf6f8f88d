use Rattle.cf_answer.proofs.wording.add_outcome.Goals as goal

pub returns-then-jsonl : goal.returns-then-jsonl
returns-then-jsonl c = rw c.if-jsonl.true c.put_json.ensures

pub returns : goal.returns
returns c = rw c.if-jsonl.false c.add_plain.ensures
