use Rattle.cf_answer.proofs.beside.beside_lines.Goals as goal

pub returns : goal.returns
returns c =
    let text = rw c.deref.ensures.value at c.in_ok-extend_from_slice.ensures.items in
    (c.in_ok-lines.lines.items, c.in_ok-more.more.items, text, c.in_ok-lines.ensures, c.in_ok-more.ensures)
