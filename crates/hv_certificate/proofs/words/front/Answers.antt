use Rattle.std.proofs.lemmas.List.{take_rest}
use Rattle.hv_certificate.proofs.WordLemmas.{front_word, front_read, front_none}
use Rattle.hv_certificate.proofs.words.front.Goals as goal

pub of_word-requires : goal.of_word-requires
of_word-requires c =
    front_word c.args.left.now c.name_end-end.result c.name_end-end.ensures.end c.if-end-eq0.false

pub returns-then-end-eq0-clause-word : goal.returns-then-end-eq0-clause-word
returns-then-end-eq0-clause-word c =
    front_none c.args.left.now c.name_end-end.result c.name_end-end.ensures.end c.if-end-eq0.true

pub returns-clause-word : goal.returns-clause-word
returns-clause-word c =
    rw (take_rest c.args.left.now c.name_end-end.result)
    (front_read c.args.left.now c.of_word.result.bytes.now c.name_end-end.result c.name_end-end.ensures.end c.of_word.ensures)
