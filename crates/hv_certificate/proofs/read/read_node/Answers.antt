use Rattle.std.proofs.Common.{map}
use Rattle.hv_text.specs.Names.{text_of}
use Rattle.hv_certificate.proofs.WordLemmas.{name_word, names_words}
use Rattle.hv_certificate.proofs.FormLemmas.{no_node_line, no_node_id, no_node_index, no_node_choice, node_read}
use Rattle.hv_certificate.proofs.read.read_node.Goals as goal

pub returns-in_default-clause-line : goal.returns-in_default-clause-line
returns-in_default-clause-line c = no_node_line c.args.left.now (rw c.in_default.is at c.in_ok-line.ensures)

pub returns-in_default-number-clause-line : goal.returns-in_default-number-clause-line
returns-in_default-number-clause-line c =
    no_node_id c.args.left.now (text_of c.in-Some.line.first) c.in-Some.line.behind.now (map text_of c.in-Some.line.words.now)
    (rw c.in-Some.is at c.in_ok-line.ensures) (name_word c.in-Some.line.first) (names_words c.in-Some.line.words.now)
    c.in_default-number.ensures.word

pub returns-in_default-index_of-clause-line : goal.returns-in_default-index_of-clause-line
returns-in_default-index_of-clause-line c =
    no_node_index c.args.left.now (text_of c.in-Some.line.first) c.in-Some.line.behind.now (map text_of c.in-Some.line.words.now)
    (rw c.in-Some.is at c.in_ok-line.ensures) (name_word c.in-Some.line.first) (names_words c.in-Some.line.words.now)
    (c.in_default-index_of.ensures.words)

pub returns-in_default-2-clause-line : goal.returns-in_default-2-clause-line
returns-in_default-2-clause-line c =
    no_node_choice c.args.left.now (text_of c.in-Some.line.first) c.in-Some.line.behind.now (map text_of c.in-Some.line.words.now)
    (map text_of c.in-Some-index_of.words.now) c.in-Some-index_of.index
    (rw c.in-Some.is at c.in_ok-line.ensures) (name_word c.in-Some.line.first) (names_words c.in-Some.line.words.now)
    (c.in-Some-index_of.ensures.words)
    (rw c.in_default-2.is at c.in_ok-choice.ensures)

pub returns-clause-line : goal.returns-clause-line
returns-clause-line c =
    let read = rw c.in-Some-2.is at c.in_ok-choice.ensures in (
      (c.in-Some-number.ensures.id, read.0, c.in-Some-index_of.ensures.index),
      node_read c.args.left.now (text_of c.in-Some.line.first) c.in-Some.line.behind.now (map text_of c.in-Some.line.words.now)
          (map text_of c.in-Some-index_of.words.now) (c.in-Some-number.id, c.in-Some-2.choice, c.in-Some-index_of.index)
          (rw c.in-Some.is at c.in_ok-line.ensures) c.in-Some-number.ensures.word
          (c.in-Some-index_of.ensures.words) read.1,
    )
