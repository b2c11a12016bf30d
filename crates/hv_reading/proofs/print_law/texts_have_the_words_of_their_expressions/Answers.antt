use Rattle.hv_reading.proofs.TextWords.{text_pieces}
use Rattle.hv_reading.proofs.print_law.texts_have_the_words_of_their_expressions.Goals as goal

pub returns : goal.returns
returns c = text_pieces
