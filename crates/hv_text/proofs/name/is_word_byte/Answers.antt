use Rattle.hv_lists.proofs.Told.{byte_told}
use Rattle.hv_text.specs.Bytes.{is_word_byte}
use Rattle.hv_text.proofs.name.is_word_byte.Goals as goal

pub returns : goal.returns
returns c = byte_told is_word_byte c.args.b c.ranges.b.fits
