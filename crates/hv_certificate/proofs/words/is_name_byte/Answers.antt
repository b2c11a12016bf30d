use Rattle.hv_lists.proofs.Told.{byte_told}
use Rattle.hv_certificate.specs.inside.Words.{is_name_byte}
use Rattle.hv_certificate.proofs.words.is_name_byte.Goals as goal

pub returns : goal.returns
returns c = byte_told is_name_byte c.args.b c.ranges.b.fits
