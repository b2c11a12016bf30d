use Rattle.hv_text.proofs.CommentLemmas.{blank_there, same_there}
use Rattle.hv_text.proofs.laws.comments_are_blanks.Goals as goal

pub returns : goal.returns
returns c = record { blank = blank_there c.args.text.now; same = same_there c.args.text.now }
