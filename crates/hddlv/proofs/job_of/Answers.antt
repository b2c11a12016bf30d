use Rattle.hddlv.proofs.Files.{count_ok}
use Rattle.hddlv.proofs.job_of.Goals as goal

pub returns : goal.returns
returns c = count_ok _ c.job.result c.job.ensures
