use Rattle.hddlv.proofs.Blames.{blames_no_certificate, blamed_behind}
use Rattle.hddlv.proofs.judge_open.Goals as goal

pub returns : goal.returns
returns c =
    blamed_behind _ _
    (blames_no_certificate _ _ _ _ _ _ _ _ _ c.run-ended.result c.run-ended.ensures.halted)
    c.finish.ensures
