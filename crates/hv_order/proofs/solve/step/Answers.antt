use Rattle.hv_order.specs.inside.Trials.{IfWants}
use Rattle.hv_order.specs.inside.Frames.{EndsLeast, EndsWon, StaysFrame, StaysTried}
use Rattle.hv_order.specs.inside.Winners.{StaysListed}
use Rattle.hv_order.specs.inside.Tasks.{IsWorking, Settles}
use Rattle.hv_order.proofs.Tasks.{if_ok, none_earlier, task_over, task_stays}
use Rattle.hv_order.proofs.solve.step.Goals as goal

pub advance-requires-clause-earliest : goal.advance-requires-clause-earliest
advance-requires-clause-earliest g c =
    none_earlier (g.N.Nodes.facts c.args.nodes.now) (g.N.Nodes.size c.args.nodes.now) c.args.task.now.node c.args.task.now.frame (g.N.Left.Candidates.left c.args.task.now.left) c.requires.task

pub returns-clause-over : goal.returns-clause-over
returns-clause-over g c =
    let q = g.N.Nodes.facts c.args.nodes.now in
    let size = g.N.Nodes.size c.args.nodes.now in
    let v = c.args.task.now.node in
    let f = c.args.task.now.frame in
    let f' = c.advance.new.frame in
    let left = g.N.Left.Candidates.left c.args.task.now.left in
    let left' = g.N.Left.Candidates.left c.advance.new.left in
    if_ok (EndsLeast q f left) (EndsWon q f f') (StaysListed f f' left left') (Settles q v f.start f'.winner) c.advance.result
    (task_over q c.requires.nodes size v f f' left left' c.requires.task) c.advance.ensures.over c.advance.ensures.won c.advance.ensures.listed

pub returns-clause-task : goal.returns-clause-task
returns-clause-task g c =
    let q = g.N.Nodes.facts c.args.nodes.now in
    let size = g.N.Nodes.size c.args.nodes.now in
    let v = c.args.task.now.node in
    let f = c.args.task.now.frame in
    let f' = c.advance.new.frame in
    let left = g.N.Left.Candidates.left c.args.task.now.left in
    let left' = g.N.Left.Candidates.left c.advance.new.left in
    if_ok (StaysFrame q v f f' left') (StaysTried q f f' left left') (StaysListed f f' left left') (λ p. IfWants p (IsWorking q size v f' left')) c.advance.result
    (task_stays q size v f f' left left' c.requires.task c.advance.ensures.start c.advance.ensures.earliest) c.advance.ensures.frame c.advance.ensures.tried c.advance.ensures.listed
