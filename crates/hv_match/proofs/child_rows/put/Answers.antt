use Rattle.std.proofs.Common.{sym, subst, set}
use Rattle.hv_match.specs.inside.Tables.{HasPut}
use Rattle.hv_match.proofs.Rows.{put_there}
use Rattle.hv_match.proofs.child_rows.put.Goals as goal

pub returns-in_ok-push-clause-rows : goal.returns-in_ok-push-clause-rows
returns-in_ok-push-clause-rows c =
    let rows = c.args.rows.now in
    let new = set rows c.in-Some.class c.push.new.self in
    subst (λ o. HasPut o c.args.place rows new) (sym c.in-Some.is) (put_there c.in-Some.class c.args.place rows c.index-rows-class.result c.push.new.self c.if-class-rows.true c.in_ok-push.ensures.items)
