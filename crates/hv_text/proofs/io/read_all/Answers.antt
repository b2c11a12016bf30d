use Rattle.std.proofs.Common.{◌<◌, ◌≤◌, ◌++◌, length, take, arith, length-append, length-take}
use Rattle.std.proofs.KnownBytes.{Consumes-trans}
use Rattle.hv_text.proofs.io.read_all.Goals as goal

pub returns-then-n-limit-clause-err : goal.returns-then-n-limit-clause-err
returns-then-n-limit-clause-err g c =
    let old = c.chunks.bytes.items in
    let more = take c.in-Ok.n c.read.new.into in
    let long : c.args.limit < length (old ++ more) =
    omega (arith, length-append old more, length-take c.in-Ok.n c.read.new.into, c.in-Ok.ensures.bound, c.chunks.bytes.ok.0) in
    (old ++ more, Consumes-trans _ _ _ old more c.chunks.invariant.1 c.in-Ok.ensures.bytes.0, long)

pub returns-in-Err-extend_from_slice-clause-err : goal.returns-in-Err-extend_from_slice-clause-err
returns-in-Err-extend_from_slice-clause-err g c =
    let old = c.chunks.bytes.items in
    let more = take c.in-Ok.n c.read.new.into in
    let fits : length (old ++ more) ≤ c.args.limit =
    omega (arith, length-append old more, length-take c.in-Ok.n c.read.new.into, c.in-Ok.ensures.bound, c.chunks.bytes.ok.0, c.if-n-limit.false) in
    (old ++ more, Consumes-trans _ _ _ old more c.chunks.invariant.1 c.in-Ok.ensures.bytes.0, fits)
