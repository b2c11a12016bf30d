use Rattle.std.proofs.Common.{rules, codes, sym, ◌∙◌}
use Rattle.std.specs.Str.Parse.{ParsesUnsigned, ExplainsUnsignedError, HasUnsignedDigitsIfOk}
use Rattle.std.specs.declared.num.ParseIntError.{ParseIntError}
use Rattle.clap.specs.Words.{found_of, one_text}
use Rattle.clap.proofs.WalkLemmas.{one_text-rows}
use Rattle.hv_command.proofs.Typed.{read_one}
use Rattle.hv_command.proofs.line.limit_of.Goals as goal

pub returns-in-Some : goal.returns-in-Some
returns-in-Some c =
    let e = one_text-rows (found_of c.args.matches.now) (codes "limit") in
    let got = read_one {E = ParseIntError} (λ bs r. ParsesUnsigned {E = ParseIntError} 64 10 bs r × ExplainsUnsignedError 10 bs r × HasUnsignedDigitsIfOk bs r) (one_text (found_of c.args.matches.now) (codes "limit")) c.get_one.result c.in-Some.limit c.get_one.ensures.none c.get_one.ensures.value (search rules) in
    (got.0, sym e ∙ got.1, got.2.0)
