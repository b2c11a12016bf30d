use Rattle.std.proofs.Common.{◌≡◌, List, ℕ, Option, Result, OnErr, subst, rules}
use Rattle.hv_text.specs.Io.{AppendsBeginning}
use Rattle.hddlv.specs.Ends.{line_of}
use Rattle.hddlv.proofs.end.write_end.Goals as goal

-- a beginning of a text is one of what is the same text
of_same : {T E : Type 0} (r : Result T E) (a b : Option (List ℕ)) (text line : List ℕ) → text ≡ line → OnErr r (AppendsBeginning a b text) → OnErr r (AppendsBeginning a b line)
of_same r a b text line e w = subst (λ t. OnErr r (AppendsBeginning a b t)) e w

pub returns-in-NotUtf8-clause-err : goal.returns-in-NotUtf8-clause-err
returns-in-NotUtf8-clause-err g c =
    of_same c.write_all.result _ _ _ (line_of c.args.end.now) (search rules) c.write_all.ensures.err
