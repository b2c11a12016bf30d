use Rattle.std.proofs.Common.{◌≡◌, ◌∙◌, ◌+◌, ◌++◌, ◌∷◌, [], ℕ, List, Bool, true, length, take, set, get_or, sym, ap, subst}
use Rattle.std.proofs.lemmas.List.{length-set}
use Rattle.hv_lists.proofs.Places.{take_one}
use Rattle.hv_match.specs.inside.Checks.{AreMarked}
use Rattle.hv_match.proofs.Checking.{one_marked}
use Rattle.hv_match.proofs.check.are_all_places.Goals as goal

pub loop-place-preserved : goal.loop-place-preserved
loop-place-preserved c =
    let old = c.loop-place.marks in
    let xs = c.args.places.now in
    let i = c.loop-place.place-index in
    let x = get_or xs i 0 in
    let m = c.mark.ensures.new c.if-not-mark.false in
    let one = one_marked old (take i xs) x c.loop-place.invariant.1 m.0 in
    let more : take (i + 1) xs ≡ take i xs ++ x ∷ [] = take_one xs i 0 c.loop-place-test.true in
    (ap length m.1 ∙ length-set old x true ∙ c.loop-place.invariant.0, subst (λ (l : List Bool). AreMarked l (take (i + 1) xs)) (sym m.1) (subst (λ (l : List ℕ). AreMarked (set old x true) l) (sym more) one))
