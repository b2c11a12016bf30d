use Rattle.std.proofs.Common.{◌≡◌, ◌+◌, ◌<◌, ◌∙◌, length, length-take-le, take, refl, sym, ap, subst, arith}
use Rattle.hv_match.specs.Candidates.{Listing, IsPassing}
use Rattle.hv_match.specs.inside.Parts.{to_find, listed_as, listing}
use Rattle.hv_match.proofs.candidates.Candidates.pass_over.Goals as goal

pub returns-then-last-len : goal.returns-then-last-len
returns-then-last-len c =
    let ch = c.self.inside.children.items in
    let ob = c.self.inside.objects.items in
    let n = c.args.last + 1 in
    let whole : c.args.last < length ch = omega (arith, c.if-last-len.true, c.len.ensures) in
    let size : length (take n ch) ≡ n = length-take-le n ch (omega (arith, whole)) in
    let opened : c.args.self.now ≡ listed_as ch ob (to_find c.in-Sought.seeker.value) = sym c.self.view_is ∙ ap (λ z. listing z ch ob) c.in-Sought.is in
    let lost = rw (c.deref_mut.ensures.value, c.deref.ensures.value) at c.pass_over.ensures.coming in
    let new : Listing = listed_as ch ob (to_find c.pass_over.new.self) in
    let passing : IsPassing n (listed_as ch ob (to_find c.in-Sought.seeker.value)) new = record {
      children = refl;
      objects = refl;
      gone = lost.gone;
      coming = lost.coming;
      alike = λ M B m. ap (λ k. take k M) (sym size) ∙ lost.alike M B m;
    } in
    subst (λ l. IsPassing n l new) (sym opened) passing
