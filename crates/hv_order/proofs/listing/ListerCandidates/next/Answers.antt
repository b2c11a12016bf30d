use Rattle.std.proofs.Common.{◌≡◌, ◌∷◌, ◌⊎◌, ℕ, List, length, sym, ap, ◌∙◌, subst}
use Rattle.std.specs.Prelude.{map, filter}
use Rattle.hv_order.specs.inside.Children.{child_at}
use Rattle.hv_order.specs.inside.Listers.{arranged_by}
use Rattle.hv_order.specs.inside.Spans.{is_in_order, IsMisplaced, IsBlocked, ArePlacings}
use Rattle.hv_order.proofs.Blocked.{still_placings, rest_placings}
use Rattle.hv_order.proofs.Passing.{passed}
use Rattle.hv_order.proofs.listing.ListerCandidates.next.Goals as goal

pub loop-self-preserved : goal.loop-self-preserved
loop-self-preserved c =
    let l = c.loop-self.self in
    let lent = c.advance.new.self in
    let left = c.pass_over.ensures in
    let stuck : IsMisplaced l.spans.value (map (child_at l.children.now) lent.children) l.sequencing.value.direct c.in-Some.last ⊎ IsBlocked l.spans.value (map (child_at l.children.now) lent.children) l.sequencing.value.direct c.in-Some.last =
    rw (c.in-Some.is, c.deref.ensures, c.deref-in-loop-self.ensures.value, c.in_ok-children.ensures, c.children.ensures, c.deref-in-loop-self-2.ensures) at c.stuck.ensures in
    let head : l.coming.coming ≡ (lent.children, lent.objects) ∷ lent.coming = rw c.if-branch.true at c.in_ok-advance.ensures.ok in
    let placings : ArePlacings (length l.children.now) ((lent.children, lent.objects) ∷ lent.coming) = subst (λ (cs : List (List ℕ × List ℕ)). ArePlacings (length l.children.now) cs) head l.placings in
    sym (passed l.spans.value l.node l.children.now l.sequencing.value (length l.children.now) lent.children lent.objects lent.coming left.gone c.pass_over.new.self.coming c.in-Some.last placings stuck left.coming left.alike)
    ∙ ap (λ (cs : List (List ℕ × List ℕ)). filter (is_in_order l.spans.value) (map (arranged_by l.node l.children.now l.sequencing.value) cs)) (sym head)
    ∙ c.loop-self.invariant

pub invariant_of-self : goal.invariant_of-self
invariant_of-self c =
    let l = c.loop-self.self in
    record { placings = still_placings (length l.children.now) c.advance.result l.coming c.advance.new.self c.advance.ensures.ok c.advance.ensures.err l.placings }

pub invariant_of-self-in-Break-branch-2 : goal.invariant_of-self-in-Break-branch-2
invariant_of-self-in-Break-branch-2 c =
    let l = c.loop-self.self in
    record { placings = still_placings (length l.children.now) c.advance.result l.coming c.advance.new.self c.advance.ensures.ok c.advance.ensures.err l.placings }

pub invariant_of-self-in-Some : goal.invariant_of-self-in-Some
invariant_of-self-in-Some c =
    let l = c.loop-self.self in
    let left = c.pass_over.ensures in
    record {
      placings = rest_placings (length l.children.now) c.advance.new.self.coming left.gone c.pass_over.new.self.coming left.coming
          (still_placings (length l.children.now) c.advance.result l.coming c.advance.new.self c.advance.ensures.ok c.advance.ensures.err l.placings);
    }

pub invariant_of-self-in-None : goal.invariant_of-self-in-None
invariant_of-self-in-None c =
    let l = c.loop-self.self in
    record { placings = still_placings (length l.children.now) c.advance.result l.coming c.advance.new.self c.advance.ensures.ok c.advance.ensures.err l.placings }
