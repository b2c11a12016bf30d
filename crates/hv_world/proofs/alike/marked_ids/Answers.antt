use Rattle.std.proofs.Common.{◌+◌, ◌++◌, ◌∷◌, [], map, drop, append_assoc, sym, ap, ◌∙◌}
use Rattle.hv_world.specs.Alike.{fixed_objects}
use Rattle.hv_world.specs.Bindings.{object_number}
use Rattle.hv_world.specs.Values.{object}
use Rattle.hv_world.specs.inside.Kept.{is_marked}
use Rattle.hv_world.proofs.ClassLemmas.{id_kept, id_passed}
use Rattle.hv_world.proofs.alike.marked_ids.Goals as goal
use Rattle.hv_world.proofs.alike.marked_ids.Goals.{then-is_marked+in_ok-push, else-is_marked}

pub loop-position-preserved : goal.loop-position-preserved
loop-position-preserved c =
    let f = is_marked c.args.marks.now in
    let ids = c.args.ids.now in
    let k = c.loop-position.position in
    let old = c.loop-position.objects.items in
    let rest = fixed_objects f (k + 1) (map object (map object_number (drop (k + 1) ids))) in
    elim c.if-is_marked.branch [
      | then-is_marked+in_ok-push w ↦
          ap (λ v. v.items ++ rest) w.objects-is ∙ ap (λ l. l ++ rest) w.in_ok-push.ensures.ok ∙ append_assoc old (_ ∷ []) rest
          ∙ ap (λ l. old ++ l) (sym (id_kept f ids k _ c.loop-position-test.true (sym c.is_marked.ensures ∙ w.if-is_marked.true))) ∙ c.loop-position.invariant
      | else-is_marked w ↦
          ap (λ v. v.items ++ rest) w.objects-is ∙ ap (λ l. old ++ l) (sym (id_passed f ids k c.loop-position-test.true (sym c.is_marked.ensures ∙ w.if-is_marked.false))) ∙ c.loop-position.invariant
    ]
