use Rattle.std.proofs.Common.{◌≡◌, ap, sym, ◌∙◌, map}
use Rattle.std.proofs.lemmas.List.{length-map}
use Rattle.hv_syntax.specs.NetworkViews.{subtask_view}
use Rattle.hv_syntax.specs.Views.{word_view}
use Rattle.hv_world.specs.Names.{names, place_in}
use Rattle.hv_world.specs.Networks.{labels, labelled}
use Rattle.hv_world.proofs.LabelLemmas.{numbers_of_labels}
use Rattle.hv_world.proofs.labels.Labels.of.Goals as goal

pub returns : goal.returns
returns c =
    let are = c.subtasks-subtasks.ensures in
    let words = c.in_ok-words.ensures ∙ ap labels are in
    let placed : place_in (names (map word_view c.deref.result.now)) ≡ place_in (names (labels (map subtask_view c.subtasks-subtasks.result.now))) = rw c.deref.ensures.value (ap (λ ws. place_in (names ws)) c.in_ok-words.ensures) in
    record {
      words = words;
      places = c.in_ok-places.ensures.places ∙ placed ∙ ap (λ xs. place_in (names (labels xs))) are;
      numbers =
          numbers_of_labels (map subtask_view c.subtasks-subtasks.result.now) _ _ _ (c.in_ok-places.ensures.places ∙ placed) c.in_ok-holders.ensures (sym (length-map c.subtasks-subtasks.result.now subtask_view))
          ∙ ap labelled are;
    }
