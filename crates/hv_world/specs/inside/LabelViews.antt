-- What the tables of labels say.
use Rattle.std.specs.Prelude.{◌≡◌, ℕ, suc, List, [], ◌∷◌, Some, None, map}
use Rattle.hv_syntax.specs.Values.{Subtask, Network}
use Rattle.hv_syntax.specs.Views.{word_view}
use Rattle.hv_world.specs.declared.labels.Labels.{Labels}
use Rattle.hv_world.specs.Names.{number_or, place_in}
use Rattle.hv_world.specs.Known.{at_place}
use Rattle.hv_world.specs.Networks.{labels, label_names, labelled}
use Rattle.hv_world.specs.inside.Tables.{places_by}

-- the numbers of the subtasks that have a label, where the first of all has number k
abbrev pub holders : ℕ → List Subtask → List ℕ
holders k [] = []
holders k (x ∷ xs) = elim x.label [ None ↦ holders (suc k) xs | Some w ↦ k ∷ holders (suc k) xs ]

-- the number of the subtask that has a label
abbrev pub numbers_by : Labels → List ℕ → ℕ
numbers_by t l = number_or t.count (at_place t.holders.items (places_by t.places l))

-- the labels of a network
pub record AreLabels (n : Network) (t : Labels) : Type 0 where
  pub words : map word_view t.words.items ≡ labels n.subtasks
  pub places : places_by t.places ≡ place_in (label_names n.subtasks)
  pub numbers : numbers_by t ≡ labelled n.subtasks
