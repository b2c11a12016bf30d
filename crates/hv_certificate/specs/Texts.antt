-- The text of a certificate.
use Rattle.std.specs.Prelude.{ℕ, List, [], ◌∷◌, ◌++◌, codes, decimal}
use Rattle.std.specs.List.{flat_map}
use Rattle.hv_text.specs.Names.{text_of}
use Rattle.hv_text.specs.declared.name.Name.{Name}
use Rattle.hv_certificate.specs.declared.certificate.Choice.{Choice}
use Rattle.hv_certificate.specs.declared.certificate.Certificate.{Certificate}

-- texts one after another
abbrev pub joined : List (List ℕ) → List ℕ
joined ts = flat_map (λ t. t) ts

-- an id, and a name in lower case, each behind a space
abbrev pub id_text : ℕ → List ℕ
id_text id = joined (codes " " ∷ decimal id ∷ [])

abbrev pub ids_text : List ℕ → List ℕ
ids_text ids = flat_map id_text ids

abbrev pub name_text : Name → List ℕ
name_text n = codes " " ++ text_of n

abbrev pub names_text : List Name → List ℕ
names_text ns = flat_map name_text ns

-- the children of a node in the order of its subtasks, and the objects in the order of
-- its parameters
abbrev pub children_text : Choice → List ℕ
children_text c = codes " children" ++ ids_text c.children.items

abbrev pub objects_text : Choice → List ℕ
objects_text c = codes " objects" ++ names_text c.objects.items

abbrev pub choice_text : Choice → List ℕ
choice_text c = children_text c ++ objects_text c

-- the line of `root`
abbrev pub root_text : Choice → List ℕ
root_text c = (codes "root" ++ choice_text c) ++ codes "\n"

-- the line of a decomposition line
abbrev pub node_text : (ℕ × Choice × ℕ) → List ℕ
node_text l =
    (decimal l.0 ++ choice_text l.1) ++ joined (codes " pre " ∷ decimal l.2 ∷ codes "\n" ∷ [])

abbrev pub nodes_text : List (ℕ × Choice × ℕ) → List ℕ
nodes_text ls = flat_map node_text ls

-- the lines of the choices
abbrev pub certificate_text : Certificate → List ℕ
certificate_text c = root_text c.root ++ nodes_text c.lines.items

-- the whole text: the line `solves`, and those lines
abbrev pub cert_text : Certificate → List ℕ
cert_text c = codes "solves\n" ++ certificate_text c
