-- Plans, the numbers of their lines aside.
use Rattle.std.specs.Prelude.{map}
use Rattle.hv_plan.specs.Values.{Action, Decomposition, Root, Plan}

abbrev pub bare_action : Action → Action
bare_action a = record { id = a.id; name = a.name; arguments = a.arguments; line = 0 }

abbrev pub bare_decomposition : Decomposition → Decomposition
bare_decomposition d =
    record {
      id = d.id;
      name = d.name;
      arguments = d.arguments;
      method = d.method;
      children = d.children;
      line = 0;
    }

abbrev pub bare_root : Root → Root
bare_root r = record { ids = r.ids; line = 0 }

abbrev pub bare_plan : Plan → Plan
bare_plan p = record {
  actions = map bare_action p.actions;
  root = bare_root p.root;
  decompositions = map bare_decomposition p.decompositions;
}
